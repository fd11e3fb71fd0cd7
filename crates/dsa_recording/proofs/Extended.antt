-- What a recording comes to once another follows it.
use Rattle.std.proofs.Common.{◌≡◌, ℕ, zero, suc, ◌+◌, ◌-◌, ◌<◌, ◌≤◌, ◌↔◌, ◌⊎◌, inl, inr, Bool, true, false, List, [], ◌∷◌, ◌++◌, Some, None, option_map, length, map, max, min, drop, slice_get, refl, sym, ap, subst, ◌∙◌, arith, length-append, append-nil}
use Rattle.std.specs.Prelude.{if◌then◌else◌, ◌==◌, slice_index_or}
use Rattle.std.specs.List.{AllByRecursion}
use Rattle.std.proofs.lemmas.List.{length-map, length-take}
use Rattle.std.proofs.lemmas.Option.{slice_get-map, slice_get_within}
use Rattle.dsa_descriptor.specs.Lists.{entries}
use Rattle.dsa_descriptor.specs.Places.{u32_at, code_at}
use Rattle.dsa_audit.specs.declared.member.Member.{Member as KnownMember}
use Rattle.dsa_recording.specs.declared.accepted.Accepted.{Accepted}
use Rattle.dsa_recording.specs.declared.answer.AuditOptions.{AuditOptions}
use Rattle.dsa_recording.specs.Pairs.{Terms, has_key, terms}
use Rattle.dsa_recording.specs.declared.findings.Finding.{Finding}
use Rattle.dsa_recording.specs.declared.stream.Submission.{Submission}
use Rattle.dsa_recording.specs.declared.submission.Audited.{Audited}
use Rattle.dsa_recording.specs.Answers.{AreNoErrors, IsNoError, IsStatusOf}
use Rattle.dsa_recording.specs.Details.{HasEntry, IsIn, IsPlaced}
use Rattle.dsa_recording.specs.Findings.{recording_findings}
use Rattle.dsa_recording.specs.Parts.{HasOutcome, HasOutcomeAfter, HasStatus}
use Rattle.dsa_recording.specs.Reports.{IsReport, Reported}
use Rattle.dsa_recording.specs.Streams.{ReadsStream, ReadsUpTo, end_of, submission_at}
use Rattle.dsa_recording.specs.Submissions.{AreAudited, head_at, members_in}
use Rattle.dsa_recording.specs.Uses.{AddsKeys, AreUsed, Excuses, ExcusesSome, IsUsed, TakesOut, TakesSomeOut}
use Rattle.dsa_recording.proofs.Found.{IsFrom, all_append, all_map, found_from, from_report}
use Rattle.dsa_recording.proofs.Joined.{findings_joined, findings_renumbered, keyed_here, keyed_there, renumbered}
use Rattle.dsa_recording.proofs.Middle.{audited_joined, audited_middle, entries_joined, get_middle, members_moved, moved, reads_joined, reads_middle}
use Rattle.dsa_recording.proofs.Within.{each_within}

-- ---- what is known of each finding

-- the head of a submission moves with it
abbrev pub Moves : Submission → Type 0
Moves s = (n : ℕ) → head_at (moved n s) ≡ n + head_at s

moves_by : (b : Bool) (size at : ℕ) → Moves (if b then record { first = at + 1; size = size; is_batch = true } else record { first = at; size = 1; is_batch = false })
moves_by true size at n = omega arith
moves_by false size at n = refl

moves_at : (es : List (List ℕ)) (from : ℕ) → Moves (submission_at es from)
unfolding submission_at
moves_at es from = moves_by (code_at (slice_index_or es from []) == 1) (u32_at 32 (slice_index_or es from [])) from

pub all_move : (es : List (List ℕ)) (from to : ℕ) (ss : List Submission) → ReadsUpTo es from ss to → AllByRecursion Moves ss
all_move es from to [] r = tt
all_move es from to (s ∷ ss) (lt, is, le, rest) = (subst Moves (sym is) (moves_at es from), all_move es (end_of s) to ss rest)

pub all_at : {X : Type 0} (P : X → Type 0) (xs : List X) (i : ℕ) (x : X) → AllByRecursion P xs → slice_get xs i ≡ Some x → P x
all_at P [] i x all e = let no : None ≡ Some x = e in absurd cc
all_at P (y ∷ xs) zero x (here, all) e = let same : y ≡ x = cc in subst P same here
all_at P (y ∷ xs) (suc i) x (here, all) e = all_at P xs i x all e

-- the finding is of an entry of a submission that can be moved
record IsHeld (es : List (List ℕ)) (r : Reported) (f : Finding) : Type 0 where
  pub s : Submission
  pub ms : List KnownMember
  pub is_in : IsIn r f s ms
  pub has : HasEntry es s ms f
  pub room : s.first + length ms ≤ length es
  pub moves : Moves s

held_from : (assumed : Terms) (es : List (List ℕ)) (r : Reported) → AllByRecursion Moves r.submissions
    → (f : Finding) → IsFrom assumed es 0 r.submissions r.audits f → IsHeld es r f
unfolding from_report
held_from assumed es r move f from =
    let s : Submission = from.submission in
    let a : Audited = from.audited in
    let placed : IsPlaced es r f = from_report assumed es r f from in
    let count : length a.operands.items ≡ length (members_in es s) = from.is_audited.operands.count in
    let size : length (members_in es s) ≡ min (end_of s - s.first) (length (drop s.first es)) = length-take (end_of s - s.first) (drop s.first es) in
    let ends : end_of s ≤ length es = from.is_within.members in
    let all_of_it : end_of s ≡ s.first + s.size = refl in
    record {
      s = placed.0;
      ms = placed.1;
      is_in = placed.2;
      has = placed.3;
      room = omega (arith, count, size, ends, all_of_it);
      moves = all_at Moves r.submissions from.at s move from.submission_is;
    }

all_held : (assumed : Terms) (bytes : List ℕ) (r : Reported) → IsReport assumed bytes r → AllByRecursion (IsHeld (entries bytes) r) r.findings
all_held assumed bytes r is =
    let es : List (List ℕ) = entries bytes in
    let within = each_within es 0 (length es) r.submissions is.submissions.all in
    let move = all_move es 0 (length es) r.submissions is.submissions.all in
    let all = found_from assumed es 0 r.submissions r.audits within is.audits in
    subst (λ (fs : List Finding). AllByRecursion (IsHeld es r) fs) (sym is.findings)
    (all_map (IsFrom assumed es 0 r.submissions r.audits) (IsHeld es r) (recording_findings 0 r.audits) (held_from assumed es r move) all)

-- ---- errors of a report within a longer one

-- the submissions and audits of a report are in another, after so many others
record IsPart (n : ℕ) (k : ℕ) (r other : Reported) : Type 0 where
  pub before : List Submission
  pub after : List Submission
  pub audited_before : List Audited
  pub audited_after : List Audited
  pub submissions : other.submissions ≡ before ++ (map (moved n) r.submissions ++ after)
  pub audits : other.audits ≡ audited_before ++ (r.audits ++ audited_after)
  pub count : length before ≡ k
  pub audited_count : length audited_before ≡ k

in_other : (n k : ℕ) (r other : Reported) (f : Finding) (s : Submission) (ms : List KnownMember) → IsPart n k r other → IsIn r f s ms
    → IsIn other (renumbered k f) (moved n s) ms
in_other n k r other f s ms part is =
    let there : f.submission < length r.submissions = slice_get_within r.submissions f.submission s is.submission in
    let lt : f.submission < length (map (moved n) r.submissions) = omega (arith, there, length-map r.submissions (moved n)) in
    let lt' : f.submission < length r.audits = slice_get_within r.audits f.submission is.audited is.audited_is in
    let one : slice_get other.submissions (k + f.submission) ≡ Some (moved n s) =
    ap (λ (l : List Submission). slice_get l (k + f.submission)) part.submissions
    ∙ (ap (λ (i : ℕ). slice_get (part.before ++ (map (moved n) r.submissions ++ part.after)) (i + f.submission)) (sym part.count)
    ∙ (get_middle part.before (map (moved n) r.submissions) part.after f.submission lt
    ∙ (slice_get-map (moved n) r.submissions f.submission ∙ ap (option_map (moved n)) is.submission))) in
    let two : slice_get other.audits (k + f.submission) ≡ Some is.audited =
    ap (λ (l : List Audited). slice_get l (k + f.submission)) part.audits
    ∙ (ap (λ (i : ℕ). slice_get (part.audited_before ++ (r.audits ++ part.audited_after)) (i + f.submission)) (sym part.audited_count)
    ∙ (get_middle part.audited_before r.audits part.audited_after f.submission lt' ∙ is.audited_is)) in
    record { submission = one; audited = is.audited; audited_is = two; members = is.members }

module _ (options : AuditOptions) (pre es post : List (List ℕ)) (k : ℕ) (r other : Reported) (part : IsPart (length pre) k r other) where
  error_there : (f : Finding) → IsHeld es r f → IsNoError options es r f → IsNoError options (pre ++ (es ++ post)) other (renumbered k f)
  error_there f held (inl harmless) = inl harmless
  error_there f held (inr accepted) =
      inr (keyed_there pre es post (λ key. has_key options.accepted.now key ≡ true) r other k f held.s held.ms held.is_in (in_other (length pre) k r other f held.s held.ms part held.is_in) held.has held.room (held.moves (length pre)) accepted)

  error_here : (f : Finding) → IsHeld es r f → IsNoError options (pre ++ (es ++ post)) other (renumbered k f) → IsNoError options es r f
  error_here f held (inl harmless) = inl harmless
  error_here f held (inr accepted) =
      inr (keyed_here pre es post (λ key. has_key options.accepted.now key ≡ true) r other k f held.s held.ms held.is_in (in_other (length pre) k r other f held.s held.ms part held.is_in) held.has held.room (held.moves (length pre)) accepted)

  -- a finding that is an error without a key is so in the longer report
  excuse_there : (key : List ℕ) (f : Finding) → IsHeld es r f → Excuses options es r f key → Excuses options (pre ++ (es ++ post)) other (renumbered k f) key
  excuse_there key f held (harmful, found) = (
    harmful,
    keyed_there pre es post (λ w. key ≡ w) r other k f held.s held.ms held.is_in (in_other (length pre) k r other f held.s held.ms part held.is_in) held.has held.room (held.moves (length pre)) found,
  )

  excuse_here : (key : List ℕ) (f : Finding) → IsHeld es r f → Excuses options (pre ++ (es ++ post)) other (renumbered k f) key → Excuses options es r f key
  excuse_here key f held (harmful, found) = (
    harmful,
    keyed_here pre es post (λ w. key ≡ w) r other k f held.s held.ms held.is_in (in_other (length pre) k r other f held.s held.ms part held.is_in) held.has held.room (held.moves (length pre)) found,
  )

  excuses_there : (key : List ℕ) (fs : List Finding) → AllByRecursion (IsHeld es r) fs → ExcusesSome options es r fs key
      → ExcusesSome options (pre ++ (es ++ post)) other (map (renumbered k) fs) key
  excuses_there key [] held some = some
  excuses_there key (f ∷ fs) (h, held) (inl here) = inl (excuse_there key f h here)
  excuses_there key (f ∷ fs) (h, held) (inr more) = inr (excuses_there key fs held more)

  excuses_here : (key : List ℕ) (fs : List Finding) → AllByRecursion (IsHeld es r) fs → ExcusesSome options (pre ++ (es ++ post)) other (map (renumbered k) fs) key
      → ExcusesSome options es r fs key
  excuses_here key [] held some = some
  excuses_here key (f ∷ fs) (h, held) (inl here) = inl (excuse_here key f h here)
  excuses_here key (f ∷ fs) (h, held) (inr more) = inr (excuses_here key fs held more)

  errors_there : (fs : List Finding) → AllByRecursion (IsHeld es r) fs → AllByRecursion (IsNoError options es r) fs
      → AllByRecursion (IsNoError options (pre ++ (es ++ post)) other) (map (renumbered k) fs)
  errors_there [] held all = tt
  errors_there (f ∷ fs) (h, held) (here, all) = (error_there f h here, errors_there fs held all)

  errors_here : (fs : List Finding) → AllByRecursion (IsHeld es r) fs → AllByRecursion (IsNoError options (pre ++ (es ++ post)) other) (map (renumbered k) fs)
      → AllByRecursion (IsNoError options es r) fs
  errors_here [] held all = tt
  errors_here (f ∷ fs) (h, held) (here, all) = (error_here f h here, errors_here fs held all)

-- ---- keys of a submission within longer entries

-- a key takes the same pairs out of a submission that moved
takes_middle : (pre es post : List (List ℕ)) (from to : ℕ) (ss : List Submission) (audits : List Audited) (key : List ℕ) → ReadsUpTo es from ss to
    → TakesSomeOut (pre ++ (es ++ post)) (map (moved (length pre)) ss) audits key ↔ TakesSomeOut es ss audits key
takes_middle pre es post from to [] audits key reads = (λ some. some, λ some. some)
takes_middle pre es post from to (s ∷ ss) [] key reads = (λ some. some, λ some. some)
takes_middle pre es post from to (s ∷ ss) (a ∷ audits) key (lt, is, le, rest) =
    let same = members_moved pre es post s le in
    let more = takes_middle pre es post (end_of s) to ss audits key rest in (
      λ some. elim some [
        | inl here ↦ inl (subst (λ ms. TakesOut ms a key) same here)
        | inr later ↦ inr (more.0 later)
      ],
      λ some. elim some [
        | inl here ↦ inl (subst (λ ms. TakesOut ms a key) (sym same) here)
        | inr later ↦ inr (more.1 later)
      ],
    )

takes_append : (es : List (List ℕ)) (ss ts : List Submission) (audits more : List Audited) (key : List ℕ) → length ss ≡ length audits
    → TakesSomeOut es (ss ++ ts) (audits ++ more) key ↔ (TakesSomeOut es ss audits key ⊎ TakesSomeOut es ts more key)
takes_append es [] ts [] more key e = (λ some. inr some, λ either. elim either [ inl none ↦ absurd none | inr some ↦ some ])
takes_append es [] ts (a ∷ audits) more key e = absurd (omega (arith, e))
takes_append es (s ∷ ss) ts [] more key e = absurd (omega (arith, e))
takes_append es (s ∷ ss) ts (a ∷ audits) more key e =
    let rest = takes_append es ss ts audits more key (omega (arith, e)) in (
      λ some. elim some [
        | inl here ↦ inl (inl here)
        | inr later ↦ elim (rest.0 later) [ inl first ↦ inl (inr first) | inr second ↦ inr second ]
      ],
      λ either. elim either [
        | inl some ↦ elim some [ inl here ↦ inl here | inr later ↦ inr (rest.1 (inl later)) ]
        | inr second ↦ inr (rest.1 (inr second))
      ],
    )

excuses_append : (options : AuditOptions) (es : List (List ℕ)) (r : Reported) (fs gs : List Finding) (key : List ℕ)
    → ExcusesSome options es r (fs ++ gs) key ↔ (ExcusesSome options es r fs key ⊎ ExcusesSome options es r gs key)
excuses_append options es r [] gs key = (λ some. inr some, λ either. elim either [ inl none ↦ absurd none | inr some ↦ some ])
excuses_append options es r (f ∷ fs) gs key =
    let rest = excuses_append options es r fs gs key in (
      λ some. elim some [
        | inl here ↦ inl (inl here)
        | inr later ↦ elim (rest.0 later) [ inl first ↦ inl (inr first) | inr second ↦ inr second ]
      ],
      λ either. elim either [
        | inl some ↦ elim some [ inl here ↦ inl here | inr later ↦ inr (rest.1 (inl later)) ]
        | inr second ↦ inr (rest.1 (inr second))
      ],
    )

-- ---- two recordings

-- nothing moves after nothing
map_moved : (ss : List Submission) → map (moved 0) ss ≡ ss
map_moved [] = refl
map_moved (s ∷ ss) =
    let same : 0 + s.first ≡ s.first = omega arith in
    ap (λ (k : ℕ). record { first = k; size = s.size; is_batch = s.is_batch } ∷ map (moved 0) ss) same ∙ ap (λ (l : List Submission). s ∷ l) (map_moved ss)

map_renumbered : (fs : List Finding) → map (renumbered 0) fs ≡ fs
map_renumbered [] = refl
map_renumbered (f ∷ fs) =
    let same : 0 + f.submission ≡ f.submission = omega arith in
    ap (λ (k : ℕ). record { submission = k; place = f.place; kind = f.kind } ∷ map (renumbered 0) fs) same ∙ ap (λ (l : List Finding). f ∷ l) (map_renumbered fs)

same_count : (assumed : Terms) (es : List (List ℕ)) (ss : List Submission) (audits : List Audited) → AreAudited assumed es ss audits → length ss ≡ length audits
same_count assumed es [] [] all = refl
same_count assumed es (s ∷ ss) (a ∷ audits) (first, all) = ap suc (same_count assumed es ss audits all)
same_count assumed es [] (a ∷ audits) all = absurd all
same_count assumed es (s ∷ ss) [] all = absurd all

pub reads_first : (es more : List (List ℕ)) (to : ℕ) (ss : List Submission) → ReadsUpTo es 0 ss to → ReadsUpTo (es ++ more) 0 ss to
reads_first es more to ss reads =
    let there : ReadsUpTo (es ++ more) 0 (map (moved 0) ss) (0 + to) = reads_middle [] es more 0 to ss reads in
    let same : 0 + to ≡ to = omega arith in
    subst (λ (k : ℕ). ReadsUpTo (es ++ more) 0 ss k) same (subst (λ (l : List Submission). ReadsUpTo (es ++ more) 0 l (0 + to)) (map_moved ss) there)

pub reads_second : (before es : List (List ℕ)) (to : ℕ) (ss : List Submission) → ReadsUpTo es 0 ss to
    → ReadsUpTo (before ++ es) (length before) (map (moved (length before)) ss) (length before + to)
reads_second before es to ss reads =
    let there : ReadsUpTo (before ++ (es ++ [])) (length before + 0) (map (moved (length before)) ss) (length before + to) = reads_middle before es [] 0 to ss reads in
    let same : length before + 0 ≡ length before = omega arith in
    subst (λ (k : ℕ). ReadsUpTo (before ++ es) k (map (moved (length before)) ss) (length before + to)) same
    (subst (λ (l : List (List ℕ)). ReadsUpTo (before ++ l) (length before + 0) (map (moved (length before)) ss) (length before + to)) (append-nil es) there)

-- the submissions of one recording after those of another
pub stream_joined : (a b : List ℕ) (ss ts : List Submission) → ReadsStream a ss → ReadsStream b ts → ReadsStream (a ++ b) (ss ++ map (moved (length (entries a))) ts)
stream_joined a b ss ts first second =
    let es : List (List ℕ) = entries a in
    let fs : List (List ℕ) = entries b in
    let long : length (a ++ b) ≡ length a + length b = length-append a b in
    let more : List Submission = map (moved (length es)) ts in
    let both : ReadsUpTo (es ++ fs) 0 (ss ++ more) (length es + length fs) =
    reads_joined (es ++ fs) 0 (length es) (length es + length fs) ss more (reads_first es fs (length es) ss first.all) (reads_second es fs (length fs) ts second.all) in
    let ended : ReadsUpTo (es ++ fs) 0 (ss ++ more) (length (es ++ fs)) = subst (ReadsUpTo (es ++ fs) 0 (ss ++ more)) (sym (length-append es fs)) both in
    record {
      whole = omega (arith, long, first.whole, second.whole);
      all = subst (λ (l : List (List ℕ)). ReadsUpTo l 0 (ss ++ more) (length l)) (sym (entries_joined a b first.whole)) ended;
    }

-- the report on one recording after that on another
abbrev both_reports : ℕ → Reported → Reported → Reported
both_reports n r q = record {
  submissions = r.submissions ++ map (moved n) q.submissions;
  audits = r.audits ++ q.audits;
  findings = recording_findings 0 (r.audits ++ q.audits);
}

report_joined : (assumed : Terms) (a b : List ℕ) (r q : Reported) → IsReport assumed a r → IsReport assumed b q
    → IsReport assumed (a ++ b) (both_reports (length (entries a)) r q)
report_joined assumed a b r q first second =
    let es : List (List ℕ) = entries a in
    let fs : List (List ℕ) = entries b in
    let more : List Submission = map (moved (length es)) q.submissions in
    let one : AreAudited assumed (es ++ fs) r.submissions r.audits =
    subst (λ (l : List Submission). AreAudited assumed (es ++ fs) l r.audits) (map_moved r.submissions)
    (audited_middle assumed [] es fs 0 (length es) r.submissions r.audits first.submissions.all first.audits) in
    let two : AreAudited assumed (es ++ fs) more q.audits =
    subst (λ (l : List (List ℕ)). AreAudited assumed (es ++ l) more q.audits) (append-nil fs)
    (audited_middle assumed es fs [] 0 (length fs) q.submissions q.audits second.submissions.all second.audits) in
    record {
      submissions = stream_joined a b r.submissions q.submissions first.submissions second.submissions;
      audits =
          subst (λ (l : List (List ℕ)). AreAudited assumed l (r.submissions ++ more) (r.audits ++ q.audits)) (sym (entries_joined a b first.submissions.whole))
          (audited_joined assumed (es ++ fs) r.submissions more r.audits q.audits one two);
      findings = refl;
    }

all_split : {X : Type 0} (P : X → Type 0) (xs ys : List X) → AllByRecursion P (xs ++ ys) → AllByRecursion P xs × AllByRecursion P ys
all_split P [] ys all = (tt, all)
all_split P (x ∷ xs) ys (here, all) =
    let rest = all_split P xs ys all in
    ((here, rest.0), rest.1)

module _ (options : AuditOptions) (a b : List ℕ) (r q : Reported) (first : IsReport (terms options.accepted.now options.assumptions) a r) (second : IsReport (terms options.accepted.now options.assumptions) b q) where
  whole : Reported
  whole = both_reports (length (entries a)) r q

  first_part : IsPart 0 0 r whole
  unfolding whole
  first_part = record {
    before = [];
    after = map (moved (length (entries a))) q.submissions;
    audited_before = [];
    audited_after = q.audits;
    submissions = ap (λ (l : List Submission). l ++ map (moved (length (entries a))) q.submissions) (sym (map_moved r.submissions));
    audits = refl;
    count = refl;
    audited_count = refl;
  }

  second_part : IsPart (length (entries a)) (length r.audits) q whole
  unfolding whole
  second_part = record {
    before = r.submissions;
    after = [];
    audited_before = r.audits;
    audited_after = [];
    submissions = ap (λ (l : List Submission). r.submissions ++ l) (sym (append-nil (map (moved (length (entries a))) q.submissions)));
    audits = ap (λ (l : List Audited). r.audits ++ l) (sym (append-nil q.audits));
    count = same_count (terms options.accepted.now options.assumptions) (entries a) r.submissions r.audits first.audits;
    audited_count = refl;
  }

  findings_are : whole.findings ≡ r.findings ++ map (renumbered (length r.audits)) q.findings
  unfolding whole
  findings_are =
      findings_joined 0 r.audits q.audits
      ∙ (ap (λ (fs : List Finding). fs ++ recording_findings (length r.audits + 0) q.audits) (sym first.findings)
      ∙ ap (λ (fs : List Finding). r.findings ++ fs) (findings_renumbered (length r.audits) 0 q.audits ∙ ap (map (renumbered (length r.audits))) (sym second.findings)))

  errors_joined : AreNoErrors options (entries a) r → AreNoErrors options (entries b) q → AreNoErrors options (entries (a ++ b)) whole
  errors_joined one two =
      let es : List (List ℕ) = entries a in
      let fs : List (List ℕ) = entries b in
      let left : AllByRecursion (IsNoError options (es ++ fs) whole) r.findings =
      subst (AllByRecursion (IsNoError options (es ++ fs) whole)) (map_renumbered r.findings)
      (errors_there options [] es fs 0 r whole first_part r.findings (all_held (terms options.accepted.now options.assumptions) a r first) one) in
      let right : AllByRecursion (IsNoError options (es ++ fs) whole) (map (renumbered (length r.audits)) q.findings) =
      subst (λ (l : List (List ℕ)). AllByRecursion (IsNoError options (es ++ l) whole) (map (renumbered (length r.audits)) q.findings)) (append-nil fs)
      (errors_there options es fs [] (length r.audits) q whole second_part q.findings (all_held (terms options.accepted.now options.assumptions) b q second) two) in
      subst (λ (l : List (List ℕ)). AreNoErrors options l whole) (sym (entries_joined a b first.submissions.whole))
      (subst (AllByRecursion (IsNoError options (es ++ fs) whole)) (sym findings_are) (all_append (IsNoError options (es ++ fs) whole) r.findings (map (renumbered (length r.audits)) q.findings) left right))

  errors_apart : AreNoErrors options (entries (a ++ b)) whole → AreNoErrors options (entries a) r × AreNoErrors options (entries b) q
  errors_apart all =
      let es : List (List ℕ) = entries a in
      let fs : List (List ℕ) = entries b in
      let there : AllByRecursion (IsNoError options (es ++ fs) whole) (r.findings ++ map (renumbered (length r.audits)) q.findings) =
      subst (AllByRecursion (IsNoError options (es ++ fs) whole)) findings_are
      (subst (λ (l : List (List ℕ)). AreNoErrors options l whole) (entries_joined a b first.submissions.whole) all) in
      let two = all_split (IsNoError options (es ++ fs) whole) r.findings (map (renumbered (length r.audits)) q.findings) there in (
        errors_here options [] es fs 0 r whole first_part r.findings (all_held (terms options.accepted.now options.assumptions) a r first)
            (subst (AllByRecursion (IsNoError options (es ++ fs) whole)) (sym (map_renumbered r.findings)) two.0),
        errors_here options es fs [] (length r.audits) q whole second_part q.findings (all_held (terms options.accepted.now options.assumptions) b q second)
            (subst (λ (l : List (List ℕ)). AllByRecursion (IsNoError options (es ++ l) whole) (map (renumbered (length r.audits)) q.findings)) (sym (append-nil fs)) two.1),
      )

  status_of_both : (s t : ℕ) → IsStatusOf options (entries a) r s → IsStatusOf options (entries b) q t → IsStatusOf options (entries (a ++ b)) whole (max s t)
  status_of_both s t (inl (e, none)) (inl (f, none')) = inl (omega (arith, e, f), errors_joined none none')
  status_of_both s t (inl (e, none)) (inr (f, some)) = inr (omega (arith, e, f), λ all. some (errors_apart all).1)
  status_of_both s t (inr (e, some)) (inl (f, none)) = inr (omega (arith, e, f), λ all. some (errors_apart all).0)
  status_of_both s t (inr (e, some)) (inr (f, some')) = inr (omega (arith, e, f), λ all. some (errors_apart all).0)

  -- a key takes a pair out in both exactly if it does in one of them
  takes_both : (key : List ℕ) → TakesSomeOut (entries (a ++ b)) whole.submissions whole.audits key
      ↔ (TakesSomeOut (entries a) r.submissions r.audits key ⊎ TakesSomeOut (entries b) q.submissions q.audits key)
  unfolding whole
  takes_both key =
      let es : List (List ℕ) = entries a in
      let fs : List (List ℕ) = entries b in
      let more : List Submission = map (moved (length es)) q.submissions in
      let joined : entries (a ++ b) ≡ es ++ fs = entries_joined a b first.submissions.whole in
      let parts = takes_append (es ++ fs) r.submissions more r.audits q.audits key (same_count (terms options.accepted.now options.assumptions) es r.submissions r.audits first.audits) in
      let left : TakesSomeOut (es ++ fs) r.submissions r.audits key ↔ TakesSomeOut es r.submissions r.audits key =
      subst (λ (l : List Submission). TakesSomeOut (es ++ fs) l r.audits key ↔ TakesSomeOut es r.submissions r.audits key) (map_moved r.submissions)
      (takes_middle [] es fs 0 (length es) r.submissions r.audits key first.submissions.all) in
      let right : TakesSomeOut (es ++ fs) more q.audits key ↔ TakesSomeOut fs q.submissions q.audits key =
      subst (λ (l : List (List ℕ)). TakesSomeOut (es ++ l) more q.audits key ↔ TakesSomeOut fs q.submissions q.audits key) (append-nil fs)
      (takes_middle es fs [] 0 (length fs) q.submissions q.audits key second.submissions.all) in (
        λ some. elim (parts.0 (subst (λ (l : List (List ℕ)). TakesSomeOut l (r.submissions ++ more) (r.audits ++ q.audits) key) joined some)) [
          | inl one ↦ inl (left.0 one)
          | inr other ↦ inr (right.0 other)
        ],
        λ either. subst (λ (l : List (List ℕ)). TakesSomeOut l (r.submissions ++ more) (r.audits ++ q.audits) key) (sym joined)
            (parts.1 (elim either [
              | inl one ↦ inl (left.1 one)
              | inr other ↦ inr (right.1 other)
            ])),
      )

  -- and a finding of both is an error without it exactly if one of either is
  excuses_both : (key : List ℕ) → ExcusesSome options (entries (a ++ b)) whole whole.findings key
      ↔ (ExcusesSome options (entries a) r r.findings key ⊎ ExcusesSome options (entries b) q q.findings key)
  excuses_both key =
      let es : List (List ℕ) = entries a in
      let fs : List (List ℕ) = entries b in
      let moved_on : List Finding = map (renumbered (length r.audits)) q.findings in
      let joined : entries (a ++ b) ≡ es ++ fs = entries_joined a b first.submissions.whole in
      let parts = excuses_append options (es ++ fs) whole r.findings moved_on key in
      let held = all_held (terms options.accepted.now options.assumptions) a r first in
      let held' = all_held (terms options.accepted.now options.assumptions) b q second in
      let there : ExcusesSome options (entries (a ++ b)) whole whole.findings key ↔ ExcusesSome options (es ++ fs) whole (r.findings ++ moved_on) key = (
        λ some. subst (λ (l : List Finding). ExcusesSome options (es ++ fs) whole l key) findings_are
            (subst (λ (l : List (List ℕ)). ExcusesSome options l whole whole.findings key) joined some),
        λ some. subst (λ (l : List (List ℕ)). ExcusesSome options l whole whole.findings key) (sym joined)
            (subst (λ (l : List Finding). ExcusesSome options (es ++ fs) whole l key) (sym findings_are) some),
      ) in
      let left : ExcusesSome options (es ++ fs) whole r.findings key ↔ ExcusesSome options es r r.findings key = (
        λ some. excuses_here options [] es fs 0 r whole first_part key r.findings held
            (subst (λ (l : List Finding). ExcusesSome options (es ++ fs) whole l key) (sym (map_renumbered r.findings)) some),
        λ some. subst (λ (l : List Finding). ExcusesSome options (es ++ fs) whole l key) (map_renumbered r.findings)
            (excuses_there options [] es fs 0 r whole first_part key r.findings held some),
      ) in
      let right : ExcusesSome options (es ++ fs) whole moved_on key ↔ ExcusesSome options fs q q.findings key = (
        λ some. excuses_here options es fs [] (length r.audits) q whole second_part key q.findings held'
            (subst (λ (l : List (List ℕ)). ExcusesSome options (es ++ l) whole moved_on key) (sym (append-nil fs)) some),
        λ some. subst (λ (l : List (List ℕ)). ExcusesSome options (es ++ l) whole moved_on key) (append-nil fs)
            (excuses_there options es fs [] (length r.audits) q whole second_part key q.findings held' some),
      ) in (
        λ some. elim (parts.0 (there.0 some)) [
          | inl one ↦ inl (left.0 one)
          | inr other ↦ inr (right.0 other)
        ],
        λ either. there.1 (parts.1 (elim either [
          | inl one ↦ inl (left.1 one)
          | inr other ↦ inr (right.1 other)
        ])),
      )

  used_in_both : (key : List ℕ) → IsUsed options (entries (a ++ b)) whole key ↔ (IsUsed options (entries a) r key ⊎ IsUsed options (entries b) q key)
  used_in_both key =
      let takes = takes_both key in
      let excuses = excuses_both key in (
        λ used. elim used [
          | inl pair ↦ elim (takes.0 pair.1) [ inl one ↦ inl (inl (pair.0, one)) | inr other ↦ inr (inl (pair.0, other)) ]
          | inr finding ↦ elim (excuses.0 finding.1) [ inl one ↦ inl (inr (finding.0, one)) | inr other ↦ inr (inr (finding.0, other)) ]
        ],
        λ either. elim either [
          | inl one ↦ elim one [ inl pair ↦ inl (pair.0, takes.1 (inl pair.1)) | inr finding ↦ inr (finding.0, excuses.1 (inl finding.1)) ]
          | inr other ↦ elim other [ inl pair ↦ inl (pair.0, takes.1 (inr pair.1)) | inr finding ↦ inr (finding.0, excuses.1 (inr finding.1)) ]
        ],
      )

  used_of_both : (used more : Accepted) → AreUsed options (entries a) r used → AddsKeys (IsUsed options (entries b) q) used more → AreUsed options (entries (a ++ b)) whole more
  used_of_both used more one adds key = (
    λ has. (used_in_both key).1 (elim ((adds key).0 has) [
      | inl there ↦ inl ((one key).0 there)
      | inr new ↦ inr new
    ]),
    λ is. elim ((used_in_both key).0 is) [
      | inl before ↦ (adds key).1 (inl ((one key).1 before))
      | inr new ↦ (adds key).1 (inr new)
    ],
  )

-- the status of one recording after another is the greater one
pub status_joined : (options : AuditOptions) (a b : List ℕ) (s t : ℕ) → HasStatus options a s → HasStatus options b t → HasStatus options (a ++ b) (max s t)
unfolding whole
status_joined options a b s t first second = record {
  report = whole options a b first.report second.report first.is_report second.is_report;
  is_report = report_joined (terms options.accepted.now options.assumptions) a b first.report second.report first.is_report second.is_report;
  is_status = status_of_both options a b first.report second.report first.is_report second.is_report s t first.is_status second.is_status;
}

-- and the keys that are used are those of both
pub outcome_joined : (options : AuditOptions) (a b : List ℕ) (old new : ℕ) (used more : Accepted) → HasOutcome options a old used → HasOutcomeAfter options b old new used more
    → HasOutcome options (a ++ b) new more
unfolding whole
outcome_joined options a b old new used more first second = record {
  report = whole options a b first.report second.report first.is_report second.is_report;
  is_report = report_joined (terms options.accepted.now options.assumptions) a b first.report second.report first.is_report second.is_report;
  is_status =
      subst (IsStatusOf options (entries (a ++ b)) (whole options a b first.report second.report first.is_report second.is_report)) (sym second.greater)
      (status_of_both options a b first.report second.report first.is_report second.is_report old second.own first.is_status second.is_status);
  are_used = used_of_both options a b first.report second.report first.is_report second.is_report used more first.are_used second.adds;
}

pub outcome_of_nothing : (options : AuditOptions) (used : Accepted) → ((key : List ℕ) → has_key used key ≡ false) → HasOutcome options [] 0 used
outcome_of_nothing options used none = record {
  report = record { submissions = []; audits = []; findings = [] };
  is_report = record { submissions = record { whole = refl; all = refl }; audits = tt; findings = refl };
  is_status = inl (refl, tt);
  are_used = λ key. (
    λ has. let no : true ≡ false = sym has ∙ none key in absurd cc,
    λ is. elim is [ inl pair ↦ absurd pair.1 | inr finding ↦ absurd finding.1 ],
  );
}
