-- Entries that are added to a course.
use Rattle.std.proofs.Common.{◌≡◌, ℕ, suc, ◌+◌, ◌<◌, ◌≤◌, ◌⊎◌, inl, inr, Bool, true, false, List, [], ◌∷◌, ◌++◌, length, get_or, refl, sym, ap, subst, ◌∙◌, arith, add-one}
use Rattle.std.specs.Prelude.{if◌then◌else◌, ◌==◌, ◌&&◌, ◌||◌, not, Option, take}
use Rattle.std.proofs.lemmas.Bool.{cases_eq, cases_lt}
use Rattle.std.proofs.lemmas.List.{get_or_append_left, get_or_push, length_push}
use Rattle.std.proofs.lemmas.List.Folds.{list_any_more}
use Rattle.std.proofs.lemmas.Option.{same_Some, slice_get-get_or, slice_get_within}
use Rattle.dsa_audit.specs.declared.member.Member.{Member}
use Rattle.dsa_audit.specs.declared.member.Member.TheVariants.{Unknown}
use Rattle.dsa_audit.specs.declared.member.Unseen.TheVariants.{Operation}
use Rattle.dsa_descriptor.specs.Places.{code_at}
use Rattle.dsa_recording.specs.declared.stream.Submission.{Submission}
use Rattle.dsa_recording.specs.Streams.{end_of, ReadsUpTo}
use Rattle.dsa_descriptor.specs.Fences.{is_fenced}
use Rattle.dsa_recording.specs.Submissions.{head_at}
use Rattle.dsa_waits.specs.declared.course.Course.{Course}
use Rattle.dsa_waits.specs.declared.course.Entry.{Entry}
use Rattle.dsa_waits.specs.declared.event.Event.{Event}
use Rattle.dsa_waits.specs.declared.event.Event.TheVariants.{Submitted, Watched, MemberEnded, Ended, Known}
use Rattle.dsa_waits.specs.declared.event.Queue.{Queue}
use Rattle.dsa_waits.specs.Steps.{Marks}
use Rattle.dsa_waits.specs.Waits.{Fits, IsCourse, event_at, failed_by, first_of, has_mark, is_number, made_at, made_before, no_entry, submission_of, watched_by}
use Rattle.dsa_waits.specs.Recorded.{FitsRecording, IsAccess, IsCourseOf, IsEntry, IsEpoch, bytes_of, no_submission}
use Rattle.dsa_waits.specs.RecordedSteps.{AreMade, AreMarked, HasEntries, IsEntryAt, WithEntries, entries_before}
use Rattle.dsa_waits.proofs.Marked.{marked_each}
use Rattle.dsa_waits.proofs.Placed.{IsPlaced, placed, placed_grows}

-- ---- one more

old_at : {X : Type 0} (xs ys : List X) (x d : X) (k : ℕ) → ys ≡ xs ++ x ∷ [] → k < length xs → get_or ys k d ≡ get_or xs k d
old_at {X = X} xs ys x d k is lt = ap (λ (l : List X). get_or l k d) is ∙ get_or_append_left xs (x ∷ []) d k lt

new_at : {X : Type 0} (xs ys : List X) (x d : X) (k : ℕ) → ys ≡ xs ++ x ∷ [] → k ≡ length xs → get_or ys k d ≡ x
new_at {X = X} xs ys x d k is e = ap (λ (l : List X). get_or l k d) is ∙ get_or_push xs x d k (sym e)

more_by : {X : Type 0} (xs ys : List X) (x : X) (n : ℕ) → ys ≡ xs ++ x ∷ [] → length xs ≡ n → length ys ≡ n + 1
more_by xs ys x n is e = omega (arith, ap length is, length_push xs x, e)

pub epoch_next : (es : List (List ℕ)) (head e epoch later : ℕ) (b : Bool) → later ≡ (if b then e else epoch) → b ≡ is_fenced (bytes_of es e) → head ≤ e
    → head ≤ epoch → epoch ≤ e → (epoch ≡ head) ⊎ (is_fenced (bytes_of es epoch) ≡ true) → ((k : ℕ) → epoch < k → k < e → is_fenced (bytes_of es k) ≡ false)
    → IsEpoch es head e later
epoch_next es head e epoch later true is fenced from begun reached fence last =
    record {
      begun = omega (arith, is);
      reached = omega (arith, is);
      fence = inr (subst (λ (z : ℕ). is_fenced (bytes_of es z) ≡ true) (sym is) (sym fenced));
      last = λ k lt le. absurd (omega (arith, is));
    }
epoch_next es head e epoch later false is fenced from begun reached fence last =
    record {
      begun = omega (arith, is);
      reached = omega (arith, is);
      fence = subst (λ (z : ℕ). (z ≡ head) ⊎ (is_fenced (bytes_of es z) ≡ true)) (sym is) fence;
      last = λ k lt le.
          elim (cases_eq k e) [
            | inl same ↦ subst (λ (z : ℕ). is_fenced (bytes_of es z) ≡ false) (sym same) (sym fenced)
            | inr unlike ↦ last k (omega (arith, is)) (omega arith)
          ];
    }

pub added : (es : List (List ℕ)) (s : Submission) (n e : ℕ) (es' es1 es2 : List Entry) (ms' ms1 ms2 : List Member) (x : Entry) (m : Member) → head_at s ≤ e
    → WithEntries es s n e es' ms' es1 ms1 → es2 ≡ es1 ++ x ∷ [] → ms2 ≡ ms1 ++ m ∷ [] → IsEntry es n (head_at s) e x → IsAccess es s e m
    → WithEntries es s n (e + 1) es' ms' es2 ms2
added es s n e es' es1 es2 ms' ms1 ms2 x m from so_far is is_m entry access =
    record {
      count = more_by es1 es2 x e is so_far.count;
      count_members = more_by ms1 ms2 m e is_m so_far.count_members;
      kept = λ k lt. old_at es1 es2 x no_entry k is (omega (arith, so_far.count)) ∙ so_far.kept k lt;
      kept_members = λ k lt. old_at ms1 ms2 m (Unknown Operation) k is_m (omega (arith, so_far.count_members)) ∙ so_far.kept_members k lt;
      entry = λ k le lt.
          elim (cases_lt k e) [
            | inl before ↦ subst (IsEntry es n (head_at s) k) (sym (old_at es1 es2 x no_entry k is (omega (arith, so_far.count)))) (so_far.entry k le before)
            | inr end ↦
                let here : e ≡ k = omega arith in
                subst (λ (z : ℕ). IsEntry es n (head_at s) z (get_or es2 z no_entry)) here
                (subst (IsEntry es n (head_at s) e) (sym (new_at es1 es2 x no_entry e is (sym so_far.count))) entry)
          ];
      access = λ k le lt.
          elim (cases_lt k e) [
            | inl before ↦
                subst (IsAccess es s k) (sym (old_at ms1 ms2 m (Unknown Operation) k is_m (omega (arith, so_far.count_members)))) (so_far.access k le before)
            | inr end ↦
                let here : e ≡ k = omega arith in
                subst (λ (z : ℕ). IsAccess es s z (get_or ms2 z (Unknown Operation))) here
                (subst (IsAccess es s e) (sym (new_at ms1 ms2 m (Unknown Operation) e is_m (sym so_far.count_members))) access)
          ];
    }

pub none_added : (es : List (List ℕ)) (s : Submission) (n : ℕ) (es' : List Entry) (ms' : List Member) → length es' ≡ head_at s → length ms' ≡ head_at s
    → WithEntries es s n (head_at s) es' ms' es' ms'
none_added es s n es' ms' count count_members =
    record {
      count = count;
      count_members = count_members;
      kept = λ k lt. refl;
      kept_members = λ k lt. refl;
      entry = λ k le lt. absurd (omega arith);
      access = λ k le lt. absurd (omega arith);
    }

-- ---- one more submission

pub entries_next : (es : List (List ℕ)) (ss : List Submission) (k : ℕ) (es1 es2 : List Entry) (ms1 ms2 : List Member) (d : Submission) → ReadsUpTo es 0 ss (length es) → k < length ss
    → HasEntries es ss (entries_before 0 ss k) es1 ms1 → WithEntries es (get_or ss k d) k (end_of (get_or ss k d)) es1 ms1 es2 ms2
    → HasEntries es ss (entries_before 0 ss (k + 1)) es2 ms2
entries_next es ss k es1 es2 ms1 ms2 d reads lt so_far more =
    let at = placed es 0 (length es) ss k d reads lt in
    let end : entries_before 0 ss (k + 1) ≡ end_of (get_or ss k d) = ap (entries_before 0 ss) (add-one k) ∙ at.1 in
    record {
      count = more.count ∙ sym end;
      count_members = more.count_members ∙ sym end;
      each = λ e below.
          elim (cases_lt e (head_at (get_or ss k d))) [
            | inl before ↦
                let old = so_far.each e (omega (arith, at.0.head)) in (
                  old.0,
                  subst (λ (x : Entry). IsEntryAt es ss e old.0 x (get_or ms2 e (Unknown Operation))) (sym (more.kept e before))
                      (subst (λ (m : Member). IsEntryAt es ss e old.0 (get_or es1 e no_entry) m) (sym (more.kept_members e before)) old.1),
                )
            | inr from ↦
                let low : e < end_of (get_or ss k d) = omega (arith, end) in (
                  k,
                  record {
                    submission = get_or ss k d;
                    is = slice_get-get_or ss k d lt;
                    begun = from;
                    ends = low;
                    entry = more.entry e from low;
                    access = more.access e from low;
                  },
                )
          ];
    }

-- ---- all

-- one more event marks
pub marked_more : (mark : Event → Option ℕ) (events : List Event) (k all : ℕ) (v : Event) (old new : List Bool) → k < length events → get_or events k Submitted ≡ v
    → AreMarked mark (take k events) all old → Marks (mark v) old new → AreMarked mark (take (k + 1) events) all new
marked_more mark events k all v old new lt at are marks =
    record {
      count = marks.count ∙ are.count;
      each = λ n within.
          marked_each (mark v) old new n marks (omega (arith, are.count)) ∙ ap (λ b. b || is_number n (mark v)) (are.each n within)
          ∙ ap (λ (w : Event). has_mark mark (take k events) n || is_number n (mark w)) (sym at)
          ∙ sym (list_any_more (λ w. is_number n (mark w)) events k Submitted lt);
    }

pub of_made : (es : List (List ℕ)) (ss : List Submission) (queues : List Queue) (watched failed : List Bool) (c : Course)
    → HasEntries es ss (length es) c.entries.items c.members.items → AreMarked watched_by c.events.items (length ss) watched
    → AreMarked failed_by c.events.items (length ss) failed → AreMade es ss queues watched failed (length ss) c.made.items → IsCourseOf es ss queues c.events.items c
of_made es ss queues watched failed c has are_watched are_failed made =
    record {
      entries = has.count;
      members = has.count_members;
      each = λ e lt.
          let at = has.each e lt in
          (at.0, record { submission = at.1.submission; is = at.1.is; begun = at.1.begun; ends = at.1.ends; entry = at.1.entry; access = at.1.access });
      made = made.count;
      all_made = λ n s is.
          let lt = slice_get_within ss n s is in
          let same : get_or ss n no_submission ≡ s = same_Some (get_or ss n no_submission) s (sym (slice_get-get_or ss n no_submission lt) ∙ is) in
          let at = made.each n lt in
          record {
            first = ap (λ m. m.first) at ∙ ap head_at same;
            end = ap (λ m. m.end) at ∙ ap end_of same;
            queue = ap (λ m. m.queue) at;
            is_drain = ap (λ m. m.is_drain) at ∙ ap (λ (z : Submission). code_at (bytes_of es (head_at z)) == 2 && not (get_or failed n false)) same
                ∙ ap (λ b. code_at (bytes_of es (head_at s)) == 2 && not b) (are_failed.each n lt);
            is_watched = ap (λ m. m.is_watched) at ∙ are_watched.each n lt;
          };
      events = refl;
    }

-- submission n
abbrev nth : List Submission → ℕ → Submission
nth ss n = get_or ss n no_submission

module _ (es : List (List ℕ)) (ss : List Submission) (queues : List Queue) (happened : List Event) (c : Course) (reads : ReadsUpTo es 0 ss (length es)) (of : IsCourseOf es ss queues happened c) where
  at : (n : ℕ) → n < length ss → IsPlaced es (entries_before 0 ss n) (nth ss n)
  at n lt = (placed es 0 (length es) ss n no_submission reads lt).0

  next : (n : ℕ) → n < length ss → entries_before 0 ss (suc n) ≡ end_of (nth ss n)
  next n lt = (placed es 0 (length es) ss n no_submission reads lt).1

  -- an earlier submission ends before a later one begins
  apart : (n m : ℕ) → n < m → m < length ss → end_of (nth ss n) ≤ head_at (nth ss m)
  apart n m lt within =
      omega (arith, next n (omega arith), (at m within).head, placed_grows es 0 (length es) ss (suc n) m reads (omega arith) (omega arith))

  first_is : (n : ℕ) → n < length ss → first_of c n ≡ head_at (nth ss n)
  first_is n lt = (of.all_made n (nth ss n) (slice_get-get_or ss n no_submission lt)).first

  end_is : (n : ℕ) → n < length ss → (made_at c.made.items n).end ≡ end_of (nth ss n)
  end_is n lt = (of.all_made n (nth ss n) (slice_get-get_or ss n no_submission lt)).end

  -- the submission of an entry has it
  record IsIn (e : ℕ) : Type 0 where
    within : submission_of c e < length ss
    begun : head_at (nth ss (submission_of c e)) ≤ e
    ends : e < end_of (nth ss (submission_of c e))

  in_own : (e : ℕ) → e < length es → IsIn e
  in_own e lt =
      let n = (of.each e lt).0 in
      let its = (of.each e lt).1 in
      let within : n < length ss = slice_get_within ss n its.submission its.is in
      let same : its.submission ≡ nth ss n = same_Some its.submission (nth ss n) (sym its.is ∙ slice_get-get_or ss n no_submission within) in
      let number : submission_of c e ≡ n = its.entry.submission in
      record {
        within = omega (arith, number, within);
        begun = subst (λ (z : ℕ). head_at (nth ss z) ≤ e) (sym number) (subst (λ (z : Submission). head_at z ≤ e) same its.begun);
        ends = subst (λ (z : ℕ). e < end_of (nth ss z)) (sym number) (subst (λ (z : Submission). e < end_of z) same its.ends);
      }

  fits : (v : Event) → FitsRecording ss v → Fits c v
  fits Submitted f = tt
  fits (Watched n) f = omega (arith, f, of.made)
  fits (MemberEnded n m) (s, is, batch, low) =
      let within = slice_get_within ss n s is in
      let same : nth ss n ≡ s = same_Some (nth ss n) s (sym (slice_get-get_or ss n no_submission within) ∙ is) in
      let placed' : IsPlaced es (entries_before 0 ss n) s = subst (IsPlaced es (entries_before 0 ss n)) same (at n within) in
      let first : first_of c n ≡ head_at s = first_is n within ∙ ap head_at same in
      (omega (arith, within, of.made), omega (arith, first, placed'.batch batch, placed'.ends, low, of.entries))
  fits (Ended n status) f = omega (arith, f, of.made)
  fits (Known n) f = omega (arith, f, of.made)

  pub is_course : made_before c.events.items (length c.events.items) ≡ length ss → ((k : ℕ) → k < length c.events.items → FitsRecording ss (event_at c k)) → IsCourse c
  is_course count fit =
      record {
        members = of.members ∙ sym of.entries;
        made = λ e lt. omega (arith, (in_own e (omega (arith, of.entries))).within, of.made);
        begins = λ n lt.
            let within : n < length ss = omega (arith, of.made) in
            omega (arith, first_is n within, (at n within).head, (at n within).some, (at n within).ends, of.entries);
        ends = λ n lt. let within : n < length ss = omega (arith, of.made) in omega (arith, end_is n within, (at n within).ends, of.entries);
        own = λ e n inside lt low.
            let within : n < length ss = omega (arith, of.made) in
            let its = in_own e (omega (arith, of.entries)) in
            elim (cases_lt n (submission_of c e)) [
              | inl later ↦ absurd (omega (arith, apart n (submission_of c e) later its.within, its.begun, end_is n within, low))
              | inr le ↦ le
            ];
        others = λ e n inside lt high.
            let within : n < length ss = omega (arith, of.made) in
            let its = in_own e (omega (arith, of.entries)) in
            elim (cases_lt n (submission_of c e)) [
              | inl later ↦ later
              | inr le ↦
                  elim (cases_eq (submission_of c e) n) [
                    | inl same ↦ absurd (omega (arith, its.ends, ap (λ (z : ℕ). end_of (nth ss z)) same, end_is n within, high))
                    | inr unlike ↦
                        absurd
                        (omega (
                          arith,
                          its.ends,
                          apart (submission_of c e) n (omega arith) within,
                          (at n within).head,
                          (at n within).some,
                          end_is n within,
                          high,
                        ))
                  ]
            ];
        count = count ∙ sym of.made;
        fit = λ k lt. fits (event_at c k) (fit k lt);
      }
