-- Entries within longer lists of entries, and submissions of them.
use Rattle.std.proofs.Common.{◌≡◌, ℕ, zero, suc, ◌+◌, ◌-◌, ◌*◌, ◌/◌, ◌%◌, ◌<◌, ◌≤◌, ◌↔◌, Bool, true, false, IsTrue, List, [], ◌∷◌, ◌++◌, length, map, get_or, take, drop, slice_get, slice_range, refl, sym, ap, subst, ◌∙◌, arith, length-append}
use Rattle.std.specs.Prelude.{if◌then◌else◌, ◌==◌, slice_index_or}
use Rattle.std.specs.Simd.{first_chunks}
use Rattle.std.proofs.lemmas.List.{get_or_append_left, get_or-append-add, drop-drop, drop_at, drop-append-le, take-append-le, length-drop}
use Rattle.dsa_descriptor.specs.Lists.{entries}
use Rattle.dsa_descriptor.specs.Places.{u32_at, code_at}
use Rattle.dsa_audit.specs.Laws.{IsAudit}
use Rattle.dsa_recording.specs.Pairs.{IsListedPair, Terms}
use Rattle.dsa_recording.specs.declared.stream.Submission.{Submission}
use Rattle.dsa_recording.specs.declared.submission.Audited.{Audited}
use Rattle.dsa_recording.specs.Flaws.{AreAllFlaws, HasMisalignedRecord}
use Rattle.dsa_recording.specs.Failures.{AreFallible}
use Rattle.dsa_recording.specs.Showing.{AreVisible}
use Rattle.dsa_recording.specs.Entries.{action_of}
use Rattle.dsa_recording.specs.Streams.{submission_at, end_of, ReadsUpTo}
use Rattle.dsa_descriptor.specs.Fences.{is_fenced}
use Rattle.dsa_recording.specs.declared.member.Aspect.TheVariants.{Whole, Data}
use Rattle.dsa_recording.specs.Submissions.{head_at, members_in, AreMembers, AreShared, IsAudited, AreAudited}
use Rattle.dsa_recording.proofs.Within.{head_of}

-- ---- entries of bytes

chunks_joined : (n m : ℕ) (a b : List ℕ) → length a ≡ 64 * n → first_chunks 64 (n + m) (a ++ b) ≡ first_chunks 64 n a ++ first_chunks 64 m b
chunks_joined zero m [] b e =
    let none : zero + m ≡ m = omega arith in
    ap (λ (k : ℕ). first_chunks 64 k b) none
chunks_joined zero m (x ∷ a) b e = absurd (omega (arith, e))
chunks_joined (suc n) m a b e =
    let next : suc n + m ≡ suc (n + m) = omega arith in
    let long : 64 ≤ length a = omega (arith, e) in
    let rest : length (drop 64 a) ≡ 64 * n = length-drop 64 a ∙ (omega (arith, e)) in
    let front : take 64 (a ++ b) ≡ take 64 a = take-append-le 64 a b long in
    let back : drop 64 (a ++ b) ≡ drop 64 a ++ b = drop-append-le 64 a b long in
    ap (λ (k : ℕ). first_chunks 64 k (a ++ b)) next
    ∙ (ap (λ (z : List ℕ). z ∷ first_chunks 64 (n + m) (drop 64 (a ++ b))) front
    ∙ ap (λ (z : List (List ℕ)). take 64 a ∷ z) (ap (first_chunks 64 (n + m)) back ∙ chunks_joined n m (drop 64 a) b rest))

pub entries_joined : (a b : List ℕ) → length a % 64 ≡ 0 → entries (a ++ b) ≡ entries a ++ entries b
entries_joined a b whole =
    let long : length (a ++ b) ≡ length a + length b = length-append a b in
    let count : length (a ++ b) / 64 ≡ length a / 64 + length b / 64 = omega (arith, long, whole) in
    let exact : length a ≡ 64 * (length a / 64) = omega (arith, whole) in
    ap (λ (k : ℕ). first_chunks 64 k (a ++ b)) count ∙ chunks_joined (length a / 64) (length b / 64) a b exact

-- ---- elements

get_right : {X : Type 0} (pre xs : List X) (i : ℕ) → slice_get (pre ++ xs) (length pre + i) ≡ slice_get xs i
get_right [] xs i =
    let none : zero + i ≡ i = omega arith in
    ap (slice_get xs) none
get_right (x ∷ pre) xs i =
    let next : suc (length pre) + i ≡ suc (length pre + i) = omega arith in
    ap (slice_get (x ∷ (pre ++ xs))) next ∙ get_right pre xs i

get_left : {X : Type 0} (xs post : List X) (i : ℕ) → i < length xs → slice_get (xs ++ post) i ≡ slice_get xs i
get_left [] post i lt = absurd (omega (arith, lt))
get_left (x ∷ xs) post zero lt = refl
get_left (x ∷ xs) post (suc i) lt = get_left xs post i (omega (arith, lt))

pub get_middle : {X : Type 0} (pre xs post : List X) (i : ℕ) → i < length xs → slice_get (pre ++ (xs ++ post)) (length pre + i) ≡ slice_get xs i
get_middle pre xs post i lt = get_right pre (xs ++ post) i ∙ get_left xs post i lt

pub nth_middle : {X : Type 0} (pre xs post : List X) (i : ℕ) (d : X) → i < length xs → get_or (pre ++ (xs ++ post)) (length pre + i) d ≡ get_or xs i d
nth_middle pre xs post i d lt = get_or-append-add pre (xs ++ post) i d ∙ get_or_append_left xs post d i lt

range_middle : {X : Type 0} (pre xs post : List X) (first end : ℕ) → first ≤ end → end ≤ length xs
    → slice_range (pre ++ (xs ++ post)) (length pre + first) (length pre + end) ≡ slice_range xs first end
range_middle pre xs post first end le within =
    let all : List _ = pre ++ (xs ++ post) in
    let size : (length pre + end) - (length pre + first) ≡ end - first = omega arith in
    let after : drop (length pre + first) all ≡ drop first (xs ++ post) = sym (drop-drop first (length pre) all) ∙ ap (drop first) (drop_at pre (xs ++ post) (length pre) refl) in
    let inside : drop first (xs ++ post) ≡ drop first xs ++ post = drop-append-le first xs post (omega (arith, le, within)) in
    let few : end - first ≤ length (drop first xs) = omega (arith, length-drop first xs, within) in
    ap (λ (k : ℕ). take k (drop (length pre + first) all)) size
    ∙ (ap (take (end - first)) (after ∙ inside) ∙ take-append-le (end - first) (drop first xs) post few)

-- ---- submissions

-- the submission after so many more entries
abbrev pub moved : ℕ → Submission → Submission
moved n s = record { first = n + s.first; size = s.size; is_batch = s.is_batch }

moved_by : (b : Bool) (size n at : ℕ)
    → (if b then record { first = (n + at) + 1; size = size; is_batch = true } else record { first = n + at; size = 1; is_batch = false })
    ≡ moved n (if b then record { first = at + 1; size = size; is_batch = true } else record { first = at; size = 1; is_batch = false })
moved_by true size n at =
    let same : (n + at) + 1 ≡ n + (at + 1) = omega arith in
    ap (λ (k : ℕ). record { first = k; size = size; is_batch = true }) same
moved_by false size n at = refl

pub submission_moved : (pre es post : List (List ℕ)) (at : ℕ) → at < length es
    → submission_at (pre ++ (es ++ post)) (length pre + at) ≡ moved (length pre) (submission_at es at)
unfolding submission_at
submission_moved pre es post at lt =
    let e : List ℕ = slice_index_or es at [] in
    let same : slice_index_or (pre ++ (es ++ post)) (length pre + at) [] ≡ e = nth_middle pre es post at [] lt in
    ap (λ (z : List ℕ). if code_at z == 1 then record { first = (length pre + at) + 1; size = u32_at 32 z; is_batch = true } else record { first = length pre + at; size = 1; is_batch = false }) same
    ∙ moved_by (code_at e == 1) (u32_at 32 e) (length pre) at

pub end_moved : (n : ℕ) (s : Submission) → end_of (moved n s) ≡ n + end_of s
end_moved n s = omega arith

pub length_middle : {X : Type 0} (pre xs post : List X) → length (pre ++ (xs ++ post)) ≡ length pre + (length xs + length post)
length_middle pre xs post = length-append pre (xs ++ post) ∙ ap (λ (k : ℕ). length pre + k) (length-append xs post)

pub reads_middle : (pre es post : List (List ℕ)) (from to : ℕ) (ss : List Submission) → ReadsUpTo es from ss to
    → ReadsUpTo (pre ++ (es ++ post)) (length pre + from) (map (moved (length pre)) ss) (length pre + to)
reads_middle pre es post from to [] r = ap (λ (k : ℕ). length pre + k) r
reads_middle pre es post from to (s ∷ ss) (lt, is, le, rest) =
    let all : List (List ℕ) = pre ++ (es ++ post) in
    let long : length all ≡ length pre + (length es + length post) = length_middle pre es post in
    let end : end_of (moved (length pre) s) ≡ length pre + end_of s = end_moved (length pre) s in
    let more : ReadsUpTo all (length pre + end_of s) (map (moved (length pre)) ss) (length pre + to) = reads_middle pre es post (end_of s) to ss rest in (
      omega (arith, lt, long),
      ap (moved (length pre)) is ∙ sym (submission_moved pre es post from lt),
      omega (arith, le, long, end),
      subst (λ (k : ℕ). ReadsUpTo all k (map (moved (length pre)) ss) (length pre + to)) (sym end) more,
    )

pub reads_joined : (es : List (List ℕ)) (from mid to : ℕ) (ss ts : List Submission) → ReadsUpTo es from ss mid → ReadsUpTo es mid ts to
    → ReadsUpTo es from (ss ++ ts) to
reads_joined es from mid to [] ts r q = subst (λ (k : ℕ). ReadsUpTo es k ts to) (sym r) q
reads_joined es from mid to (s ∷ ss) ts (lt, is, le, rest) q = (lt, is, le, reads_joined es (end_of s) mid to ss ts rest q)

-- ---- audits

audited_same : (assumed : Terms) (es other : List (List ℕ)) (s t : Submission) (a : Audited) → s.is_batch ≡ t.is_batch
    → slice_index_or es (head_at s) [] ≡ slice_index_or other (head_at t) [] → members_in es s ≡ members_in other t
    → IsAudited assumed es s a → IsAudited assumed other t a
audited_same assumed es other s t a batch head members is = record {
  is_batch = is.is_batch ∙ batch;
  is_head_fenced = is.is_head_fenced ∙ ap is_fenced head;
  is_head_misaligned = subst (λ (h : List ℕ). IsTrue a.is_head_misaligned ↔ HasMisalignedRecord h) head is.is_head_misaligned;
  fences = is.fences ∙ ap (map is_fenced) members;
  members =
      subst (λ (h : List ℕ). AreMembers Whole h (members_in other t) a.members.items) head
      (subst (λ (ms : List (List ℕ)). AreMembers Whole (slice_index_or es (head_at s) []) ms a.members.items) members is.members);
  fallible = is.fallible;
  visible = is.visible;
  are_fallible = subst (λ (ms : List (List ℕ)). AreFallible assumed.assumptions a.members.items ms is.fallible) members is.are_fallible;
  are_visible =
      subst (λ (h : List ℕ). AreVisible assumed.assumptions h a.members.items (members_in other t) is.visible) head
      (subst (λ (ms : List (List ℕ)). AreVisible assumed.assumptions (slice_index_or es (head_at s) []) a.members.items ms is.visible) members is.are_visible);
  actions = is.actions ∙ ap (map action_of) members;
  operands =
      subst (λ (h : List ℕ). AreMembers Data h (members_in other t) a.operands.items) head
      (subst (λ (ms : List (List ℕ)). AreMembers Data (slice_index_or es (head_at s) []) ms a.operands.items) members is.operands);
  shared =
      subst (λ (h : List ℕ). AreShared h (members_in other t) a.shared.items) head
      (subst (λ (ms : List (List ℕ)). AreShared (slice_index_or es (head_at s) []) ms a.shared.items) members is.shared);
  flaws =
      subst (λ (b : Bool). AreAllFlaws b (slice_index_or other (head_at t) []) (members_in other t) a.flaws.items) batch
      (subst (λ (h : List ℕ). AreAllFlaws s.is_batch h (members_in other t) a.flaws.items) head
      (subst (λ (ms : List (List ℕ)). AreAllFlaws s.is_batch (slice_index_or es (head_at s) []) ms a.flaws.items) members is.flaws));
  audit =
      subst (λ (ms : List (List ℕ)). IsAudit (IsListedPair assumed.accepted ms a.operands.items) a.actions.items a.operands.items a.members.items is.fallible is.visible a.fences.items a.audit)
      members is.audit;
}

-- the head of a submission that was read moves with it
pub head_moved : (pre es post : List (List ℕ)) (from : ℕ) (s : Submission) → from < length es → s ≡ submission_at es from
    → head_at (moved (length pre) s) ≡ length pre + head_at s
head_moved pre es post from s lt is =
    let there : moved (length pre) s ≡ submission_at (pre ++ (es ++ post)) (length pre + from) = ap (moved (length pre)) is ∙ sym (submission_moved pre es post from lt) in
    ap head_at there ∙ (head_of (pre ++ (es ++ post)) (length pre + from) ∙ ap (λ (k : ℕ). length pre + k) (sym (ap head_at is ∙ head_of es from)))

pub members_moved : (pre es post : List (List ℕ)) (s : Submission) → end_of s ≤ length es
    → members_in (pre ++ (es ++ post)) (moved (length pre) s) ≡ members_in es s
members_moved pre es post s le =
    ap (slice_range (pre ++ (es ++ post)) (length pre + s.first)) (end_moved (length pre) s)
    ∙ range_middle pre es post s.first (end_of s) (omega arith) le

pub audited_middle : (assumed : Terms) (pre es post : List (List ℕ)) (from to : ℕ) (ss : List Submission) (audits : List Audited)
    → ReadsUpTo es from ss to → AreAudited assumed es ss audits → AreAudited assumed (pre ++ (es ++ post)) (map (moved (length pre)) ss) audits
audited_middle assumed pre es post from to [] [] r all = tt
audited_middle assumed pre es post from to (s ∷ ss) (a ∷ audits) (lt, is, le, rest) (first, all) =
    let at : head_at s ≡ from = ap head_at is ∙ head_of es from in
    let within : head_at s < length es = subst (λ (k : ℕ). k < length es) (sym at) lt in
    let head : slice_index_or es (head_at s) [] ≡ slice_index_or (pre ++ (es ++ post)) (head_at (moved (length pre) s)) [] =
    sym (ap (λ (k : ℕ). slice_index_or (pre ++ (es ++ post)) k []) (head_moved pre es post from s lt is) ∙ nth_middle pre es post (head_at s) [] within) in (
      audited_same assumed es (pre ++ (es ++ post)) s (moved (length pre) s) a refl head (sym (members_moved pre es post s le)) first,
      audited_middle assumed pre es post (end_of s) to ss audits rest all,
    )
audited_middle assumed pre es post from to [] (a ∷ audits) r all = absurd all
audited_middle assumed pre es post from to (s ∷ ss) [] r all = absurd all

pub audited_joined : (assumed : Terms) (es : List (List ℕ)) (ss ts : List Submission) (audits more : List Audited) → AreAudited assumed es ss audits → AreAudited assumed es ts more
    → AreAudited assumed es (ss ++ ts) (audits ++ more)
audited_joined assumed es [] ts [] more all rest = rest
audited_joined assumed es (s ∷ ss) ts (a ∷ audits) more (first, all) rest = (first, audited_joined assumed es ss ts audits more all rest)
audited_joined assumed es [] ts (a ∷ audits) more all rest = absurd all
audited_joined assumed es (s ∷ ss) ts [] more all rest = absurd all
