-- The entries of submissions that come one after the other.
use Rattle.std.proofs.Common.{◌≡◌, ℕ, zero, suc, ◌+◌, ◌<◌, ◌≤◌, Bool, true, false, List, [], ◌∷◌, length, get_or, refl, sym, ap, subst, ◌∙◌, arith}
use Rattle.std.specs.Prelude.{if◌then◌else◌, ◌==◌, slice_index_or}
use Rattle.dsa_descriptor.specs.Places.{u32_at, code_at}
use Rattle.dsa_recording.specs.declared.stream.Submission.{Submission}
use Rattle.dsa_recording.specs.Streams.{submission_at, end_of, ReadsUpTo}
use Rattle.dsa_recording.specs.Submissions.{head_at}
use Rattle.dsa_waits.specs.RecordedSteps.{entries_before}

head_by : (b : Bool) (n at : ℕ) → head_at (if b then record { first = at + 1; size = n; is_batch = true } else record { first = at; size = 1; is_batch = false }) ≡ at
head_by true n at = omega arith
head_by false n at = refl

end_by : (b : Bool) (n at : ℕ) → at < end_of (if b then record { first = at + 1; size = n; is_batch = true } else record { first = at; size = 1; is_batch = false })
end_by true n at = omega arith
end_by false n at = omega arith

batch_by : (b : Bool) (n at : ℕ) (s : Submission) → s ≡ (if b then record { first = at + 1; size = n; is_batch = true } else record { first = at; size = 1; is_batch = false })
    → s.is_batch ≡ true → s.first ≡ head_at s + 1
batch_by true n at s is batch = subst (λ (z : Submission). z.first ≡ head_at z + 1) (sym is) (omega arith)
batch_by false n at s is batch = let never : false ≡ true = sym (ap (λ (z : Submission). z.is_batch) is) ∙ batch in absurd cc

-- submission s of the entries begins with this one
pub record IsPlaced (es : List (List ℕ)) (from : ℕ) (s : Submission) : Type 0 where
  pub head : head_at s ≡ from
  pub some : from < end_of s
  pub ends : end_of s ≤ length es
  pub batch : s.is_batch ≡ true → s.first ≡ head_at s + 1

placed_first : (es : List (List ℕ)) (from : ℕ) (s : Submission) → s ≡ submission_at es from → end_of s ≤ length es → IsPlaced es from s
unfolding submission_at
placed_first es from s is le =
    let b : Bool = code_at (slice_index_or es from []) == 1 in
    let n : ℕ = u32_at 32 (slice_index_or es from []) in
    record {
      head = ap head_at is ∙ head_by b n from;
      some = subst (λ (z : Submission). from < end_of z) (sym is) (end_by b n from);
      ends = le;
      batch = batch_by b n from s is;
    }

none_more : (from : ℕ) (ss : List Submission) → entries_before from ss zero ≡ from
none_more from [] = refl
none_more from (s ∷ ss) = refl

pub placed : (es : List (List ℕ)) (from to : ℕ) (ss : List Submission) (k : ℕ) (d : Submission) → ReadsUpTo es from ss to → k < length ss
    → IsPlaced es (entries_before from ss k) (get_or ss k d) × (entries_before from ss (suc k) ≡ end_of (get_or ss k d))
placed es from to [] k d reads lt = absurd (omega arith)
placed es from to (s ∷ ss) zero d (a, is, le, rest) lt = (placed_first es from s is le, none_more (end_of s) ss)
placed es from to (s ∷ ss) (suc k) d (a, is, le, rest) lt = placed es (end_of s) to ss k d rest (omega arith)

pub placed_all : (es : List (List ℕ)) (from to : ℕ) (ss : List Submission) → ReadsUpTo es from ss to → entries_before from ss (length ss) ≡ to
placed_all es from to [] reads = reads
placed_all es from to (s ∷ ss) (a, is, le, rest) = placed_all es (end_of s) to ss rest

-- the entries of an earlier submission come before those of a later one
pub placed_grows : (es : List (List ℕ)) (from to : ℕ) (ss : List Submission) (j k : ℕ) → ReadsUpTo es from ss to → j ≤ k → k ≤ length ss
    → entries_before from ss j ≤ entries_before from ss k
placed_grows es from to ss zero zero reads le within = omega arith
placed_grows es from to [] zero (suc k) reads le within = absurd (omega arith)
placed_grows es from to (s ∷ ss) zero (suc k) (a, is, le', rest) le within =
    omega (arith, (placed_first es from s is le').some, placed_grows es (end_of s) to ss zero k rest (omega arith) (omega arith))
placed_grows es from to ss (suc j) zero reads le within = absurd (omega arith)
placed_grows es from to [] (suc j) (suc k) reads le within = absurd (omega arith)
placed_grows es from to (s ∷ ss) (suc j) (suc k) (a, is, le', rest) le within = placed_grows es (end_of s) to ss j k rest (omega arith) (omega arith)
