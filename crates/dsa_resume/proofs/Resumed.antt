-- What is answered to a list and to completion records, from its parts.
use Rattle.std.proofs.Common.{◌≡◌, ◌≢◌, ◌⊎◌, inl, inr, ℕ, zero, suc, ◌*◌, ◌/◌, Bool, IfOk, List, [], drop, length, map, Ok, Err, refl, ap, ◌∙◌, subst, arith}
use Rattle.std.specs.Prelude.{MatchResult, Result}
use Rattle.std.specs.Simd.{first_chunks}
use Rattle.dsa_descriptor.specs.declared.descriptor.Descriptor.{Descriptor}
use Rattle.dsa_descriptor.specs.declared.span.Span.{Span}
use Rattle.dsa_descriptor.specs.Descriptors.{fields}
use Rattle.dsa_settings.specs.Settings.{Limits}
use Rattle.dsa_ranges.specs.Pieces.{writes_of}
use Rattle.dsa_calls.specs.declared.fault.PlanFault.{PlanFault}
use Rattle.dsa_calls.specs.declared.fault.PlanFault.TheVariants.{Memory}
use Rattle.dsa_resume.specs.declared.fault.ResumeFault.{ResumeFault}
use Rattle.dsa_resume.specs.declared.fault.ResumeFault.TheVariants.{Plan, NotFailed, PassedBarrier, Records, SharedRecord}
use Rattle.dsa_resume.specs.declared.left.LeftOrder.{LeftOrder}
use Rattle.dsa_calls.specs.Planned.{CanBePlanned}
use Rattle.dsa_resume.specs.declared.rest.Rest.{Rest}
use Rattle.dsa_resume.specs.Barriers.{IsFirstPassed}
use Rattle.dsa_resume.specs.Ended.{ends_of}
use Rattle.dsa_resume.specs.GivenUp.{IsFirstIdle, NoneIsIdle}
use Rattle.dsa_resume.specs.Rest.{IsLeftOver, Remainder, remainder_of}
use Rattle.dsa_resume.specs.Resumed.{AreTold, CanBePlannedAgain, IsAnswer, ResumesPieces, Stopped, completions_of, ends_in, gives_up_other, has_left, lacks_records, passes_barrier, shares_record}
use Rattle.dsa_resume.specs.Shared.{IsFirstShared}
use Rattle.dsa_resume.proofs.Again.{left_again}
use Rattle.dsa_resume.proofs.Found.{length-ends}

-- an outcome that another relation answers, too
pub answers_more : {P : Type 0} (O Q : Result (Remainder P) ResumeFault → Type 0) (r : Result (Rest P) ResumeFault) → ((o : Result (Remainder P) ResumeFault) → O o → Q o) → IsAnswer O r → IsAnswer Q r
answers_more O Q (Ok rest) more answer = more (Ok (remainder_of rest)) answer
answers_more O Q (Err fault) more (inl is) = inl is
answers_more O Q (Err fault) more (inr refused) = inr (more (Err fault) refused)

-- the answer for pieces and barriers that are those
pub answers_for : {P : Type 0} (writes : P → List Span) (order : LeftOrder) (l : Stopped P) (ps : List P) (barriers : List Bool) (r : Result (Rest P) ResumeFault) → ps ≡ l.pieces → barriers ≡ l.barriers
    → IsAnswer (ResumesPieces writes order (record { pieces = ps; barriers = barriers; records = l.records; given_up = l.given_up })) r → IsAnswer (ResumesPieces writes order l) r
answers_for {P} writes order l ps barriers r same marks answer =
    subst (λ (bs : List Bool). IsAnswer (ResumesPieces writes order (record { pieces = l.pieces; barriers = bs; records = l.records; given_up = l.given_up })) r) marks
    (subst (λ (xs : List P). IsAnswer (ResumesPieces writes order (record { pieces = xs; barriers = barriers; records = l.records; given_up = l.given_up })) r) same answer)

-- a refusal of planning
pub answers_plan : {P : Type 0} (O : Result (Remainder P) ResumeFault → Type 0) (fault : PlanFault) → ((fault ≡ Memory) ⊎ O (Err (Plan fault))) → IsAnswer O (Err (Plan fault))
answers_plan O fault (inl is) = inl (ap Plan is)
answers_plan O fault (inr refused) = inr refused

module _ {P : Type 0} (writes : P → List Span) (order : LeftOrder) (l : Stopped P) where
  -- the records are of another length
  pub answer_records : length l.records ≢ 32 * length l.pieces → IsAnswer (ResumesPieces writes order l) (Err Records)
  answer_records other = inr (lacks_records other refl)

  -- two pieces share a record
  pub answer_shared : (i j : ℕ) → length l.records ≡ 32 * length l.pieces → IsFirstShared writes l.pieces i j → IsAnswer (ResumesPieces writes order l) (Err (SharedRecord i j))
  answer_shared i j count first = inr (shares_record i j count first refl)

  module _ (told : AreTold writes l) (completions : List (List ℕ)) (chunks : completions ≡ first_chunks 32 (length l.records / 32) l.records) where
    pub same_completions : completions ≡ completions_of l
    same_completions = chunks ∙ ap (λ (n : ℕ). first_chunks 32 n l.records) (omega (arith, told.count))

    -- a piece is given up that has not failed
    pub answer_idle : (i : ℕ) → IsFirstIdle completions l.given_up i → IsAnswer (ResumesPieces writes order l) (Err (NotFailed i))
    answer_idle i first = inr (gives_up_other i told (subst (λ (rs : List (List ℕ)). IsFirstIdle rs l.given_up i) same_completions first) refl)

    -- what is left, or a piece has begun too early
    pub answer_left : NoneIsIdle completions l.given_up → (r : Result (Rest P) ResumeFault)
        → MatchResult r (λ rest. IsLeftOver order l.pieces l.barriers (ends_of completions l.given_up) (remainder_of rest))
        (λ fault. (fault ≡ Plan Memory) ⊎ ((i : ℕ) × (j : ℕ) × (fault ≡ PassedBarrier i j) × IsFirstPassed l.barriers (ends_of completions l.given_up) i j))
        → IsAnswer (ResumesPieces writes order l) r
    answer_left none (Ok rest) left =
        has_left (remainder_of rest) told (subst (λ (rs : List (List ℕ)). NoneIsIdle rs l.given_up) same_completions none)
        (subst (λ (rs : List (List ℕ)). IsLeftOver order l.pieces l.barriers (ends_of rs l.given_up) (remainder_of rest)) same_completions left) refl
    answer_left none (Err fault) (inl memory) = inl memory
    answer_left none (Err fault) (inr (i, j, is, first)) =
        inr
        (passes_barrier i j told (subst (λ (rs : List (List ℕ)). NoneIsIdle rs l.given_up) same_completions none)
        (subst (λ (rs : List (List ℕ)). IsFirstPassed l.barriers (ends_of rs l.given_up) i j) same_completions first) (ap Err is))

counted_chunks : (n k : ℕ) (bytes : List ℕ) → length (first_chunks n k bytes) ≡ k
counted_chunks n zero bytes = refl
counted_chunks n (suc k) bytes = ap suc (counted_chunks n k (drop n bytes))

-- what is left of pieces, as it is answered
pub rest_of_answer : {P : Type 0} (writes : P → List Span) (order : LeftOrder) (l : Stopped P) (rest : Remainder P) → ResumesPieces writes order l (Ok rest)
    → (length (ends_in l) ≡ length l.pieces) × IsLeftOver order l.pieces l.barriers (ends_in l) rest
rest_of_answer writes order l rest (lacks_records other is) = cc
rest_of_answer writes order l rest (shares_record i j count first is) = cc
rest_of_answer writes order l rest (gives_up_other i told first is) = cc
rest_of_answer writes order l rest (passes_barrier i j told none first is) = cc
rest_of_answer {P} writes order l rest (has_left rest' told none left is) =
    let same : rest' ≡ rest = cc in (
      length-ends (completions_of l) l.given_up ∙ counted_chunks 32 (length l.pieces) l.records,
      subst (λ (r : Remainder P). IsLeftOver order l.pieces l.barriers (ends_in l) r) same left,
    )

-- it can be planned, if it is of descriptors that can be
pub again_if_left : (s : Limits) (order : LeftOrder) (l : Stopped Descriptor) → CanBePlanned s (map fields l.pieces) → (l.barriers ≢ [] → length l.barriers ≡ length l.pieces)
    → (r : Result (Rest Descriptor) ResumeFault) → IsAnswer (ResumesPieces writes_of order l) r → IfOk r (λ rest. CanBePlannedAgain s (remainder_of rest))
again_if_left s order l can marked (Ok rest) answer =
    let (count, left) = rest_of_answer writes_of order l (remainder_of rest) answer in
    left_again s order l.pieces l.barriers (ends_in l) (remainder_of rest) can marked count left
again_if_left s order l can marked (Err fault) answer = tt
