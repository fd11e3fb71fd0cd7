-- Judging has one outcome.
use Rattle.std.proofs.Common.{◌≡◌, inl, inr, ℕ, List, [], ◌∷◌, length, map, Result, Ok, Err, refl, sym, ap, subst, ◌∙◌, arith}
use Rattle.std.proofs.lemmas.Bool.{cases_lt}
use Rattle.dsa_descriptor.specs.declared.descriptor.Descriptor.{Descriptor}
use Rattle.dsa_descriptor.specs.Fields.{Fields}
use Rattle.dsa_descriptor.specs.Descriptors.{fields}
use Rattle.dsa_ranges.specs.Ranges.{ConflictAt}
use Rattle.dsa_settings.specs.Barriers.{WithBarriers}
use Rattle.dsa_settings.specs.Settings.{Limits}
use Rattle.dsa_settings.specs.Plan.{Plan}
use Rattle.dsa_settings.proofs.Judged.{legal_no_fault, one_fault}
use Rattle.dsa_calls.specs.declared.fault.PlanFault.{PlanFault}
use Rattle.dsa_calls.specs.declared.fault.PlanFault.TheVariants.{OverTransfer, Legal}
use Rattle.dsa_calls.specs.Lists.{IsListOf, OrMemory}
use Rattle.dsa_calls.specs.Judge.{FitTransfer, IsFirstOver, JudgesPieces, JudgesPiecesBy, Judges, sizes_of}
use Rattle.dsa_calls.specs.Laws.{OneJudged}
use Rattle.dsa_calls.proofs.Over.{one_over_list}

-- where all fit, none is the first that is longer
pub none_over : (greatest : ℕ) (sizes : List ℕ) (i : ℕ) → FitTransfer greatest sizes → IsFirstOver greatest sizes i → ⊥
none_over greatest sizes i fit over = let h = fit i over.long over.there in let g = over.over in omega arith

-- one is the first that is longer
pub one_over : (greatest : ℕ) (sizes : List ℕ) (i j : ℕ) → IsFirstOver greatest sizes i → IsFirstOver greatest sizes j → i ≡ j
one_over greatest sizes i j p q =
    let over = p.over in
    let over' = q.over in
    elim (cases_lt i j) [
      | inl less ↦ let h = q.before i p.long less p.there in absurd (omega arith)
      | inr from ↦ elim (cases_lt j i) [
        | inl more ↦ let h = p.before j q.long more q.there in absurd (omega arith)
        | inr at_most ↦ omega arith
      ]
    ]

-- pieces that are judged have no cause to refuse them
judged_or_not : (C : ℕ → ℕ → Type 0) (sizes : List ℕ) (plan : Plan) (s : Limits) (cost : ℕ) (cause : PlanFault) → JudgesPiecesBy C sizes plan s (Ok cost) → JudgesPiecesBy C sizes plan s (Err cause) → ⊥
judged_or_not C sizes plan s cost cause h (inl (is, many)) = let few = h.0 in omega arith
judged_or_not C sizes plan s cost cause h (inr (inl (i, is, few, over))) = none_over s.greatest_transfer sizes i h.1 over
judged_or_not C sizes plan s cost cause h (inr (inr (fault, is, few, fit, first))) = legal_no_fault C s.greatest_batch (length sizes) plan fault h.2 first

-- and else one
one_cause : (C : ℕ → ℕ → Type 0) (sizes : List ℕ) (plan : Plan) (s : Limits) (cause other : PlanFault) → JudgesPiecesBy C sizes plan s (Err cause) → JudgesPiecesBy C sizes plan s (Err other) → cause ≡ other
one_cause C sizes plan s cause other (inl (is, many)) (inl (is', many')) = is ∙ sym is'
one_cause C sizes plan s cause other (inl (is, many)) (inr (inl (i, is', few, over))) = absurd (omega arith)
one_cause C sizes plan s cause other (inl (is, many)) (inr (inr (fault, is', few, fit, first))) = absurd (omega arith)
one_cause C sizes plan s cause other (inr (inl (i, is, few, over))) (inl (is', many)) = absurd (omega arith)
one_cause C sizes plan s cause other (inr (inl (i, is, few, over))) (inr (inl (j, is', few', over'))) = is ∙ ap OverTransfer (one_over s.greatest_transfer sizes i j over over') ∙ sym is'
one_cause C sizes plan s cause other (inr (inl (i, is, few, over))) (inr (inr (fault, is', few', fit, first))) = absurd (none_over s.greatest_transfer sizes i fit over)
one_cause C sizes plan s cause other (inr (inr (fault, is, few, fit, first))) (inl (is', many)) = absurd (omega arith)
one_cause C sizes plan s cause other (inr (inr (fault, is, few, fit, first))) (inr (inl (j, is', few', over))) = absurd (none_over s.greatest_transfer sizes j fit over)
one_cause C sizes plan s cause other (inr (inr (fault, is, few, fit, first))) (inr (inr (fault', is', few', fit', first'))) =
    is ∙ ap Legal (one_fault C s.greatest_batch (length sizes) plan fault fault' first first') ∙ sym is'

-- pieces have one outcome, whichever conflict
pub one_judged_by : (C : ℕ → ℕ → Type 0) (sizes : List ℕ) (plan : Plan) (s : Limits) (o p : Result ℕ PlanFault) → JudgesPiecesBy C sizes plan s o → JudgesPiecesBy C sizes plan s p → o ≡ p
one_judged_by C sizes plan s (Ok cost) (Ok cost') h k = ap Ok (h.3 ∙ sym k.3)
one_judged_by C sizes plan s (Ok cost) (Err cause) h k = absurd (judged_or_not C sizes plan s cost cause h k)
one_judged_by C sizes plan s (Err cause) (Ok cost) h k = absurd (judged_or_not C sizes plan s cost cause k h)
one_judged_by C sizes plan s (Err cause) (Err other) h k = ap Err (one_cause C sizes plan s cause other h k)

pub one_judged_pieces : (fs : List Fields) (plan : Plan) (s : Limits) (o p : Result ℕ PlanFault) → JudgesPieces fs plan s o → JudgesPieces fs plan s p → o ≡ p
one_judged_pieces fs plan s o p h k = one_judged_by (ConflictAt fs) (sizes_of fs) plan s o p h k

pub one_judged : OneJudged
one_judged bytes plan s = one_over_list (λ fs o. JudgesPieces fs plan s o) (λ fs o p. one_judged_pieces fs plan s o p) bytes

-- the sizes of descriptors are those of their fields
pub sizes_alike : (ds : List Descriptor) → map (λ d. d.size) ds ≡ sizes_of (map fields ds)
sizes_alike [] = refl
sizes_alike (d ∷ ds) = ap (λ (sizes : List ℕ). d.size ∷ sizes) (sizes_alike ds)

-- pieces with no marks are judged as pieces without barriers
pub plain_judged : (ds : List Descriptor) (plan : Plan) (s : Limits) (o : Result ℕ PlanFault) → JudgesPiecesBy (WithBarriers (ConflictAt (map fields ds)) []) (map (λ d. d.size) ds) plan s o
    → JudgesPieces (map fields ds) plan s o
unfolding WithBarriers
plain_judged ds plan s o judges = subst (λ (sizes : List ℕ). JudgesPiecesBy (ConflictAt (map fields ds)) sizes plan s o) (sizes_alike ds) judges

-- the pieces were judged
pub list_judged : (bytes : List ℕ) (plan : Plan) (s : Limits) (ds shown : List Descriptor) (outcome : Result ℕ PlanFault) → IsListOf bytes ds → shown ≡ ds
    → JudgesPieces (map fields shown) plan s outcome → OrMemory (λ cost. cost) (Judges bytes plan s) outcome
list_judged bytes plan s ds shown outcome is same judges =
    go outcome (inr (ds, is, subst (λ (es : List Descriptor). JudgesPieces (map fields es) plan s outcome) same judges))
  where
    go : (o : Result ℕ PlanFault) → Judges bytes plan s o → OrMemory (λ cost. cost) (Judges bytes plan s) o
    go (Ok cost) h = h
    go (Err fault) h = inr h
