-- Checking an emission for a list with fences has one outcome, and accepts what planning the list answers.
use Rattle.std.proofs.Common.{◌≡◌, ◌⊎◌, inl, inr, ℕ, Bool, List, length, map, Result, Ok, Err, sym, ap, subst, ◌∙◌}
use Rattle.std.specs.Prelude.{IfOk}
use Rattle.std.proofs.lemmas.List.{length-map}
use Rattle.dsa_descriptor.specs.declared.descriptor.Descriptor.{Descriptor}
use Rattle.dsa_descriptor.specs.Descriptors.{fields}
use Rattle.dsa_descriptor.specs.Fences.{barriers_of, unfenced_list}
use Rattle.dsa_descriptor.proofs.Listed.{are_entries}
use Rattle.dsa_emission.proofs.OfDescriptors.{as_emission, emission_as}
use Rattle.dsa_ranges.specs.Pieces.{descriptors}
use Rattle.dsa_ranges.specs.Ranges.{ConflictAt}
use Rattle.dsa_settings.specs.Barriers.{WithBarriers}
use Rattle.dsa_settings.specs.Settings.{Limits}
use Rattle.dsa_settings.specs.Legal.{IsLegal}
use Rattle.dsa_plan.specs.Certificate.{Contents}
use Rattle.dsa_emission.specs.EmissionFaults.{IsEmission}
use Rattle.dsa_splitter.specs.Pieces.{all_pieces}
use Rattle.dsa_splitter.specs.Rules.{IsSplit}
use Rattle.dsa_splitter.proofs.OneFault.{split_no_fault}
use Rattle.dsa_calls.specs.declared.fault.PlanFault.{PlanFault}
use Rattle.dsa_calls.specs.declared.fault.PlanFault.TheVariants.{Memory}
use Rattle.dsa_calls.specs.declared.checking.FencedFault.{FencedFault}
use Rattle.dsa_calls.specs.Lists.{IsListOf}
use Rattle.dsa_calls.specs.Fenced.{AreFencedPieces, PiecesConflict, PlansFenced}
use Rattle.dsa_calls.specs.FencedChecked.{ChecksPieces, ChecksFenced, IsLeastEmission, OneFencedCheck, FencedPlanIsChecked}
use Rattle.dsa_calls.specs.Planned.{Submission}
use Rattle.dsa_calls.proofs.FencedPlans.{one_fenced_plan}
use Rattle.dsa_calls.proofs.Over.{one_list, no_list_fault}
use Rattle.dsa_calls.proofs.PiecesChecked.{chosen_checks, least_checked, one_pieces, refused_call, shown_by}
use Rattle.dsa_calls.proofs.Submissions.{can_emit, pieces_can, same_pieces}

split_not_refused : (bytes : List ℕ) (s : Limits) (operations : List Descriptor) (fault : PlanFault) → IsListOf (unfenced_list bytes) operations
    → IsSplit s.greatest_transfer s.staging (map fields operations) → PlansFenced bytes s (Err fault) → ⊥
split_not_refused bytes s operations fault list split (inl (cause, other, first, is)) = no_list_fault (unfenced_list bytes) operations cause list other first
split_not_refused bytes s operations fault list split (inr (es, list', (cause, other, first, is))) =
    let same : es ≡ operations = one_list (unfenced_list bytes) operations es list list' in
    let here = subst (λ (xs : List Descriptor). IsSplit s.greatest_transfer s.staging (map fields xs)) (sym same) split in
    other (split_no_fault s.greatest_transfer s.staging (map fields es) cause here first)

-- what checking says of these pieces of the operations
abbrev Checks : List ℕ → List ℕ → List ℕ → Limits → Contents → List Descriptor → List Descriptor → Result ℕ FencedFault → Type 0
Checks bytes portal staging s c operations pieces outcome =
    ChecksPieces descriptors (PiecesConflict s (map fields operations) (barriers_of bytes) (map fields pieces)) s pieces portal staging c outcome

pub one_fenced_check : OneFencedCheck
one_fenced_check bytes portal staging s c o p (inl (f, refused, is)) (inl (g, refused', is')) =
    let same : ◌≡◌ {A = Result Submission PlanFault} (Err f) (Err g) = one_fenced_plan bytes s (Err f) (Err g) refused refused' in
    let fault : f ≡ g = cc in
    is ∙ ap refused_call fault ∙ sym is'
one_fenced_check bytes portal staging s c o p (inl (f, refused, is)) (inr (ops, ds, list, split, are, checks)) = absurd (split_not_refused bytes s ops f list split refused)
one_fenced_check bytes portal staging s c o p (inr (ops, ds, list, split, are, checks)) (inl (g, refused, is)) = absurd (split_not_refused bytes s ops g list split refused)
one_fenced_check bytes portal staging s c o p (inr (ops, ds, list, split, are, checks)) (inr (ops', ds', list', split', are', checks')) =
    let same : ops' ≡ ops = one_list (unfenced_list bytes) ops ops' list list' in
    let pieces : ds' ≡ ds = same_pieces ds' ds (are' ∙ ap (λ (xs : List Descriptor). all_pieces (map fields xs) s.greatest_transfer) same ∙ sym are) in
    let with_operations = subst (λ (xs : List Descriptor). Checks bytes portal staging s c xs ds' p) same checks' in
    let here = subst (λ (xs : List Descriptor). Checks bytes portal staging s c ops xs p) pieces with_operations in
    one_pieces Descriptor descriptors are_entries (PiecesConflict s (map fields ops) (barriers_of bytes) (map fields ds)) s ds portal staging c o p checks here

-- ---- what planning answers

pub fenced_plan_is_checked : FencedPlanIsChecked
fenced_plan_is_checked bytes s p (inl (fault, other, first, is)) = cc
fenced_plan_is_checked bytes s p (inr (ds, list, sub)) =
    let C : ℕ → ℕ → Type 0 = PiecesConflict s (map fields ds) (barriers_of bytes) (map fields p.pieces) in
    let shown = shown_by C s (length p.pieces) p.plan p.certificate p.cost sub.of_pieces.chosen sub.of_pieces.version_is sub.of_pieces.cost_is in
    let legal = subst (λ (n : ℕ). IsLegal C s.greatest_batch n p.plan) (sym (length-map p.pieces fields)) shown.legal in
    let can = can_emit C s (map fields p.pieces) p.plan (pieces_can s (map fields ds) (map fields p.pieces) list.owner sub.split sub.pieces_are) legal in
    let emission : IsEmission s p.portal p.staging p.plan p.pieces = record { can_be = can; portal_is = sub.of_pieces.portal_is; staging_is = sub.of_pieces.staging_is } in
    inr (ds, p.pieces, list, sub.split, sub.pieces_are, chosen_checks descriptors C s p.pieces p.portal p.staging p.certificate p.plan p.cost (emission_as s p.portal p.staging p.plan p.pieces emission) shown)

-- ---- the answer

pub pieces_checked : (bytes portal staging : List ℕ) (s : Limits) (c : Contents) (pieces : List Descriptor) (barriers : List Bool) (r : Result ℕ FencedFault) → AreFencedPieces bytes s pieces barriers
    → (r ≡ refused_call Memory) ⊎ ChecksPieces descriptors (WithBarriers (ConflictAt (map fields pieces)) barriers) s pieces portal staging c r
    → (r ≡ refused_call Memory) ⊎ ChecksFenced bytes portal staging s c r
pieces_checked bytes portal staging s c pieces barriers r are (inl memory) = inl memory
pieces_checked bytes portal staging s c pieces barriers r are (inr checks) =
    let marked = subst (λ (marks : List Bool). ChecksPieces descriptors (WithBarriers (ConflictAt (map fields pieces)) marks) s pieces portal staging c r) are.barriers_are checks in
    inr (inr (are.operations, pieces, are.listed, are.split, are.pieces_are, marked))

pub least_emission : (bytes portal staging : List ℕ) (s : Limits) (c : Contents) (cost : ℕ) → ChecksFenced bytes portal staging s c (Ok cost) → IsLeastEmission bytes portal staging s cost
least_emission bytes portal staging s c cost (inl (fault, refused, is)) = cc
least_emission bytes portal staging s c cost (inr (ops, ds, list, split, are, checks)) =
    let C : ℕ → ℕ → Type 0 = PiecesConflict s (map fields ops) (barriers_of bytes) (map fields ds) in
    let (plan, emission, least, is) = least_checked descriptors C s ds portal staging c cost checks in
    record {
      operations = ops;
      listed = list;
      plan = plan;
      pieces = ds;
      emission = as_emission s portal staging plan ds emission;
      pieces_are = are;
      least = least;
      is_cost = is;
    }

pub least_if_ok : (bytes portal staging : List ℕ) (s : Limits) (c : Contents) (r : Result ℕ FencedFault) → (r ≡ refused_call Memory) ⊎ ChecksFenced bytes portal staging s c r
    → IfOk r (IsLeastEmission bytes portal staging s)
least_if_ok bytes portal staging s c (Ok cost) (inl is) = cc
least_if_ok bytes portal staging s c (Ok cost) (inr checks) = least_emission bytes portal staging s c cost checks
least_if_ok bytes portal staging s c (Err fault) told = tt
