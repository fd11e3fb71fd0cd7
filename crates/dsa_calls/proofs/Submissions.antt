-- Planning has one outcome, whose plan is least and shown to be.
use Rattle.std.proofs.Common.{◌≡◌, inl, inr, if◌then◌else◌, Bool, true, false, ℕ, ◌≤◌, List, length, map, Result, Ok, Err, refl, sym, ap, subst, ◌∙◌, arith}
use Rattle.std.proofs.lemmas.List.{length-map}
use Rattle.dsa_descriptor.specs.declared.descriptor.Descriptor.{Descriptor}
use Rattle.dsa_descriptor.specs.Fields.{Fields}
use Rattle.dsa_descriptor.specs.Descriptors.{fields}
use Rattle.dsa_descriptor.specs.Lists.{HaveOneOwner, list_spelling}
use Rattle.dsa_descriptor.proofs.Listed.{one_list_spelling}
use Rattle.dsa_ranges.specs.Ranges.{ConflictAt}
use Rattle.dsa_emission.proofs.OfDescriptors.{emission_as}
use Rattle.dsa_emission.specs.EmissionFaults.{IsEmission}
use Rattle.dsa_settings.specs.Settings.{Limits, tariff_of}
use Rattle.dsa_settings.specs.Plan.{Plan, plan_cost}
use Rattle.dsa_settings.specs.Legal.{IsLegal, IsLeast}
use Rattle.dsa_settings.specs.LegalFaults.{HasGroupShapes}
use Rattle.dsa_plan.specs.Certificate.{IsGood}
use Rattle.dsa_emission.specs.Emission.{portal_bytes, staging_bytes, CanBeEmitted}
use Rattle.dsa_splitter.specs.declared.fault.SplitFault.{SplitFault}
use Rattle.dsa_splitter.specs.Causes.{split_is_memory}
use Rattle.dsa_splitter.specs.Pieces.{all_pieces}
use Rattle.dsa_splitter.specs.Rules.{IsSplit, IsFirstSplitFault}
use Rattle.dsa_splitter.proofs.OneFault.{one_first_fault, split_no_fault}
use Rattle.dsa_splitter.proofs.PieceLimits.{all_short, all_clear, all_one_owner}
use Rattle.dsa_splitter.proofs.Walks.{length_all}
use Rattle.dsa_search.specs.Chosen.{IsChosen}
use Rattle.dsa_search.proofs.Choosing.{chosen_is_good, chosen_is_least}
use Rattle.dsa_search.proofs.Unique.{one_chosen}
use Rattle.dsa_calls.specs.declared.fault.PlanFault.{PlanFault}
use Rattle.dsa_calls.specs.declared.fault.PlanFault.TheVariants.{Split, Memory}
use Rattle.dsa_calls.specs.Fault.{split_cause}
use Rattle.dsa_calls.specs.Lists.{IsListOf, OrMemory}
use Rattle.dsa_calls.specs.Planned.{Submission, IsSubmissionOf, PlansOperations, Plans, CanBePlanned, ArePiecesOf, SplitsList, IsSubmissionOfPiecesBy, IsSubmissionOfPieces}
use Rattle.dsa_calls.specs.Laws.{OnePlanned, IsLeastAndShown, PlannedIsLeastAndShown}
use Rattle.dsa_calls.proofs.Over.{one_over_list}

-- ---- the pieces can be planned

pub pieces_can : (s : Limits) (fs es : List Fields) → HaveOneOwner fs → IsSplit s.greatest_transfer s.staging fs → es ≡ all_pieces fs s.greatest_transfer → CanBePlanned s es
pieces_can s fs es owner split is =
    let few : length (all_pieces fs s.greatest_transfer) ≤ 65536 = omega (arith, length_all fs s.greatest_transfer, split.few.few) in
    subst (λ (xs : List Fields). CanBePlanned s xs) (sym is) (record {
      few = few;
      one_owner = all_one_owner fs s.greatest_transfer owner;
      short = all_short fs s.greatest_transfer;
      clear = all_clear s.greatest_transfer s.staging fs split;
    })

-- the groups of a legal plan have the shapes of groups
pub legal_shapes : (C : ℕ → ℕ → Type 0) (s : Limits) (n : ℕ) (plan : Plan) → IsLegal C s.greatest_batch n plan → HasGroupShapes s.greatest_batch plan
legal_shapes C s n plan legal number group is =
    let g = legal.groups number group is in
    record { size = g.size; begins = g.begins }

-- a legal plan of them can be emitted
pub can_emit : (C : ℕ → ℕ → Type 0) (s : Limits) (fs : List Fields) (plan : Plan) → CanBePlanned s fs → IsLegal C s.greatest_batch (length fs) plan → CanBeEmitted s plan fs
can_emit C s fs plan can legal = record {
  covers = legal.covers;
  few = can.few;
  shapes = legal_shapes C s (length fs) plan legal;
  one_owner = can.one_owner;
  short = can.short;
  clear = can.clear;
}

-- ---- refusals

-- the operations were refused
pub split_refused : (bytes : List ℕ) (s : Limits) (ds : List Descriptor) (cause : SplitFault) (fault : PlanFault) → IsListOf bytes ds → fault ≡ split_cause cause
    → IsFirstSplitFault s.greatest_transfer s.staging (map fields ds) cause → OrMemory {X = List Descriptor} {Y = List Descriptor} (λ p. p) (SplitsList s bytes) (Err fault)
split_refused bytes s ds cause fault list is first = go (split_is_memory cause) refl is
  where
    go : (b : Bool) → split_is_memory cause ≡ b → fault ≡ (if b then Memory else Split cause) → OrMemory {X = List Descriptor} {Y = List Descriptor} (λ p. p) (SplitsList s bytes) (Err fault)
    go true e same = inl same
    go false e same = inr (inr (ds, list, (cause, (λ f. let g = ap split_is_memory f in cc), first, same)))

pub operations_refused : (s : Limits) (fs : List Fields) (cause : SplitFault) (fault : PlanFault) → fault ≡ split_cause cause → IsFirstSplitFault s.greatest_transfer s.staging fs cause
    → OrMemory {X = Submission} {Y = Submission} (λ p. p) (PlansOperations s fs) (Err fault)
operations_refused s fs cause fault is first = go (split_is_memory cause) refl is
  where
    go : (b : Bool) → split_is_memory cause ≡ b → fault ≡ (if b then Memory else Split cause) → OrMemory {X = Submission} {Y = Submission} (λ p. p) (PlansOperations s fs) (Err fault)
    go true e same = inl same
    go false e same = inr (cause, (λ f. let g = ap split_is_memory f in cc), first, same)

-- ---- one outcome

pub same_pieces : (ds es : List Descriptor) → map fields ds ≡ map fields es → ds ≡ es
same_pieces ds es e = one_list_spelling ds es (ap list_spelling e)

same_submission : (p q : Submission) → p.pieces ≡ q.pieces → p.plan ≡ q.plan → p.certificate.version ≡ q.certificate.version → p.certificate.prices ≡ q.certificate.prices
    → p.certificate.pairs ≡ q.certificate.pairs → p.cost ≡ q.cost → p.portal ≡ q.portal → p.staging ≡ q.staging → p ≡ q
same_submission p q a b v c d e f g =
    λ i. record { pieces = a i; plan = b i; certificate = record { version = v i; prices = c i; pairs = d i }; cost = e i; portal = f i; staging = g i }

-- the same pieces have one submission, whichever of them conflict
pub one_of_pieces : (C : List Fields → ℕ → ℕ → Type 0) (s : Limits) (p q : Submission) → map fields p.pieces ≡ map fields q.pieces → IsSubmissionOfPiecesBy (C (map fields p.pieces)) s p
    → IsSubmissionOfPiecesBy (C (map fields q.pieces)) s q → p ≡ q
one_of_pieces C s p q are h k =
    let pieces : p.pieces ≡ q.pieces = same_pieces p.pieces q.pieces are in
    let chosen = subst (λ (ds : List Descriptor). IsChosen (C (map fields ds)) s.greatest_batch (tariff_of s) (length ds) q.certificate.prices q.certificate.pairs q.plan) (sym pieces) k.chosen in
    let same = one_chosen (C (map fields p.pieces)) s.greatest_batch (tariff_of s) (length p.pieces) p.certificate.prices q.certificate.prices p.certificate.pairs q.certificate.pairs p.plan q.plan h.chosen chosen in
    same_submission p q pieces same.2 (h.version_is ∙ sym k.version_is) same.0 same.1
    (h.cost_is ∙ ap (plan_cost (tariff_of s)) same.2 ∙ sym k.cost_is)
    (h.portal_is ∙ ap (λ (x : Plan). portal_bytes s x (map fields p.pieces)) same.2 ∙ ap (λ (x : List Descriptor). portal_bytes s q.plan (map fields x)) pieces ∙ sym k.portal_is)
    (h.staging_is ∙ ap (λ (x : Plan). staging_bytes x (map fields p.pieces)) same.2 ∙ ap (λ (x : List Descriptor). staging_bytes q.plan (map fields x)) pieces ∙ sym k.staging_is)

pub of_pieces : (s : Limits) (fs : List Fields) (p : Submission) → IsSubmissionOf s fs p → IsSubmissionOfPieces s p
of_pieces s fs p h = record { chosen = h.chosen; version_is = h.version_is; cost_is = h.cost_is; portal_is = h.portal_is; staging_is = h.staging_is }

one_submission : (s : Limits) (fs : List Fields) (p q : Submission) → IsSubmissionOf s fs p → IsSubmissionOf s fs q → p ≡ q
one_submission s fs p q h k = one_of_pieces (λ es. ConflictAt es) s p q (h.pieces_are ∙ sym k.pieces_are) (of_pieces s fs p h) (of_pieces s fs q k)

pub one_operations : (s : Limits) (fs : List Fields) (o p : Result Submission PlanFault) → PlansOperations s fs o → PlansOperations s fs p → o ≡ p
one_operations s fs (Ok p) (Ok q) h k = ap Ok (one_submission s fs p q h k)
one_operations s fs (Ok p) (Err fault) h (cause, other, first, is) = absurd (other (split_no_fault s.greatest_transfer s.staging fs cause h.split first))
one_operations s fs (Err fault) (Ok q) (cause, other, first, is) k = absurd (other (split_no_fault s.greatest_transfer s.staging fs cause k.split first))
one_operations s fs (Err fault) (Err fault') (cause, other, first, is) (cause', other', first', is') =
    ap Err (is ∙ ap Split (one_first_fault s.greatest_transfer s.staging fs cause cause' first first') ∙ sym is')

pub one_planned : OnePlanned
one_planned bytes s = one_over_list (λ fs o. PlansOperations s fs o) (λ fs o p. one_operations s fs o p) bytes

-- ---- least, and shown to be

-- what the pieces of operations are planned as is their submission
pub submission_of_operations : (s : Limits) (fs : List Fields) (p : Submission) → IsSplit s.greatest_transfer s.staging fs → map fields p.pieces ≡ all_pieces fs s.greatest_transfer
    → IsSubmissionOfPieces s p → IsSubmissionOf s fs p
submission_of_operations s fs p split are sub = record {
  split = split;
  pieces_are = are;
  chosen = sub.chosen;
  version_is = sub.version_is;
  cost_is = sub.cost_is;
  portal_is = sub.portal_is;
  staging_is = sub.staging_is;
}

-- what the pieces of a list are planned as is the submission of the list
pub whole_submission : (bytes : List ℕ) (s : Limits) (p : Submission) → ArePiecesOf s bytes p.pieces → IsSubmissionOfPieces s p → Plans bytes s (Ok p)
whole_submission bytes s p pieces sub =
    inr (pieces.operations, pieces.listed, submission_of_operations s (map fields pieces.operations) p pieces.split pieces.pieces_are sub)

submission_shown : (s : Limits) (fs : List Fields) (p : Submission) → HaveOneOwner fs → IsSubmissionOf s fs p → IsLeastAndShown s p
submission_shown s fs p owner sub =
    let count : length (map fields p.pieces) ≡ length p.pieces = length-map p.pieces fields in
    let C = ConflictAt (map fields p.pieces) in
    let least = chosen_is_least C s.greatest_batch (tariff_of s) (length p.pieces) p.certificate.prices p.certificate.pairs p.plan sub.chosen in
    let good = chosen_is_good C s.greatest_batch (tariff_of s) (length p.pieces) p.certificate.prices p.certificate.pairs sub.chosen.has_costs sub.chosen.has_pairs in
    let good' = subst (λ (w : ℕ). IsGood C s.greatest_batch (tariff_of s) (length p.pieces) p.certificate.prices p.certificate.pairs w) (sym least.1 ∙ sym sub.cost_is) good in
    let legal = subst (λ (n : ℕ). IsLegal C s.greatest_batch n p.plan) (sym count) least.0.legal in
    let can = can_emit C s (map fields p.pieces) p.plan (pieces_can s fs (map fields p.pieces) owner sub.split sub.pieces_are) legal in
    let emission : IsEmission s p.portal p.staging p.plan p.pieces = record { can_be = can; portal_is = sub.portal_is; staging_is = sub.staging_is } in
    record {
      least = least.0;
      good = good';
      shown = inr (
        p.plan,
        p.pieces,
        emission_as s p.portal p.staging p.plan p.pieces emission,
        record { legal = least.0.legal; version = sub.version_is; good = good'; is_cost = sub.cost_is },
      );
    }

pub planned_is_least_and_shown : PlannedIsLeastAndShown
planned_is_least_and_shown bytes s p (inl (fault, other, first, is)) = cc
planned_is_least_and_shown bytes s p (inr (ds, list, sub)) = submission_shown s (map fields ds) p list.owner sub

-- the found plan of these pieces can be emitted, whichever conflict
pub can_emit_found : (C : ℕ → ℕ → Type 0) (s : Limits) (pieces ds es : List Descriptor) (plan : Plan) → CanBePlanned s (map fields pieces) → ds ≡ pieces → es ≡ pieces
    → IsLeast C s.greatest_batch (tariff_of s) (length ds) plan → CanBeEmitted s plan (map fields es)
can_emit_found C s pieces ds es plan can same same' least =
    let here : IsLegal C s.greatest_batch (length pieces) plan =
    subst (λ (xs : List Descriptor). IsLegal C s.greatest_batch (length xs) plan) same least.legal in
    let legal = subst (λ (n : ℕ). IsLegal C s.greatest_batch n plan) (sym (length-map pieces fields)) here in
    subst (λ (xs : List Descriptor). CanBeEmitted s plan (map fields xs)) (sym same') (can_emit C s (map fields pieces) plan can legal)
