-- The plans of operations that were read are legal for their pieces.
use Rattle.std.proofs.Common.{◌≡◌, ◌≢◌, ◌≤◌, ◌<◌, inl, inr, ℕ, Bool, List, [], ◌∷◌, length, map, get_or, refl, sym, ap, subst, ◌∙◌, arith, Ok, Err, Result, Some}
use Rattle.std.specs.Prelude.{IfOk, slice_get}
use Rattle.std.proofs.lemmas.Option.{slice_get_read}
use Rattle.std.proofs.lemmas.List.{length-map}
use Rattle.dsa_descriptor.specs.declared.descriptor.Descriptor.{Descriptor}
use Rattle.dsa_descriptor.specs.Descriptors.{fields}
use Rattle.dsa_descriptor.specs.Lists.{AgreeOnOwner, AreOfOneOwner, HaveOneOwner}
use Rattle.dsa_descriptor.specs.Pieces.{most_pieces}
use Rattle.dsa_descriptor.proofs.Listed.{one_owner, spelt_owner}
use Rattle.dsa_ranges.specs.Ranges.{ConflictAt}
use Rattle.dsa_settings.specs.Barriers.{WithBarriers}
use Rattle.dsa_settings.specs.Legal.{IsLegal}
use Rattle.dsa_settings.specs.Plan.{Plan}
use Rattle.dsa_settings.specs.Settings.{Limits}
use Rattle.dsa_splitter.specs.Pieces.{piece_barriers}
use Rattle.dsa_splitter.proofs.Walks.{length_all}
use Rattle.dsa_calls.specs.declared.fault.PlanFault.{PlanFault}
use Rattle.dsa_calls.specs.Fenced.{PiecesConflict}
use Rattle.dsa_calls.specs.Lists.{OrMemory}
use Rattle.dsa_calls.proofs.PiecesChecked.{shown_by}
use Rattle.dsa_calls.proofs.Submissions.{pieces_can}
use Rattle.dsa_operations.specs.declared.operation.Operation.{Operation}
use Rattle.dsa_operations.specs.declared.operation.Operation.TheVariants as operation
use Rattle.dsa_operations.specs.Operations.{OperationConflictAt, spelling_of}
use Rattle.dsa_lists.specs.declared.pieces.AnyPlanned.{AnyPlanned}
use Rattle.dsa_resume.proofs.Again.{mapped}
use Rattle.dsa_operations.specs.declared.checksum.Checksum.{Checksum}
use Rattle.dsa_lists.proofs.Left.{left_again, planned_can, unmapped}
use Rattle.dsa_lists.specs.ReadLists.{AreDescriptors, PlannedPieces, PlansEntire, PlansSplit, planned_pieces_of}
use Rattle.dsa_lists.specs.Resuming.{LeavesLists}
use Rattle.dsa_lists.specs.Submissions.{CanBeSubmitted}
use Rattle.dsa_lists.proofs.Listed.{conflict_alike}
use Rattle.dsa_lists.proofs.SubmittedAlike.{all_pairs_map, legal_alike}
use Rattle.dsa_lists.proofs.Submitted.{is_least}

-- ---- plans of descriptors as plans of operations

-- relations that hold alike do so with the same barriers
with_alike : (C D : ℕ → ℕ → Type 0) (barriers : List Bool) (a b : ℕ) → (C a b → D a b) → WithBarriers C barriers a b → WithBarriers D barriers a b
unfolding WithBarriers
with_alike C D [] a b there h = there h
with_alike C D (mark ∷ marks) a b there (inl h) = inl (there h)
with_alike C D (mark ∷ marks) a b there (inr pair) = inr pair

-- a plan that is legal for descriptors is legal for them as operations
pub legal_as_operations : (ds : List Descriptor) (barriers : List Bool) (greatest_batch : ℕ) (plan : Plan) → IsLegal (WithBarriers (ConflictAt (map fields ds)) barriers) greatest_batch (length ds) plan
    → IsLegal (WithBarriers (OperationConflictAt (map operation.Descriptor ds)) barriers) greatest_batch (length (map operation.Descriptor ds)) plan
legal_as_operations ds barriers greatest_batch plan legal =
    let C = ConflictAt (map fields ds) in
    let D = OperationConflictAt (map operation.Descriptor ds) in
    let alike = conflict_alike ds in
    subst (λ (n : ℕ). IsLegal (WithBarriers D barriers) greatest_batch n plan) (sym (length-map ds operation.Descriptor))
    (legal_alike (WithBarriers C barriers) (WithBarriers D barriers)
    (λ a b h. with_alike C D barriers a b (alike a b).0 h) (λ a b h. with_alike D C barriers a b (alike a b).1 h) greatest_batch (length ds) plan legal)

-- ---- planned pieces

-- the plan is legal for so many pieces and keeps their barriers
pub record IsPlanned (s : Limits) (p : PlannedPieces) : Type 0 where
  pub legal : IsLegal (WithBarriers (OperationConflictAt p.pieces) p.barriers) s.greatest_batch (length p.pieces) p.plan
  pub few : length p.pieces ≤ most_pieces

split_planned : (s : Limits) (ds : List Descriptor) (barriers : List Bool) (p : PlannedPieces) → PlansSplit s ds barriers (Ok p) → IsPlanned s p
split_planned s ds barriers p (q, says, is) =
    let fs = map fields ds in
    let marks = piece_barriers s.greatest_transfer fs barriers in
    let by = says.of_pieces in
    let C = PiecesConflict s fs barriers (map fields q.pieces) in
    let legal = (shown_by C s (length q.pieces) q.plan q.certificate q.cost by.chosen by.version_is by.cost_is).legal in
    let count : length (map operation.Descriptor q.pieces) ≡ length q.pieces = length-map q.pieces operation.Descriptor in
    subst (λ (x : PlannedPieces). IsPlanned s x) (sym is) (record {
      legal = legal_as_operations q.pieces marks s.greatest_batch q.plan legal;
      few = omega (arith, count, sym (length-map q.pieces fields) ∙ ap length says.pieces_are ∙ length_all fs s.greatest_transfer, says.split.few.few);
    })

entire_planned : (s : Limits) (operations : List Operation) (barriers : List Bool) (p : PlannedPieces) → PlansEntire s operations barriers (Ok p) → IsPlanned s p
entire_planned s operations barriers p (q, says, is) =
    subst (λ (x : PlannedPieces). IsPlanned s x) (sym is)
    (record { legal = (is_least s operations barriers q says).legal; few = says.can.few })

pub split_is_planned : (s : Limits) (ds : List Descriptor) (barriers : List Bool) (r : Result AnyPlanned PlanFault) → OrMemory planned_pieces_of (PlansSplit s ds barriers) r
    → IfOk r (λ p. IsPlanned s (planned_pieces_of p))
split_is_planned s ds barriers (Ok p) says = split_planned s ds barriers (planned_pieces_of p) says
split_is_planned s ds barriers (Err fault) says = tt

pub entire_is_planned : (s : Limits) (operations : List Operation) (barriers : List Bool) (r : Result AnyPlanned PlanFault) → OrMemory planned_pieces_of (PlansEntire s operations barriers) r
    → IfOk r (λ p. IsPlanned s (planned_pieces_of p))
entire_is_planned s operations barriers (Ok p) says = entire_planned s operations barriers (planned_pieces_of p) says
entire_is_planned s operations barriers (Err fault) says = tt

-- ---- what is left of them

-- there is a mark for each piece, or none
abbrev AreMarked : PlannedPieces → Type 0
AreMarked p = p.barriers ≢ [] → length p.barriers ≡ length p.pieces

again : (s : Limits) (p : PlannedPieces) → CanBeSubmitted s p.pieces → AreOfOneOwner spelling_of p.pieces → AreMarked p → LeavesLists s p
again s p can owner marked records given_up order rest resumes =
    left_again s order (record { pieces = p.pieces; barriers = p.barriers; records = records; given_up = given_up }) can owner marked rest resumes

pub split_again : (s : Limits) (ds : List Descriptor) (barriers : List Bool) → HaveOneOwner (map fields ds) → (r : Result AnyPlanned PlanFault)
    → OrMemory planned_pieces_of (PlansSplit s ds barriers) r → IfOk r (λ p. AreMarked (planned_pieces_of p)) → IfOk r (λ p. LeavesLists s (planned_pieces_of p))
split_again s ds barriers owner (Ok p) (q, says, is) marked =
    let can = pieces_can s (map fields ds) (map fields q.pieces) owner says.split says.pieces_are in
    let one = all_pairs_map (λ o p. AgreeOnOwner (spelling_of o) (spelling_of p)) operation.Descriptor q.pieces (spelt_owner q.pieces can.one_owner) in
    again s (planned_pieces_of p) (subst (λ (x : PlannedPieces). CanBeSubmitted s x.pieces) (sym is) (planned_can s q.pieces can))
    (subst (λ (x : PlannedPieces). AreOfOneOwner spelling_of x.pieces) (sym is) one) marked
split_again s ds barriers owner (Err fault) says marked = tt

pub entire_again : (s : Limits) (operations : List Operation) (barriers : List Bool) → AreOfOneOwner spelling_of operations → (r : Result AnyPlanned PlanFault)
    → OrMemory planned_pieces_of (PlansEntire s operations barriers) r → IfOk r (λ p. AreMarked (planned_pieces_of p)) → IfOk r (λ p. LeavesLists s (planned_pieces_of p))
entire_again s operations barriers owner (Ok p) (q, says, is) marked =
    again s (planned_pieces_of p) (subst (λ (x : PlannedPieces). CanBeSubmitted s x.pieces) (sym is) says.can)
    (subst (λ (x : PlannedPieces). AreOfOneOwner spelling_of x.pieces) (sym is) owner) marked
entire_again s operations barriers owner (Err fault) says marked = tt

-- ---- owners

-- operations of one owner that are descriptors are descriptors of one owner
pub owner_as_descriptors : (operations : List Operation) (ds : List Descriptor) → operations ≡ map operation.Descriptor ds → AreOfOneOwner spelling_of operations → HaveOneOwner (map fields ds)
owner_as_descriptors operations ds is one = one_owner ds (unmapped ds (subst (λ (os : List Operation). AreOfOneOwner spelling_of os) is one))

-- ---- operations that are not all descriptors

pub not_descriptors : (operations : List Operation) (k : ℕ) (c : Checksum) → k < length operations → operation.Checksum c ≡ get_or operations k (operation.Checksum c)
    → AreDescriptors operations → ⊥
not_descriptors operations k c inside is (ds, are) =
    let at : slice_get operations k ≡ Some (operation.Checksum c) = slice_get_read operations (length operations) k (operation.Checksum c) refl inside is in
    let made = mapped operation.Descriptor ds k (operation.Checksum c) (ap (λ (os : List Operation). slice_get os k) (sym are) ∙ at) in
    let same : operation.Descriptor made.0 ≡ operation.Checksum c = made.2 in
    cc
