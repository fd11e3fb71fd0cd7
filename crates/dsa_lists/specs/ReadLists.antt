-- What planning answers of operations that were read already (this project's choice).
use Rattle.std.specs.Prelude.{◌≡◌, ◌⊎◌, ℕ, Bool, List, map, Result, Ok, Err}
use Rattle.dsa_descriptor.specs.declared.descriptor.Descriptor.{Descriptor}
use Rattle.dsa_descriptor.specs.Descriptors.{fields}
use Rattle.dsa_settings.specs.Plan.{Plan}
use Rattle.dsa_settings.specs.Settings.{Limits}
use Rattle.dsa_splitter.specs.Pieces.{piece_barriers}
use Rattle.dsa_calls.specs.declared.fault.PlanFault.{PlanFault}
use Rattle.dsa_calls.specs.Fenced.{PlansWith}
use Rattle.dsa_calls.specs.Planned.{Submission}
use Rattle.dsa_operations.specs.declared.operation.Operation.{Operation}
use Rattle.dsa_operations.specs.declared.operation.Operation.TheVariants as operation
use Rattle.dsa_lists.specs.declared.pieces.AnyPlanned.{AnyPlanned}
use Rattle.dsa_lists.specs.Submissions.{OperationSubmission, PlansEntries}

-- each of the operations is a descriptor
abbrev pub AreDescriptors : List Operation → Type 0
AreDescriptors operations = (ds : List Descriptor) × (operations ≡ map operation.Descriptor ds)

-- pieces with their barriers, their plan and its cost
pub record PlannedPieces : Type 0 where
  pub pieces : List Operation
  pub barriers : List Bool
  pub plan : Plan
  pub cost : ℕ

-- what was planned, as contracts see it
abbrev pub planned_pieces_of : AnyPlanned → PlannedPieces
planned_pieces_of p = record { pieces = p.operations.items; barriers = p.barriers.items; plan = p.plan; cost = p.cost }

-- the pieces into which descriptors with these barriers were split, as operations
abbrev pub split_pieces : Limits → List Descriptor → List Bool → Submission → PlannedPieces
split_pieces s ds barriers p =
    record {
      pieces = map operation.Descriptor p.pieces;
      barriers = piece_barriers s.greatest_transfer (map fields ds) barriers;
      plan = p.plan;
      cost = p.cost;
    }

-- operations with these barriers, as they are
abbrev pub entire_pieces : List Operation → List Bool → OperationSubmission → PlannedPieces
entire_pieces operations barriers p = record { pieces = operations; barriers = barriers; plan = p.plan; cost = p.cost }

-- the outcome of planning descriptors and their barriers
abbrev pub PlansSplit : Limits → List Descriptor → List Bool → Result PlannedPieces PlanFault → Type 0
PlansSplit s ds barriers (Ok p) = (q : Submission) × PlansWith barriers s (map fields ds) (Ok q) × (p ≡ split_pieces s ds barriers q)
PlansSplit s ds barriers (Err fault) = PlansWith barriers s (map fields ds) (Err fault)

-- that of operations which are planned as they are
abbrev pub PlansEntire : Limits → List Operation → List Bool → Result PlannedPieces PlanFault → Type 0
PlansEntire s operations barriers (Ok p) =
    (q : OperationSubmission) × PlansEntries s operations barriers (Ok q) × (p ≡ entire_pieces operations barriers q)
PlansEntire s operations barriers (Err fault) = PlansEntries s operations barriers (Err fault)

-- the outcome of planning operations and their barriers: if all are descriptors, these are split; else the operations are
-- planned as they are
abbrev pub PlansRead : Limits → List Operation → List Bool → Result PlannedPieces PlanFault → Type 0
PlansRead s operations barriers outcome =
    ((ds : List Descriptor) × (operations ≡ map operation.Descriptor ds) × PlansSplit s ds barriers outcome)
    ⊎ ((¬ AreDescriptors operations) × PlansEntire s operations barriers outcome)
