-- Descriptors as operations of a list.
use Rattle.std.specs.Prelude.{◌↔◌, ℕ, List, map, Ok}
use Rattle.dsa_descriptor.specs.declared.descriptor.Descriptor.{Descriptor}
use Rattle.dsa_descriptor.specs.Descriptors.{fields}
use Rattle.dsa_ranges.specs.Ranges.{ConflictAt}
use Rattle.dsa_plan.specs.Certificate.{Contents}
use Rattle.dsa_emission.specs.EmissionFaults.{IsEmission}
use Rattle.dsa_settings.specs.Plan.{Plan}
use Rattle.dsa_settings.specs.Settings.{Limits}
use Rattle.dsa_calls.specs.Checked.{Checks, ChecksSubmitted}
use Rattle.dsa_operations.specs.declared.operation.Operation.TheVariants as operation
use Rattle.dsa_operations.specs.Operations.{OperationConflictAt, operation_kind}

-- descriptors conflict as operations exactly if they do as descriptors
abbrev pub DescriptorsConflictAlike : Type 0
DescriptorsConflictAlike =
    (ds : List Descriptor) (i j : ℕ) → ConflictAt (map fields ds) i j ↔ OperationConflictAt (map operation.Descriptor ds) i j

-- what is accepted as submitting descriptors is accepted as submitting operations, at the same cost
abbrev pub DescriptorsAreSubmittedAlike : Type 0
DescriptorsAreSubmittedAlike = (portal staging : List ℕ) (s : Limits) (c : Contents) (cost : ℕ) →
    Checks portal staging s c (Ok cost) → ChecksSubmitted operation_kind OperationConflictAt portal staging s c (Ok cost)

-- and what is accepted as submitting operations, if it submits descriptors, is accepted as submitting these
abbrev pub OperationsAreSubmittedAlike : Type 0
OperationsAreSubmittedAlike = (portal staging : List ℕ) (s : Limits) (c : Contents) (cost : ℕ) (plan : Plan) (ds : List Descriptor) →
    IsEmission s portal staging plan ds → ChecksSubmitted operation_kind OperationConflictAt portal staging s c (Ok cost) →
    Checks portal staging s c (Ok cost)
