-- What checking says of an emission for a list of operations.
use Rattle.std.specs.Prelude.{◌≡◌, ◌⊎◌, ℕ, List, length, Result, Err}
use Rattle.dsa_descriptor.specs.Fences.{barriers_of}
use Rattle.dsa_settings.specs.Barriers.{WithBarriers}
use Rattle.dsa_plan.specs.Certificate.{Contents}
use Rattle.dsa_emission.specs.EmissionFaults.{IsEmissionAs}
use Rattle.dsa_settings.specs.Legal.{IsLeast}
use Rattle.dsa_settings.specs.Plan.{Plan, plan_cost}
use Rattle.dsa_settings.specs.Settings.{Limits, tariff_of}
use Rattle.dsa_calls.specs.declared.checking.FencedFault.{FencedFault}
use Rattle.dsa_calls.specs.declared.checking.FencedFault.TheVariants.{Call}
use Rattle.dsa_calls.specs.declared.fault.PlanFault.{PlanFault}
use Rattle.dsa_calls.specs.FencedChecked.{ChecksPieces}
use Rattle.dsa_operations.specs.declared.operation.Operation.{Operation}
use Rattle.dsa_operations.specs.Operations.{OperationConflictAt, operation_kind}
use Rattle.dsa_lists.specs.Submissions.{AreReady, PlansOperationList}

-- the outcome of checking these bytes as an emission for a list: what planning the list refuses; or the outcome of checking
-- them as an emission of its operations, with its barriers
abbrev pub ChecksOperationList : List ℕ → List ℕ → List ℕ → Limits → Contents → Result ℕ FencedFault → Type 0
ChecksOperationList bytes portal staging s c outcome =
    ((fault : PlanFault) × PlansOperationList bytes s (Err fault) × (outcome ≡ Err (Call fault)))
    ⊎ ((operations : List Operation) × AreReady bytes s operations
    × ChecksPieces operation_kind (WithBarriers (OperationConflictAt operations) (barriers_of bytes)) s operations portal staging c outcome)

-- the bytes submit a plan of this cost for the operations of the list; it keeps each barrier, and no legal plan that does
-- costs less
pub record IsLeastOperationEmission (bytes portal staging : List ℕ) (s : Limits) (cost : ℕ) : Type 0 where
  pub operations : List Operation
  pub ready : AreReady bytes s operations
  pub plan : Plan
  pub emission : IsEmissionAs operation_kind s portal staging plan operations
  pub least :
      IsLeast (WithBarriers (OperationConflictAt operations) (barriers_of bytes)) s.greatest_batch (tariff_of s) (length operations) plan
  pub is_cost : cost ≡ plan_cost (tariff_of s) plan
