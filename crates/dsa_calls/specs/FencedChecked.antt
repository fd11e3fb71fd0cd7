-- What checking says of an emission for a list in which a fence is a barrier.
use Rattle.std.specs.Prelude.{◌≡◌, ◌≢◌, ◌⊎◌, ℕ, ◌<◌, List, length, map, slice_get, Result, Ok, Err}
use Rattle.dsa_descriptor.specs.declared.descriptor.Descriptor.{Descriptor}
use Rattle.dsa_descriptor.specs.Descriptors.{fields}
use Rattle.dsa_emission.specs.declared.emission_fault.EmissionFault.{EmissionFault}
use Rattle.dsa_emission.specs.declared.emission_fault.EmissionFault.TheVariants.{Memory as EmissionMemory}
use Rattle.dsa_plan.specs.Certificate.{Contents}
use Rattle.dsa_ranges.specs.Pieces.{Kind, descriptors}
use Rattle.dsa_emission.specs.EmissionFaults.{IsEmission, IsEmissionAs, IsFirstEmissionFaultAs}
use Rattle.dsa_settings.specs.Legal.{IsLeast}
use Rattle.dsa_settings.specs.Plan.{Plan, plan_cost}
use Rattle.dsa_settings.specs.Settings.{Limits, tariff_of}
use Rattle.dsa_splitter.specs.Pieces.{all_pieces}
use Rattle.dsa_splitter.specs.Rules.{IsSplit}
use Rattle.dsa_calls.specs.declared.fault.PlanFault.{PlanFault}
use Rattle.dsa_calls.specs.declared.fault.PlanFault.TheVariants.{Emission}
use Rattle.dsa_calls.specs.declared.checking.FencedFault.{FencedFault}
use Rattle.dsa_calls.specs.declared.checking.FencedFault.TheVariants.{Call, OtherPiece}
use Rattle.dsa_calls.specs.Checked.{ChecksPlanBy}
use Rattle.dsa_descriptor.specs.Fences.{barriers_of, unfenced_list}
use Rattle.dsa_calls.specs.Fenced.{PiecesConflict, PlansFenced}
use Rattle.dsa_calls.specs.Lists.{IsListOf}
use Rattle.dsa_calls.specs.Planned.{Submission}

-- the lists agree before index i, and there they don't: the pieces differ, or only one list has a piece there
pub record IsFirstOther {P : Type 0} (submitted listed : List P) (i : ℕ) : Type 0 where
  pub before : (j : ℕ) → j < i → slice_get submitted j ≡ slice_get listed j
  pub other : slice_get submitted i ≢ slice_get listed i

-- what checking a plan answers, as a call over a list answers it
abbrev pub in_call : Result ℕ PlanFault → Result ℕ FencedFault
in_call (Ok cost) = Ok cost
in_call (Err fault) = Err (Call fault)

-- The outcome of checking these bytes as an emission of these pieces: their first fault as an emission; the first piece
-- that they submit and that differs; or the outcome of checking the plan whose emission they are. `C` says which pieces
-- conflict.
abbrev pub ChecksPieces : {P : Type 0} → Kind P → (ℕ → ℕ → Type 0) → Limits → List P → List ℕ → List ℕ → Contents → Result ℕ FencedFault → Type 0
ChecksPieces {P} kind C s pieces portal staging c outcome =
    ((fault : EmissionFault) × (fault ≢ EmissionMemory) × IsFirstEmissionFaultAs kind s portal staging fault × (outcome ≡ Err (Call (Emission fault))))
    ⊎ ((i : ℕ) × (plan : Plan) × (ps : List P) × IsEmissionAs kind s portal staging plan ps × IsFirstOther ps pieces i × (outcome ≡ Err (OtherPiece i)))
    ⊎ ((o : Result ℕ PlanFault) × (plan : Plan) × IsEmissionAs kind s portal staging plan pieces × ChecksPlanBy C s (length pieces) plan c o × (outcome ≡ in_call o))

-- The outcome of checking these bytes as an emission for a list: what planning the list with its fences as barriers
-- refuses; or the outcome of checking them as an emission of the list's pieces, with its barriers.
abbrev pub ChecksFenced : List ℕ → List ℕ → List ℕ → Limits → Contents → Result ℕ FencedFault → Type 0
ChecksFenced bytes portal staging s c outcome =
    ((fault : PlanFault) × PlansFenced bytes s (Err fault) × (outcome ≡ Err (Call fault)))
    ⊎ ((operations pieces : List Descriptor) × IsListOf (unfenced_list bytes) operations × IsSplit s.greatest_transfer s.staging (map fields operations)
    × (map fields pieces ≡ all_pieces (map fields operations) s.greatest_transfer)
    × ChecksPieces descriptors (PiecesConflict s (map fields operations) (barriers_of bytes) (map fields pieces)) s pieces portal staging c outcome)

-- the bytes submit a plan of this cost for the pieces of the list; it keeps each barrier, and no legal plan that does costs
-- less
pub record IsLeastEmission (bytes portal staging : List ℕ) (s : Limits) (cost : ℕ) : Type 0 where
  pub operations : List Descriptor
  pub listed : IsListOf (unfenced_list bytes) operations
  pub plan : Plan
  pub pieces : List Descriptor
  pub emission : IsEmission s portal staging plan pieces
  pub pieces_are : map fields pieces ≡ all_pieces (map fields operations) s.greatest_transfer
  pub least :
      IsLeast (PiecesConflict s (map fields operations) (barriers_of bytes) (map fields pieces))
      s.greatest_batch (tariff_of s) (length pieces) plan
  pub is_cost : cost ≡ plan_cost (tariff_of s) plan

-- checking for a list has at most one outcome for bytes, settings and a certificate
abbrev pub OneFencedCheck : Type 0
OneFencedCheck = (bytes portal staging : List ℕ) (s : Limits) (c : Contents) (outcome other : Result ℕ FencedFault) →
    ChecksFenced bytes portal staging s c outcome → ChecksFenced bytes portal staging s c other → outcome ≡ other

-- if planning with fences answers, checking what it submits, with its certificate, answers its cost
abbrev pub FencedPlanIsChecked : Type 0
FencedPlanIsChecked = (bytes : List ℕ) (s : Limits) (p : Submission) →
    PlansFenced bytes s (Ok p) → ChecksFenced bytes p.portal p.staging s p.certificate (Ok p.cost)
