-- What a refusal reports of the faults of a certificate.
-- Names, numbers and indices are this project's choice.
use Rattle.std.specs.Prelude.{ℕ, List, codes, Option, Some, None}
use Rattle.dsa_descriptor.specs.declared.indices.Indices.{Indices}
use Rattle.dsa_descriptor.specs.declared.indices.Indices.TheVariants.{Empty, One, Two}
use Rattle.dsa_settings.specs.declared.legal.LegalFault.{LegalFault}
use Rattle.dsa_checker.specs.declared.fault.CheckFault.{CheckFault}
use Rattle.dsa_checker.specs.declared.fault.CheckFault.TheVariants.{Plan, Version, Lengths, Pair, Price, Total}

-- the number of a certificate's fault
abbrev pub check_number : CheckFault → ℕ
check_number (Plan fault) = 60
check_number Lengths = 61
check_number (Pair i) = 62
check_number (Price i j) = 63
check_number Total = 64
check_number Version = 65

-- its name
abbrev pub check_name : CheckFault → List ℕ
check_name (Plan fault) = codes "Plan"
check_name Lengths = codes "Lengths"
check_name (Pair i) = codes "Pair"
check_name (Price i j) = codes "Price"
check_name Total = codes "Total"
check_name Version = codes "Version"

-- the piece, or the piece and the end, at fault, if it names any
abbrev pub check_indices : CheckFault → Indices
check_indices (Plan fault) = Empty
check_indices Lengths = Empty
check_indices (Pair i) = One i
check_indices (Price i j) = Two i j
check_indices Total = Empty
check_indices Version = Empty

-- the fault of the plan, if the plan is at fault
abbrev pub check_plan_fault : CheckFault → Option LegalFault
check_plan_fault (Plan fault) = Some fault
check_plan_fault Lengths = None
check_plan_fault (Pair i) = None
check_plan_fault (Price i j) = None
check_plan_fault Total = None
check_plan_fault Version = None
