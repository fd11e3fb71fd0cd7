-- What a refusal reports of the faults of resuming.
-- Names, numbers and indices are this project's choice.
use Rattle.std.specs.Prelude.{ℕ, List, codes}
use Rattle.dsa_descriptor.specs.declared.indices.Indices.{Indices}
use Rattle.dsa_descriptor.specs.declared.indices.Indices.TheVariants.{Empty, One, Two}
use Rattle.dsa_calls.specs.Fault.{fault_number, fault_name, fault_indices}
use Rattle.dsa_resume.specs.declared.fault.ResumeFault.{ResumeFault}
use Rattle.dsa_resume.specs.declared.fault.ResumeFault.TheVariants.{Plan, Records, SharedRecord, NotFailed, PassedBarrier}

-- its number
abbrev pub resume_number : ResumeFault → ℕ
resume_number (Plan fault) = fault_number fault
resume_number Records = 112
resume_number (SharedRecord i j) = 113
resume_number (NotFailed i) = 114
resume_number (PassedBarrier i j) = 115

-- its name
abbrev pub resume_name : ResumeFault → List ℕ
resume_name (Plan fault) = fault_name fault
resume_name Records = codes "Records"
resume_name (SharedRecord i j) = codes "SharedRecord"
resume_name (NotFailed i) = codes "NotFailed"
resume_name (PassedBarrier i j) = codes "PassedBarrier"

-- the indices of planning's refusal, or the piece or pieces that are named
abbrev pub resume_indices : ResumeFault → Indices
resume_indices (Plan fault) = fault_indices fault
resume_indices Records = Empty
resume_indices (SharedRecord i j) = Two i j
resume_indices (NotFailed i) = One i
resume_indices (PassedBarrier i j) = Two i j
