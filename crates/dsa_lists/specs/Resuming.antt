-- What is left of a list that may have checksums, by the completion records of its pieces. (That a list is resumed so is this
-- project's choice; which pieces are left is what dsa_resume says of pieces of any kind.)
use Rattle.std.specs.Prelude.{◌≡◌, ◌⊎◌, ℕ, List, map, Result, Ok, Err}
use Rattle.dsa_descriptor.specs.declared.descriptor.Descriptor.{Descriptor}
use Rattle.dsa_descriptor.specs.Fences.{barriers_of, fenced_entries}
use Rattle.dsa_settings.specs.Settings.{Limits}
use Rattle.dsa_calls.specs.declared.fault.PlanFault.{PlanFault}
use Rattle.dsa_resume.specs.declared.fault.ResumeFault.{ResumeFault}
use Rattle.dsa_resume.specs.declared.fault.ResumeFault.TheVariants.{Plan}
use Rattle.dsa_resume.specs.declared.left.LeftOrder.{LeftOrder}
use Rattle.dsa_resume.specs.Rest.{Remainder}
use Rattle.dsa_resume.specs.Resumed.{Resumes, ResumesPieces}
use Rattle.dsa_operations.specs.declared.operation.Operation.{Operation}
use Rattle.dsa_operations.specs.declared.operation.Operation.TheVariants as operation
use Rattle.dsa_lists.specs.AnyLists.{AreAnyPieces, OfAnyList, PlansAnyList}
use Rattle.dsa_operations.specs.Operations.{spelling_of, writes_of}
use Rattle.dsa_lists.specs.ReadLists.{PlannedPieces}
use Rattle.dsa_lists.specs.Submissions.{AreReady, PlansOperationList}

-- the outcome for the bytes of a list of operations: what planning the list refuses; or what is left of its operations, with
-- its barriers
abbrev pub ResumesOperationList : Limits → List ℕ → List ℕ → List ℕ → LeftOrder → Result (Remainder Operation) ResumeFault → Type 0
ResumesOperationList s bytes records given_up order outcome =
    ((fault : PlanFault) × PlansOperationList bytes s (Err fault) × (outcome ≡ Err (Plan fault)))
    ⊎ ((operations : List Operation) × AreReady bytes s operations
    × ResumesPieces writes_of order (record { pieces = operations; barriers = barriers_of bytes; records = records; given_up = given_up }) outcome)

-- what is left of descriptors, as operations
abbrev pub as_operations : Remainder Descriptor → Remainder Operation
as_operations rest = record { pieces = map operation.Descriptor rest.pieces; barriers = rest.barriers; left_out = rest.left_out }

-- an outcome seen so
abbrev pub operations_outcome : Result (Remainder Descriptor) ResumeFault → Result (Remainder Operation) ResumeFault
operations_outcome (Ok rest) = Ok (as_operations rest)
operations_outcome (Err fault) = Err fault

-- the outcome for the bytes of a list: one of descriptors is resumed as such, any other as a list of operations
abbrev pub ResumesAnyList : Limits → List ℕ → List ℕ → List ℕ → LeftOrder → Result (Remainder Operation) ResumeFault → Type 0
ResumesAnyList s bytes records given_up order outcome =
    OfAnyList bytes ((o : Result (Remainder Descriptor) ResumeFault) × Resumes s bytes records given_up order o × (outcome ≡ operations_outcome o))
    (ResumesOperationList s bytes records given_up order outcome)

-- the bytes of what is left: a list in which the flag 0x0001 of an operation is a barrier before it
abbrev pub rest_bytes : Remainder Operation → List ℕ
rest_bytes rest = fenced_entries spelling_of rest.pieces rest.barriers

-- what is left is a list again: its bytes are a list of these pieces and barriers, and planning does not refuse it with the
-- same settings
pub record IsListAgain (s : Limits) (rest : Remainder Operation) : Type 0 where
  pub read : AreAnyPieces (rest_bytes rest) s rest.pieces rest.barriers
  pub accepted : (fault : PlanFault) → ¬ PlansAnyList (rest_bytes rest) s (Err fault)

-- whatever is left of these pieces by their records is a list again
abbrev pub LeavesLists : Limits → PlannedPieces → Type 0
LeavesLists s p =
    (records given_up : List ℕ) (order : LeftOrder) (rest : Remainder Operation) →
    ResumesPieces writes_of order (record { pieces = p.pieces; barriers = p.barriers; records = records; given_up = given_up }) (Ok rest) →
    IsListAgain s rest
