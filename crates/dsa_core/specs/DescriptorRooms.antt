-- Rooms of descriptors.
use Rattle.std.specs.Prelude.{ℕ, List, Result}
use Rattle.dsa_descriptor.specs.Fields.{Fields}
use Rattle.dsa_image.specs.Memory.{Memory}
use Rattle.dsa_core.specs.declared.event.Event.{Event}
use Rattle.dsa_core.specs.declared.fault.CoreFault.{CoreFault}
use Rattle.dsa_core.specs.declared.outcome.Outcome.{Outcome}
use Rattle.dsa_core.specs.Accounts.{Account}
use Rattle.dsa_core.specs.Accounts as any
use Rattle.dsa_core.specs.DescriptorWork.{descriptor_work}
use Rattle.dsa_core.specs.Outcomes as ends

-- the history is not complete
abbrev pub IsUnfinished : Account Fields → Type 0
IsUnfinished r = any.IsUnfinished descriptor_work r

-- up to the stop point the pieces are finished: the memory is what they leave in order, and these are the batch records
abbrev pub IsOutcome : Account Fields → Memory → ℕ → List (List ℕ) → Type 0
IsOutcome r image finished records = any.IsOutcome descriptor_work r image finished records

-- the outcome is that of the room, whose history is a complete run, and its history is the room's
abbrev pub IsOutcomeOf : Account Fields → Outcome → Type 0
IsOutcomeOf r o = ends.IsOutcomeOf descriptor_work r o

-- the event at this place of the trace is the first that is no step
abbrev pub IsFirstRefused : (List Event → Account Fields) → List Event → ℕ → Type 0
IsFirstRefused room trace k = ends.IsFirstRefused descriptor_work room trace k

-- what a replay of the trace answers; a refusal for an allocation failure says nothing
abbrev pub Replays : (List Event → Account Fields) → List Event → Result Outcome CoreFault → Type 0
Replays room trace answer = ends.Replays descriptor_work room trace answer
