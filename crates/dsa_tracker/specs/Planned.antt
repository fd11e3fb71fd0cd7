-- Planned lists, tracked by their groups. (That each entry of a portal may be a submission of its own is this project's
-- choice.)
use Rattle.std.specs.Prelude.{◌≡◌, ℕ, ◌+◌, ◌<◌, IsTrue, List, Option, length, slice_get}
use Rattle.dsa_descriptor.specs.Fields.{Fields}
use Rattle.dsa_ranges.specs.Pieces.{reads_of, writes_of}
use Rattle.dsa_ranges.specs.Ranges.{read_spans, written_spans}
use Rattle.dsa_image.specs.declared.partial.Partial.{Partial}
use Rattle.dsa_image.specs.Memory.{Memory}
use Rattle.dsa_core.specs.DescriptorMachine.{descriptor_machine}
use Rattle.dsa_core.specs.Run.{Setup}
use Rattle.dsa_flight.specs.Flight.{HasEnded}
use Rattle.dsa_flight.specs.Planned.{PlannedList, AllCanRun, AllSucceedInTurn, all_groups, groups_of, lists_in_turn, submissions}
use Rattle.dsa_tracker.specs.declared.owner.Owner.{Owner}
use Rattle.dsa_tracker.specs.declared.slots.Slots.{Slots}
use Rattle.dsa_tracker.specs.Groups.{SubmitsInTurn, group_reads, group_writes}
use Rattle.dsa_tracker.specs.Honest.{Moment, Act, DoesAll, IsStart}
use Rattle.dsa_tracker.specs.Table.{Table}

-- the next submissions of a caller are the groups of this list
abbrev pub ComeNext : List (Setup Fields) → ℕ → PlannedList → Type 0
ComeNext subs submitted p = (k : ℕ) → k < length p.plan → slice_get subs (submitted + k) ≡ slice_get (submissions (groups_of p)) k

-- a call that takes the groups of a list submits them: nothing else is done
abbrev pub GroupsAreSubmitted : Type 0
GroupsAreSubmitted =
    (subs : List (Setup Fields)) (s : Moment Partial) (p : PlannedList) (staging : ℕ) (also : Slots) (owner : Option Owner) (slots : List ℕ) (new : Table) →
    ComeNext subs s.submitted p →
    SubmitsInTurn s.table (group_reads reads_of p.plan p.list) (group_writes writes_of staging p.plan p.list) also owner slots (length p.plan) new →
    (acts : List Act) × (number : ℕ → ℕ)
    × DoesAll descriptor_machine read_spans written_spans subs s acts
    (record { table = new; submitted = s.submitted + length p.plan; number = number; rung = s.rung; flight = s.flight })

-- a caller that goes by a tracker, and has rung each group of some planned lists, finds what the lists leave one after
-- another once all have ended, if each descriptor succeeds there
abbrev pub TrackedGroupsEndInTurn : Type 0
TrackedGroupsEndInTurn =
    (ps : List PlannedList) (m : Memory) (start s : Moment Partial) (acts : List Act) →
    AllCanRun ps m → IsStart descriptor_machine (submissions (all_groups ps)) m start →
    DoesAll descriptor_machine read_spans written_spans (submissions (all_groups ps)) start acts s →
    ((x : ℕ) → x < length (all_groups ps) → IsTrue (s.rung x)) →
    ((x : ℕ) → IsTrue (s.rung x) → HasEnded (submissions (all_groups ps)) s.flight x) →
    AllSucceedInTurn ps m → s.flight.memory ≡ lists_in_turn ps m
