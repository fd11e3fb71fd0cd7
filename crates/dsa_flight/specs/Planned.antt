-- Planned lists in flight.
use Rattle.std.specs.Prelude.{◌≡◌, ℕ, Bool, List, [], ◌∷◌, drop, flat_map, length, map, Some, slice_get, take}
use Rattle.dsa_descriptor.specs.declared.descriptor.Descriptor.{Descriptor}
use Rattle.dsa_descriptor.specs.Descriptors.{fields}
use Rattle.dsa_descriptor.specs.Fields.{Fields}
use Rattle.dsa_image.specs.declared.partial.Partial.{Partial}
use Rattle.dsa_image.specs.Memory.{Memory}
use Rattle.dsa_image.specs.Effects.{fold_done, statuses}
use Rattle.dsa_settings.specs.Plan.{Plan}
use Rattle.dsa_core.specs.declared.event.Event.{Event}
use Rattle.dsa_core.specs.DescriptorMachine.{descriptor_machine}
use Rattle.dsa_core.specs.Epochs.{setup_of}
use Rattle.dsa_core.specs.PieceRuns.{CanRun}
use Rattle.dsa_core.specs.Run.{Setup}
use Rattle.dsa_core.specs.StopPoint.{AllSucceed}
use Rattle.dsa_flight.specs.Flight.{Flight, IsFlight, AllEnded, WaitsCover}
use Rattle.dsa_flight.specs.Needed.{all_go}

-- a list, its plan, the greatest batch that the plan keeps to, and how many engines do it
pub record PlannedList : Type 0 where
  pub greatest_batch : ℕ
  pub plan : Plan
  pub list : List Descriptor
  pub engines : ℕ

-- as a submission
abbrev pub submission : PlannedList → Setup Fields
submission p = setup_of p.plan (map fields p.list) p.engines

-- planned lists as submissions
abbrev pub submissions : List PlannedList → List (Setup Fields)
submissions ps = map submission ps

-- each plan is legal for its list, and the memory has what each list reads and writes
abbrev pub AllCanRun : List PlannedList → Memory → Type 0
AllCanRun ps m = (x : ℕ) (p : PlannedList) → slice_get ps x ≡ Some p → CanRun p.greatest_batch (map fields p.list) p.plan m

-- what the lists leave, each executed as a whole in order, one list after another
abbrev pub lists_in_turn : List PlannedList → Memory → Memory
lists_in_turn [] m = m
lists_in_turn (p ∷ ps) m = lists_in_turn ps (fold_done (map fields p.list) m)

-- executed so, each descriptor of each list succeeds
abbrev pub AllSucceedInTurn : List PlannedList → Memory → Type 0
AllSucceedInTurn [] m = Unit {0}
AllSucceedInTurn (p ∷ ps) m = AllSucceed (statuses (map fields p.list) m) × AllSucceedInTurn ps (fold_done (map fields p.list) m)

-- planned lists in flight, with waits between all that conflict: if each descriptor succeeds when the lists are executed
-- one after another, every complete flight leaves the memory of that
abbrev pub PlannedEndInTurn : Type 0
PlannedEndInTurn =
    (ps : List PlannedList) (waits : ℕ → ℕ → Bool) (m : Memory) (events : List (ℕ × Event)) (s : Flight Partial) →
    AllCanRun ps m → WaitsCover descriptor_machine (submissions ps) all_go waits →
    IsFlight descriptor_machine (submissions ps) all_go waits m events s → AllEnded (submissions ps) all_go s →
    AllSucceedInTurn ps m → s.memory ≡ lists_in_turn ps m

-- the groups of a plan, each as a planned list of its own: its pieces are the next of the list (that each entry of a portal
-- may be a submission of its own is this project's choice)
abbrev pub each_group : ℕ → ℕ → Plan → List Descriptor → List PlannedList
each_group greatest_batch engines [] list = []
each_group greatest_batch engines (group ∷ plan) list =
    record { greatest_batch = greatest_batch; plan = group ∷ []; list = take (length group) list; engines = engines }
    ∷ each_group greatest_batch engines plan (drop (length group) list)

-- the groups of a planned list
abbrev pub groups_of : PlannedList → List PlannedList
groups_of p = each_group p.greatest_batch p.engines p.plan p.list

-- the groups of one planned list after another
abbrev pub all_groups : List PlannedList → List PlannedList
all_groups ps = flat_map groups_of ps

-- the same of planned lists whose groups are in flight each by itself, with waits between all groups that conflict
abbrev pub GroupsEndInTurn : Type 0
GroupsEndInTurn =
    (ps : List PlannedList) (waits : ℕ → ℕ → Bool) (m : Memory) (events : List (ℕ × Event)) (s : Flight Partial) →
    AllCanRun ps m → WaitsCover descriptor_machine (submissions (all_groups ps)) all_go waits →
    IsFlight descriptor_machine (submissions (all_groups ps)) all_go waits m events s → AllEnded (submissions (all_groups ps)) all_go s →
    AllSucceedInTurn ps m → s.memory ≡ lists_in_turn ps m
