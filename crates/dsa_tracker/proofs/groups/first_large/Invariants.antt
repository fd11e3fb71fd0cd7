use Rattle.std.proofs.Common.{◌≡◌, ◌≤◌, ◌<◌, ℕ, Some, slice_get, length}
use Rattle.dsa_settings.specs.Plan.{Group}
use Rattle.dsa_tracker.specs.Groups.{most_group_spans}
use Rattle.dsa_tracker.proofs.groups.first_large.Given as goal

abbrev pub invariant-loop-group : goal.invariant-loop-group
invariant-loop-group l = (k : ℕ) (g : Group) → k < l.group-index → slice_get l.groups k ≡ Some g → most_group_spans (length g) ≤ l.room
