use Rattle.dsa_tracker.proofs.Planned.{tracked_groups_end_in_turn, groups_are_submitted}
use Rattle.dsa_tracker.proofs.laws.groups_end_in_turn.Goals as goal

pub returns : goal.returns
returns c = record { leaves = tracked_groups_end_in_turn; submitted = groups_are_submitted }
