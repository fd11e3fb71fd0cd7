use Rattle.dsa_tracker.proofs.Named.{groups_stage}
use Rattle.dsa_tracker.proofs.laws.groups_stage_what_entries_name.Goals as goal

pub returns : goal.returns
returns c = groups_stage
