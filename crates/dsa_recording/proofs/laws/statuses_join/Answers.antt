use Rattle.dsa_recording.proofs.Extended.{status_joined}
use Rattle.dsa_recording.proofs.laws.statuses_join.Goals as goal

pub returns : goal.returns
returns c = status_joined
