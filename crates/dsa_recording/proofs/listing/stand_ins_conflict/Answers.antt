use Rattle.dsa_recording.proofs.StandIns.{stand_ins_conflict}
use Rattle.dsa_recording.proofs.listing.stand_ins_conflict.Goals as goal

pub returns : goal.returns
returns c = stand_ins_conflict
