use Rattle.dsa_recording.proofs.Listed.{listed_are_known}
use Rattle.dsa_recording.proofs.laws.listed_are_known.Goals as goal

pub returns : goal.returns
returns c o head m agree is = listed_are_known o head m agree is
