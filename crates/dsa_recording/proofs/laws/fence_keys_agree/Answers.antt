use Rattle.dsa_recording.proofs.FenceKeys.{keys_agree}
use Rattle.dsa_recording.proofs.laws.fence_keys_agree.Goals as goal

pub returns : goal.returns
returns c = keys_agree
