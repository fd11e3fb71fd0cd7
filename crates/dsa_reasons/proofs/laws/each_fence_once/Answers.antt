use Rattle.dsa_reasons.proofs.FencedOnce.{each_fence_once}
use Rattle.dsa_reasons.proofs.laws.each_fence_once.Goals as goal

pub returns : goal.returns
returns c = each_fence_once
