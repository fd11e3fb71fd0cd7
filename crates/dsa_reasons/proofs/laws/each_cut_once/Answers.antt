use Rattle.dsa_reasons.proofs.OneGroup.{each_cut_once}
use Rattle.dsa_reasons.proofs.laws.each_cut_once.Goals as goal

pub returns : goal.returns
returns c = each_cut_once
