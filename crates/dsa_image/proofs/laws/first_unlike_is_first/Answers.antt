use Rattle.dsa_image.proofs.Rules as laws
use Rattle.dsa_image.proofs.laws.first_unlike_is_first.Goals as goal

pub returns : goal.returns
returns c =
    record {
      like = laws.pattern_rule;
      first = laws.unlike_rule;
    }
