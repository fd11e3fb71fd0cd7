use Rattle.std.proofs.Common.{refl}
use Rattle.dsa_forms.specs.Forms.{is_word_of_digits}
use Rattle.dsa_forms.proofs.kinds.sample_kinds.Goals as goal

pub returns : goal.returns
unfolding is_word_of_digits
returns c = (refl, refl, refl, refl, refl, refl, refl, refl, refl)
