use Rattle.std.proofs.Common.{◌≡◌, drop}
use Rattle.std.specs.Prelude.{false}
use Rattle.dsa_forms.specs.Forms.{is_word_of_digits}
use Rattle.dsa_forms.proofs.forms.is_word_of_digits.Given as goal

-- what is left, with what was seen, begins as the whole does
abbrev pub invariant-loop-byte : goal.invariant-loop-byte
invariant-loop-byte l = is_word_of_digits l.seen (drop l.byte-index l.text) ≡ is_word_of_digits false l.text
