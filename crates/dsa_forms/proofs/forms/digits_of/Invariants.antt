use Rattle.std.proofs.Common.{◌≡◌, ◌++◌, drop}
use Rattle.dsa_forms.specs.Forms.{digits_from, digits_of}
use Rattle.dsa_forms.proofs.forms.digits_of.Given as goal

-- the digits so far, and those of what is left, are all
abbrev pub invariant-loop-byte : goal.invariant-loop-byte
invariant-loop-byte l = l.digits.items ++ digits_from l.form l.part (drop l.byte-index l.text) ≡ digits_of l.form l.text
