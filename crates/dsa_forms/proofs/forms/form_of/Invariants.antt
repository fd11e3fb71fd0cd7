use Rattle.std.proofs.Common.{◌≡◌, drop}
use Rattle.dsa_forms.specs.Forms.{form_of}
use Rattle.dsa_forms.proofs.forms.form_of.Given as goal

-- what is left has the form of the whole
abbrev pub invariant-loop-byte : goal.invariant-loop-byte
invariant-loop-byte l = form_of (drop l.byte-index l.text) ≡ form_of l.text
