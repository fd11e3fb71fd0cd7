use Rattle.std.proofs.Common.{◌≡◌, length}
use Rattle.dsa_forms.specs.Forms.{after_gap}
use Rattle.dsa_forms.proofs.forms.after_gap.Given as goal

-- after what is left comes what comes after the whole
abbrev pub invariant-loop-rest : goal.invariant-loop-rest
invariant-loop-rest l = after_gap l.rest ≡ after_gap l.text

abbrev pub decreases-loop-rest : goal.decreases-loop-rest
decreases-loop-rest l = length l.rest
