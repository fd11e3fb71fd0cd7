use Rattle.dsa_settings.specs.LegalFaults.{HasShapesBefore}
use Rattle.dsa_settings.proofs.legal.shape_fault.Given as goal

-- the groups so far have their shapes
abbrev pub invariant-loop-number : goal.invariant-loop-number
invariant-loop-number l = HasShapesBefore l.settings.greatest_batch l.groups l.number
