use Rattle.std.proofs.Common.{arith}
use Rattle.std.proofs.lemmas.Grind.{elements}
use Rattle.dsa_settings.proofs.legal.shape_fault.Goals as goal

pub returns-then-not-has_group_size : goal.returns-then-not-has_group_size
returns-then-not-has_group_size c = grind (arith, elements)

pub returns-then-not-begins_unfenced : goal.returns-then-not-begins_unfenced
returns-then-not-begins_unfenced c = grind (arith, elements)

pub loop-number-preserved : goal.loop-number-preserved
loop-number-preserved c = grind (arith, elements)

pub returns : goal.returns
returns c = grind (arith, elements)
