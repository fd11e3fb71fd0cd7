use Rattle.dsa_recording.proofs.Fronts.{HasReached, keys_left}
use Rattle.dsa_recording.proofs.pairs.push_numbers.Given as goal

abbrev pub invariant-loop-rest : goal.invariant-loop-rest
invariant-loop-rest l = HasReached l.accepted l.front l.fn.numbers.items l.numbers.items l.rest

abbrev pub decreases-loop-rest : goal.decreases-loop-rest
decreases-loop-rest l = keys_left l.accepted l.front l.rest
