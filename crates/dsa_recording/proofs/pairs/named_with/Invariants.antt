use Rattle.dsa_recording.proofs.Fronts.{NamesFirst}
use Rattle.dsa_recording.proofs.pairs.named_with.Given as goal

-- those of the hazards so far are there
abbrev pub invariant-loop-number : goal.invariant-loop-number
invariant-loop-number l = NamesFirst l.accepted l.entries l.later l.number l.members.items
