use Rattle.dsa_conflicts.proofs.ranks.hints_of.Given as goal

-- nothing rests on the hints
abbrev pub invariant-loop-touch : goal.invariant-loop-touch
invariant-loop-touch l = Unit
