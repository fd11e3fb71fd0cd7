use Rattle.std.proofs.Common.{◌≡◌, ◌++◌, ◌∷◌, false, replicate}
use Rattle.dsa_splitter.proofs.marking.push_marks.Given as goal

abbrev pub invariant-loop-turn : goal.invariant-loop-turn
invariant-loop-turn l = l.found.items ≡ l.fn.found.items ++ (l.mark ∷ replicate l._turn false)
