use Rattle.dsa_checker.specs.Sized.{AreWithin}
use Rattle.dsa_checker.proofs.sized.first_above.Given as goal

-- no end so far has one
abbrev pub invariant-loop-end : goal.invariant-loop-end
invariant-loop-end l = AreWithin l.prices l.table l.start l.from l.end l.most
