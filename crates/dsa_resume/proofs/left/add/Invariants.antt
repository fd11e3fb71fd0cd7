use Rattle.std.proofs.Common.{◌≡◌, ◌++◌, drop}
use Rattle.dsa_resume.specs.Left.{is_in, those}
use Rattle.dsa_resume.proofs.left.add.Given as goal

abbrev pub invariant-loop-index : goal.invariant-loop-index
invariant-loop-index g l =
    l.rest.items ++ those (is_in l.part) (drop l.index l.pieces) (drop l.index l.ends) ≡ l.initial.rest.items ++ those (is_in l.part) l.pieces l.ends
