use Rattle.std.proofs.Common.{◌≡◌, ◌++◌, drop}
use Rattle.dsa_warnings.specs.Warnings.{warnings_from}
use Rattle.dsa_warnings.proofs.warnings.all_warnings.Given as goal

abbrev pub invariant-loop-piece : goal.invariant-loop-piece
invariant-loop-piece g l =
    l.warnings.items ++ warnings_from g.P.Concerned.descriptor l.lasts l.barrier l.epochs l.piece (drop l.piece l.pieces)
    ≡ warnings_from g.P.Concerned.descriptor l.lasts l.barrier l.epochs 0 l.pieces
