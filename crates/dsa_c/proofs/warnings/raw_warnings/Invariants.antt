use Rattle.std.proofs.Common.{◌≡◌, take, map}
use Rattle.dsa_c.specs.Warnings.{raw_warning_of}
use Rattle.dsa_c.proofs.warnings.raw_warnings.Given as goal

abbrev pub invariant-loop-warning : goal.invariant-loop-warning
invariant-loop-warning l = l.raw.items ≡ map raw_warning_of (take l.warning-index l.warnings)
