use Rattle.std.proofs.Common.{◌≡◌, length}
use Rattle.std.specs.Prelude.{max}
use Rattle.dsa_text.specs.Files.{greatest}
use Rattle.dsa_text.proofs.files.greatest.Given as goal

-- the greater of that so far and of those that are left is the greatest of all
abbrev pub invariant-loop-rest : goal.invariant-loop-rest
invariant-loop-rest l = max l.most (greatest l.rest) ≡ greatest l.statuses

abbrev pub decreases-loop-rest : goal.decreases-loop-rest
decreases-loop-rest l = length l.rest
