use Rattle.std.proofs.Common.{◌≡◌, ℕ, ◌<◌, length, get_or, None}
use Rattle.dsa_conflicts.specs.Access.{later}
use Rattle.dsa_recording.proofs.shared.later_lasts.Given as goal

-- the later of both so far
abbrev pub invariant-loop-k : goal.invariant-loop-k
invariant-loop-k l =
    (length l.lasts.items ≡ l.k)
    × ((j : ℕ) → j < l.k → get_or l.lasts.items j None ≡ later (get_or l.firsts j None) (get_or l.seconds j None))
