use Rattle.std.proofs.Common.{◌≡◌, ℕ, ◌<◌, None, get_or}
use Rattle.dsa_waits.proofs.keys.are_none.Given as goal

-- none so far is there
abbrev pub invariant-loop-wait : goal.invariant-loop-wait
invariant-loop-wait l = (k : ℕ) → k < l.wait-index → get_or l.waits k None ≡ None
