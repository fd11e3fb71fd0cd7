use Rattle.std.proofs.Common.{◌≡◌, ◌<◌, ℕ, length, slice_index}
use Rattle.dsa_prepared.specs.Filling.{AllBelow}
use Rattle.dsa_prepared.proofs.sorted.are_ranks.Given as goal

abbrev pub invariant-loop-number : goal.invariant-loop-number
invariant-loop-number l = AllBelow l.number (λ k. (p : ℕ) × (p < length l.order) × (slice_index l.order p ≡ k))
