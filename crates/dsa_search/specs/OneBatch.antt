-- Lists that fit one batch: their costs without a search. For private clauses.
use Rattle.std.specs.Prelude.{ℕ, ◌≡◌, ◌+◌, ◌*◌, ◌<◌, ◌≤◌, min, List, length, slice_index}
use Rattle.dsa_settings.specs.Plan.{Tariff}
use Rattle.dsa_plan.specs.Chain.{Pairs, LeadsTo, HasCountBelow}

-- all batches cost the same, and a batch of n pieces costs less than these pieces one by one, but more than nothing
pub record IsBestBatch (greatest_batch : ℕ) (tariff : Tariff) (n : ℕ) : Type 0 where
  pub some : 2 ≤ n
  pub fits : n ≤ greatest_batch
  pub same : (size : ℕ) → tariff.batch size ≡ tariff.batch n
  pub paid : 0 < tariff.batch n
  pub saves : tariff.batch n < tariff.lone * n

-- the costs of the first 0, 1, .. n pieces, each by itself or all in a batch, whichever is less; one piece makes no batch
pub record AreBatchCosts (lone batch n : ℕ) (costs : List ℕ) : Type 0 where
  pub count : length costs ≡ n + 1
  pub first : slice_index costs 0 ≡ 0
  pub second : slice_index costs 1 ≡ lone
  pub each : (k : ℕ) → 2 ≤ k → k ≤ n → slice_index costs k ≡ min (lone * k) batch

-- n pieces fit one batch, all batches cost the same, and a fence costs no more than a group: so groups, one of which is a
-- batch, cost no less than one batch of their pieces
pub record HasCheapFences (greatest_batch : ℕ) (tariff : Tariff) (n : ℕ) : Type 0 where
  pub fits : n ≤ greatest_batch
  pub same : (size : ℕ) → tariff.batch size ≡ tariff.batch 2
  pub below_lone : tariff.fence ≤ tariff.lone
  pub below_batch : tariff.fence ≤ tariff.batch 2

-- no chain goes on later from an earlier piece than from a later one
abbrev pub AreNested : Pairs → Type 0
AreNested pairs = (x i z : ℕ) → x ≤ i → LeadsTo pairs i z → (y : ℕ) × LeadsTo pairs x y × (y ≤ z)

-- the costs of the first 0, 1, .. pieces, each by itself or all in a batch with the fences of their chain, whichever is
-- less
pub record AreJoinedCosts (pairs : Pairs) (lone batch fence : ℕ) (costs : List ℕ) : Type 0 where
  pub count : length costs ≡ length pairs + 1
  pub first : slice_index costs 0 ≡ 0
  pub second : 1 ≤ length pairs → slice_index costs 1 ≡ lone
  pub each :
      (j : ℕ) → 2 ≤ j → j ≤ length pairs →
      (c : ℕ) × HasCountBelow pairs 0 j c × (slice_index costs j ≡ min (lone * j) (batch + fence * c))

-- fences cost less than groups, and this is less than what n pieces cost one by one
pub record IsBestJoined (tariff : Tariff) (n cost : ℕ) : Type 0 where
  pub some : 2 ≤ n
  pub below_lone : tariff.fence < tariff.lone
  pub below_batch : tariff.fence < tariff.batch 2
  pub saves : cost < tariff.lone * n
