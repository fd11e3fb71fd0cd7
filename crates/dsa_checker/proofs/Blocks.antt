-- Rows of prices within a block of pieces, less the fences of chains.
use Rattle.std.proofs.Common.{ℕ, ◌≡◌, ◌≢◌, ◌+◌, ◌-◌, ◌*◌, ◌%◌, ◌<◌, ◌≤◌, ◌⊎◌, inl, inr, List, slice_set, length, sym, ap, ◌∙◌, slice_index, arith}
use Rattle.std.proofs.lemmas.Bool.{cases_lt, cases_eq}
use Rattle.std.proofs.lemmas.List.{get_or-set_same, get_or-set_other}
use Rattle.std.proofs.Math.Nat.{mul-add}
use Rattle.dsa_plan.specs.Chain.{Pairs, GoForward, LeadsTo, IsLastBelow, HasCountBelow}
use Rattle.dsa_plan.proofs.Chains.{LeadsTo-same}
use Rattle.dsa_settings.specs.Plan.{price_of}
use Rattle.dsa_settings.specs.Settings.{sized_tariff}
use Rattle.dsa_plan.proofs.Fences.{price_of-batch}
use Rattle.dsa_checker.specs.Steps.{StepHolds}
use Rattle.dsa_checker.specs.Blocks.{place, HasRows, IsFilled, IsRowOf, AreChains}
use Rattle.dsa_checker.proofs.Led.{step_by_count}
use Rattle.dsa_plan.proofs.Joined.{last_led, last_joined, last_further, count_one_more, count_none}

-- no fence is taken off
pub less_none : (price fence : ℕ) → price ≡ price - fence * 0
less_none price fence = let none : fence * 0 ≡ 0 = omega arith in omega (arith, none)

-- one fence more is taken off
pub less_one_more : (price fence count : ℕ) → price - fence * count - fence ≡ price - fence * (count + 1)
less_one_more price fence count =
    let more : fence * (count + 1) ≡ fence * count + fence * 1 = mul-add fence count 1 in
    omega (arith, more)

module _ (pairs : Pairs) (fence first past x : ℕ) (rows lasts counts : List ℕ) (h : HasRows pairs fence first past (x + 1) rows lasts counts)
    (begun : first ≤ x) (inside : x < past) (size : past ≤ first + 64) where
  -- the row of a piece is made from one further on, which has the prices up to the piece as they are, and those after it
  -- less the fences of the piece's own chain
  pub rows_more : (row : ℕ) → x - first < row → row ≤ 64
      → ((end : ℕ) → first < end → end ≤ x → slice_index rows (place first row end) ≡ slice_index rows (place first 64 end))
      → ((end : ℕ) → x < end → end ≤ past → (count : ℕ) × HasCountBelow pairs x end count × (slice_index rows (place first row end) ≡ slice_index rows (place first 64 end) - fence * count))
      → (rows' lasts' counts' : List ℕ)
      → ((k : ℕ) → k < x - first → k < 64 → slice_index rows' (64 * (x - first) + k) ≡ slice_index rows (64 * row + k))
      → ((k : ℕ) → x - first ≤ k → k < 64 → slice_index rows' (64 * (x - first) + k) ≡ slice_index rows (64 * row + k) - fence)
      → ((k : ℕ) → (k < 64 * (x - first)) ⊎ (64 * (x - first) + 64 ≤ k) → slice_index rows' k ≡ slice_index rows k)
      → IsLastBelow pairs x past (slice_index counts' (x - first)) (slice_index lasts' (x - first))
      → ((z : ℕ) → z ≢ x - first → slice_index lasts' z ≡ slice_index lasts z) → ((z : ℕ) → z ≢ x - first → slice_index counts' z ≡ slice_index counts z)
      → HasRows pairs fence first past x rows' lasts' counts'
  rows_more row later real early late rows' lasts' counts' kept lowered outside last other_lasts other_counts = record {
    before = λ z end low lt from le.
        elim (cases_eq z x) [
          | inl same ↦
              let k = end - first - 1 in
              let here : slice_index rows' (64 * (x - first) + k) ≡ slice_index rows' (place first 64 end) =
              kept k (omega arith) (omega arith) ∙ early end from (omega arith) ∙ sym (unfenced end from (omega arith)) in
              rw same here
          | inr other ↦ others z end (omega arith) lt from (omega arith) ∙ h.before z end (omega arith) lt from le ∙ sym (unfenced end from (omega arith))
        ];
    after = λ z end low lt from le.
        elim (cases_eq z x) [
          | inl same ↦
              let k = end - first - 1 in
              let (count, counted, is) = late end (omega arith) le in
              let here : slice_index rows' (64 * (x - first) + k) ≡ slice_index rows' (place first 64 end) - fence * (count + 1) =
              lowered k (omega arith) (omega arith) ∙ ap (λ (v : ℕ). v - fence) is ∙ less_one_more (slice_index rows (place first 64 end)) fence count
              ∙ ap (λ (v : ℕ). v - fence * (count + 1)) (sym (unfenced end (omega arith) le)) in
              rw same (count, counted, here)
          | inr other ↦
              let (count, counted, is) = h.after z end (omega arith) lt from le in
              (count, counted, others z end (omega arith) lt (omega arith) le ∙ is ∙ ap (λ (v : ℕ). v - fence * (count + 1)) (sym (unfenced end (omega arith) le)))
        ];
    last = λ z low lt.
        elim (cases_eq z x) [
          | inl same ↦ rw same last
          | inr other ↦ rw (other_lasts (z - first) (omega arith), other_counts (z - first) (omega arith)) (h.last z (omega arith) lt)
        ];
  }
    where
      unfenced : (end : ℕ) → first < end → end ≤ past → slice_index rows' (place first 64 end) ≡ slice_index rows (place first 64 end)
      unfenced end from le = outside (place first 64 end) (inr (omega arith))

      others : (z end : ℕ) → x < z → z < past → first < end → end ≤ past → slice_index rows' (place first (z - first) end) ≡ slice_index rows (place first (z - first) end)
      others z end low lt from le = outside (place first (z - first) end) (inr (omega arith))

-- ---- chains that come into a block

module _ (pairs : Pairs) (prices : List ℕ) (fence first past : ℕ) (rows lasts counts : List ℕ) (filled : IsFilled pairs prices fence first past rows lasts counts)
    (start from count piece : ℕ) (chain : IsLastBelow pairs start from count piece) where
  -- the chain comes to no piece of the block
  pub row_none : ((b : ℕ) → LeadsTo pairs piece b → past ≤ b) → IsRowOf pairs fence first past start from count rows 64
  row_none far end late on le =
      let here : HasCountBelow pairs piece end 0 = count_none pairs piece end (omega (arith, chain.below, on)) (λ b l. omega (arith, far b l, le)) in
      (0, (here.0, last_joined pairs start end count 0 piece here.0 chain.reached here.1), less_none (slice_index rows (place first 64 end)) fence)

  pub past_none : ((b : ℕ) → LeadsTo pairs piece b → past ≤ b) → from ≤ past → IsLastBelow pairs start past count piece
  past_none far on = last_further pairs start from past count piece on far chain

  -- it comes to this piece
  module _ (next : ℕ) (leads : LeadsTo pairs piece next) (begun : first ≤ next) (inside : next < past) where
    pub row_led : IsRowOf pairs fence first past start from count rows (next - first)
    row_led end late on le =
        elim (cases_lt next end) [
          | inr early ↦
              let here : HasCountBelow pairs piece end 0 =
              count_none pairs piece end (omega (arith, chain.below, on)) (λ b l. omega (arith, LeadsTo-same pairs piece next b leads l, early)) in (
                0,
                (here.0, last_joined pairs start end count 0 piece here.0 chain.reached here.1),
                filled.each.before next end begun inside late early ∙ less_none (slice_index rows (place first 64 end)) fence,
              )
          | inl after ↦
              let (more, counted, is) = filled.each.after next end begun inside after le in
              let here : HasCountBelow pairs piece end (more + 1) = count_one_more pairs piece end next more leads counted in
              (more + 1, (here.0, last_joined pairs start end count (more + 1) piece here.0 chain.reached here.1), is)
        ]

    pub past_led : IsLastBelow pairs start past (count + (slice_index counts (next - first) + 1)) (slice_index lasts (next - first))
    past_led =
        last_joined pairs start past count (slice_index counts (next - first) + 1) piece (slice_index lasts (next - first)) chain.reached
        (last_led pairs piece next past (slice_index counts (next - first)) (slice_index lasts (next - first)) leads (filled.each.last next begun inside))

-- a step to an end whose price, less some of the chain's fences, is low enough for the others
pub step_by_row : (lone fence : ℕ) (table : List ℕ) (pairs : Pairs) (prices : List ℕ) (n : ℕ) → GoForward pairs → (start end count more most row : ℕ) → start + 2 ≤ end
    → HasCountBelow pairs start end (count + more) → row ≡ slice_index prices end - fence * more → row ≤ most + slice_index table (end - start - 2)
    → most ≤ slice_index prices start + fence * count → StepHolds (sized_tariff lone fence table) pairs prices start end
step_by_row lone fence table pairs prices n forward start end count more most row far counted is within low =
    let split : fence * (count + more) ≡ fence * count + fence * more = mul-add fence count more in
    let price : price_of (sized_tariff lone fence table) (end - start) (count + more) ≡ slice_index table (end - start - 2) + fence * (count + more) =
    price_of-batch (sized_tariff lone fence table) (end - start) (count + more) (omega arith) in
    step_by_count (sized_tariff lone fence table) pairs prices n forward start end (count + more) counted (omega (arith, split, price, is, within, low))

-- ---- chains at their places

-- two starts near each other have places of their own
pub places_apart : (i s : ℕ) → i ≢ s → i < s + 2048 → s < i + 2048 → i % 2048 ≢ s % 2048
places_apart i s other near far e = omega (arith, other, near, far, e)

module _ (pairs : Pairs) (end s count piece : ℕ) (fences pieces : List ℕ) (fence_count : length fences ≡ 2048) (piece_count : length pieces ≡ 2048) where
  -- the chain of one start is put at its place
  pub chains_one : IsLastBelow pairs s end count piece → AreChains pairs s (s + 1) end (slice_set fences (s % 2048) count) (slice_set pieces (s % 2048) piece)
  chains_one h i low lt =
      let same : i ≡ s = omega arith in
      let inside : s % 2048 < 2048 = omega arith in
      rw (same, get_or-set_same fences (s % 2048) count 0 (omega (arith, fence_count, inside)), get_or-set_same pieces (s % 2048) piece 0 (omega (arith, piece_count, inside))) h

  -- those of others near it stay
  pub chains_others : (least bound : ℕ) → AreChains pairs least bound end fences pieces → ((i : ℕ) → least ≤ i → i < bound → (i ≢ s) × (i < s + 2048) × (s < i + 2048))
      → AreChains pairs least bound end (slice_set fences (s % 2048) count) (slice_set pieces (s % 2048) piece)
  chains_others least bound h near i low lt =
      let (other, before, after) = near i low lt in
      let apart : i % 2048 ≢ s % 2048 = places_apart i s other before after in
      rw (get_or-set_other fences (s % 2048) (i % 2048) count 0 apart, get_or-set_other pieces (s % 2048) (i % 2048) piece 0 apart) (h i low lt)
