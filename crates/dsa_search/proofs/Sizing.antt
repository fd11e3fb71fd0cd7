-- Rows of counts within blocks of pieces, and chains that go on from one piece to the next.
use Rattle.std.proofs.Common.{ℕ, ◌≡◌, ◌≢◌, ◌+◌, ◌-◌, ◌*◌, ◌/◌, ◌<◌, ◌≤◌, ◌⊎◌, inl, inr, min, List, length, refl, sym, subst, ap, ◌∙◌, slice_index, arith}
use Rattle.std.proofs.lemmas.Bool.{cases_lt, cases_eq}
use Rattle.dsa_plan.specs.Chain.{Pairs, GoForward, LeadsTo, IsLastBelow, HasCountBelow}
use Rattle.dsa_plan.proofs.Chains.{LeadsTo-same}
use Rattle.std.proofs.Math.Nat.{mul-le-mul_left}
use Rattle.dsa_settings.specs.Plan.{Tariff, price_of}
use Rattle.dsa_plan.proofs.Fences.{price_of-batch}
use Rattle.dsa_settings.specs.Settings.{ArePrices, greatest_price, Limits, batch_price, sized_tariff, tariff_of}
use Rattle.dsa_search.specs.Entries.{IsChainCost, MakesEntry}
use Rattle.dsa_search.specs.Filled.{HasOffers, unreached}
use Rattle.dsa_search.proofs.Filling.{offers_alike, offers_each}
use Rattle.dsa_plan.proofs.Joined.{last_fits, last_joined, last_led, count_one_more, count_none}
use Rattle.dsa_search.specs.Sized.{past_block, HasRows, IsSheetOf}

pub past_block_later : (x : ℕ) → (x < past_block x) × (past_block x ≤ x + 64)
unfolding past_block
past_block_later x = (omega arith, omega arith)

-- the pieces of a block have one end
pub past_block_same : (x y : ℕ) → x ≤ y → y < past_block x → past_block y ≡ past_block x
unfolding past_block
past_block_same x y le lt = let q : y / 64 ≡ x / 64 = omega arith in rw q refl

module _ (pairs : Pairs) (forward : GoForward pairs) (x : ℕ) (rows lasts : List ℕ) (h : HasRows pairs (x + 1) rows lasts) (inside : x < length pairs) where
  -- the first pair of a piece leads past its block: nothing is counted
  pub rows_none : (lasts' : List ℕ) → ((b : ℕ) → LeadsTo pairs x b → min (past_block x) (length pairs) ≤ b) → length lasts' ≡ length lasts
      → slice_index lasts' x ≡ x → ((z : ℕ) → z ≢ x → slice_index lasts' z ≡ slice_index lasts z) → HasRows pairs x rows lasts'
  rows_none lasts' far count here others = record {
    row_count = h.row_count;
    last_count = count ∙ h.last_count;
    row = λ z j from lt near within.
        elim (cases_eq z x) [
          | inr other ↦ h.row z j (omega arith) lt near within
          | inl same ↦
              let before : x < j = omega arith in
              let close : j ≤ past_block x = rw same at near in
              let none : slice_index rows (64 * x + (j + 63 - past_block x)) ≡ 0 = h.blank (64 * x + (j + 63 - past_block x)) (omega (arith, past_block_later x)) in
              rw (same, none) (count_none pairs x j before (λ b l. let out = far b l in omega arith))
        ];
    last = λ z from within.
        elim (cases_eq z x) [
          | inr other ↦ rw (others z other) (h.last z (omega arith) within)
          | inl same ↦
              let fits : past_block x ≤ length pairs = rw same at within in
              let none : slice_index rows (64 * x + 63) ≡ 0 = h.blank (64 * x + 63) (omega arith) in
              rw (same, none, here) (record { reached = refl; below = (past_block_later x).0; no_more = λ b l. let out = far b l in omega arith })
        ];
    blank = λ k lt. h.blank k (omega arith);
  }

  -- it leads to a piece of the block: each count is one more than that piece's
  pub rows_led : (y : ℕ) (rows' lasts' : List ℕ) → LeadsTo pairs x y → y < min (past_block x) (length pairs) → length rows' ≡ length rows → length lasts' ≡ length lasts
      → ((k : ℕ) → k < min (past_block x) (length pairs) - y → slice_index rows' (64 * x + (y + 64 - past_block x) + k) ≡ slice_index rows (64 * y + (y + 64 - past_block x) + k) + 1)
      → ((k : ℕ) → (k < 64 * x + (y + 64 - past_block x)) ⊎ (64 * x + (y + 64 - past_block x) + (min (past_block x) (length pairs) - y) ≤ k) → slice_index rows' k ≡ slice_index rows k)
      → slice_index lasts' x ≡ slice_index lasts y → ((z : ℕ) → z ≢ x → slice_index lasts' z ≡ slice_index lasts z) → HasRows pairs x rows' lasts'
  rows_led y rows' lasts' leads block count last_count more outside here others = record {
    row_count = count ∙ h.row_count;
    last_count = last_count ∙ h.last_count;
    row = λ z j from lt near within.
        elim (cases_eq z x) [
          | inr other ↦
              let there = past_block_later z in
              let at = outside (64 * z + (j + 63 - past_block z)) (inr (omega (arith, later, close))) in
              rw at (h.row z j (omega arith) lt near within)
          | inl same ↦ rw same (row_here j (omega arith) (rw same at near) within)
        ];
    last = λ z from within.
        elim (cases_eq z x) [
          | inr other ↦
              let at = outside (64 * z + 63) (inr (omega (arith, later, close))) in
              rw (at, others z other) (h.last z (omega arith) within)
          | inl same ↦ rw same (last_here (rw same at within))
        ];
    blank = λ k lt. outside k (inl (omega (arith, later, close))) ∙ h.blank k (omega arith);
  }
    where
      later : x < y
      later = forward x y leads

      close : (x < past_block x) × (past_block x ≤ x + 64)
      close = past_block_later x

      one_block : past_block y ≡ past_block x
      one_block = past_block_same x y (omega (arith, later)) (omega (arith, block))

      row_here : (j : ℕ) → x < j → j ≤ past_block x → j ≤ length pairs → HasCountBelow pairs x j (slice_index rows' (64 * x + (j + 63 - past_block x)))
      row_here j lt near within =
          elim (cases_lt y j) [
            | inr early ↦
                let none : slice_index rows' (64 * x + (j + 63 - past_block x)) ≡ 0 =
                outside (64 * x + (j + 63 - past_block x)) (inl (omega (arith, later, close))) ∙ h.blank (64 * x + (j + 63 - past_block x)) (omega (arith, close, near)) in
                rw none (count_none pairs x j lt (λ b l. omega (arith, LeadsTo-same pairs x y b leads l)))
            | inl late ↦
                let at : 64 * x + (y + 64 - past_block x) + (j - y - 1) ≡ 64 * x + (j + 63 - past_block x) = omega (arith, later, close) in
                let from : 64 * y + (y + 64 - past_block x) + (j - y - 1) ≡ 64 * y + (j + 63 - past_block x) = omega (arith, later, close) in
                let next : HasCountBelow pairs y j (slice_index rows (64 * y + (j + 63 - past_block x))) = rw one_block at (h.row y j (omega (arith, later)) late (omega (arith, one_block)) within) in
                let is : slice_index rows' (64 * x + (j + 63 - past_block x)) ≡ slice_index rows (64 * y + (j + 63 - past_block x)) + 1 = rw (at, from) at (more (j - y - 1) (omega (arith, late, near, within))) in
                rw is (count_one_more pairs x j y (slice_index rows (64 * y + (j + 63 - past_block x))) leads next)
          ]

      last_here : past_block x ≤ length pairs → IsLastBelow pairs x (past_block x) (slice_index rows' (64 * x + 63)) (slice_index lasts' x)
      last_here within =
          let at : 64 * x + (y + 64 - past_block x) + (past_block x - y - 1) ≡ 64 * x + 63 = omega (arith, later, close) in
          let from : 64 * y + (y + 64 - past_block x) + (past_block x - y - 1) ≡ 64 * y + 63 = omega (arith, later, close) in
          let next : IsLastBelow pairs y (past_block x) (slice_index rows (64 * y + 63)) (slice_index lasts y) = rw one_block at (h.last y (omega (arith, later)) (omega (arith, one_block))) in
          let is : slice_index rows' (64 * x + 63) ≡ slice_index rows (64 * y + 63) + 1 = rw (at, from) at (more (past_block x - y - 1) (omega (arith, later, close, block, within))) in
          rw (is, here) (last_led pairs x y (past_block x) (slice_index rows (64 * y + 63)) (slice_index lasts y) leads next)

-- no piece has its row yet
pub rows_blank : (pairs : Pairs) (rows lasts : List ℕ) → length rows ≡ 64 * length pairs → length lasts ≡ length pairs
    → ((k : ℕ) → k < 64 * length pairs → slice_index rows k ≡ 0) → HasRows pairs (length pairs) rows lasts
rows_blank pairs rows lasts row_count last_count none = record {
  row_count = row_count;
  last_count = last_count;
  row = λ x j from lt near within. absurd (omega arith);
  last = λ x from within. let later = past_block_later x in absurd (omega (arith, later));
  blank = none;
}

-- ---- offers

module _ (pairs : Pairs) (forward : GoForward pairs) (start end count piece : ℕ) (chain : IsLastBelow pairs start end count piece) (few : length pairs ≤ 65536) (within : end ≤ length pairs) where
  -- the fences of a group have a price that fits, and so has what is offered
  pub fences_fit : (fence : ℕ) → fence ≤ greatest_price → fence * count ≤ 65536000000000
  fences_fit fence cheap =
      let fits = last_fits pairs forward start end count piece chain in
      let le : count ≤ 65536 = omega (arith, fits, few, within) in
      omega (arith, mul-le-mul_left fence le, cheap)

  pub cost_fits : (greatest_batch : ℕ) (tariff : Tariff) (fence : ℕ) (costs : List ℕ) → start < end → fence ≤ greatest_price → HasOffers greatest_batch tariff pairs start end costs → slice_index costs start + fence * count ≤ 1000000000000000
  cost_fits greatest_batch tariff fence costs later cheap h = omega (arith, fences_fit fence cheap, h.small start (omega arith) (omega arith))

module _ (lone fence : ℕ) (table : List ℕ) (pairs : Pairs) (forward : GoForward pairs) (few : length pairs ≤ 65536) (cheap_lone : lone ≤ greatest_price) (cheap_fence : fence ≤ greatest_price) (prices : ArePrices table) where
  -- what a group costs fits
  pub chain_cost_fits : (i j c : ℕ) → j ≤ length pairs → IsChainCost (length table + 1) (sized_tariff lone fence table) pairs i j c → c ≤ 65537000000000
  chain_cost_fits i j c within chain =
      elim (cases_eq (j - i) 1) [
        | inl one ↦ let is : lone ≡ c = rw one at chain.is_cost in omega (arith, is, cheap_lone)
        | inr more ↦
            let fences = fences_fit pairs forward i j chain.count (chain.has_count).0 (chain.has_count).1 few within fence cheap_fence in
            let price : slice_index table (j - i - 2) ≤ greatest_price = prices (j - i - 2) (omega (arith, chain.nonempty, chain.fits, more)) in
            omega (arith, price_of-batch (sized_tariff lone fence table) (j - i) chain.count more, chain.is_cost, fences, price)
      ]

  -- no cost is above that of an end that no start has reached
  pub costs_below : (start end : ℕ) (costs : List ℕ) → start ≤ length pairs → HasOffers (length table + 1) (sized_tariff lone fence table) pairs start end costs
      → (k : ℕ) → k < length costs → slice_index costs k ≤ unreached
  costs_below start end costs inside h k lt =
      elim (cases_eq k 0) [
        | inl first ↦ rw first (omega (arith, h.first))
        | inr later ↦ below (h.made k (omega arith) (omega (arith, h.count)))
      ]
    where
      below : (slice_index costs k ≡ unreached) ⊎ ((i : ℕ) × (i ≤ start) × MakesEntry (length table + 1) (sized_tariff lone fence table) pairs costs i k) → slice_index costs k ≤ unreached
      below (inl unset) = omega (arith, unset)
      below (inr (i, le, (c, chain, makes))) =
          omega (arith, chain_cost_fits i k c (omega (arith, h.count)) chain, h.small i le (omega arith), makes)

module _ (lone fence : ℕ) (table : List ℕ) (pairs : Pairs) (forward : GoForward pairs) (start : ℕ) (costs : List ℕ) where
  -- to each of some ends the group's price is offered, by its size and its fences
  pub offers_sized : (end to : ℕ) (count v : ℕ → ℕ) → start + 2 ≤ end → to ≤ start + length table + 2 → HasOffers (length table + 1) (sized_tariff lone fence table) pairs start end costs
      → ((k : ℕ) → end ≤ k → k < to → HasCountBelow pairs start k (count k))
      → ((k : ℕ) → end ≤ k → k < to → slice_index costs start + (slice_index table (k - start - 2) + fence * count k) ≡ v k)
      → (costs' : List ℕ) → length costs' ≡ length costs → ((k : ℕ) → end ≤ k → k < to → slice_index costs' k ≡ min (slice_index costs k) (v k))
      → ((k : ℕ) → (k < end) ⊎ (to ≤ k) → slice_index costs' k ≡ slice_index costs k) → HasOffers (length table + 1) (sized_tariff lone fence table) pairs start to costs'
  offers_sized end to count v late far h counted is =
      offers_each (length table + 1) (sized_tariff lone fence table) pairs forward start costs end to v (omega arith) h
      (λ k from lt. (
        slice_index table (k - start - 2) + fence * count k,
        record {
          nonempty = omega arith;
          fits = omega arith;
          count = count k;
          has_count = counted k from lt;
          is_cost = price_of-batch (sized_tariff lone fence table) (k - start) (count k) (omega arith);
        },
        is k from lt,
      ))

module _ (pairs : Pairs) (forward : GoForward pairs) (start : ℕ) (rows lasts : List ℕ) (has : HasRows pairs 0 rows lasts) (end count piece : ℕ) (chain : IsLastBelow pairs start end count piece) where
  -- the chain at the end of the block of its piece
  pub row_ended : (past : ℕ) → past ≡ past_block piece → past ≤ length pairs → IsLastBelow pairs start past (count + slice_index rows (64 * piece + 63)) (slice_index lasts piece)
  row_ended past is within =
      rw is (last_joined pairs start (past_block piece) count (slice_index rows (64 * piece + 63)) piece (slice_index lasts piece) chain.reached (has.last piece (omega arith) (omega arith)))

  -- within the block of its piece the chain goes on by the row of the piece
  pub row_counted : (past : ℕ) → past ≡ past_block piece → (k : ℕ) → end ≤ k → k ≤ past → k ≤ length pairs
      → HasCountBelow pairs start k (count + slice_index rows (64 * piece + (k + 63 - past)))
  row_counted past is k from near within =
      let below : piece < end = chain.below in
      let h : HasCountBelow pairs piece k (slice_index rows (64 * piece + (k + 63 - past_block piece))) = has.row piece k (omega arith) (omega arith) (omega arith) within in
      rw is (h.0, last_joined pairs start k count (slice_index rows (64 * piece + (k + 63 - past_block piece))) piece h.0 chain.reached h.1)

module _ (lone fence : ℕ) (table : List ℕ) (pairs : Pairs) (forward : GoForward pairs) (start : ℕ) (costs : List ℕ) (rows lasts : List ℕ) (has : HasRows pairs 0 rows lasts) (end count piece : ℕ) (chain : IsLastBelow pairs start end count piece) where
  -- the ends of a block have their offers
  pub offers_row : (to past : ℕ) → past ≡ past_block piece → start + 2 ≤ end → to ≤ start + length table + 2 → to ≤ past + 1 → to ≤ length pairs + 1
      → HasOffers (length table + 1) (sized_tariff lone fence table) pairs start end costs
      → (costs' : List ℕ) → length costs' ≡ length costs
      → ((k : ℕ) → end ≤ k → k < to → slice_index costs' k ≡ min (slice_index costs k) (slice_index costs start + fence * count + slice_index table (k - start - 2) + fence * slice_index rows (64 * piece + (end + 63 - past) + (k - end))))
      → ((k : ℕ) → (k < end) ⊎ (to ≤ k) → slice_index costs' k ≡ slice_index costs k) → HasOffers (length table + 1) (sized_tariff lone fence table) pairs start to costs'
  offers_row to past is late far near within h =
      offers_sized lone fence table pairs forward start costs end to
      (λ k. count + slice_index rows (64 * piece + (k + 63 - past)))
      (λ k. slice_index costs start + fence * count + slice_index table (k - start - 2) + fence * slice_index rows (64 * piece + (end + 63 - past) + (k - end)))
      late far h
      (λ k from lt. row_counted pairs forward start rows lasts has end count piece chain past is k from (omega arith) (omega arith))
      (λ k from lt.
      let below : piece < end = chain.below in
      let close = past_block_later piece in
      let at : 64 * piece + (end + 63 - past) + (k - end) ≡ 64 * piece + (k + 63 - past) = omega (arith, close) in
      rw at (omega arith))

-- the prices of a sheet are those of its settings
module _ (s : Limits) (pairs own : Pairs) (rows lasts : List ℕ) (lone fence : ℕ) (table : List ℕ) (sheet : IsSheetOf s pairs own rows lasts lone fence table) where
  sheet_prices : (size count : ℕ) → 0 < size → size ≤ s.greatest_batch → price_of (tariff_of s) size count ≡ price_of (sized_tariff lone fence table) size count
  sheet_prices size count some fits =
      elim (cases_eq size 1) [
        | inl one ↦ rw one (sym sheet.lone_are)
        | inr more ↦
            let table_is : slice_index table (size - 2) ≡ batch_price s.batch size = sheet.table_are size (omega (arith, some, more)) fits in
            let fences : fence * count ≡ s.fence * count = ap (λ (x : ℕ). x * count) sheet.fence_are in
            omega (arith, price_of-batch (tariff_of s) size count more, price_of-batch (sized_tariff lone fence table) size count more, table_is, fences)
      ]

  pub offers_on_sheet : (start end : ℕ) (costs : List ℕ) → HasOffers s.greatest_batch (tariff_of s) own start end costs → HasOffers (length table + 1) (sized_tariff lone fence table) own start end costs
  offers_on_sheet start end costs h =
      subst (λ (z : ℕ). HasOffers z (sized_tariff lone fence table) own start end costs) (sym sheet.table_size)
      (offers_alike s.greatest_batch (tariff_of s) (sized_tariff lone fence table) own sheet_prices start end costs h)

  pub offers_off_sheet : (start end : ℕ) (costs : List ℕ) → HasOffers (length table + 1) (sized_tariff lone fence table) own start end costs → HasOffers s.greatest_batch (tariff_of s) own start end costs
  offers_off_sheet start end costs h =
      offers_alike s.greatest_batch (sized_tariff lone fence table) (tariff_of s) own (λ size count some fits. sym (sheet_prices size count some fits)) start end costs
      (subst (λ (z : ℕ). HasOffers z (sized_tariff lone fence table) own start end costs) sheet.table_size h)
