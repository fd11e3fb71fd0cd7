-- The settings that words spell.
use Rattle.std.proofs.Common.{◌≡◌, ℕ, List, [], ◌∷◌, Option, Some, None, map, refl, sym, ap, subst, ◌∙◌}
use Rattle.std.specs.Prelude.{option_map}
use Rattle.std.specs.Borrow.{Bor}
use Rattle.std.proofs.lemmas.Option.{same_Some}
use Rattle.dsa_lines.specs.Numbers.{number_of}
use Rattle.dsa_settings.specs.Settings.{AreInLimits, BatchPrices, Limits, limits, version_with}
use Rattle.dsa_settings.specs.Settings.BatchPrices.{BySize, SamePrice}
use Rattle.dsa_advice.specs.declared.settings.SettingsWords.{SettingsWords}
use Rattle.dsa_advice.specs.declared.settings.SpelledNumbers.{SpelledNumbers}
use Rattle.dsa_advice.specs.Numbers.{numbers_of}
use Rattle.dsa_advice.specs.SettingsWords.{AreNumbers, GivesSettings, SpellsBatch}

-- the numbers of words, one by one
pub mapped : (words : List (Bor (List ℕ))) → map (λ word. number_of word.now) words ≡ map number_of (map (λ word. word.now) words)
mapped [] = refl
mapped (w ∷ ws) = ap (λ (ns : List (Option ℕ)). number_of w.now ∷ ns) (mapped ws)

-- what the words spell for the prices of batches
abbrev pub Batch : SettingsWords → BatchPrices → Type 0
Batch w prices = SpellsBatch w.batch.now (option_map (λ word. word.now) w.batches) prices

-- the settings of these numbers and prices
abbrev pub limits_with : SpelledNumbers → BatchPrices → Limits
limits_with n prices = limits n.greatest_batch n.greatest_transfer n.lone prices n.fence n.staging

-- words that spell no numbers spell no settings
pub no_numbers : (w : SettingsWords) → ((n : SpelledNumbers) → AreNumbers w n → ⊥) → GivesSettings w None
no_numbers w none s spell ok =
    none (record {
      greatest_batch = s.greatest_batch;
      greatest_transfer = s.greatest_transfer;
      lone = s.lone;
      fence = s.fence;
      staging = s.staging;
    }) (record {
      greatest_batch = spell.greatest_batch;
      greatest_transfer = spell.greatest_transfer;
      lone = spell.lone;
      fence = spell.fence;
      staging = spell.staging;
    })

-- nor do words that spell no prices
pub no_batch : (w : SettingsWords) → ((prices : BatchPrices) → Batch w prices → ⊥) → GivesSettings w None
no_batch w none s spell ok = none s.batch spell.batch

-- numbers and prices within their limits are settings
pub some_settings : (w : SettingsWords) (n : SpelledNumbers) (prices : BatchPrices) (settings : Limits) → AreNumbers w n → Batch w prices
    → settings ≡ limits_with n prices → AreInLimits (limits_with n prices) → GivesSettings w (Some settings)
some_settings w n prices settings numbers batch is within = (
  record {
    version = version_with prices;
    greatest_batch = n.greatest_batch;
    greatest_transfer = n.greatest_transfer;
    lone = n.lone;
    batch = prices;
    fence = n.fence;
    staging = n.staging;
  },
  record {
    version = refl;
    greatest_batch = numbers.greatest_batch;
    greatest_transfer = numbers.greatest_transfer;
    lone = numbers.lone;
    batch = batch;
    fence = numbers.fence;
    staging = numbers.staging;
  },
  (refl, within),
  is,
)

-- and those that are not within them are none
pub no_settings : (w : SettingsWords) (n : SpelledNumbers) (prices : BatchPrices) → AreNumbers w n → ((other : BatchPrices) → Batch w other → other ≡ prices)
    → (AreInLimits (limits_with n prices) → ⊥) → GivesSettings w None
no_settings w n prices numbers one outside s spell ok =
    let a = same_Some s.greatest_batch n.greatest_batch (sym spell.greatest_batch ∙ numbers.greatest_batch) in
    let b = same_Some s.greatest_transfer n.greatest_transfer (sym spell.greatest_transfer ∙ numbers.greatest_transfer) in
    let l = same_Some s.lone n.lone (sym spell.lone ∙ numbers.lone) in
    let p = one s.batch spell.batch in
    let f = same_Some s.fence n.fence (sym spell.fence ∙ numbers.fence) in
    let g = same_Some s.staging n.staging (sym spell.staging ∙ numbers.staging) in
    outside (subst AreInLimits (λ i. limits (a i) (b i) (l i) (p i) (f i) (g i)) ok.1)

-- ---- one price for all batches

pub no_price : (w : SettingsWords) → w.batches ≡ None → number_of w.batch.now ≡ None → (prices : BatchPrices) → Batch w prices → ⊥
no_price w none e prices batch =
    let h = subst (λ (o : Option (Bor (List ℕ))). SpellsBatch w.batch.now (option_map (λ word. word.now) o) prices) none batch in
    let f : None ≡ Some h.0 = sym e ∙ h.1 in
    absurd cc

pub one_price : (w : SettingsWords) (price : ℕ) → w.batches ≡ None → number_of w.batch.now ≡ Some price → Batch w (SamePrice price)
one_price w price none e =
    subst (λ (o : Option (Bor (List ℕ))). SpellsBatch w.batch.now (option_map (λ word. word.now) o) (SamePrice price)) (sym none) (price, e, refl)

pub same_price : (w : SettingsWords) (price : ℕ) → w.batches ≡ None → number_of w.batch.now ≡ Some price → (other : BatchPrices) → Batch w other → other ≡ SamePrice price
same_price w price none e other batch =
    let h = subst (λ (o : Option (Bor (List ℕ))). SpellsBatch w.batch.now (option_map (λ word. word.now) o) other) none batch in
    h.2 ∙ ap SamePrice (same_Some h.0 price (sym h.1 ∙ e))

-- ---- a price of each size

-- the words for them
abbrev pub batches_of : SettingsWords → Option (List ℕ)
batches_of w = option_map (λ word. word.now) w.batches

pub one_table : (w : SettingsWords) (text table : List ℕ) → batches_of w ≡ Some text → numbers_of text ≡ Some table → Batch w (BySize table)
one_table w text table some e = subst (λ (o : Option (List ℕ)). SpellsBatch w.batch.now o (BySize table)) (sym some) (table, e, refl)

pub same_table : (w : SettingsWords) (text table : List ℕ) → batches_of w ≡ Some text → numbers_of text ≡ Some table
    → (other : BatchPrices) → Batch w other → other ≡ BySize table
same_table w text table some e other batch =
    let h = subst (λ (o : Option (List ℕ)). SpellsBatch w.batch.now o other) some batch in
    h.2 ∙ ap BySize (same_Some h.0 table (sym h.1 ∙ e))

pub no_table : (w : SettingsWords) (text : List ℕ) → batches_of w ≡ Some text → numbers_of text ≡ None → GivesSettings w None
no_table w text some e s spell ok =
    let h = subst (λ (o : Option (List ℕ)). SpellsBatch w.batch.now o s.batch) some spell.batch in
    let f : None ≡ Some h.0 = sym e ∙ h.1 in
    absurd cc
