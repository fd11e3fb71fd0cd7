-- The settings that arguments spell (this project's choice): those of a job with the same members.
use Rattle.std.specs.Prelude.{◌≡◌, ℕ, List, Option, Some, None, option_map}
use Rattle.dsa_settings.specs.Settings.{BatchPrices, Limits, version_with}
use Rattle.dsa_settings.specs.Settings.BatchPrices.{BySize, SamePrice}
use Rattle.dsa_lines.specs.Numbers.{number_of, size_of}
use Rattle.dsa_report.specs.Settings.{SettingsText, AreSettings, limits_of}
use Rattle.dsa_advice.specs.declared.settings.SettingsWords.{SettingsWords}
use Rattle.dsa_advice.specs.declared.settings.SpelledNumbers.{SpelledNumbers}
use Rattle.dsa_advice.specs.Numbers.{numbers_of}

-- one price for all batches; or prices by size, if there are words for them
abbrev pub SpellsBatch : List ℕ → Option (List ℕ) → BatchPrices → Type 0
SpellsBatch batch None prices = (price : ℕ) × (number_of batch ≡ Some price) × (prices ≡ SamePrice price)
SpellsBatch batch (Some batches) prices = (table : List ℕ) × (numbers_of batches ≡ Some table) × (prices ≡ BySize table)

-- the words spell these members of settings, in the version of their prices
pub record SpellSettings (w : SettingsWords) (s : SettingsText) : Type 0 where
  pub version : s.version ≡ version_with s.batch
  pub greatest_batch : number_of w.greatest_batch.now ≡ Some s.greatest_batch
  pub greatest_transfer : size_of w.greatest_transfer.now ≡ Some s.greatest_transfer
  pub lone : number_of w.lone.now ≡ Some s.lone
  pub batch : SpellsBatch w.batch.now (option_map (λ word. word.now) w.batches) s.batch
  pub fence : number_of w.fence.now ≡ Some s.fence
  pub staging : number_of w.staging.now ≡ Some s.staging

-- the settings of a job with the members that the words spell; or none, if they spell no settings
abbrev pub GivesSettings : SettingsWords → Option Limits → Type 0
GivesSettings w (Some settings) =
    (s : SettingsText) × SpellSettings w s × AreSettings s × (settings ≡ limits_of s)
GivesSettings w None = (s : SettingsText) → SpellSettings w s → ¬ AreSettings s

-- ---- for private clauses

-- the words spell these numbers
pub record AreNumbers (w : SettingsWords) (n : SpelledNumbers) : Type 0 where
  pub greatest_batch : number_of w.greatest_batch.now ≡ Some n.greatest_batch
  pub greatest_transfer : size_of w.greatest_transfer.now ≡ Some n.greatest_transfer
  pub lone : number_of w.lone.now ≡ Some n.lone
  pub fence : number_of w.fence.now ≡ Some n.fence
  pub staging : number_of w.staging.now ≡ Some n.staging
