-- What goes to C and comes from it.
use Rattle.std.specs.Prelude.{◌≡◌, ◌⊎◌, if◌then◌else◌, ◌==◌, ℕ, List, [], ◌++◌, drop, length, slice_index_or, Option, Some, None}
use Rattle.dsa_settings.specs.declared.setting.Setting.{Setting}
use Rattle.dsa_settings.specs.declared.setting.Setting.TheVariants.{GreatestBatch, GreatestTransfer, Lone, Fence, Staging, Batch}
use Rattle.dsa_settings.specs.Outside.{IsFirstOutside}
use Rattle.dsa_settings.specs.Settings.{BatchPrices, Limits, AreInLimits, limits}
use Rattle.dsa_settings.specs.Settings.BatchPrices.{SamePrice, BySize}
use Rattle.dsa_descriptor.specs.Causes.{index_list}
use Rattle.dsa_calls.specs.declared.fault.PlanFault.{PlanFault}
use Rattle.dsa_calls.specs.declared.fault.PlanFault.TheVariants.{Memory}
use Rattle.dsa_calls.specs.declared.fault.InnerFault.{InnerFault}
use Rattle.dsa_calls.specs.Fault.{fault_number, fault_indices, fault_inner, inner_number, inner_indices}
use Rattle.dsa_sentences.specs.Texts.{refusal_text}
use Rattle.dsa_c.specs.declared.settings.RawSettings.{RawSettings}
use Rattle.dsa_c.specs.declared.refusal.RawRefusal.{RawRefusal}

-- what batches cost by these numbers: in version 2 the table has the price by size, else they all cost the same
abbrev pub prices_in : RawSettings → List ℕ → BatchPrices
prices_in r table = if r.version == 2 then BySize table else SamePrice r.batch

-- the settings that these numbers and this table are
abbrev pub limits_of : RawSettings → List ℕ → Limits
limits_of r table = limits r.greatest_batch r.greatest_transfer r.lone (prices_in r table) r.fence r.staging

-- these numbers are settings: of a known version, and each in its limits
abbrev pub AreSettings : RawSettings → List ℕ → Type 0
AreSettings r table = ((r.version ≡ 1) ⊎ (r.version ≡ 2)) × AreInLimits (limits_of r table)

-- each number is within its limits, but for the version and the prices of batches
abbrev pub HaveLimits : RawSettings → Type 0
HaveLimits r = AreInLimits (limits r.greatest_batch r.greatest_transfer r.lone (SamePrice 0) r.fence r.staging)

-- the settings with this staging address in place of theirs
abbrev pub staged_at : RawSettings → ℕ → RawSettings
staged_at r staging = record r { staging = staging }

-- the number of a setting, after 1 for the version: 2 to 7 are the members of the struct in their order, 8 is the table of
-- prices, which counts in version 2 alone (this project's choice)
abbrev pub setting_number : ℕ → Setting → ℕ
setting_number version GreatestBatch = 2
setting_number version GreatestTransfer = 3
setting_number version Lone = 4
setting_number version Fence = 6
setting_number version Staging = 7
setting_number version Batch = if version == 2 then 8 else 5

-- the setting of this number is the first outside its limits
abbrev pub IsOutside : ℕ → RawSettings → List ℕ → Type 0
IsOutside setting s table =
    ((setting ≡ 1) × (¬ ((s.version ≡ 1) ⊎ (s.version ≡ 2))))
    ⊎ ((which : Setting) × (setting ≡ setting_number s.version which)
    × ((s.version ≡ 1) ⊎ (s.version ≡ 2)) × IsFirstOutside which (limits_of s table))

-- the refusal of settings, number 83, which names the setting of this number
abbrev pub settings_refusal : ℕ → RawRefusal
settings_refusal setting = record { number = 83; inner = 0; first = setting; second = 0 }

-- the numbers are no settings, and the refusal names the first that is outside its limits
abbrev pub RefusesSettings : RawSettings → List ℕ → RawRefusal → Type 0
RefusesSettings s table r =
    (setting : ℕ) × (r ≡ settings_refusal setting) × IsOutside setting s table × (¬ AreSettings s table)

-- a buffer after the items were written at its front
abbrev pub written : {X : Type 0} → List X → List X → List X
written items old = items ++ drop (length items) old

-- the number of the cause within, if a piece or a plan within is refused, else 0
abbrev pub inner_of : Option InnerFault → ℕ
inner_of None = 0
inner_of (Some cause) = inner_number cause

-- the indices that it names
abbrev pub inner_places : Option InnerFault → List ℕ
inner_places None = []
inner_places (Some cause) = index_list (inner_indices cause)

-- all indices that a refusal names, and after them those of the cause within
abbrev pub all_places : PlanFault → List ℕ
all_places fault = index_list (fault_indices fault) ++ inner_places (fault_inner fault)

-- these are the first two numbers of the list, with 0 for each that is missing
abbrev pub ArePlaces : List ℕ → ℕ × ℕ → Type 0
ArePlaces places p = (p.0 ≡ slice_index_or places 0 0) × (p.1 ≡ slice_index_or places 1 0)

-- the refusal of a cause, as C sees it
abbrev pub refusal_of : PlanFault → RawRefusal
refusal_of fault =
    record {
      number = fault_number fault;
      inner = inner_of (fault_inner fault);
      first = slice_index_or (all_places fault) 0 0;
      second = slice_index_or (all_places fault) 1 0;
    }

-- why a call refuses under settings: the numbers are no settings, and one is named; an allocation failed; or the call has a
-- fault, and this is its refusal
abbrev pub RefusesUnder : {F : Type 0} → (F → RawRefusal) → (Limits → F → Type 0) → RawSettings → List ℕ → RawRefusal → Type 0
RefusesUnder {F} refusal_of_fault HasFault s table r =
    RefusesSettings s table r
    ⊎ ((r ≡ refusal_of Memory) × AreSettings s table)
    ⊎ ((fault : F) × AreSettings s table × HasFault (limits_of s table) fault × (r ≡ refusal_of_fault fault))

-- the refusal of buffers that are too small: number 90, and the bytes that each needs (this project's choice)
abbrev pub no_room : ℕ → ℕ → RawRefusal
no_room portal staging = record { number = 90; inner = 0; first = portal; second = staging }

-- the refusal of arrays that are too small for a certificate: number 91, and the number of pieces (this project's choice)
abbrev pub no_room_for_certificate : ℕ → RawRefusal
no_room_for_certificate pieces = record { number = 91; inner = 0; first = pieces; second = 0 }

-- the text of a refusal: the sentence of its cause and of the one within, with the numbers that they name
abbrev pub text_of : RawRefusal → List ℕ
text_of r = refusal_text r.number r.inner r.first r.second
