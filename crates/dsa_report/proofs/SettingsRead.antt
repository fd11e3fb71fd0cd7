-- Settings and images that were read.
use Rattle.std.proofs.Common.{◌≡◌, ◌≢◌, inl, inr, ℕ, ◌<◌, ◌≤◌, zero, suc, List, [], ◌∷◌, length, take, arith, ap, codes, Some, None, is_some, false, true, Bor, refl, sym, subst, ◌∙◌, Result, Ok, Err}
use Rattle.std.proofs.lemmas.List.{take_all}
use Rattle.std.specs.List.Sorted.{IsStrictlySortedBy}
use Rattle.serde_json.specs.Data.{Data, string, object, Members}
use Rattle.serde_json.specs.Find.{get_member}
use Rattle.dsa_settings.specs.Settings.BatchPrices.{SamePrice, BySize}
use Rattle.dsa_settings.specs.Settings.{AreBatchPrices, BatchPrices, Limits}
use Rattle.dsa_calls.specs.declared.fault.PlanFault.{PlanFault}
use Rattle.dsa_tokens.specs.Said.{IsArrayUpTo, slot_option}
use Rattle.dsa_tokens.specs.Spelled.{AreInOrder, HasOthers, Reads, whole}
use Rattle.dsa_tokens.specs.Taken.{kind_of}
use Rattle.dsa_tokens.proofs.Added.{kept_none, kept_some}
use Rattle.dsa_tokens.proofs.Items.{array_spelled, no_array_spelled}
use Rattle.dsa_tokens.proofs.Names.{all_there, kept_option, names_are, no_others, read_option}
use Rattle.dsa_cert.proofs.Objects.{object_spelled}
use Rattle.dsa_report.specs.Held.{AreHeld, IsImageHeld, image_names, settings_names}
use Rattle.dsa_report.specs.Image.{ImageText, image_fields, image_value}
use Rattle.dsa_report.specs.Settings.{AreSettings, FitsVersion, ReadsSettings, SettingsText, batch_shown, batch_value, kept_batch, kept_settings, limits_of, most_sizes, settings_fields, settings_value}
use Rattle.dsa_report.specs.declared.image.HeldImage.{HeldImage}
use Rattle.dsa_report.specs.declared.settings.Batch.{Batch}
use Rattle.dsa_report.specs.declared.settings.Held.{Held}

-- ---- prices of batches

-- an array with an item that is no number spells no prices
pub no_prices : (d : Data) → kind_of d ≡ 4 → IsArrayUpTo (Some most_sizes) (Reads {X = ℕ} whole (λ n. n)) d None → (b : BatchPrices) → d ≢ batch_value b
no_prices d kind other (SamePrice price) e = let never : 4 ≡ 2 = sym kind ∙ ap kind_of e in absurd (cc)
no_prices d kind other (BySize table) e = no_array_spelled {A = ℕ} whole (λ n. n) d (kept_none (Reads {X = ℕ} whole (λ n. n)) (Some most_sizes) d other) table e

-- an array of numbers spells a table, of which the first prices are kept
pub first_prices : (d : Data) (kept : List ℕ) → IsArrayUpTo (Some most_sizes) (Reads {X = ℕ} whole (λ n. n)) d (Some kept) → (b : BatchPrices) × (d ≡ batch_value b) × (BySize kept ≡ kept_batch b)
first_prices d kept read =
    let table = kept_some (Reads {X = ℕ} whole (λ n. n)) (Some most_sizes) d kept read in
    (BySize table.0, array_spelled {A = ℕ} whole (λ n. n) d table.0 table.1, ap BySize table.2)

-- nor does what is neither a number nor an array
pub no_table : (d : Data) → (kind_of d ≡ 4 → ⊥) → Reads {X = ℕ} whole (λ n. n) d None → (b : BatchPrices) → d ≢ batch_value b
no_table d kind other (SamePrice price) e = other price e
no_table d kind other (BySize table) e = kind (ap kind_of e)

-- ---- tables that are too long

pub take_short : {A : Type 0} (m k : ℕ) (xs : List A) → length (take m xs) ≡ k → k < m → take m xs ≡ xs
take_short zero k xs e less = absurd (omega arith)
take_short (suc m) k [] e less = refl
take_short (suc m) k (x ∷ xs) e less = ap (λ l. x ∷ l) (take_short m (length (take m xs)) xs refl (omega (arith, e)))

-- prices within their limits are kept as they are
all_within : (greatest : ℕ) (b : BatchPrices) → greatest ≤ 1024 → AreBatchPrices greatest b → kept_batch b ≡ b
all_within greatest (SamePrice price) most are = refl
all_within greatest (BySize table) most are = ap BySize (take_all most_sizes table (omega (arith, are.0)))

-- and those whose kept part is within them
kept_within : (greatest : ℕ) (b : BatchPrices) → greatest ≤ 1024 → AreBatchPrices greatest (kept_batch b) → kept_batch b ≡ b
kept_within greatest (SamePrice price) most are = refl
kept_within greatest (BySize table) most are = ap BySize (take_short most_sizes (length (take most_sizes table)) table refl (omega (arith, are.0)))

kept_fits : (version : ℕ) (b : BatchPrices) → FitsVersion version b → FitsVersion version (kept_batch b)
kept_fits version (SamePrice price) fits = fits
kept_fits version (BySize table) fits = fits

fits_kept : (version : ℕ) (b : BatchPrices) → FitsVersion version (kept_batch b) → FitsVersion version b
fits_kept version (SamePrice price) fits = fits
fits_kept version (BySize table) fits = fits

-- settings are read as what is kept of them
read_kept : (s : SettingsText) (r : Result Limits PlanFault) → ReadsSettings (kept_settings s) r → ReadsSettings s r
read_kept s (Ok settings) (is, are) =
    let same : kept_settings s ≡ s = ap (λ b. record s { batch = b }) (kept_within s.greatest_batch s.batch are.1.most_batch are.1.batch_prices) in
    (is ∙ ap limits_of same, subst AreSettings same are)
read_kept s (Err fault) (inl (is, none)) = inl (is, λ fits. none (kept_fits s.version s.batch fits))
read_kept s (Err fault) (inr (is, fits, outside)) = inr (is, fits_kept s.version s.batch fits, λ are. outside (within are))
  where
    within : AreSettings s → AreSettings (kept_settings s)
    within are =
        let same : kept_settings s ≡ s = ap (λ b. record s { batch = b }) (all_within s.greatest_batch s.batch are.1.most_batch are.1.batch_prices) in
        subst AreSettings (sym same) are

pub read_whole : (s kept : SettingsText) (r : Result Limits PlanFault) → kept ≡ kept_settings s → ReadsSettings kept r → ReadsSettings s r
read_whole s kept r is reads = read_kept s r (subst (λ t. ReadsSettings t r) is reads)

-- ---- settings

module _ (h : Held) (ms : Members) (are : AreHeld h ms) where
  pub other_settings : h.has_others ≡ true → (s : SettingsText) → object ms ≢ settings_value s
  other_settings is s e = no_others ms (settings_fields s) (subst (HasOthers settings_names ms) is are.others) e

  pub are_settings : (version greatest_batch greatest_transfer lone fence staging : ℕ) (batch : Batch) → AreInOrder ms → h.has_others ≡ false → Some version ≡ slot_option h.version → Some greatest_batch ≡ slot_option h.greatest_batch
      → Some greatest_transfer ≡ slot_option h.greatest_transfer → Some lone ≡ slot_option h.lone → Some fence ≡ slot_option h.fence → Some staging ≡ slot_option h.staging → Some batch ≡ slot_option h.batch
      → (s : SettingsText) × (object ms ≡ settings_value s) × (record { version = version; greatest_batch = greatest_batch; greatest_transfer = greatest_transfer; lone = lone; batch = batch_shown batch; fence = fence; staging = staging } ≡ kept_settings s)
  unfolding IsStrictlySortedBy
  are_settings version greatest_batch greatest_transfer lone fence staging batch order none is_version is_greatest_batch is_greatest_transfer is_lone is_fence is_staging is_batch =
      let others = subst (HasOthers settings_names ms) none are.others in
      let (prices, at_batch, kept) = kept_option {X = Batch} batch_value kept_batch batch_shown (get_member (codes "batch") ms) h.batch batch are.batch is_batch in
      let s : SettingsText = record { version = version; greatest_batch = greatest_batch; greatest_transfer = greatest_transfer; lone = lone; batch = prices; fence = fence; staging = staging } in
      let at_fence = read_option {X = ℕ} whole (λ n. n) (get_member (codes "fence") ms) h.fence fence are.fence is_fence in
      let at_greatest_batch = read_option {X = ℕ} whole (λ n. n) (get_member (codes "greatest_batch") ms) h.greatest_batch greatest_batch are.greatest_batch is_greatest_batch in
      let at_greatest_transfer = read_option {X = ℕ} whole (λ n. n) (get_member (codes "greatest_transfer") ms) h.greatest_transfer greatest_transfer are.greatest_transfer is_greatest_transfer in
      let at_lone = read_option {X = ℕ} whole (λ n. n) (get_member (codes "lone") ms) h.lone lone are.lone is_lone in
      let at_staging = read_option {X = ℕ} whole (λ n. n) (get_member (codes "staging") ms) h.staging staging are.staging is_staging in
      let at_version = read_option {X = ℕ} whole (λ n. n) (get_member (codes "version") ms) h.version version are.version is_version in
      let there = all_there ms settings_names others (ap is_some at_batch, (ap is_some at_fence, (ap is_some at_greatest_batch, (ap is_some at_greatest_transfer, (ap is_some at_lone, (ap is_some at_staging, (ap is_some at_version, tt))))))) in
      let names = names_are ms settings_names order ((refl, (refl, (refl, (refl, (refl, (refl, tt)))))), ((refl, (refl, (refl, (refl, (refl, tt))))), ((refl, (refl, (refl, (refl, tt)))), ((refl, (refl, (refl, tt))), ((refl, (refl, tt)), ((refl, tt), (tt, tt))))))) there in (
        s,
        object_spelled (object ms) (settings_fields s) (ap Some names) refl (at_batch, (at_fence, (at_greatest_batch, (at_greatest_transfer, (at_lone, (at_staging, (at_version, tt))))))),
        λ i. record { version = version; greatest_batch = greatest_batch; greatest_transfer = greatest_transfer; lone = lone; batch = kept i; fence = fence; staging = staging },
      )

-- ---- images

module _ (h : HeldImage) (ms : Members) (are : IsImageHeld h ms) where
  pub other_image : h.has_others ≡ true → (i : ImageText) → object ms ≢ image_value i
  other_image is i e = no_others ms (image_fields i) (subst (HasOthers image_names ms) is are.others) e

  pub is_image : (base : ℕ) (bytes : Bor (List ℕ)) → AreInOrder ms → h.has_others ≡ false → Some base ≡ slot_option h.base → Some bytes ≡ slot_option h.bytes → object ms ≡ image_value (record { base = base; bytes = bytes.now })
  unfolding IsStrictlySortedBy
  is_image base bytes order none is_base is_bytes =
      let others = subst (HasOthers image_names ms) none are.others in
      let at_base = read_option {X = ℕ} whole (λ n. n) (get_member (codes "base") ms) h.base base are.base is_base in
      let at_bytes = read_option {X = Bor (List ℕ)} string (λ text. text.now) (get_member (codes "bytes") ms) h.bytes bytes are.bytes is_bytes in
      let there = all_there ms image_names others (ap is_some at_base, (ap is_some at_bytes, tt)) in
      let names = names_are ms image_names order ((refl, tt), (tt, tt)) there in
      object_spelled (object ms) (image_fields (record { base = base; bytes = bytes.now })) (ap Some names) refl (at_base, (at_bytes, tt))
