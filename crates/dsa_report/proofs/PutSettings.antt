-- A member that is put into settings.
use Rattle.std.proofs.Common.{◌≡◌, ℕ, List, codes, Some, true, false, refl}
use Rattle.serde_json.specs.Data.{Data, Members, put}
use Rattle.dsa_tokens.specs.Said.{Holds}
use Rattle.dsa_tokens.specs.Spelled.{is_named}
use Rattle.dsa_tokens.specs.declared.slots.Slot.{Slot}
use Rattle.dsa_tokens.proofs.Kept.{put_slot, keep_slot, keep_others, more_others, unlike}
use Rattle.dsa_report.specs.Held.{AreHeld, SaysBatch, SaysNumber, settings_names}
use Rattle.dsa_report.specs.declared.settings.Batch.{Batch}
use Rattle.dsa_report.specs.declared.settings.Held.{Held}

module _ (h : Held) (d : Data) (ms : Members) (are : AreHeld h ms) where
  pub put_batch : (slot : Slot (Batch)) → Holds SaysBatch (Some d) slot → AreHeld (record h { batch = slot }) (put (codes "batch") d ms)
  put_batch slot held = record {
    batch = put_slot SaysBatch slot d ms (codes "batch") held;
    fence = keep_slot SaysNumber h.fence d ms (codes "fence") (codes "batch") refl are.fence;
    greatest_batch = keep_slot SaysNumber h.greatest_batch d ms (codes "greatest_batch") (codes "batch") refl are.greatest_batch;
    greatest_transfer = keep_slot SaysNumber h.greatest_transfer d ms (codes "greatest_transfer") (codes "batch") refl are.greatest_transfer;
    lone = keep_slot SaysNumber h.lone d ms (codes "lone") (codes "batch") refl are.lone;
    staging = keep_slot SaysNumber h.staging d ms (codes "staging") (codes "batch") refl are.staging;
    version = keep_slot SaysNumber h.version d ms (codes "version") (codes "batch") refl are.version;
    others = keep_others settings_names d ms (codes "batch") h.has_others refl are.others;
  }

  pub put_fence : (slot : Slot (ℕ)) → Holds SaysNumber (Some d) slot → AreHeld (record h { fence = slot }) (put (codes "fence") d ms)
  put_fence slot held = record {
    batch = keep_slot SaysBatch h.batch d ms (codes "batch") (codes "fence") refl are.batch;
    fence = put_slot SaysNumber slot d ms (codes "fence") held;
    greatest_batch = keep_slot SaysNumber h.greatest_batch d ms (codes "greatest_batch") (codes "fence") refl are.greatest_batch;
    greatest_transfer = keep_slot SaysNumber h.greatest_transfer d ms (codes "greatest_transfer") (codes "fence") refl are.greatest_transfer;
    lone = keep_slot SaysNumber h.lone d ms (codes "lone") (codes "fence") refl are.lone;
    staging = keep_slot SaysNumber h.staging d ms (codes "staging") (codes "fence") refl are.staging;
    version = keep_slot SaysNumber h.version d ms (codes "version") (codes "fence") refl are.version;
    others = keep_others settings_names d ms (codes "fence") h.has_others refl are.others;
  }

  pub put_greatest_batch : (slot : Slot (ℕ)) → Holds SaysNumber (Some d) slot → AreHeld (record h { greatest_batch = slot }) (put (codes "greatest_batch") d ms)
  put_greatest_batch slot held = record {
    batch = keep_slot SaysBatch h.batch d ms (codes "batch") (codes "greatest_batch") refl are.batch;
    fence = keep_slot SaysNumber h.fence d ms (codes "fence") (codes "greatest_batch") refl are.fence;
    greatest_batch = put_slot SaysNumber slot d ms (codes "greatest_batch") held;
    greatest_transfer = keep_slot SaysNumber h.greatest_transfer d ms (codes "greatest_transfer") (codes "greatest_batch") refl are.greatest_transfer;
    lone = keep_slot SaysNumber h.lone d ms (codes "lone") (codes "greatest_batch") refl are.lone;
    staging = keep_slot SaysNumber h.staging d ms (codes "staging") (codes "greatest_batch") refl are.staging;
    version = keep_slot SaysNumber h.version d ms (codes "version") (codes "greatest_batch") refl are.version;
    others = keep_others settings_names d ms (codes "greatest_batch") h.has_others refl are.others;
  }

  pub put_greatest_transfer : (slot : Slot (ℕ)) → Holds SaysNumber (Some d) slot → AreHeld (record h { greatest_transfer = slot }) (put (codes "greatest_transfer") d ms)
  put_greatest_transfer slot held = record {
    batch = keep_slot SaysBatch h.batch d ms (codes "batch") (codes "greatest_transfer") refl are.batch;
    fence = keep_slot SaysNumber h.fence d ms (codes "fence") (codes "greatest_transfer") refl are.fence;
    greatest_batch = keep_slot SaysNumber h.greatest_batch d ms (codes "greatest_batch") (codes "greatest_transfer") refl are.greatest_batch;
    greatest_transfer = put_slot SaysNumber slot d ms (codes "greatest_transfer") held;
    lone = keep_slot SaysNumber h.lone d ms (codes "lone") (codes "greatest_transfer") refl are.lone;
    staging = keep_slot SaysNumber h.staging d ms (codes "staging") (codes "greatest_transfer") refl are.staging;
    version = keep_slot SaysNumber h.version d ms (codes "version") (codes "greatest_transfer") refl are.version;
    others = keep_others settings_names d ms (codes "greatest_transfer") h.has_others refl are.others;
  }

  pub put_lone : (slot : Slot (ℕ)) → Holds SaysNumber (Some d) slot → AreHeld (record h { lone = slot }) (put (codes "lone") d ms)
  put_lone slot held = record {
    batch = keep_slot SaysBatch h.batch d ms (codes "batch") (codes "lone") refl are.batch;
    fence = keep_slot SaysNumber h.fence d ms (codes "fence") (codes "lone") refl are.fence;
    greatest_batch = keep_slot SaysNumber h.greatest_batch d ms (codes "greatest_batch") (codes "lone") refl are.greatest_batch;
    greatest_transfer = keep_slot SaysNumber h.greatest_transfer d ms (codes "greatest_transfer") (codes "lone") refl are.greatest_transfer;
    lone = put_slot SaysNumber slot d ms (codes "lone") held;
    staging = keep_slot SaysNumber h.staging d ms (codes "staging") (codes "lone") refl are.staging;
    version = keep_slot SaysNumber h.version d ms (codes "version") (codes "lone") refl are.version;
    others = keep_others settings_names d ms (codes "lone") h.has_others refl are.others;
  }

  pub put_staging : (slot : Slot (ℕ)) → Holds SaysNumber (Some d) slot → AreHeld (record h { staging = slot }) (put (codes "staging") d ms)
  put_staging slot held = record {
    batch = keep_slot SaysBatch h.batch d ms (codes "batch") (codes "staging") refl are.batch;
    fence = keep_slot SaysNumber h.fence d ms (codes "fence") (codes "staging") refl are.fence;
    greatest_batch = keep_slot SaysNumber h.greatest_batch d ms (codes "greatest_batch") (codes "staging") refl are.greatest_batch;
    greatest_transfer = keep_slot SaysNumber h.greatest_transfer d ms (codes "greatest_transfer") (codes "staging") refl are.greatest_transfer;
    lone = keep_slot SaysNumber h.lone d ms (codes "lone") (codes "staging") refl are.lone;
    staging = put_slot SaysNumber slot d ms (codes "staging") held;
    version = keep_slot SaysNumber h.version d ms (codes "version") (codes "staging") refl are.version;
    others = keep_others settings_names d ms (codes "staging") h.has_others refl are.others;
  }

  pub put_version : (slot : Slot (ℕ)) → Holds SaysNumber (Some d) slot → AreHeld (record h { version = slot }) (put (codes "version") d ms)
  put_version slot held = record {
    batch = keep_slot SaysBatch h.batch d ms (codes "batch") (codes "version") refl are.batch;
    fence = keep_slot SaysNumber h.fence d ms (codes "fence") (codes "version") refl are.fence;
    greatest_batch = keep_slot SaysNumber h.greatest_batch d ms (codes "greatest_batch") (codes "version") refl are.greatest_batch;
    greatest_transfer = keep_slot SaysNumber h.greatest_transfer d ms (codes "greatest_transfer") (codes "version") refl are.greatest_transfer;
    lone = keep_slot SaysNumber h.lone d ms (codes "lone") (codes "version") refl are.lone;
    staging = keep_slot SaysNumber h.staging d ms (codes "staging") (codes "version") refl are.staging;
    version = put_slot SaysNumber slot d ms (codes "version") held;
    others = keep_others settings_names d ms (codes "version") h.has_others refl are.others;
  }

  pub put_other : (key : List ℕ) → is_named key settings_names ≡ false → AreHeld (record h { has_others = true }) (put key d ms)
  put_other key none = record {
    batch = keep_slot SaysBatch h.batch d ms (codes "batch") key (unlike key settings_names none (codes "batch") refl) are.batch;
    fence = keep_slot SaysNumber h.fence d ms (codes "fence") key (unlike key settings_names none (codes "fence") refl) are.fence;
    greatest_batch = keep_slot SaysNumber h.greatest_batch d ms (codes "greatest_batch") key (unlike key settings_names none (codes "greatest_batch") refl) are.greatest_batch;
    greatest_transfer = keep_slot SaysNumber h.greatest_transfer d ms (codes "greatest_transfer") key (unlike key settings_names none (codes "greatest_transfer") refl) are.greatest_transfer;
    lone = keep_slot SaysNumber h.lone d ms (codes "lone") key (unlike key settings_names none (codes "lone") refl) are.lone;
    staging = keep_slot SaysNumber h.staging d ms (codes "staging") key (unlike key settings_names none (codes "staging") refl) are.staging;
    version = keep_slot SaysNumber h.version d ms (codes "version") key (unlike key settings_names none (codes "version") refl) are.version;
    others = more_others settings_names d ms key none;
  }
