-- A member that is put into an image.
use Rattle.std.proofs.Common.{◌≡◌, ℕ, List, codes, Some, true, false, Bor, refl}
use Rattle.serde_json.specs.Data.{Data, Members, put}
use Rattle.dsa_tokens.specs.Said.{Holds}
use Rattle.dsa_tokens.specs.Spelled.{is_named}
use Rattle.dsa_tokens.specs.declared.slots.Slot.{Slot}
use Rattle.dsa_tokens.proofs.Kept.{put_slot, keep_slot, keep_others, more_others, unlike}
use Rattle.dsa_report.specs.Held.{IsImageHeld, SaysBytes, SaysNumber, image_names}
use Rattle.dsa_report.specs.declared.image.HeldImage.{HeldImage}

module _ (h : HeldImage) (d : Data) (ms : Members) (are : IsImageHeld h ms) where
  pub put_base : (slot : Slot (ℕ)) → Holds SaysNumber (Some d) slot → IsImageHeld (record h { base = slot }) (put (codes "base") d ms)
  put_base slot held = record {
    base = put_slot SaysNumber slot d ms (codes "base") held;
    bytes = keep_slot SaysBytes h.bytes d ms (codes "bytes") (codes "base") refl are.bytes;
    others = keep_others image_names d ms (codes "base") h.has_others refl are.others;
  }

  pub put_bytes : (slot : Slot (Bor (List ℕ))) → Holds SaysBytes (Some d) slot → IsImageHeld (record h { bytes = slot }) (put (codes "bytes") d ms)
  put_bytes slot held = record {
    base = keep_slot SaysNumber h.base d ms (codes "base") (codes "bytes") refl are.base;
    bytes = put_slot SaysBytes slot d ms (codes "bytes") held;
    others = keep_others image_names d ms (codes "bytes") h.has_others refl are.others;
  }

  pub put_other : (key : List ℕ) → is_named key image_names ≡ false → IsImageHeld (record h { has_others = true }) (put key d ms)
  put_other key none = record {
    base = keep_slot SaysNumber h.base d ms (codes "base") key (unlike key image_names none (codes "base") refl) are.base;
    bytes = keep_slot SaysBytes h.bytes d ms (codes "bytes") key (unlike key image_names none (codes "bytes") refl) are.bytes;
    others = more_others image_names d ms key none;
  }
