-- ---- for private clauses: settings and images, member by member
use Rattle.std.specs.Prelude.{ℕ, List, [], ◌∷◌, codes, Option}
use Rattle.std.specs.Borrow.{Bor}
use Rattle.serde_json.specs.Data.{Data, string, Members}
use Rattle.serde_json.specs.Find.{get_member}
use Rattle.dsa_tokens.specs.Said.{Holds}
use Rattle.dsa_tokens.specs.Spelled.{HasOthers, Reads, ReadsKept, whole}
use Rattle.dsa_report.specs.Settings.{batch_shown, batch_value, kept_batch}
use Rattle.dsa_report.specs.declared.image.HeldImage.{HeldImage}
use Rattle.dsa_report.specs.declared.settings.Batch.{Batch}
use Rattle.dsa_report.specs.declared.settings.Held.{Held}

-- what is said of prices of batches
abbrev pub SaysBatch : Data → Option Batch → Type 0
SaysBatch d found = ReadsKept {X = Batch} batch_value kept_batch batch_shown d found

-- of a number
abbrev pub SaysNumber : Data → Option ℕ → Type 0
SaysNumber d found = Reads {X = ℕ} whole (λ n. n) d found

-- and of a text
abbrev pub SaysBytes : Data → Option (Bor (List ℕ)) → Type 0
SaysBytes d found = Reads {X = Bor (List ℕ)} string (λ text. text.now) d found

-- the names of the members of settings
abbrev pub settings_names : List (List ℕ)
settings_names =
    codes "batch" ∷ codes "fence" ∷ codes "greatest_batch" ∷ codes "greatest_transfer" ∷ codes "lone" ∷ codes "staging" ∷ codes "version" ∷ []

-- what was read is of these members
pub record AreHeld (h : Held) (ms : Members) : Type 0 where
  pub batch : Holds SaysBatch (get_member (codes "batch") ms) h.batch
  pub fence : Holds SaysNumber (get_member (codes "fence") ms) h.fence
  pub greatest_batch : Holds SaysNumber (get_member (codes "greatest_batch") ms) h.greatest_batch
  pub greatest_transfer : Holds SaysNumber (get_member (codes "greatest_transfer") ms) h.greatest_transfer
  pub lone : Holds SaysNumber (get_member (codes "lone") ms) h.lone
  pub staging : Holds SaysNumber (get_member (codes "staging") ms) h.staging
  pub version : Holds SaysNumber (get_member (codes "version") ms) h.version
  pub others : HasOthers settings_names ms h.has_others

-- the names of the members of an image
abbrev pub image_names : List (List ℕ)
image_names = codes "base" ∷ codes "bytes" ∷ []

-- the same of an image
pub record IsImageHeld (h : HeldImage) (ms : Members) : Type 0 where
  pub base : Holds SaysNumber (get_member (codes "base") ms) h.base
  pub bytes : Holds SaysBytes (get_member (codes "bytes") ms) h.bytes
  pub others : HasOthers image_names ms h.has_others
