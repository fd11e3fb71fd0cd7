-- ---- for private clauses: the object of a job, member by member
use Rattle.std.specs.Prelude.{◌≡◌, ℕ, Bool, false, List, [], ◌∷◌, codes, Option, Some, None, option_map, Vec}
use Rattle.std.specs.declared.alloc.Global.{Global}
use Rattle.std.specs.Borrow.{Bor}
use Rattle.serde_json.specs.Data.{Data, string, object, Members}
use Rattle.serde_json.specs.Find.{as_object, get_member}
use Rattle.dsa_cert.specs.Document.{ReadsDocument}
use Rattle.dsa_core.specs.declared.event.Event.{Event}
use Rattle.dsa_tokens.specs.Said.{Holds, slot_is_there}
use Rattle.dsa_tokens.specs.declared.slots.Slot.TheVariants.{Missing}
use Rattle.dsa_tokens.specs.Spelled.{AreInOrder, HasOthers, Reads, ReadsKept, whole}
use Rattle.dsa_report.specs.Image.{image_shown, image_value}
use Rattle.dsa_report.specs.Job.{Member, the_certificate, the_name, the_engines, the_image, the_list, the_plan, the_portal, the_settings, the_staging, the_trace}
use Rattle.dsa_report.specs.Plan.{kept_plan, plan_value}
use Rattle.dsa_report.specs.Settings.{kept_settings, settings_shown, settings_value}
use Rattle.dsa_report.specs.Trace.{ReadsTrace}
use Rattle.dsa_report.specs.declared.fields.Slots.{Slots}
use Rattle.dsa_report.specs.declared.image.ImageMembers.{ImageMembers}
use Rattle.dsa_report.specs.declared.settings.Numbers.{Numbers}

-- ---- what is said of the values

-- of a whole number
abbrev pub SaysWhole : Data → Option ℕ → Type 0
SaysWhole d found = Reads {X = ℕ} whole (λ n. n) d found

-- of a text
abbrev pub SaysText : Data → Option (Bor (List ℕ)) → Type 0
SaysText d found = Reads {X = Bor (List ℕ)} string (λ text. text.now) d found

-- of an image
abbrev pub SaysImage : Data → Option ImageMembers → Type 0
SaysImage d found = Reads {X = ImageMembers} image_value image_shown d found

-- of a plan
abbrev pub SaysPlan : Data → Option (List (List Bool)) → Type 0
SaysPlan d found = ReadsKept {X = List (List Bool)} plan_value kept_plan (λ plan. plan) d found

-- of settings
abbrev pub SaysSettings : Data → Option Numbers → Type 0
SaysSettings d found = ReadsKept {X = Numbers} settings_value kept_settings settings_shown d found

-- and of a trace
abbrev pub SaysTrace : Data → Option (Vec Event Global) → Type 0
SaysTrace d found = ReadsTrace d (option_map (λ v. v.items) found)

-- ---- the members

-- all members that some job has
abbrev pub all_members : List Member
all_members =
    the_certificate ∷ the_name ∷ the_engines ∷ the_image ∷ the_list ∷ the_plan ∷ the_portal ∷ the_settings ∷ the_staging ∷ the_trace ∷ []

-- their names
abbrev pub all_names : List (List ℕ)
all_names =
    codes "certificate" ∷ codes "do" ∷ codes "engines" ∷ codes "image" ∷ codes "list" ∷ codes "plan" ∷ codes "portal" ∷ codes "settings" ∷ codes "staging"
    ∷ codes "trace" ∷ []

-- what was read is of these members
pub record AreSlots (s : Slots) (ms : Members) : Type 0 where
  pub certificate : Holds ReadsDocument (get_member (codes "certificate") ms) s.certificate
  pub name : Holds SaysText (get_member (codes "do") ms) s.name
  pub engines : Holds SaysWhole (get_member (codes "engines") ms) s.engines
  pub image : Holds SaysImage (get_member (codes "image") ms) s.image
  pub list : Holds SaysText (get_member (codes "list") ms) s.list
  pub plan : Holds SaysPlan (get_member (codes "plan") ms) s.plan
  pub portal : Holds SaysText (get_member (codes "portal") ms) s.portal
  pub settings : Holds SaysSettings (get_member (codes "settings") ms) s.settings
  pub staging : Holds SaysText (get_member (codes "staging") ms) s.staging
  pub trace : Holds SaysTrace (get_member (codes "trace") ms) s.trace
  pub others : HasOthers all_names ms s.has_others

-- nothing is read yet
abbrev pub no_slots : Slots
no_slots = record {
  certificate = Missing;
  name = Missing;
  engines = Missing;
  image = Missing;
  list = Missing;
  plan = Missing;
  portal = Missing;
  settings = Missing;
  staging = Missing;
  trace = Missing;
  has_others = false;
}

-- whether there is a value for each member
abbrev pub there_in : Slots → List Bool
there_in s =
    slot_is_there s.certificate ∷ slot_is_there s.name ∷ slot_is_there s.engines ∷ slot_is_there s.image ∷ slot_is_there s.list ∷ slot_is_there s.plan ∷ slot_is_there s.portal ∷ slot_is_there s.settings ∷ slot_is_there s.staging ∷ slot_is_there s.trace ∷ []

-- what was read of an object, or that the value is none
abbrev pub IsObject : Data → Option Slots → Type 0
IsObject d None = as_object d ≡ None
IsObject d (Some slots) = (ms : Members) × (d ≡ object ms) × AreInOrder ms × AreSlots slots ms
