-- A member that is put into the object of a job.
use Rattle.std.proofs.Common.{◌≡◌, ℕ, Bool, List, codes, Some, true, false, Bor, Vec, Global, refl}
use Rattle.serde_json.specs.Data.{Data, Members, put}
use Rattle.dsa_tokens.specs.Said.{Holds}
use Rattle.dsa_tokens.specs.Spelled.{is_named}
use Rattle.dsa_tokens.specs.declared.slots.Slot.{Slot}
use Rattle.dsa_tokens.proofs.Kept.{put_slot, keep_slot, keep_others, more_others, unlike}
use Rattle.dsa_cert.specs.Document.{ReadsDocument}
use Rattle.dsa_core.specs.declared.event.Event.{Event}
use Rattle.dsa_plan.specs.declared.certificate.Certificate.{Certificate}
use Rattle.dsa_report.specs.Fields.{AreSlots, SaysImage, SaysPlan, SaysSettings, SaysText, SaysTrace, SaysWhole, all_names}
use Rattle.dsa_report.specs.declared.fields.Slots.{Slots}
use Rattle.dsa_report.specs.declared.image.ImageMembers.{ImageMembers}
use Rattle.dsa_report.specs.declared.settings.Numbers.{Numbers}

module _ (s : Slots) (d : Data) (ms : Members) (are : AreSlots s ms) where
  pub put_certificate : (slot : Slot (Certificate)) → Holds ReadsDocument (Some d) slot → AreSlots (record s { certificate = slot }) (put (codes "certificate") d ms)
  put_certificate slot held = record {
    certificate = put_slot ReadsDocument slot d ms (codes "certificate") held;
    name = keep_slot SaysText s.name d ms (codes "do") (codes "certificate") refl are.name;
    engines = keep_slot SaysWhole s.engines d ms (codes "engines") (codes "certificate") refl are.engines;
    image = keep_slot SaysImage s.image d ms (codes "image") (codes "certificate") refl are.image;
    list = keep_slot SaysText s.list d ms (codes "list") (codes "certificate") refl are.list;
    plan = keep_slot SaysPlan s.plan d ms (codes "plan") (codes "certificate") refl are.plan;
    portal = keep_slot SaysText s.portal d ms (codes "portal") (codes "certificate") refl are.portal;
    settings = keep_slot SaysSettings s.settings d ms (codes "settings") (codes "certificate") refl are.settings;
    staging = keep_slot SaysText s.staging d ms (codes "staging") (codes "certificate") refl are.staging;
    trace = keep_slot SaysTrace s.trace d ms (codes "trace") (codes "certificate") refl are.trace;
    others = keep_others all_names d ms (codes "certificate") s.has_others refl are.others;
  }

  pub put_name : (slot : Slot (Bor (List ℕ))) → Holds SaysText (Some d) slot → AreSlots (record s { name = slot }) (put (codes "do") d ms)
  put_name slot held = record {
    certificate = keep_slot ReadsDocument s.certificate d ms (codes "certificate") (codes "do") refl are.certificate;
    name = put_slot SaysText slot d ms (codes "do") held;
    engines = keep_slot SaysWhole s.engines d ms (codes "engines") (codes "do") refl are.engines;
    image = keep_slot SaysImage s.image d ms (codes "image") (codes "do") refl are.image;
    list = keep_slot SaysText s.list d ms (codes "list") (codes "do") refl are.list;
    plan = keep_slot SaysPlan s.plan d ms (codes "plan") (codes "do") refl are.plan;
    portal = keep_slot SaysText s.portal d ms (codes "portal") (codes "do") refl are.portal;
    settings = keep_slot SaysSettings s.settings d ms (codes "settings") (codes "do") refl are.settings;
    staging = keep_slot SaysText s.staging d ms (codes "staging") (codes "do") refl are.staging;
    trace = keep_slot SaysTrace s.trace d ms (codes "trace") (codes "do") refl are.trace;
    others = keep_others all_names d ms (codes "do") s.has_others refl are.others;
  }

  pub put_engines : (slot : Slot (ℕ)) → Holds SaysWhole (Some d) slot → AreSlots (record s { engines = slot }) (put (codes "engines") d ms)
  put_engines slot held = record {
    certificate = keep_slot ReadsDocument s.certificate d ms (codes "certificate") (codes "engines") refl are.certificate;
    name = keep_slot SaysText s.name d ms (codes "do") (codes "engines") refl are.name;
    engines = put_slot SaysWhole slot d ms (codes "engines") held;
    image = keep_slot SaysImage s.image d ms (codes "image") (codes "engines") refl are.image;
    list = keep_slot SaysText s.list d ms (codes "list") (codes "engines") refl are.list;
    plan = keep_slot SaysPlan s.plan d ms (codes "plan") (codes "engines") refl are.plan;
    portal = keep_slot SaysText s.portal d ms (codes "portal") (codes "engines") refl are.portal;
    settings = keep_slot SaysSettings s.settings d ms (codes "settings") (codes "engines") refl are.settings;
    staging = keep_slot SaysText s.staging d ms (codes "staging") (codes "engines") refl are.staging;
    trace = keep_slot SaysTrace s.trace d ms (codes "trace") (codes "engines") refl are.trace;
    others = keep_others all_names d ms (codes "engines") s.has_others refl are.others;
  }

  pub put_image : (slot : Slot (ImageMembers)) → Holds SaysImage (Some d) slot → AreSlots (record s { image = slot }) (put (codes "image") d ms)
  put_image slot held = record {
    certificate = keep_slot ReadsDocument s.certificate d ms (codes "certificate") (codes "image") refl are.certificate;
    name = keep_slot SaysText s.name d ms (codes "do") (codes "image") refl are.name;
    engines = keep_slot SaysWhole s.engines d ms (codes "engines") (codes "image") refl are.engines;
    image = put_slot SaysImage slot d ms (codes "image") held;
    list = keep_slot SaysText s.list d ms (codes "list") (codes "image") refl are.list;
    plan = keep_slot SaysPlan s.plan d ms (codes "plan") (codes "image") refl are.plan;
    portal = keep_slot SaysText s.portal d ms (codes "portal") (codes "image") refl are.portal;
    settings = keep_slot SaysSettings s.settings d ms (codes "settings") (codes "image") refl are.settings;
    staging = keep_slot SaysText s.staging d ms (codes "staging") (codes "image") refl are.staging;
    trace = keep_slot SaysTrace s.trace d ms (codes "trace") (codes "image") refl are.trace;
    others = keep_others all_names d ms (codes "image") s.has_others refl are.others;
  }

  pub put_list : (slot : Slot (Bor (List ℕ))) → Holds SaysText (Some d) slot → AreSlots (record s { list = slot }) (put (codes "list") d ms)
  put_list slot held = record {
    certificate = keep_slot ReadsDocument s.certificate d ms (codes "certificate") (codes "list") refl are.certificate;
    name = keep_slot SaysText s.name d ms (codes "do") (codes "list") refl are.name;
    engines = keep_slot SaysWhole s.engines d ms (codes "engines") (codes "list") refl are.engines;
    image = keep_slot SaysImage s.image d ms (codes "image") (codes "list") refl are.image;
    list = put_slot SaysText slot d ms (codes "list") held;
    plan = keep_slot SaysPlan s.plan d ms (codes "plan") (codes "list") refl are.plan;
    portal = keep_slot SaysText s.portal d ms (codes "portal") (codes "list") refl are.portal;
    settings = keep_slot SaysSettings s.settings d ms (codes "settings") (codes "list") refl are.settings;
    staging = keep_slot SaysText s.staging d ms (codes "staging") (codes "list") refl are.staging;
    trace = keep_slot SaysTrace s.trace d ms (codes "trace") (codes "list") refl are.trace;
    others = keep_others all_names d ms (codes "list") s.has_others refl are.others;
  }

  pub put_plan : (slot : Slot (List (List Bool))) → Holds SaysPlan (Some d) slot → AreSlots (record s { plan = slot }) (put (codes "plan") d ms)
  put_plan slot held = record {
    certificate = keep_slot ReadsDocument s.certificate d ms (codes "certificate") (codes "plan") refl are.certificate;
    name = keep_slot SaysText s.name d ms (codes "do") (codes "plan") refl are.name;
    engines = keep_slot SaysWhole s.engines d ms (codes "engines") (codes "plan") refl are.engines;
    image = keep_slot SaysImage s.image d ms (codes "image") (codes "plan") refl are.image;
    list = keep_slot SaysText s.list d ms (codes "list") (codes "plan") refl are.list;
    plan = put_slot SaysPlan slot d ms (codes "plan") held;
    portal = keep_slot SaysText s.portal d ms (codes "portal") (codes "plan") refl are.portal;
    settings = keep_slot SaysSettings s.settings d ms (codes "settings") (codes "plan") refl are.settings;
    staging = keep_slot SaysText s.staging d ms (codes "staging") (codes "plan") refl are.staging;
    trace = keep_slot SaysTrace s.trace d ms (codes "trace") (codes "plan") refl are.trace;
    others = keep_others all_names d ms (codes "plan") s.has_others refl are.others;
  }

  pub put_portal : (slot : Slot (Bor (List ℕ))) → Holds SaysText (Some d) slot → AreSlots (record s { portal = slot }) (put (codes "portal") d ms)
  put_portal slot held = record {
    certificate = keep_slot ReadsDocument s.certificate d ms (codes "certificate") (codes "portal") refl are.certificate;
    name = keep_slot SaysText s.name d ms (codes "do") (codes "portal") refl are.name;
    engines = keep_slot SaysWhole s.engines d ms (codes "engines") (codes "portal") refl are.engines;
    image = keep_slot SaysImage s.image d ms (codes "image") (codes "portal") refl are.image;
    list = keep_slot SaysText s.list d ms (codes "list") (codes "portal") refl are.list;
    plan = keep_slot SaysPlan s.plan d ms (codes "plan") (codes "portal") refl are.plan;
    portal = put_slot SaysText slot d ms (codes "portal") held;
    settings = keep_slot SaysSettings s.settings d ms (codes "settings") (codes "portal") refl are.settings;
    staging = keep_slot SaysText s.staging d ms (codes "staging") (codes "portal") refl are.staging;
    trace = keep_slot SaysTrace s.trace d ms (codes "trace") (codes "portal") refl are.trace;
    others = keep_others all_names d ms (codes "portal") s.has_others refl are.others;
  }

  pub put_settings : (slot : Slot (Numbers)) → Holds SaysSettings (Some d) slot → AreSlots (record s { settings = slot }) (put (codes "settings") d ms)
  put_settings slot held = record {
    certificate = keep_slot ReadsDocument s.certificate d ms (codes "certificate") (codes "settings") refl are.certificate;
    name = keep_slot SaysText s.name d ms (codes "do") (codes "settings") refl are.name;
    engines = keep_slot SaysWhole s.engines d ms (codes "engines") (codes "settings") refl are.engines;
    image = keep_slot SaysImage s.image d ms (codes "image") (codes "settings") refl are.image;
    list = keep_slot SaysText s.list d ms (codes "list") (codes "settings") refl are.list;
    plan = keep_slot SaysPlan s.plan d ms (codes "plan") (codes "settings") refl are.plan;
    portal = keep_slot SaysText s.portal d ms (codes "portal") (codes "settings") refl are.portal;
    settings = put_slot SaysSettings slot d ms (codes "settings") held;
    staging = keep_slot SaysText s.staging d ms (codes "staging") (codes "settings") refl are.staging;
    trace = keep_slot SaysTrace s.trace d ms (codes "trace") (codes "settings") refl are.trace;
    others = keep_others all_names d ms (codes "settings") s.has_others refl are.others;
  }

  pub put_staging : (slot : Slot (Bor (List ℕ))) → Holds SaysText (Some d) slot → AreSlots (record s { staging = slot }) (put (codes "staging") d ms)
  put_staging slot held = record {
    certificate = keep_slot ReadsDocument s.certificate d ms (codes "certificate") (codes "staging") refl are.certificate;
    name = keep_slot SaysText s.name d ms (codes "do") (codes "staging") refl are.name;
    engines = keep_slot SaysWhole s.engines d ms (codes "engines") (codes "staging") refl are.engines;
    image = keep_slot SaysImage s.image d ms (codes "image") (codes "staging") refl are.image;
    list = keep_slot SaysText s.list d ms (codes "list") (codes "staging") refl are.list;
    plan = keep_slot SaysPlan s.plan d ms (codes "plan") (codes "staging") refl are.plan;
    portal = keep_slot SaysText s.portal d ms (codes "portal") (codes "staging") refl are.portal;
    settings = keep_slot SaysSettings s.settings d ms (codes "settings") (codes "staging") refl are.settings;
    staging = put_slot SaysText slot d ms (codes "staging") held;
    trace = keep_slot SaysTrace s.trace d ms (codes "trace") (codes "staging") refl are.trace;
    others = keep_others all_names d ms (codes "staging") s.has_others refl are.others;
  }

  pub put_trace : (slot : Slot (Vec Event Global)) → Holds SaysTrace (Some d) slot → AreSlots (record s { trace = slot }) (put (codes "trace") d ms)
  put_trace slot held = record {
    certificate = keep_slot ReadsDocument s.certificate d ms (codes "certificate") (codes "trace") refl are.certificate;
    name = keep_slot SaysText s.name d ms (codes "do") (codes "trace") refl are.name;
    engines = keep_slot SaysWhole s.engines d ms (codes "engines") (codes "trace") refl are.engines;
    image = keep_slot SaysImage s.image d ms (codes "image") (codes "trace") refl are.image;
    list = keep_slot SaysText s.list d ms (codes "list") (codes "trace") refl are.list;
    plan = keep_slot SaysPlan s.plan d ms (codes "plan") (codes "trace") refl are.plan;
    portal = keep_slot SaysText s.portal d ms (codes "portal") (codes "trace") refl are.portal;
    settings = keep_slot SaysSettings s.settings d ms (codes "settings") (codes "trace") refl are.settings;
    staging = keep_slot SaysText s.staging d ms (codes "staging") (codes "trace") refl are.staging;
    trace = put_slot SaysTrace slot d ms (codes "trace") held;
    others = keep_others all_names d ms (codes "trace") s.has_others refl are.others;
  }

  pub put_other : (key : List ℕ) → is_named key all_names ≡ false → AreSlots (record s { has_others = true }) (put key d ms)
  put_other key none = record {
    certificate = keep_slot ReadsDocument s.certificate d ms (codes "certificate") key (unlike key all_names none (codes "certificate") refl) are.certificate;
    name = keep_slot SaysText s.name d ms (codes "do") key (unlike key all_names none (codes "do") refl) are.name;
    engines = keep_slot SaysWhole s.engines d ms (codes "engines") key (unlike key all_names none (codes "engines") refl) are.engines;
    image = keep_slot SaysImage s.image d ms (codes "image") key (unlike key all_names none (codes "image") refl) are.image;
    list = keep_slot SaysText s.list d ms (codes "list") key (unlike key all_names none (codes "list") refl) are.list;
    plan = keep_slot SaysPlan s.plan d ms (codes "plan") key (unlike key all_names none (codes "plan") refl) are.plan;
    portal = keep_slot SaysText s.portal d ms (codes "portal") key (unlike key all_names none (codes "portal") refl) are.portal;
    settings = keep_slot SaysSettings s.settings d ms (codes "settings") key (unlike key all_names none (codes "settings") refl) are.settings;
    staging = keep_slot SaysText s.staging d ms (codes "staging") key (unlike key all_names none (codes "staging") refl) are.staging;
    trace = keep_slot SaysTrace s.trace d ms (codes "trace") key (unlike key all_names none (codes "trace") refl) are.trace;
    others = more_others all_names d ms key none;
  }
