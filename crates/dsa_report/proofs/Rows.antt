-- The members of a job, read one after another by its row.
use Rattle.std.proofs.Common.{◌≡◌, ◌≢◌, ℕ, Bool, true, false, ◌||◌, List, [], ◌∷◌, map, codes, Option, Some, None, is_some, option_map, Ordering, Less, Equal, Greater, is_eq, nat_cmp, refl, sym, ap, subst, ◌∙◌, true≢false}
use Rattle.std.proofs.lemmas.Slice.Eq.{bytes_eq-Decides}
use Rattle.std.proofs.lemmas.Map.Text.{is_eq-slice_cmp}
use Rattle.std.specs.Cmp.Lexicographic.{slice_cmp}
use Rattle.std.specs.Ordering.{match_ordering}
use Rattle.std.specs.Str.{bytes_eq}
use Rattle.std.specs.List.{AllByRecursion}
use Rattle.serde_json.specs.Data.{Data, null, boolean, number, string, array, object, Members as Entries, no_members, member}
use Rattle.serde_json.specs.Find.{get, get_member}
use Rattle.dsa_cert.specs.Document.{ReadsDocument}
use Rattle.dsa_tokens.specs.Said.{Holds}
use Rattle.dsa_tokens.specs.declared.slots.Slot.{Slot}
use Rattle.dsa_tokens.specs.declared.slots.Slot.TheVariants.{Missing, Other, Held}
use Rattle.dsa_report.specs.Fields.{SaysTrace}
use Rattle.dsa_tokens.specs.Spelled.{whole, member_names}
use Rattle.dsa_cert.proofs.Objects.{are_apart, object_spelled}
use Rattle.dsa_report.specs.declared.jobs.JobName.{JobName}
use Rattle.dsa_report.specs.declared.members.Members.{Members}
use Rattle.dsa_report.specs.Image.{image_shown, image_value}
use Rattle.dsa_report.specs.Plan.{kept_plan, plan_value}
use Rattle.dsa_report.specs.Settings.{SettingsText, kept_settings, settings_shown, settings_value}
use Rattle.dsa_report.specs.Job.{Member, the_certificate, the_name, the_engines, the_image, the_list, the_plan, the_portal, the_settings, the_staging, the_trace, members_of, member_name, is_same, is_among, has, HeldIf, JobMembers, value_if, member_value, job_fields, named_value, HasName, HasMembers}
use Rattle.dsa_report.specs.Read.{AreRead, IsRead, KeptIsRead, SlotIsRead, ReadsHeld, ReadsMembers}
use Rattle.dsa_report.proofs.EachJob.{row}
use Rattle.dsa_report.proofs.SameJobs.{same_member, one_member, get_among}

-- ---- the value at the name of a member

is_itself : (m : Member) → is_same m m ≡ true
is_itself the_certificate = refl
is_itself the_name = refl
is_itself the_engines = refl
is_itself the_image = refl
is_itself the_list = refl
is_itself the_plan = refl
is_itself the_portal = refl
is_itself the_settings = refl
is_itself the_staging = refl
is_itself the_trace = refl

-- the names of members are one where the members are
pub same_bytes : (m n : Member) → bytes_eq (member_name m) (member_name n) ≡ is_same m n
same_bytes m n = go (is_same m n) (bytes_eq (member_name m) (member_name n)) refl refl
  where
    equal : is_same m n ≡ true → bytes_eq (member_name m) (member_name n) ≡ true
    equal e = (bytes_eq-Decides (member_name m) (member_name n)).1 (ap member_name (same_member m n e))

    one : bytes_eq (member_name m) (member_name n) ≡ true → is_same m n ≡ true
    one e = subst (λ (x : Member). is_same m x ≡ true) (one_member m n ((bytes_eq-Decides (member_name m) (member_name n)).0 e)) (is_itself m)

    go : (a b : Bool) → is_same m n ≡ a → bytes_eq (member_name m) (member_name n) ≡ b → bytes_eq (member_name m) (member_name n) ≡ is_same m n
    go true b e f = equal e ∙ sym e
    go false true e f = f ∙ sym (one f)
    go false false e f = f ∙ sym e

-- there is a value at a name if the name is that of the first member, or of one after it
some_picked : (o : Ordering) (here : Data) (rest : Option Data) → is_some (match_ordering o rest (Some here) rest) ≡ (is_eq o || is_some rest)
some_picked Less here rest = refl
some_picked Equal here rest = refl
some_picked Greater here rest = refl

among_members : (ms : Entries) (row : List Member) (m : Member) → member_names ms ≡ map member_name row → is_some (get_member (member_name m) ms) ≡ is_among m row
among_members no_members [] m e = refl
among_members no_members (n ∷ row) m e = cc
among_members (member k d ms) [] m e = cc
among_members (member k d ms) (n ∷ row) m e =
    let first : k ≡ member_name n = cc in
    let more : member_names ms ≡ map member_name row = cc in
    let here : is_eq (slice_cmp nat_cmp (member_name m) k) ≡ is_same m n =
    is_eq-slice_cmp (member_name m) k ∙ ap (bytes_eq (member_name m)) first ∙ same_bytes m n in
    some_picked (slice_cmp nat_cmp (member_name m) k) d (get_member (member_name m) ms)
    ∙ ap (λ (b : Bool). b || is_some (get_member (member_name m) ms)) here
    ∙ ap (λ (b : Bool). is_same m n || b) (among_members ms row m more)

-- so a value with the members of a job has the members that the job's row lists
pub is_held : (d : Data) (name : JobName) (m : Member) → HasMembers d name → is_some (get (member_name m) d) ≡ has name m
is_held (object ms) name m e = among_members ms (members_of name) m (cc)
is_held null name m e = cc
is_held (boolean b) name m e = cc
is_held (number n) name m e = cc
is_held (string s) name m e = cc
is_held (array ds) name m e = cc

-- if the value at the name of a member spells nothing, the whole value spells no job
apart : {A : Type 0} (there : Bool) (spelling : A → Data) (held : HeldIf there A) (found : Option Data) → (there ≡ true → found ≡ Some (value_if there spelling held))
    → there ≡ true → ((y : A) → found ≢ Some (spelling y)) → ⊥
apart true spelling held found is there none = none held (is refl)
apart false spelling held found is there none = true≢false (sym there)

pub no_such_job : {X Y : Type 0} (m : Member) (spelling : Y → Data) (shown : X → Y) (d : Data) (name : JobName) (held : JobMembers name → HeldIf (has name m) Y)
    → ((j : JobMembers name) → member_value name j m ≡ value_if (has name m) spelling (held j)) → HasMembers d name → ReadsHeld (member_name m) spelling shown d None
    → (j : JobMembers name) → d ≢ named_value name j
no_such_job m spelling shown d name held is members (some, other) j e =
    apart (has name m) spelling (held j) (get (member_name m) d) (λ listed. ap (get (member_name m)) e ∙ get_among (member_value name j) (members_of name) m listed ∙ ap Some (is j))
    (sym (is_held d name m members) ∙ some) other

-- ---- the whole of a job

or_right : (a b : Bool) → b ≡ true → (a || b) ≡ true
or_right true b e = refl
or_right false b e = e

or_left : (a b : Bool) → a ≡ true → (a || b) ≡ true
or_left true b e = refl
or_left false b e = absurd (true≢false (sym e))

all_found : (d : Data) (f : Member → Data) (ms : List Member) → ((m : Member) → is_among m ms ≡ true → get (member_name m) d ≡ Some (f m))
    → AllByRecursion (λ (field : List ℕ × Data). get field.0 d ≡ Some field.1) (map (λ m. (member_name m, f m)) ms)
all_found d f [] found = tt
all_found d f (m ∷ ms) found = (
  found m (or_left (is_same m m) (is_among m ms) (is_itself m)),
  all_found d f ms (λ n among. found n (or_right (is_same n m) (is_among n ms) among)),
)

-- the names of the members of a row
pub row_names : (f : Member → Data) (ms : List Member) → map (λ (field : List ℕ × Data). field.0) (map (λ m. (member_name m, f m)) ms) ≡ map member_name ms
row_names f [] = refl
row_names f (m ∷ ms) = ap (λ (names : List (List ℕ)). member_name m ∷ names) (row_names f ms)

-- ---- what was read

abbrev held_of : {A : Type 0} (there : Bool) (found : Option A) → is_some found ≡ there → HeldIf there A
held_of true (Some a) e = a
held_of true None e = absurd (true≢false (sym e))
held_of false found e = tt

is_read : {A : Type 0} (there : Bool) (found : Option A) (e : is_some found ≡ there) → IsRead there (held_of there found e) found
is_read true (Some a) e = refl
is_read true None e = absurd (true≢false (sym e))
is_read false (Some a) e = absurd (true≢false e)
is_read false None e = refl

-- of a member of which a part is kept, that part was read
kept_is_read : {A : Type 0} (there : Bool) (kept : A → A) (held : HeldIf there A) (found all : Option A) → IsRead there held all → found ≡ option_map kept all → KeptIsRead there kept held found
kept_is_read true kept held found all is e = e ∙ ap (option_map kept) is
kept_is_read false kept held found all is e = e ∙ ap (option_map kept) is

pub option_same : {A : Type 0} (o : Option A) → option_map (λ x. x) o ≡ o
option_same (Some a) = refl
option_same None = refl

-- something was read if there is a value at the name, that is, if the job has the member
some_read : {X Y : Type 0} (name : List ℕ) (spelling : Y → Data) (shown : X → Y) (d : Data) (found : Option X) → ReadsHeld name spelling shown d (Some found)
    → is_some (option_map shown found) ≡ is_some (get name d)
some_read name spelling shown d (Some x) is = sym (ap is_some is)
some_read name spelling shown d None is = sym (ap is_some is)

read_there : {X Y : Type 0} (m : Member) (spelling : Y → Data) (shown : X → Y) (d : Data) (name : JobName) (found : Option X) → HasMembers d name
    → ReadsHeld (member_name m) spelling shown d (Some found) → is_some (option_map shown found) ≡ has name m
read_there m spelling shown d name found members is = some_read (member_name m) spelling shown d found is ∙ is_held d name m members

-- what was read of a member is what it spells
read_value : {X Y : Type 0} (there : Bool) (name : List ℕ) (spelling : Y → Data) (shown : X → Y) (d : Data) (found : Option X) (e : is_some (option_map shown found) ≡ there)
    → ReadsHeld name spelling shown d (Some found) → there ≡ true → get name d ≡ Some (value_if there spelling (held_of there (option_map shown found) e))
read_value true name spelling shown d (Some x) e is there = is
read_value true name spelling shown d None e is there = absurd (true≢false (sym e))
read_value false name spelling shown d found e is there = absurd (true≢false (sym there))

-- the value at a name, whatever it is
value_held : (there : Bool) (found : Option Data) (e : is_some found ≡ there) → there ≡ true → found ≡ Some (value_if there (λ d. d) (held_of there found e))
value_held true (Some d) e there = refl
value_held true None e there = absurd (true≢false (sym e))
value_held false found e there = absurd (true≢false (sym there))

-- what was read of it is of what the member holds
slot_read : {A : Type 0} (there : Bool) (says : Data → Option A → Type 0) (found : Option Data) (slot : Slot A) (e : is_some found ≡ there) → Holds says found slot
    → SlotIsRead there says (held_of there found e) slot
slot_read true says (Some d) slot e held = held
slot_read true says None slot e held = absurd (true≢false (sym e))
slot_read false says (Some d) slot e held = absurd (true≢false e)
slot_read false says None Missing e held = refl
slot_read false says None Other e (d, is, kind) = absurd (cc)
slot_read false says None (Held x) e (d, is, kind) = absurd (cc)

-- where all members were read, the value spells the job
pub members_read : (d : Data) (name : JobName) (m : Members) (settings : SettingsText) (plan : Option (List (List Bool))) → HasMembers d name → HasName d name
    → settings_shown m.settings ≡ kept_settings settings → m.plan ≡ option_map kept_plan plan
    → get (codes "settings") d ≡ Some (settings_value settings)
    → Holds ReadsDocument (get (codes "certificate") d) m.certificate
    → ReadsHeld (codes "engines") whole (λ n. n) d (Some m.engines)
    → ReadsHeld (codes "image") image_value image_shown d (Some m.image)
    → ReadsHeld (codes "list") string (λ text. text.now) d (Some m.list)
    → ReadsHeld (codes "plan") plan_value (λ plan. plan) d (Some plan)
    → ReadsHeld (codes "portal") string (λ text. text.now) d (Some m.portal)
    → ReadsHeld (codes "staging") string (λ text. text.now) d (Some m.staging)
    → Holds SaysTrace (get (codes "trace") d) m.trace
    → ReadsMembers d name (Some m)
members_read d name m settings plan names named kept_settings_are kept_plan_is at_settings certificate engines image list at_plan portal staging trace = (j, spelled, are_read)
  where
    has_certificate : is_some (get (codes "certificate") d) ≡ has name the_certificate
    has_certificate = is_held d name the_certificate names

    has_engines : is_some (option_map (λ n. n) m.engines) ≡ has name the_engines
    has_engines = read_there the_engines whole (λ n. n) d name m.engines names engines

    has_image : is_some (option_map image_shown m.image) ≡ has name the_image
    has_image = read_there the_image image_value image_shown d name m.image names image

    has_list : is_some (option_map (λ text. text.now) m.list) ≡ has name the_list
    has_list = read_there the_list string (λ text. text.now) d name m.list names list

    has_plan : is_some (option_map (λ plan. plan) plan) ≡ has name the_plan
    has_plan = read_there the_plan plan_value (λ plan. plan) d name plan names at_plan

    has_portal : is_some (option_map (λ text. text.now) m.portal) ≡ has name the_portal
    has_portal = read_there the_portal string (λ text. text.now) d name m.portal names portal

    has_staging : is_some (option_map (λ text. text.now) m.staging) ≡ has name the_staging
    has_staging = read_there the_staging string (λ text. text.now) d name m.staging names staging

    has_trace : is_some (get (codes "trace") d) ≡ has name the_trace
    has_trace = is_held d name the_trace names

    j : JobMembers name
    j = record {
      settings = settings;
      certificate = held_of (has name the_certificate) (get (codes "certificate") d) has_certificate;
      engines = held_of (has name the_engines) (option_map (λ n. n) m.engines) has_engines;
      image = held_of (has name the_image) (option_map image_shown m.image) has_image;
      list = held_of (has name the_list) (option_map (λ text. text.now) m.list) has_list;
      plan = held_of (has name the_plan) (option_map (λ plan. plan) plan) has_plan;
      portal = held_of (has name the_portal) (option_map (λ text. text.now) m.portal) has_portal;
      staging = held_of (has name the_staging) (option_map (λ text. text.now) m.staging) has_staging;
      trace = held_of (has name the_trace) (get (codes "trace") d) has_trace;
    }

    at : (n : Member) → has name n ≡ true → get (member_name n) d ≡ Some (member_value name j n)
    at the_certificate there = value_held (has name the_certificate) (get (codes "certificate") d) has_certificate there
    at the_name there = named
    at the_engines there = read_value (has name the_engines) (member_name the_engines) whole (λ n. n) d m.engines has_engines engines there
    at the_image there = read_value (has name the_image) (member_name the_image) image_value image_shown d m.image has_image image there
    at the_list there = read_value (has name the_list) (member_name the_list) string (λ text. text.now) d m.list has_list list there
    at the_plan there = read_value (has name the_plan) (member_name the_plan) plan_value (λ plan. plan) d plan has_plan at_plan there
    at the_portal there = read_value (has name the_portal) (member_name the_portal) string (λ text. text.now) d m.portal has_portal portal there
    at the_settings there = at_settings
    at the_staging there = read_value (has name the_staging) (member_name the_staging) string (λ text. text.now) d m.staging has_staging staging there
    at the_trace there = value_held (has name the_trace) (get (codes "trace") d) has_trace there

    same : map (λ (field : List ℕ × Data). field.0) (job_fields name j) ≡ map member_name (members_of name)
    same = row_names (member_value name j) (members_of name)

    spelled : d ≡ named_value name j
    spelled = object_spelled d (job_fields name j) (names ∙ ap Some (sym same)) (ap are_apart same ∙ (row name).apart) (all_found d (member_value name j) (members_of name) at)

    are_read : AreRead name j m
    are_read = record {
      settings = kept_settings_are;
      certificate = slot_read (has name the_certificate) ReadsDocument (get (codes "certificate") d) m.certificate has_certificate certificate;
      engines = subst (IsRead (has name the_engines) j.engines) (option_same m.engines) (is_read (has name the_engines) (option_map (λ n. n) m.engines) has_engines);
      image = is_read (has name the_image) (option_map image_shown m.image) has_image;
      list = is_read (has name the_list) (option_map (λ text. text.now) m.list) has_list;
      plan = kept_is_read (has name the_plan) kept_plan j.plan m.plan plan (subst (IsRead (has name the_plan) j.plan) (option_same plan) (is_read (has name the_plan) (option_map (λ plan. plan) plan) has_plan)) kept_plan_is;
      portal = is_read (has name the_portal) (option_map (λ text. text.now) m.portal) has_portal;
      staging = is_read (has name the_staging) (option_map (λ text. text.now) m.staging) has_staging;
      trace = slot_read (has name the_trace) SaysTrace (get (codes "trace") d) m.trace has_trace trace;
    }
