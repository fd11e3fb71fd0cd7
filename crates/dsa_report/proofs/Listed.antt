-- The members of an object, by the slots into which they were read.
use Rattle.std.proofs.Common.{◌≡◌, ◌≢◌, ℕ, Bool, true, false, ◌||◌, List, [], ◌∷◌, map, get_or, codes, Option, Some, None, is_some, IsSome, option_map, true≢false, refl, sym, ap, subst, ◌∙◌}
use Rattle.std.specs.Cmp.Lexicographic.{slice_cmp}
use Rattle.std.specs.List.Sorted.{IsStrictlySortedBy}
use Rattle.std.specs.Ordering.{nat_cmp}
use Rattle.std.specs.Cmp.Lexicographic.{pointwise}
use Rattle.std.proofs.lemmas.Slice.Eq.{slice_eq-Decides}
use Rattle.std.proofs.Common.{not}
use Rattle.std.specs.Str.{bytes_eq}
use Rattle.serde_json.specs.Data.{Data, object, Members}
use Rattle.serde_json.specs.Find.{as_object, get, get_member}
use Rattle.dsa_cert.specs.Document.{ReadsDocument}
use Rattle.dsa_tokens.specs.Said.{Holds, slot_held, slot_is_there, slot_option}
use Rattle.dsa_tokens.specs.Spelled.{AreInOrder, HasOthers, Reads, ReadsKept, is_named, member_names, members_of as members_with}
use Rattle.dsa_tokens.specs.declared.slots.Slot.{Slot}
use Rattle.dsa_tokens.specs.declared.slots.Slot.TheVariants.{Missing, Other, Held}
use Rattle.dsa_tokens.proofs.Kept.{differ}
use Rattle.dsa_tokens.proofs.Names.{held_there, names_are, named_one, no_others}
use Rattle.dsa_report.specs.declared.jobs.JobName.{JobName}
use Rattle.dsa_report.specs.declared.jobs.JobName.TheVariants.{Judge, Plan, Check, Replay, Run}
use Rattle.dsa_report.specs.Fields.{AreSlots, IsObject, SaysImage, SaysPlan, SaysSettings, SaysText, SaysTrace, SaysWhole, all_members, all_names, there_in}
use Rattle.dsa_report.specs.declared.fields.Slots.{Slots}
use Rattle.dsa_report.specs.Job.{Member, the_certificate, the_name, the_engines, the_image, the_list, the_plan, the_portal, the_settings, the_staging, the_trace, members_of, member_name, member_value, is_same, is_among, has, JobMembers, job_fields, named_value, HasMembers}
use Rattle.dsa_report.specs.Read.{ReadsHeld, ReadsMembers}
use Rattle.dsa_report.specs.Settings.{settings_value}
use Rattle.dsa_report.proofs.EachJob.{row}
use Rattle.dsa_report.proofs.Rows.{is_held, row_names, same_bytes}
use Rattle.dsa_report.proofs.SameJobs.{get_among}

-- ---- which members are there

there : {A : Type 0} (says : Data → Option A → Type 0) (found : Option Data) (slot : Slot A) → Holds says found slot → slot_is_there slot ≡ is_some found
there says found Missing none = sym (ap is_some none)
there says found Other (d, is, kind) = sym (ap is_some is)
there says found (Held x) (d, is, kind) = sym (ap is_some is)

-- ---- names

named_row : (m : Member) (row : List Member) → is_named (member_name m) (map member_name row) ≡ is_among m row
named_row m [] = refl
named_row m (n ∷ row) =
    ap (λ (b : Bool). b || is_named (member_name m) (map member_name row)) (same_bytes m n) ∙ ap (λ (b : Bool). is_same m n || b) (named_row m row)

in_all : (m : Member) → is_named (member_name m) all_names ≡ true
in_all the_certificate = refl
in_all the_name = refl
in_all the_engines = refl
in_all the_image = refl
in_all the_list = refl
in_all the_plan = refl
in_all the_portal = refl
in_all the_settings = refl
in_all the_staging = refl
in_all the_trace = refl

-- a name that no job has is in no row
unnamed_row : (q : List ℕ) (row : List Member) → is_named q all_names ≡ false → is_named q (map member_name row) ≡ false
unnamed_row q [] none = refl
unnamed_row q (n ∷ row) none =
    let apart : bytes_eq q (member_name n) ≡ false = differ q (member_name n) (λ same. true≢false (sym (in_all n) ∙ sym (ap (λ (k : List ℕ). is_named k all_names) same) ∙ none)) in
    rw apart (unnamed_row q row none)

sorted : (name : JobName) → IsStrictlySortedBy (slice_cmp nat_cmp) (map member_name (members_of name))
unfolding IsStrictlySortedBy
sorted Judge = ((refl, (refl, (refl, tt))), ((refl, (refl, tt)), ((refl, tt), (tt, tt))))
sorted Plan = ((refl, (refl, tt)), ((refl, tt), (tt, tt)))
sorted Check = ((refl, (refl, (refl, (refl, tt)))), ((refl, (refl, (refl, tt))), ((refl, (refl, tt)), ((refl, tt), (tt, tt)))))
sorted Replay =
    ((refl, (refl, (refl, (refl, (refl, tt))))), ((refl, (refl, (refl, (refl, tt)))), ((refl, (refl, (refl, tt))), ((refl, (refl, tt)), ((refl, tt), (tt, tt))))))
sorted Run = ((refl, (refl, (refl, (refl, tt)))), ((refl, (refl, (refl, tt))), ((refl, (refl, tt)), ((refl, tt), (tt, tt)))))

fields_names : (fields : List (List ℕ × Data)) → member_names (members_with fields) ≡ map (λ f. f.0) fields
fields_names [] = refl
fields_names (f ∷ fields) = ap (λ (names : List (List ℕ)). f.0 ∷ names) (fields_names fields)

-- a value that spells a job has the members of its row
named_members : (name : JobName) (j : JobMembers name) (d : Data) → d ≡ named_value name j → HasMembers d name
named_members name j d e =
    ap (λ (v : Data). option_map member_names (as_object v)) e ∙ ap Some (fields_names (job_fields name j) ∙ row_names (member_value name j) (members_of name))

-- ---- objects

module _ (s : Slots) (ms : Members) (are : AreSlots s ms) where
  -- there is a value at the name of each member that the row lists, and at no other
  present : (name : JobName) → there_in s ≡ map (has name) all_members → (m : Member) → is_some (get_member (member_name m) ms) ≡ has name m
  present name e the_certificate = sym (there ReadsDocument (get_member (codes "certificate") ms) s.certificate are.certificate) ∙ ap (λ (bs : List Bool). get_or bs 0 false) e
  present name e the_name = sym (there SaysText (get_member (codes "do") ms) s.name are.name) ∙ ap (λ (bs : List Bool). get_or bs 1 false) e
  present name e the_engines = sym (there SaysWhole (get_member (codes "engines") ms) s.engines are.engines) ∙ ap (λ (bs : List Bool). get_or bs 2 false) e
  present name e the_image = sym (there SaysImage (get_member (codes "image") ms) s.image are.image) ∙ ap (λ (bs : List Bool). get_or bs 3 false) e
  present name e the_list = sym (there SaysText (get_member (codes "list") ms) s.list are.list) ∙ ap (λ (bs : List Bool). get_or bs 4 false) e
  present name e the_plan = sym (there SaysPlan (get_member (codes "plan") ms) s.plan are.plan) ∙ ap (λ (bs : List Bool). get_or bs 5 false) e
  present name e the_portal = sym (there SaysText (get_member (codes "portal") ms) s.portal are.portal) ∙ ap (λ (bs : List Bool). get_or bs 6 false) e
  present name e the_settings = sym (there SaysSettings (get_member (codes "settings") ms) s.settings are.settings) ∙ ap (λ (bs : List Bool). get_or bs 7 false) e
  present name e the_staging = sym (there SaysText (get_member (codes "staging") ms) s.staging are.staging) ∙ ap (λ (bs : List Bool). get_or bs 8 false) e
  present name e the_trace = sym (there SaysTrace (get_member (codes "trace") ms) s.trace are.trace) ∙ ap (λ (bs : List Bool). get_or bs 9 false) e

  -- an object whose slots are those of a row has the members of the row
  pub listed : (name : JobName) → AreInOrder ms → s.has_others ≡ false → there_in s ≡ map (has name) all_members → HasMembers (object ms) name
  listed name order none e = ap Some (names_are ms (map member_name (members_of name)) order (sorted name) each)
    where
      known : (m : Member) → is_some (get_member (member_name m) ms) ≡ is_named (member_name m) (map member_name (members_of name))
      known m = present name e m ∙ sym (named_row m (members_of name))

      each : (q : List ℕ) → is_some (get_member q ms) ≡ is_named q (map member_name (members_of name))
      each q = go (is_named q all_names) refl
        where
          go : (b : Bool) → is_named q all_names ≡ b → is_some (get_member q ms) ≡ is_named q (map member_name (members_of name))
          go true is =
              named_one (λ (k : List ℕ). is_some (get_member k ms) ≡ is_named k (map member_name (members_of name))) q all_names is
              (known the_certificate, (known the_name, (known the_engines, (known the_image, (known the_list, (known the_plan, (known the_portal, (known the_settings, (known the_staging, (known the_trace, tt))))))))))
          go false is = ap is_some (subst (HasOthers all_names ms) none are.others q is) ∙ sym (unnamed_row q (members_of name) is)

  -- one with a member that no job has spells no job
  pub has_other : s.has_others ≡ true → (name : JobName) (j : JobMembers name) → object ms ≢ named_value name j
  has_other is name j e =
      let (q, none, some) = subst (HasOthers all_names ms) is are.others in
      let names = row_names (member_value name j) (members_of name) in
      no_others ms (job_fields name j) (q, ap (is_named q) names ∙ unnamed_row q (members_of name) none, some) e

  -- nor does one whose slots are not those of the row
  pub not_listed : (name : JobName) → there_in s ≢ map (has name) all_members → (j : JobMembers name) → object ms ≢ named_value name j
  not_listed name other j e =
      let members = named_members name j (object ms) e in
      let a0 : slot_is_there s.certificate ≡ has name the_certificate = there ReadsDocument (get_member (codes "certificate") ms) s.certificate are.certificate ∙ is_held (object ms) name the_certificate members in
      let a1 : slot_is_there s.name ≡ has name the_name = there SaysText (get_member (codes "do") ms) s.name are.name ∙ is_held (object ms) name the_name members in
      let a2 : slot_is_there s.engines ≡ has name the_engines = there SaysWhole (get_member (codes "engines") ms) s.engines are.engines ∙ is_held (object ms) name the_engines members in
      let a3 : slot_is_there s.image ≡ has name the_image = there SaysImage (get_member (codes "image") ms) s.image are.image ∙ is_held (object ms) name the_image members in
      let a4 : slot_is_there s.list ≡ has name the_list = there SaysText (get_member (codes "list") ms) s.list are.list ∙ is_held (object ms) name the_list members in
      let a5 : slot_is_there s.plan ≡ has name the_plan = there SaysPlan (get_member (codes "plan") ms) s.plan are.plan ∙ is_held (object ms) name the_plan members in
      let a6 : slot_is_there s.portal ≡ has name the_portal = there SaysText (get_member (codes "portal") ms) s.portal are.portal ∙ is_held (object ms) name the_portal members in
      let a7 : slot_is_there s.settings ≡ has name the_settings = there SaysSettings (get_member (codes "settings") ms) s.settings are.settings ∙ is_held (object ms) name the_settings members in
      let a8 : slot_is_there s.staging ≡ has name the_staging = there SaysText (get_member (codes "staging") ms) s.staging are.staging ∙ is_held (object ms) name the_staging members in
      let a9 : slot_is_there s.trace ≡ has name the_trace = there SaysTrace (get_member (codes "trace") ms) s.trace are.trace ∙ is_held (object ms) name the_trace members in
      other (cc)

  -- nor does one without settings
  pub no_settings : slot_option s.settings ≡ None → (name : JobName) (j : JobMembers name) → object ms ≢ named_value name j
  no_settings none name j e =
      let at : get_member (codes "settings") ms ≡ Some (settings_value j.settings) = ap (get (codes "settings")) e ∙ get_among (member_value name j) (members_of name) the_settings (row name).set in
      let held = held_there SaysSettings (get_member (codes "settings") ms) s.settings (settings_value j.settings) are.settings at (λ other. other j.settings refl) in
      let never : None ≡ Some held.0 = sym none ∙ ap slot_option held.1 in
      absurd (cc)

-- ---- slots

-- what was read of a slot is what the value at its name spells
pub read_held : {X Y : Type 0} (name : List ℕ) (spelling : Y → Data) (shown : X → Y) (d : Data) (slot : Slot X) (found : Option X) → Holds (Reads spelling shown) (get name d) slot → slot_held slot ≡ Some found
    → ReadsHeld name spelling shown d (Some found)
read_held name spelling shown d Missing None none e = none
read_held name spelling shown d Missing (Some x) none e = absurd (cc)
read_held name spelling shown d Other found held e = absurd (cc)
read_held name spelling shown d (Held x) None held e = absurd (cc)
read_held name spelling shown d (Held x) (Some y) (v, is, kind) e = let same : x ≡ y = cc in is ∙ ap Some (kind ∙ ap (λ z. spelling (shown z)) same)

pub other_held : {X Y : Type 0} (name : List ℕ) (spelling : Y → Data) (shown : X → Y) (d : Data) (slot : Slot X) → Holds (Reads spelling shown) (get name d) slot → slot_held slot ≡ None
    → ReadsHeld name spelling shown d None
other_held name spelling shown d Missing none e = absurd (cc)
other_held name spelling shown d Other (v, is, kind) e = (ap is_some is, λ y at. let same : v ≡ spelling y = cc in kind y same)
other_held name spelling shown d (Held x) held e = absurd (cc)

-- the same where a part of it is kept
pub kept_held : {Y : Type 0} (name : List ℕ) (spelling : Y → Data) (kept : Y → Y) (d : Data) (slot : Slot Y) (found : Option Y) → Holds (ReadsKept spelling kept (λ y. y)) (get name d) slot → slot_held slot ≡ Some found
    → (all : Option Y) × ReadsHeld name spelling (λ y. y) d (Some all) × (found ≡ option_map kept all)
kept_held name spelling kept d Missing None none e = (None, none, refl)
kept_held name spelling kept d Missing (Some x) none e = absurd (cc)
kept_held name spelling kept d Other found held e = absurd (cc)
kept_held name spelling kept d (Held x) None held e = absurd (cc)
kept_held name spelling kept d (Held x) (Some y) (v, is, said) e = let same : x ≡ y = cc in (Some said.0, is ∙ ap Some said.1, ap Some (sym same ∙ said.2))

pub other_kept : {Y : Type 0} (name : List ℕ) (spelling : Y → Data) (kept : Y → Y) (d : Data) (slot : Slot Y) → Holds (ReadsKept spelling kept (λ y. y)) (get name d) slot → slot_held slot ≡ None
    → ReadsHeld {X = Y} name spelling (λ y. y) d None
other_kept name spelling kept d Missing none e = absurd (cc)
other_kept name spelling kept d Other (v, is, kind) e = (ap is_some is, λ y at. let same : v ≡ spelling y = cc in kind y same)
other_kept name spelling kept d (Held x) held e = absurd (cc)

-- ---- rows

unnot : (b : Bool) → not b ≡ false → b ≡ true
unnot true e = refl
unnot false e = absurd (true≢false e)

module _ (E : Bool → Bool → Bool) (both : E true true ≡ true) (tf : E true false ≡ false) (ft : E false true ≡ false) (ff : E false false ≡ true) where
  decides : (x y : Bool) → (E x y ≡ true → x ≡ y) × (x ≡ y → E x y ≡ true)
  decides true true = (λ e. refl, λ e. both)
  decides true false = (λ e. absurd (true≢false (sym e ∙ tf)), λ e. absurd (true≢false e))
  decides false true = (λ e. absurd (true≢false (sym e ∙ ft)), λ e. absurd (true≢false (sym e)))
  decides false false = (λ e. refl, λ e. ff)

  -- rows that are not told apart are one
  pub same_row : (xs ys rs ts : List Bool) (r : Bool) → r ≡ false → r ≡ not (pointwise E xs ys) → xs ≡ rs → ys ≡ ts → rs ≡ ts
  same_row xs ys rs ts r e is a b = sym a ∙ (slice_eq-Decides decides xs ys (pointwise E xs ys) refl).0 (unnot (pointwise E xs ys) (sym is ∙ e)) ∙ b

  -- those that are are two
  pub other_row : (xs ys rs ts : List Bool) (r : Bool) → r ≡ true → r ≡ not (pointwise E xs ys) → xs ≡ rs → ys ≡ ts → rs ≢ ts
  other_row xs ys rs ts r e is a b same =
      let one = (slice_eq-Decides decides xs ys (pointwise E xs ys) refl).1 (a ∙ same ∙ sym b) in
      true≢false (sym e ∙ is ∙ ap not one)

-- ---- members that were read, or not

module _ (d : Data) (s : Slots) (is : IsObject d (Some s)) (name : JobName) where
  -- the members are those of the row
  pub of_row : s.has_others ≡ false → there_in s ≡ map (has name) all_members → HasMembers d name
  of_row none e = subst (λ (v : Data). HasMembers v name) (sym is.1) (listed s is.0 is.3 name is.2 none e)

  pub none_of_row : ((j : JobMembers name) → object is.0 ≢ named_value name j) → ReadsMembers d name None
  none_of_row none = λ j e. none j (sym is.1 ∙ e)

  -- what a slot holds is at its name
  pub hold_certificate : Holds ReadsDocument (get (codes "certificate") d) s.certificate
  hold_certificate = subst (λ (v : Data). Holds ReadsDocument (get (codes "certificate") v) s.certificate) (sym is.1) is.3.certificate

  pub hold_engines : Holds SaysWhole (get (codes "engines") d) s.engines
  hold_engines = subst (λ (v : Data). Holds SaysWhole (get (codes "engines") v) s.engines) (sym is.1) is.3.engines

  pub hold_image : Holds SaysImage (get (codes "image") d) s.image
  hold_image = subst (λ (v : Data). Holds SaysImage (get (codes "image") v) s.image) (sym is.1) is.3.image

  pub hold_list : Holds SaysText (get (codes "list") d) s.list
  hold_list = subst (λ (v : Data). Holds SaysText (get (codes "list") v) s.list) (sym is.1) is.3.list

  pub hold_plan : Holds SaysPlan (get (codes "plan") d) s.plan
  hold_plan = subst (λ (v : Data). Holds SaysPlan (get (codes "plan") v) s.plan) (sym is.1) is.3.plan

  pub hold_portal : Holds SaysText (get (codes "portal") d) s.portal
  hold_portal = subst (λ (v : Data). Holds SaysText (get (codes "portal") v) s.portal) (sym is.1) is.3.portal

  pub hold_settings : Holds SaysSettings (get (codes "settings") d) s.settings
  hold_settings = subst (λ (v : Data). Holds SaysSettings (get (codes "settings") v) s.settings) (sym is.1) is.3.settings

  pub hold_staging : Holds SaysText (get (codes "staging") d) s.staging
  hold_staging = subst (λ (v : Data). Holds SaysText (get (codes "staging") v) s.staging) (sym is.1) is.3.staging

  pub hold_trace : Holds SaysTrace (get (codes "trace") d) s.trace
  hold_trace = subst (λ (v : Data). Holds SaysTrace (get (codes "trace") v) s.trace) (sym is.1) is.3.trace

-- ---- objects

pub is_an_object : (d : Data) (ms : Members) → d ≡ object ms → IsSome (as_object d)
is_an_object d ms is = ap (λ (v : Data). is_some (as_object v)) is
