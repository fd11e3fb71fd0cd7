-- The parts of a job: what is made of its members, and why they are refused.
use Rattle.std.proofs.Common.{◌≡◌, ◌⊎◌, inl, inr, ℕ, Bool, true, false, List, [], ◌∷◌, ◌++◌, Option, Some, None, option_map, Ok, Result, Err, Vec, refl, sym, ap, subst, ◌∙◌}
use Rattle.std.specs.Prelude.{IsErr}
use Rattle.std.specs.Option.{ok_or}
use Rattle.std.specs.declared.alloc.Global.{Global}
use Rattle.std.proofs.lemmas.Option.{same_Some}
use Rattle.serde_json.specs.Data.{Data}
use Rattle.hex.specs.Hex.{decode_of}
use Rattle.dsa_plan.specs.Certificate.{contents}
use Rattle.dsa_settings.specs.Settings.{Limits}
use Rattle.dsa_plan.specs.declared.certificate.Certificate.{Certificate}
use Rattle.dsa_cert.specs.Document.{Documents, ReadsDocument, kept_contents}
use Rattle.dsa_core.specs.declared.event.Event.{Event}
use Rattle.dsa_image.specs.Memory.{Memory as Image}
use Rattle.dsa_tokens.specs.Said.{slot_held}
use Rattle.dsa_tokens.specs.declared.slots.Slot.{Slot}
use Rattle.dsa_tokens.specs.declared.slots.Slot.TheVariants.{Missing, Other, Held}
use Rattle.dsa_calls.specs.declared.fault.PlanFault.{PlanFault}
use Rattle.dsa_calls.specs.declared.fault.PlanFault.TheVariants.{Member, Memory, Shape}
use Rattle.dsa_report.specs.declared.jobs.JobName.{JobName}
use Rattle.dsa_report.specs.declared.jobs.JobName.TheVariants.{Judge, Plan, Check, Replay, Run}
use Rattle.dsa_report.specs.declared.members.Members.{Members}
use Rattle.dsa_report.specs.Fields.{SaysTrace}
use Rattle.dsa_report.specs.Hex.{MakesIf, ReadsHex}
use Rattle.dsa_report.specs.Image.{ImageText, HasImage, ReadsImage, image_shown}
use Rattle.dsa_report.specs.Trace.{IsTrace}
use Rattle.dsa_report.specs.Settings.{AreSettings, limits_of}
use Rattle.dsa_report.specs.Job.{the_certificate, the_engines, the_image, the_list, the_plan, the_portal, the_staging, the_trace, has, HeldIf, JobMembers, certificate_of, image_of, texts_of, found_if, text_if, image_text_if}
use Rattle.dsa_report.specs.Read.{IsRead, KeptIsRead, SlotIsRead, ReadsMembers, HasParts}
use Rattle.dsa_report.specs.Calls.{SpellsIf, IsHex}
use Rattle.dsa_report.specs.Causes.{SomeIsNoHex, Stands}
use Rattle.dsa_report.proofs.Refusals.{TraceIsRight, trace_refused, bytes_refused, document_refused, image_refused, one_hex}
use Rattle.dsa_report.proofs.Exact.{spelled_if, text_is_hex, image_is_hex, all_joined}
use Rattle.dsa_report.proofs.Rows.{option_same}

-- ---- what is made of a member

-- of what a member holds its argument is made
made_if : {A B C : Type 0} (Makes : A → Result B PlanFault → Type 0) (Spells : A → C → Type 0) (shown : B → C) → ((x : A) (y : B) → Makes x (Ok y) → Spells x (shown y))
    → (there : Bool) (held : HeldIf there A) (found : Option A) (made : Option B) → IsRead there held found → MakesIf Makes found (Ok made)
    → (c : HeldIf there C) × SpellsIf there Spells held c × IsRead there c (option_map shown made)
made_if Makes Spells shown spells true held None made is ok = absurd (cc)
made_if {A} Makes Spells shown spells true held (Some x) made is (y, made_is, ok) =
    (shown y, subst (λ (a : A). Spells a (shown y)) (same_Some x held is) (spells x y ok), ap (option_map shown) made_is)
made_if Makes Spells shown spells false held None made is ok = let none : made ≡ None = cc in (tt, tt, ap (option_map shown) none)
made_if Makes Spells shown spells false held (Some x) made is ok = absurd (cc)

-- or it is refused
refused_if : {A B : Type 0} (Makes : A → Result B PlanFault → Type 0) (there : Bool) (held : HeldIf there A) (found : Option A) (fault : PlanFault) → IsRead there held found
    → MakesIf Makes found (Err fault) → (x : A) × (found_if there held ≡ Some x) × Makes x (Err fault)
refused_if Makes true held None fault is e = absurd (cc)
refused_if Makes true held (Some x) fault is e = (x, sym is, e)
refused_if Makes false held None fault is e = absurd (cc)
refused_if Makes false held (Some x) fault is e = absurd (cc)

-- the same of a value that may be of another kind
made_of_slot : {A B : Type 0} (says : Data → Option A → Type 0) (Spells : Data → B → Type 0) (kept : B → B) (shown : A → B)
    → ((d : Data) (x : A) → says d (Some x) → (y : B) × Spells d y × (shown x ≡ kept y))
    → (there : Bool) (held : HeldIf there Data) (slot : Slot A) (found : Option A) → SlotIsRead there says held slot → slot_held slot ≡ Some found
    → (b : HeldIf there B) × SpellsIf there Spells held b × KeptIsRead there kept b (option_map shown found)
made_of_slot says Spells kept shown of true held Missing found is e = absurd (cc)
made_of_slot says Spells kept shown of true held Other found is e = absurd (cc)
made_of_slot says Spells kept shown of true held (Held x) found (d, at, kind) e =
    let same : d ≡ held = cc in
    let (y, spells, is) = of held x (subst (λ (v : Data). says v (Some x)) same kind) in
    let one : found ≡ Some x = cc in
    (y, spells, ap (option_map shown) one ∙ ap Some is)
made_of_slot says Spells kept shown of false held slot found is e =
    let missing : Some None ≡ Some found = sym (ap slot_held is) ∙ e in
    let none : found ≡ None = cc in
    (tt, tt, ap (option_map shown) none)

-- or it is of another kind
refused_slot : {A : Type 0} (says : Data → Option A → Type 0) (there : Bool) (held : HeldIf there Data) (slot : Slot A) → SlotIsRead there says held slot → slot_held slot ≡ None
    → (d : Data) × (found_if there held ≡ Some d) × says d None
refused_slot says true held Missing is e = absurd (cc)
refused_slot says true held Other is e = is
refused_slot says true held (Held x) is e = absurd (cc)
refused_slot says false held slot is e = let missing : slot_held slot ≡ Some None = ap slot_held is in absurd (cc)

-- what is kept whole is what was read
kept_whole : {A : Type 0} (there : Bool) (held : HeldIf there A) (found : Option A) → KeptIsRead there (λ x. x) held found → IsRead there held found
kept_whole true held found is = is
kept_whole false held found is = is

-- a member that is read as it is spells itself
spells_itself : (A : Type 0) (there : Bool) (held : HeldIf there A) → SpellsIf there (λ (x y : A). x ≡ y) held held
spells_itself A true held = refl
spells_itself A false held = tt

-- ---- texts that are not hexadecimal

text_refused : (there : Bool) (held : HeldIf there (List ℕ)) (text : List ℕ) → found_if there held ≡ Some text → IsErr (decode_of text) → SomeIsNoHex (text_if there held)
text_refused true held text is err = inl (subst (λ (t : List ℕ). IsErr (decode_of t)) (sym (same_Some held text is)) err)
text_refused false held text is err = absurd (cc)

image_text_refused : (there : Bool) (held : HeldIf there ImageText) (image : ImageText) → found_if there held ≡ Some image → IsErr (decode_of image.bytes) → SomeIsNoHex (image_text_if there held)
image_text_refused true held image is err = inl (subst (λ (i : ImageText). IsErr (decode_of i.bytes)) (sym (same_Some held image is)) err)
image_text_refused false held image is err = absurd (cc)

-- the text of an image that decodes
image_decodes : (there : Bool) (held : HeldIf there ImageText) (image : ImageText) (bytes : List ℕ) → found_if there held ≡ Some image → decode_of image.bytes ≡ Ok bytes
    → SomeIsNoHex (image_text_if there held) → ⊥
image_decodes true held image bytes is decoded = one_hex held.bytes bytes (subst (λ (i : ImageText). decode_of i.bytes ≡ Ok bytes) (sym (same_Some held image is)) decoded)
image_decodes false held image bytes is decoded = absurd (cc)

some_before : (xs ys : List (List ℕ)) → SomeIsNoHex xs → SomeIsNoHex (xs ++ ys)
some_before [] ys some = absurd some
some_before (x ∷ xs) ys (inl err) = inl err
some_before (x ∷ xs) ys (inr some) = inr (some_before xs ys some)

some_after : (xs ys : List (List ℕ)) → SomeIsNoHex ys → SomeIsNoHex (xs ++ ys)
some_after [] ys some = some
some_after (x ∷ xs) ys some = inr (some_after xs ys some)

-- no job has both a certificate and an image
no_both : (name : JobName) (j : JobMembers name) (d : Data) (image : ImageText) → certificate_of (name, j) ≡ Some d → image_of (name, j) ≡ Some image → ⊥
no_both Judge j d image e f = cc
no_both Plan j d image e f = cc
no_both Check j d image e f = cc
no_both Replay j d image e f = cc
no_both Run j d image e f = cc

-- ---- the parts that are made of members that were read

module _ (d : Data) (name : JobName) (m : Members) (read : ReadsMembers d name (Some m)) where
  pub no_events : slot_held m.trace ≡ None → Stands Member d
  no_events e =
      let (trace, there, none) = refused_slot SaysTrace (has name the_trace) read.0.trace m.trace read.2.trace e in
      trace_refused d (name, read.0) read.1 trace there none

  module _ (trace : Option (Vec Event Global)) (events : slot_held m.trace ≡ Some trace) where
    made_trace : (b : HeldIf (has name the_trace) (List Event)) × SpellsIf (has name the_trace) IsTrace read.0.trace b × KeptIsRead (has name the_trace) (λ x. x) b (option_map (λ v. v.items) trace)
    made_trace = made_of_slot SaysTrace IsTrace (λ x. x) (λ v. v.items) (λ d v says. (v.items, says, refl)) (has name the_trace) read.0.trace m.trace trace read.2.trace events

    pub right : TraceIsRight (name, read.0)
    right = spelled_if IsTrace (has name the_trace) read.0.trace made_trace.0 made_trace.1

    module _ (inside : AreSettings read.0.settings) where
      text_fault : (there : Bool) (held : HeldIf there (List ℕ)) (found : Option (List ℕ)) (fault : PlanFault) → (SomeIsNoHex (text_if there held) → SomeIsNoHex (texts_of (name, read.0)))
          → IsRead there held found → MakesIf ReadsHex found (Err fault) → (fault ≡ Memory) ⊎ Stands fault d
      text_fault there held found fault among is made =
          let (text, at, says) = refused_if ReadsHex there held found fault is made in
          bytes_refused d (name, read.0) read.1 right inside text fault (λ err. among (text_refused there held text at err)) says

      pub list_refused : (fault : PlanFault) → MakesIf ReadsHex (option_map (λ t. t.now) m.list) (Err fault) → (fault ≡ Memory) ⊎ Stands fault d
      list_refused fault = text_fault (has name the_list) read.0.list _ fault (λ some. some_before _ _ (some_before _ _ (some_before _ _ some))) read.2.list

      pub portal_refused : (fault : PlanFault) → MakesIf ReadsHex (option_map (λ t. t.now) m.portal) (Err fault) → (fault ≡ Memory) ⊎ Stands fault d
      portal_refused fault =
          let before = text_if (has name the_list) read.0.list ++ image_text_if (has name the_image) read.0.image in
          let portal = text_if (has name the_portal) read.0.portal in
          text_fault (has name the_portal) read.0.portal _ fault (λ some. some_before (before ++ portal) (text_if (has name the_staging) read.0.staging) (some_after before portal some)) read.2.portal

      pub staging_refused : (fault : PlanFault) → MakesIf ReadsHex (option_map (λ t. t.now) m.staging) (Err fault) → (fault ≡ Memory) ⊎ Stands fault d
      staging_refused fault = text_fault (has name the_staging) read.0.staging _ fault (λ some. some_after _ _ some) read.2.staging

      made_text : (there : Bool) (held : HeldIf there (List ℕ)) (found : Option (List ℕ)) (made : Option (Vec ℕ Global)) → IsRead there held found → MakesIf ReadsHex found (Ok made)
          → (b : HeldIf there (List ℕ)) × SpellsIf there IsHex held b × IsRead there b (option_map (λ v. v.items) made)
      made_text there held found made is ok = made_if ReadsHex IsHex (λ v. v.items) (λ x y e. e) there held found made is ok

      module _ (list portal staging : Option (Vec ℕ Global)) (list_is : MakesIf ReadsHex (option_map (λ t. t.now) m.list) (Ok list))
          (portal_is : MakesIf ReadsHex (option_map (λ t. t.now) m.portal) (Ok portal)) (staging_is : MakesIf ReadsHex (option_map (λ t. t.now) m.staging) (Ok staging)) where
        made_list : (b : HeldIf (has name the_list) (List ℕ)) × SpellsIf (has name the_list) IsHex read.0.list b × IsRead (has name the_list) b (option_map (λ v. v.items) list)
        made_list = made_text (has name the_list) read.0.list _ list read.2.list list_is

        made_portal : (b : HeldIf (has name the_portal) (List ℕ)) × SpellsIf (has name the_portal) IsHex read.0.portal b × IsRead (has name the_portal) b (option_map (λ v. v.items) portal)
        made_portal = made_text (has name the_portal) read.0.portal _ portal read.2.portal portal_is

        made_staging : (b : HeldIf (has name the_staging) (List ℕ)) × SpellsIf (has name the_staging) IsHex read.0.staging b × IsRead (has name the_staging) b (option_map (λ v. v.items) staging)
        made_staging = made_text (has name the_staging) read.0.staging _ staging read.2.staging staging_is

        all : (SomeIsNoHex (image_text_if (has name the_image) read.0.image) → ⊥) → SomeIsNoHex (texts_of (name, read.0)) → ⊥
        all image =
            let list_all = text_is_hex (has name the_list) read.0.list made_list.0 made_list.1 in
            let portal_all = text_is_hex (has name the_portal) read.0.portal made_portal.0 made_portal.1 in
            let staging_all = text_is_hex (has name the_staging) read.0.staging made_staging.0 made_staging.1 in
            all_joined _ _ (all_joined _ _ (all_joined _ _ list_all image) portal_all) staging_all

        pub no_image_made : (fault : PlanFault) → MakesIf ReadsImage (option_map image_shown m.image) (Err fault) → (fault ≡ Memory) ⊎ Stands fault d
        no_image_made fault made =
            let (text, at, says) = refused_if ReadsImage (has name the_image) read.0.image _ fault read.2.image made in
            go text at says
          where
            go : (text : ImageText) → image_of (name, read.0) ≡ Some text → ReadsImage text (Err fault) → (fault ≡ Memory) ⊎ Stands fault d
            go text at (inl hex) =
                let list = text_if (has name the_list) read.0.list in
                let image = image_text_if (has name the_image) read.0.image in
                let portal = text_if (has name the_portal) read.0.portal in
                bytes_refused d (name, read.0) read.1 right inside text.bytes fault
                (λ err. some_before (list ++ image ++ portal) (text_if (has name the_staging) read.0.staging) (some_before (list ++ image) portal (some_after list image (image_text_refused (has name the_image) read.0.image text at err)))) hex
            go text at (inr (is, bytes, decoded, none)) =
                inr (subst (λ (f : PlanFault). Stands f d) (sym is) (image_refused d (name, read.0) read.1 right inside (all (image_decodes (has name the_image) read.0.image text bytes at decoded)) text bytes (λ document there. absurd (no_both name read.0 document text there at)) at decoded none))

        module _ (image : Option Image) (image_is : MakesIf ReadsImage (option_map image_shown m.image) (Ok image)) where
          made_image : (b : HeldIf (has name the_image) Image) × SpellsIf (has name the_image) (λ t i. HasImage t i) read.0.image b × IsRead (has name the_image) b (option_map (λ i. i) image)
          made_image = made_if ReadsImage (λ t i. HasImage t i) (λ i. i) (λ x y e. e) (has name the_image) read.0.image _ image read.2.image image_is

          pub no_certificate_made : slot_held m.certificate ≡ None → Stands Shape d
          no_certificate_made e =
              let (document, at, none) = refused_slot ReadsDocument (has name the_certificate) read.0.certificate m.certificate read.2.certificate e in
              document_refused d (name, read.0) read.1 right inside (all (image_is_hex (has name the_image) read.0.image made_image.0 made_image.1)) document at none

          pub parts_made : (certificate : Option Certificate) (settings : Limits) → slot_held m.certificate ≡ Some certificate → settings ≡ limits_of read.0.settings
              → HasParts name d (record { settings = settings; certificate = certificate; engines = m.engines; image = image; list = list; plan = m.plan; portal = portal; staging = staging; trace = trace })
          parts_made certificate settings found settings_are =
              let made_certificate = made_of_slot ReadsDocument Documents kept_contents contents (λ d c says. says) (has name the_certificate) read.0.certificate m.certificate certificate read.2.certificate found in (
                record {
                  settings = settings;
                  certificate = made_certificate.0;
                  engines = read.0.engines;
                  image = made_image.0;
                  list = made_list.0;
                  plan = read.0.plan;
                  portal = made_portal.0;
                  staging = made_staging.0;
                  trace = made_trace.0;
                },
                record {
                  members = read.0;
                  spelled = read.1;
                  in_limits = inside;
                  arguments = record {
                    settings = settings_are;
                    certificate = made_certificate.1;
                    engines = spells_itself ℕ (has name the_engines) read.0.engines;
                    image = made_image.1;
                    list = made_list.1;
                    plan = spells_itself (List (List Bool)) (has name the_plan) read.0.plan;
                    portal = made_portal.1;
                    staging = made_staging.1;
                    trace = made_trace.1;
                  };
                },
                record {
                  settings = refl;
                  certificate = made_certificate.2;
                  engines = read.2.engines;
                  image = subst (IsRead (has name the_image) made_image.0) (option_same image) made_image.2;
                  list = made_list.2;
                  plan = read.2.plan;
                  portal = made_portal.2;
                  staging = made_staging.2;
                  trace = kept_whole (has name the_trace) made_trace.0 _ made_trace.2;
                },
              )

-- ---- what a job takes of its parts

-- a part that is there is given
pub given : {X : Type 0} (o : Option X) (x y : X) (e : PlanFault) → o ≡ Some y → Ok x ≡ ok_or o e → x ≡ y
given None x y e there is = absurd (cc)
given (Some z) x y e there is = cc

pub given_shown : {X Y : Type 0} (o : Option X) (f : X → Y) (x : X) (y : Y) (e : PlanFault) → option_map f o ≡ Some y → Ok x ≡ ok_or o e → f x ≡ y
given_shown None f x y e there is = absurd (cc)
given_shown (Some z) f x y e there is = let one : x ≡ z = cc in ap f one ∙ same_Some (f z) y there

-- and is not refused
pub lacks : {X : Type 0} (o : Option X) (y : X) (e fault : PlanFault) → o ≡ Some y → Err fault ≡ ok_or o e → ⊥
lacks None y e fault there is = absurd (cc)
lacks (Some z) y e fault there is = cc

pub lacks_shown : {X Y : Type 0} (o : Option X) (f : X → Y) (y : Y) (e fault : PlanFault) → option_map f o ≡ Some y → Err fault ≡ ok_or o e → ⊥
lacks_shown None f y e fault there is = absurd (cc)
lacks_shown (Some z) f y e fault there is = cc
