use Rattle.std.proofs.Common.{ℕ, Bool, List, map, Bor, codes, refl, sym}
use Rattle.serde_json.specs.Data.{string}
use Rattle.serde_json.specs.Find.{get}
use Rattle.dsa_tokens.specs.Spelled.{whole}
use Rattle.dsa_tokens.proofs.Names.{kept_option}
use Rattle.dsa_report.specs.Fields.{all_members, there_in}
use Rattle.dsa_report.specs.Image.{image_shown, image_value}
use Rattle.dsa_report.specs.Job.{has, the_engines, the_image, the_list, the_plan, the_portal, the_staging}
use Rattle.dsa_report.specs.Plan.{kept_plan, plan_value}
use Rattle.dsa_report.specs.Settings.{kept_settings, settings_shown, settings_value}
use Rattle.dsa_report.specs.declared.image.ImageMembers.{ImageMembers}
use Rattle.dsa_report.specs.declared.settings.Numbers.{Numbers}
use Rattle.dsa_report.proofs.Listed.{has_other, hold_certificate, hold_engines, hold_image, hold_list, hold_plan, hold_portal, hold_settings, hold_staging, hold_trace, kept_held, no_settings, none_of_row, not_listed, of_row, other_held, other_kept, other_row, read_held, same_row}
use Rattle.dsa_report.proofs.Rows.{members_read, no_such_job}
use Rattle.dsa_report.proofs.members.members_of.Goals as goal

pub returns-then-slots : goal.returns-then-slots
returns-then-slots c = λ d is named. none_of_row d c.args.slots is c.args.name (has_other c.args.slots is.0 is.3 c.if-slots.true c.args.name)

pub returns-then-ne : goal.returns-then-ne
returns-then-ne c = λ d is named. none_of_row d c.args.slots is c.args.name (not_listed c.args.slots is.0 is.3 c.args.name (other_row _ refl refl refl refl c.there.result c.listed.result (there_in c.args.slots) (map (has c.args.name) all_members) c.ne.result c.if-ne.true c.ne.ensures c.there.ensures c.listed.ensures))

pub returns-in_err-into_option : goal.returns-in_err-into_option
returns-in_err-into_option c = λ d is named.
    rw c.from_residual.ensures (none_of_row d c.args.slots is c.args.name (no_settings c.args.slots is.0 is.3 (sym c.in_err-into_option.ensures) c.args.name))

pub returns-in_err-into_held : goal.returns-in_err-into_held
returns-in_err-into_held c = λ d is named.
    let members = of_row d c.args.slots is c.args.name c.if-slots.false (same_row _ refl refl refl refl c.there.result c.listed.result (there_in c.args.slots) (map (has c.args.name) all_members) c.ne.result c.if-ne.false c.ne.ensures c.there.ensures c.listed.ensures) in
    rw c.from_residual-in_err-into_held.ensures
    (no_such_job {X = ℕ} the_engines whole (λ n. n) d c.args.name (λ j. j.engines) (λ j. refl) members
    (other_held {X = ℕ} (codes "engines") whole (λ n. n) d c.args.slots.engines (hold_engines d c.args.slots is c.args.name) (sym c.in_err-into_held.ensures)))

pub returns-in_err-into_held-2 : goal.returns-in_err-into_held-2
returns-in_err-into_held-2 c = λ d is named.
    let members = of_row d c.args.slots is c.args.name c.if-slots.false (same_row _ refl refl refl refl c.there.result c.listed.result (there_in c.args.slots) (map (has c.args.name) all_members) c.ne.result c.if-ne.false c.ne.ensures c.there.ensures c.listed.ensures) in
    rw c.from_residual-in_err-into_held-2.ensures
    (no_such_job {X = ImageMembers} the_image image_value image_shown d c.args.name (λ j. j.image) (λ j. refl) members
    (other_held {X = ImageMembers} (codes "image") image_value image_shown d c.args.slots.image (hold_image d c.args.slots is c.args.name) (sym c.in_err-into_held-2.ensures)))

pub returns-in_err-into_held-3 : goal.returns-in_err-into_held-3
returns-in_err-into_held-3 c = λ d is named.
    let members = of_row d c.args.slots is c.args.name c.if-slots.false (same_row _ refl refl refl refl c.there.result c.listed.result (there_in c.args.slots) (map (has c.args.name) all_members) c.ne.result c.if-ne.false c.ne.ensures c.there.ensures c.listed.ensures) in
    rw c.from_residual-in_err-into_held-3.ensures
    (no_such_job {X = Bor (List ℕ)} the_list string (λ text. text.now) d c.args.name (λ j. j.list) (λ j. refl) members
    (other_held {X = Bor (List ℕ)} (codes "list") string (λ text. text.now) d c.args.slots.list (hold_list d c.args.slots is c.args.name) (sym c.in_err-into_held-3.ensures)))

pub returns-in_err-into_held-4 : goal.returns-in_err-into_held-4
returns-in_err-into_held-4 c = λ d is named.
    let members = of_row d c.args.slots is c.args.name c.if-slots.false (same_row _ refl refl refl refl c.there.result c.listed.result (there_in c.args.slots) (map (has c.args.name) all_members) c.ne.result c.if-ne.false c.ne.ensures c.there.ensures c.listed.ensures) in
    rw c.from_residual-in_err-into_held-4.ensures
    (no_such_job {X = List (List Bool)} the_plan plan_value (λ plan. plan) d c.args.name (λ j. j.plan) (λ j. refl) members
    (other_kept (codes "plan") plan_value kept_plan d c.args.slots.plan (hold_plan d c.args.slots is c.args.name) (sym c.in_err-into_held-4.ensures)))

pub returns-in_err-into_held-5 : goal.returns-in_err-into_held-5
returns-in_err-into_held-5 c = λ d is named.
    let members = of_row d c.args.slots is c.args.name c.if-slots.false (same_row _ refl refl refl refl c.there.result c.listed.result (there_in c.args.slots) (map (has c.args.name) all_members) c.ne.result c.if-ne.false c.ne.ensures c.there.ensures c.listed.ensures) in
    rw c.from_residual-in_err-into_held-5.ensures
    (no_such_job {X = Bor (List ℕ)} the_portal string (λ text. text.now) d c.args.name (λ j. j.portal) (λ j. refl) members
    (other_held {X = Bor (List ℕ)} (codes "portal") string (λ text. text.now) d c.args.slots.portal (hold_portal d c.args.slots is c.args.name) (sym c.in_err-into_held-5.ensures)))

pub returns-in_err-into_held-6 : goal.returns-in_err-into_held-6
returns-in_err-into_held-6 c = λ d is named.
    let members = of_row d c.args.slots is c.args.name c.if-slots.false (same_row _ refl refl refl refl c.there.result c.listed.result (there_in c.args.slots) (map (has c.args.name) all_members) c.ne.result c.if-ne.false c.ne.ensures c.there.ensures c.listed.ensures) in
    rw c.from_residual-in_err-into_held-6.ensures
    (no_such_job {X = Bor (List ℕ)} the_staging string (λ text. text.now) d c.args.name (λ j. j.staging) (λ j. refl) members
    (other_held {X = Bor (List ℕ)} (codes "staging") string (λ text. text.now) d c.args.slots.staging (hold_staging d c.args.slots is c.args.name) (sym c.in_err-into_held-6.ensures)))

pub returns : goal.returns
returns c = λ d is named.
    let members = of_row d c.args.slots is c.args.name c.if-slots.false (same_row _ refl refl refl refl c.there.result c.listed.result (there_in c.args.slots) (map (has c.args.name) all_members) c.ne.result c.if-ne.false c.ne.ensures c.there.ensures c.listed.ensures) in
    let settings = kept_option {X = Numbers} settings_value kept_settings settings_shown (get (codes "settings") d) c.args.slots.settings c.in_ok-into_option.field-0 (hold_settings d c.args.slots is c.args.name) c.in_ok-into_option.ensures in
    let plan = kept_held (codes "plan") plan_value kept_plan d c.args.slots.plan c.in_ok-into_held-4.field-0 (hold_plan d c.args.slots is c.args.name) (sym c.in_ok-into_held-4.ensures) in
    members_read d c.args.name
    (record {
      settings = c.in_ok-into_option.field-0;
      certificate = c.args.slots.certificate;
      engines = c.in_ok-into_held.field-0;
      image = c.in_ok-into_held-2.field-0;
      list = c.in_ok-into_held-3.field-0;
      plan = c.in_ok-into_held-4.field-0;
      portal = c.in_ok-into_held-5.field-0;
      staging = c.in_ok-into_held-6.field-0;
      trace = c.args.slots.trace;
    })
    settings.0 plan.0 members named settings.2 plan.2 settings.1
    (hold_certificate d c.args.slots is c.args.name)
    (read_held {X = ℕ} (codes "engines") whole (λ n. n) d c.args.slots.engines c.in_ok-into_held.field-0 (hold_engines d c.args.slots is c.args.name) (sym c.in_ok-into_held.ensures))
    (read_held {X = ImageMembers} (codes "image") image_value image_shown d c.args.slots.image c.in_ok-into_held-2.field-0 (hold_image d c.args.slots is c.args.name) (sym c.in_ok-into_held-2.ensures))
    (read_held {X = Bor (List ℕ)} (codes "list") string (λ text. text.now) d c.args.slots.list c.in_ok-into_held-3.field-0 (hold_list d c.args.slots is c.args.name) (sym c.in_ok-into_held-3.ensures))
    plan.1
    (read_held {X = Bor (List ℕ)} (codes "portal") string (λ text. text.now) d c.args.slots.portal c.in_ok-into_held-5.field-0 (hold_portal d c.args.slots is c.args.name) (sym c.in_ok-into_held-5.ensures))
    (read_held {X = Bor (List ℕ)} (codes "staging") string (λ text. text.now) d c.args.slots.staging c.in_ok-into_held-6.field-0 (hold_staging d c.args.slots is c.args.name) (sym c.in_ok-into_held-6.ensures))
    (hold_trace d c.args.slots is c.args.name)
