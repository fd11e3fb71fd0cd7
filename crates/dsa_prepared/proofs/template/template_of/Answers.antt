use Rattle.std.proofs.Common.{◌≡◌, length, ap, sym, subst, ◌∙◌}
use Rattle.dsa_emission.specs.Emission.{batch_count}
use Rattle.dsa_settings.specs.Plan.{Plan}
use Rattle.dsa_prepared.specs.Sound.{IsSound}
use Rattle.dsa_prepared.specs.Templates.{template, template_of, portal_entries, staging_entries}
use Rattle.dsa_prepared.proofs.SoundTemplates.{sound}
use Rattle.dsa_prepared.proofs.template.template_of.Goals as goal

pub invariant_of-parts : goal.invariant_of-parts
invariant_of-parts c =
    let plan : c.groups-groups.result.now ≡ c.args.plan.now = c.groups-groups.ensures in
    let regions : c.in_ok-to_vec.field-0.items ≡ c.args.regions.now = c.in_ok-to_vec.ensures.items_if_clones_equal (λ s t is. is) in
    let portal = c.in_ok-portal_entries.ensures ∙ ap (λ (p : Plan). portal_entries c.args.regions.now p c.args.pieces.now) plan in
    let staging = c.in_ok-staging_entries.ensures ∙ ap (λ (p : Plan). staging_entries c.args.regions.now p c.args.pieces.now) plan in
    let batches = c.batch_count.ensures ∙ ap batch_count plan in
    let same : template c.in_ok-to_vec.field-0.items c.in_ok-units_of.field-0.items c.in_ok-ties_of.field-0.items c.in_ok-portal_entries.field-0.items c.in_ok-staging_entries.field-0.items
    c.batch_count.result (length c.args.pieces.now) ≡ template_of c.args.regions.now c.args.operations.now c.args.plan.now c.args.pieces.now =
    λ i. template (regions i) (c.in_ok-units_of.ensures i) (c.in_ok-ties_of.ensures i) (portal i) (staging i) (batches i) (length c.args.pieces.now) in
    subst IsSound (sym same) (sound c.args.regions.now c.args.operations.now c.args.plan.now c.args.pieces.now
    c.requires.operations_lie c.requires.pieces_lie c.requires.covers c.requires.few)
