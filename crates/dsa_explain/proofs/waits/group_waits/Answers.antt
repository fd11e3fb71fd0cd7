use Rattle.std.proofs.Common.{◌≡◌, List, ℕ, length, sym, ap, ◌∙◌, subst, arith}
use Rattle.std.specs.Vec.{with_items}
use Rattle.std.proofs.lemmas.List.{with_items_is}
use Rattle.dsa_tracker.specs.Words.{IsTracker, table_in}
use Rattle.dsa_explain.specs.Waits.{AreSets, free_table}
use Rattle.dsa_explain.proofs.Waited.{waits_told}
use Rattle.dsa_explain.proofs.waits.group_waits.Goals as goal

pub sets_of-requires : goal.sets_of-requires
sets_of-requires c =
    let tracked : IsTracker c.deref_mut.result.now = subst IsTracker (sym c.deref_mut.ensures.value) c.in_ok-tracker.ensures.0 in
    let is : c.deref.result.now ≡ c.submit_groups.new.words =
    c.deref.ensures.value ∙ with_items_is c.in_ok-tracker.tracker c.submit_groups.new.words (c.submit_groups.auto.words ∙ c.deref_mut.ensures.len) in
    subst IsTracker (sym is) (c.in-Ok.ensures.answer.3 tracked).0

pub returns : goal.returns
returns c =
    let tracked : IsTracker c.deref_mut.result.now = subst IsTracker (sym c.deref_mut.ensures.value) c.in_ok-tracker.ensures.0 in
    let free : table_in c.deref_mut.result.now ≡ free_table = ap table_in c.deref_mut.ensures.value ∙ c.in_ok-tracker.ensures.1 in
    let is : c.deref.result.now ≡ c.submit_groups.new.words =
    c.deref.ensures.value ∙ with_items_is c.in_ok-tracker.tracker c.submit_groups.new.words (c.submit_groups.auto.words ∙ c.deref_mut.ensures.len) in
    waits_told (table_in c.deref_mut.result.now) (table_in c.submit_groups.new.words) c.submit_groups.new.slots (with_items c.in_ok-slots.slots c.submit_groups.new.slots).items
    c.deref-2.result.now c.in_ok-sets.sets.items c.args.plan.now c.args.pieces.now c.args.staging free (c.in-Ok.ensures.answer.3 tracked).1
    (with_items_is c.in_ok-slots.slots c.submit_groups.new.slots (c.submit_groups.auto.slots ∙ c.deref_mut-2.ensures.len)) c.deref-2.ensures.value
    (omega (arith, c.submit_groups.auto.slots, c.deref_mut-2.ensures.len, c.in_ok-slots.ensures.len, ap length c.groups.ensures))
    (subst (λ (words : List ℕ). AreSets (table_in words) c.deref-2.result.now c.in_ok-sets.sets.items) is c.in_ok-sets.ensures)
