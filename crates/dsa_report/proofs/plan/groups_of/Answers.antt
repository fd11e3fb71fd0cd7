use Rattle.std.proofs.Common.{◌≡◌, ◌<◌, length, map, [], ◌∷◌, ◌++◌, Some, None, refl, sym, ap, subst, ◌∙◌, arith}
use Rattle.std.proofs.lemmas.Result.{err_from_is_err_and}
use Rattle.std.proofs.lemmas.List.{map_push}
use Rattle.json.specs.Json.{after_end_array}
use Rattle.json.proofs.Grammar.{after_end_array-shorter}
use Rattle.serde_json.specs.Data.{array, item}
use Rattle.dsa_tokens.specs.Taken.{Takes}
use Rattle.dsa_tokens.proofs.Grammar.{items_later, items_next, items_stop}
use Rattle.dsa_tokens.proofs.Items.{Trail, begun, taken_all, taken_next}
use Rattle.dsa_tokens.proofs.Read.{items_none, items_refused}
use Rattle.dsa_report.specs.Plan.{group_value}
use Rattle.dsa_report.proofs.KeptPlans.{after_none, no_groups, no_plan}
use Rattle.dsa_report.proofs.plan.groups_of.Goals as goal

pub groups-init : goal.groups-init
groups-init c = ([], begun c.args.depth c.args.reader.now, no_groups _ c.new.ensures.items c.new-2.ensures.items refl)

pub returns-in_err-take : goal.returns-in_err-take
returns-in_err-take c =
    let l = c.groups in
    let trail = l.invariant.1 in
    let going : (after_end_array l.reader ≡ None) × (c.take_end_array.new.self ≡ l.reader) = grind arith in
    let e = err_from_is_err_and c.from_residual.result c.from_residual.ensures.1 in
    rw (e.1, e.2)
    (items_refused c.args.depth c.take_end_array.new.self c.args.reader.now c.in_err-take.field-0.0 c.in_err-take.ensures
    (λ none. trail.stops (items_stop c.args.depth l.reader going.0 (rw (← going.1) none))))

pub returns-in_err-pass_items : goal.returns-in_err-pass_items
returns-in_err-pass_items c =
    let l = c.groups in
    let s = c.take.new.reader in
    let trail = l.invariant.1 in
    let going : (after_end_array l.reader ≡ None) × (c.take_end_array.new.self ≡ l.reader) = grind arith in
    let first = c.in_ok-take.ensures in
    let taken : Takes c.args.depth l.reader first.0 s = rw (← going.1) first.1 in
    let less : length s < length l.reader = rw (← going.1) first.3 in
    let e = err_from_is_err_and c.from_residual-in_err-pass_items.result c.from_residual-in_err-pass_items.ensures.1 in
    rw (e.1, e.2)
    (items_none c.args.depth c.args.reader.now c.in_err-pass_items.field-0.0
    (trail.stops (items_later c.args.depth l.reader s first.0 going.0 taken less c.in_err-pass_items.ensures.err)))

pub returns-then-not-branch : goal.returns-then-not-branch
returns-then-not-branch c =
    let l = c.groups in
    let s = c.take.new.reader in
    let r = c.pass_items.new.reader in
    let (plan, trail, are) = l.invariant in
    let going : (after_end_array l.reader ≡ None) × (c.take_end_array.new.self ≡ l.reader) = grind arith in
    let first = rw c.if-not-branch.true at c.in_ok-take.ensures in
    let taken : Takes c.args.depth l.reader first.0 s = rw (← going.1) first.1 in
    let less : length s < length l.reader = rw (← going.1) first.3 in
    let rest = c.in_ok-pass_items.ensures.ok in (
      _,
      trail.goes_on (item first.0 rest.0) r (items_next c.args.depth l.reader s r first.0 rest.0 going.0 taken less rest.1),
      no_plan plan first.0 rest.0 first.2,
      omega (arith, trail.shorter, less, c.in_ok-pass_items.ensures.shorter),
    )

pub groups-smaller : goal.groups-smaller
groups-smaller c =
    let going : (after_end_array c.groups.reader ≡ None) × (c.take_end_array.new.self ≡ c.groups.reader) = grind arith in
    let first = c.in_ok-take.ensures in
    rw (← going.1) first.3

pub groups-preserved : goal.groups-preserved
groups-preserved c =
    let l = c.groups in
    let depth = c.args.depth in
    let s = c.take.new.reader in
    let (plan, trail, are) = l.invariant in
    let going : (after_end_array l.reader ≡ None) × (c.take_end_array.new.self ≡ l.reader) = grind arith in
    let first = rw c.if-not-branch.false at c.in_ok-take.ensures in
    let taken : Takes depth l.reader first.0 s = rw (← going.1) first.1 in
    let less : length s < length l.reader = rw (← going.1) first.3 in
    let (group, is, adds) = first.2 in
    let done = ap (λ d. map group_value plan ++ d ∷ []) is ∙ sym (map_push group_value plan group) in (
      plan ++ group ∷ [],
      subst (Trail depth c.args.reader.now s) done (taken_next depth c.args.reader.now l.reader s (map group_value plan) first.0 trail going.0 taken less),
      adds plan are,
    )

pub returns : goal.returns
returns c =
    let l = c.groups in
    let r = c.take_end_array.new.self in
    let (plan, trail, are) = l.invariant in
    let over : after_end_array l.reader ≡ Some r = grind arith in (
      _,
      taken_all c.args.depth c.args.reader.now l.reader r (map group_value plan) trail over,
      (plan, ap array (after_none (map group_value plan)), c.in_ok-plan.ensures plan are),
      omega (arith, trail.shorter, after_end_array-shorter l.reader r over),
    )
