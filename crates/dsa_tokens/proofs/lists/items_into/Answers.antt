use Rattle.std.proofs.Common.{◌≡◌, [], ◌∷◌, ◌++◌, ◌<◌, length, Some, None, ◌∙◌, arith}
use Rattle.std.proofs.lemmas.Result.{err_from_is_err_and}
use Rattle.json.specs.Json.{after_end_array}
use Rattle.json.proofs.Grammar.{after_end_array-shorter}
use Rattle.serde_json.specs.Data.{item}
use Rattle.dsa_tokens.specs.Taken.{Takes}
use Rattle.dsa_tokens.proofs.Added.{each_push, nothing_added, one_more, other_after}
use Rattle.dsa_tokens.proofs.Grammar.{items_next, items_stop, items_later}
use Rattle.dsa_tokens.proofs.Items.{begun, taken_all, taken_next}
use Rattle.dsa_tokens.proofs.Read.{items_refused, items_none}
use Rattle.dsa_tokens.proofs.lists.items_into.Goals as goal

pub items-init : goal.items-init
items-init g c = ([], [], begun c.args.depth c.args.reader.now, tt, nothing_added c.args.most c.args.found.now.items)

pub returns-in_err-item : goal.returns-in_err-item
returns-in_err-item g c =
    let l = c.items in
    let trail = l.invariant.2 in
    let going : (after_end_array l.reader ≡ None) × (c.take_end_array.new.self ≡ l.reader) = grind arith in
    let e = err_from_is_err_and c.from_residual.result c.from_residual.ensures.1 in
    rw (e.1, e.2)
    (items_refused c.args.depth c.take_end_array.new.self c.args.reader.now c.in_err-item.field-0.0 c.in_err-item.ensures
    (λ none. trail.stops (items_stop c.args.depth l.reader going.0 (rw (← going.1) none))))

pub returns-in_err-pass_items : goal.returns-in_err-pass_items
returns-in_err-pass_items g c =
    let l = c.items in
    let s = c.read_next.new.reader in
    let trail = l.invariant.2 in
    let going : (after_end_array l.reader ≡ None) × (c.take_end_array.new.self ≡ l.reader) = grind arith in
    let first = c.in_ok-item.ensures in
    let taken : Takes c.args.depth l.reader first.0 s = rw (← going.1) first.1 in
    let less : length s < length l.reader = rw (← going.1) first.3 in
    let e = err_from_is_err_and c.from_residual-in_err-pass_items.result c.from_residual-in_err-pass_items.ensures.1 in
    rw (e.1, e.2)
    (items_none c.args.depth c.args.reader.now c.in_err-pass_items.field-0.0
    (trail.stops (items_later c.args.depth l.reader s first.0 going.0 taken less c.in_err-pass_items.ensures.err)))

pub returns-in_default : goal.returns-in_default
returns-in_default g c =
    let l = c.items in
    let s = c.read_next.new.reader in
    let r = c.pass_items.new.reader in
    let trail = l.invariant.2 in
    let going : (after_end_array l.reader ≡ None) × (c.take_end_array.new.self ≡ l.reader) = grind arith in
    let first = c.in_ok-item.ensures in
    let taken : Takes c.args.depth l.reader first.0 s = rw (← going.1) first.1 in
    let less : length s < length l.reader = rw (← going.1) first.3 in
    let rest = c.in_ok-pass_items.ensures.ok in
    let other = rw c.in_default.is at first.2 in (
      _,
      trail.goes_on (item first.0 rest.0) r (items_next c.args.depth l.reader s r first.0 rest.0 going.0 taken less rest.1),
      other_after g.K.Kind.says l.invariant.0 first.0 rest.0 other,
      omega (arith, trail.shorter, less, c.in_ok-pass_items.ensures.shorter),
    )

pub items-smaller : goal.items-smaller
items-smaller g c =
    let going : (after_end_array c.items.reader ≡ None) × (c.take_end_array.new.self ≡ c.items.reader) = grind arith in
    let first = c.in_ok-item.ensures in
    rw (← going.1) first.3

pub items-preserved : goal.items-preserved
items-preserved g c =
    let l = c.items in
    let depth = c.args.depth in
    let s = c.read_next.new.reader in
    let x = c.in-Some.item in
    let (done, xs, trail, each, kept) = l.invariant in
    let going : (after_end_array l.reader ≡ None) × (c.take_end_array.new.self ≡ l.reader) = grind arith in
    let first = c.in_ok-item.ensures in
    let said = rw c.in-Some.is at first.2 in
    let taken : Takes depth l.reader first.0 s = rw (← going.1) first.1 in
    let less : length s < length l.reader = rw (← going.1) first.3 in (
      done ++ first.0 ∷ [],
      xs ++ x ∷ [],
      taken_next depth c.args.reader.now l.reader s done first.0 trail going.0 taken less,
      each_push g.K.Kind.says done xs first.0 x each said,
      c.in_ok-add.ensures ∙ one_more c.args.most c.args.found.now.items l.found.items xs x kept,
    )

pub returns : goal.returns
returns g c =
    let l = c.items in
    let r = c.take_end_array.new.self in
    let (done, xs, trail, each, kept) = l.invariant in
    let over : after_end_array l.reader ≡ Some r = grind arith in (
      _,
      taken_all c.args.depth c.args.reader.now l.reader r done trail over,
      (xs, each, kept),
      omega (arith, trail.shorter, after_end_array-shorter l.reader r over),
    )
