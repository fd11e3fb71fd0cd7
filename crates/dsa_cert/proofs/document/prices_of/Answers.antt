use Rattle.std.proofs.Common.{◌≤◌, List, length, map, sym, ap, ◌∙◌, arith}
use Rattle.std.specs.Prelude.{⊤, Some, option_and_then}
use Rattle.serde_json.specs.Find.{as_number, as_u64}
use Rattle.serde_json.specs.View.{items_view, view}
use Rattle.serde_json.specs.declared.value.Value.{Value}
use Rattle.dsa_tokens.specs.Spelled.{whole}
use Rattle.dsa_cert.proofs.Arrays.{array_apart}
use Rattle.dsa_cert.proofs.Objects.{whole_of}
use Rattle.dsa_cert.proofs.Spelled.{all_read, read_more}
use Rattle.dsa_cert.proofs.document.prices_of.Goals as goal

pub returns-in_default-as_u64 : goal.returns-in_default-as_u64
returns-in_default-as_u64 c = λ prices.
    array_apart whole (λ _. ⊤) (view c.args.value.now) c.deref-item-items.result.now c.loop-item.item-index c.item-item.result (sym (ap (λ (vs : List Value). Some (items_view vs)) c.deref-item-items.ensures.value ∙ c.in-Some.ensures)) c.loop-item-test.true c.item-item.is
    (λ n _ e. let found = ap (λ d. option_and_then as_u64 (as_number d)) e in cc) prices (λ k d lt. tt)

pub loop-item-init : goal.loop-item-init
loop-item-init c = sym (ap (map whole) c.in_ok-prices.ensures.items)

pub loop-item-preserved : goal.loop-item-preserved
loop-item-preserved c =
    let price = c.in-Some-as_u64.price in
    rw c.in_ok-push.ensures.items
    (read_more whole c.deref-item-items.result.now c.loop-item.prices.items c.loop-item.item-index c.item-item.result price c.loop-item-test.true c.item-item.is c.loop-item.invariant (whole_of (view c.item-item.result) price (sym c.in-Some-as_u64.ensures)))

pub returns : goal.returns
returns c =
    let items = c.deref-item-items.result.now in
    let at_end : length items ≤ c.loop-item.item-index = omega arith in
    all_read whole (view c.args.value.now) items c.loop-item.prices.items c.loop-item.item-index (sym (ap (λ (vs : List Value). Some (items_view vs)) c.deref-item-items.ensures.value ∙ c.in-Some.ensures)) at_end c.loop-item.invariant
