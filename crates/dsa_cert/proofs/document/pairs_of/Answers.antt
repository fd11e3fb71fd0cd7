use Rattle.std.proofs.Common.{◌≤◌, List, length, map, sym, ap, ◌∙◌, arith}
use Rattle.std.specs.Prelude.{Some}
use Rattle.std.proofs.lemmas.List.Elements.{All-push}
use Rattle.serde_json.specs.View.{items_view, view}
use Rattle.serde_json.specs.declared.value.Value.{Value}
use Rattle.dsa_cert.specs.Document.{PairFits, pair_value}
use Rattle.dsa_cert.proofs.Arrays.{array_apart}
use Rattle.dsa_cert.proofs.Spelled.{all_read, read_more}
use Rattle.dsa_cert.proofs.document.pairs_of.Goals as goal

pub returns-in_default-pair_of : goal.returns-in_default-pair_of
returns-in_default-pair_of c = λ pairs fit.
    array_apart pair_value PairFits (view c.args.value.now) c.deref-item-items.result.now c.loop-item.item-index c.item-item.result (sym (ap (λ (vs : List Value). Some (items_view vs)) c.deref-item-items.ensures.value ∙ c.in-Some.ensures)) c.loop-item-test.true c.item-item.is
    c.in_default-pair_of.ensures pairs fit

pub loop-item-init : goal.loop-item-init
loop-item-init c = record { spelled = sym (ap (map pair_value) c.in_ok-pairs.ensures.items); fit = λ k d lt. absurd (omega (arith, lt, ap length c.in_ok-pairs.ensures.items)) }

pub loop-item-preserved : goal.loop-item-preserved
loop-item-preserved c =
    let items = c.deref-item-items.result.now in
    let pair = c.in-Some-pair_of.pair in
    record {
      spelled = rw c.in_ok-push.ensures.items
          (read_more pair_value items c.loop-item.pairs.items c.loop-item.item-index c.item-item.result pair c.loop-item-test.true c.item-item.is c.loop-item.invariant.spelled c.in-Some-pair_of.ensures.0);
      fit = rw c.in_ok-push.ensures.items (All-push PairFits c.loop-item.pairs.items pair c.loop-item.invariant.fit c.in-Some-pair_of.ensures.1);
    }

pub returns : goal.returns
returns c =
    let items = c.deref-item-items.result.now in
    let at_end : length items ≤ c.loop-item.item-index = omega arith in
    (all_read pair_value (view c.args.value.now) items c.loop-item.pairs.items c.loop-item.item-index (sym (ap (λ (vs : List Value). Some (items_view vs)) c.deref-item-items.ensures.value ∙ c.in-Some.ensures)) at_end c.loop-item.invariant.spelled, c.loop-item.invariant.fit)
