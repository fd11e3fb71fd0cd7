use Rattle.std.proofs.Common.{◌≤◌, length, map, ap, arith}
use Rattle.serde_json.specs.View.{view}
use Rattle.dsa_tokens.specs.Spelled.{whole}
use Rattle.dsa_cert.proofs.Spelled.{all_written, written_more}
use Rattle.dsa_cert.proofs.document.prices_json.Goals as goal

pub loop-price-init : goal.loop-price-init
loop-price-init c = ap (map view) c.in_ok-values.ensures.items

pub loop-price-preserved : goal.loop-price-preserved
loop-price-preserved c =
    rw c.in_ok-push.ensures.items
    (written_more whole c.loop-price.values.items c.args.prices.now c.loop-price.price-index c.from.result 0 c.loop-price-test.true c.loop-price.invariant c.from.ensures)

pub returns : goal.returns
returns c =
    let at_end : length c.args.prices.now ≤ c.loop-price.price-index = omega arith in
    all_written whole c.loop-price.values c.args.prices.now c.loop-price.price-index at_end c.loop-price.invariant
