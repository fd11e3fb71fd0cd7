use Rattle.dsa_tokens.specs.Spelled.{whole}
use Rattle.dsa_report.proofs.Arrays.{next_added, array_added}
use Rattle.dsa_report.proofs.compact.push_prices.Goals as goal

pub loop-price-preserved : goal.loop-price-preserved
loop-price-preserved c =
    next_added whole c.in-Some.rest.now c.loop-price.price-index 0 c.loop-price.line.items c.push-in-loop-price.new.self.items c.push_number-in-loop-price.new.line.items _
    c.loop-price-test.true c.in_ok-push-2.ensures.items c.in_ok-push_number-2.ensures c.loop-price.invariant

pub returns : goal.returns
returns c =
    array_added whole c.in-Some.first.now c.in-Some.rest.now c.args.prices.now c.args.line.now.items c.push.new.self.items c.push_number.new.line.items c.loop-price.line.items
    c.push-2.new.self.items c.loop-price.price-index c.in-Some.ensures.cases.0 c.in_ok-push.ensures.items c.in_ok-push_number.ensures c.loop-price-test.false c.loop-price.invariant c.in_ok-push-3.ensures.items
