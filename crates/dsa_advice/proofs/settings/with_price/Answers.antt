use Rattle.std.proofs.Common.{sym}
use Rattle.dsa_settings.specs.Settings.BatchPrices.{SamePrice}
use Rattle.dsa_advice.proofs.Spelled.{no_numbers, one_price, some_settings}
use Rattle.dsa_advice.proofs.settings.with_price.Goals as goal

pub returns-in_default : goal.returns-in_default
returns-in_default c = no_numbers c.args.words.now c.in_default.ensures

pub returns-in-Ok : goal.returns-in-Ok
returns-in-Ok c =
    some_settings c.args.words.now c.in-Some.n (SamePrice c.in-Some-number_of.price) c.in-Ok.settings c.in-Some.ensures
    (one_price c.args.words.now c.in-Some-number_of.price c.requires (sym c.in-Some-number_of.ensures)) c.in-Ok.ensures.0 c.in-Ok.ensures.1
