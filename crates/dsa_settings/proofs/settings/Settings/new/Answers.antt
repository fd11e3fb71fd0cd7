use Rattle.dsa_settings.specs.Settings.{Limits, limits}
use Rattle.dsa_settings.specs.Settings.BatchPrices.{SamePrice}
use Rattle.dsa_settings.proofs.Outside.{outside_refuses}
use Rattle.dsa_settings.proofs.settings.Settings.new.Goals as goal

pub returns-in-Some : goal.returns-in-Some
returns-in-Some c =
    let s : Limits = limits c.args.greatest_batch c.args.greatest_transfer c.args.lone (SamePrice c.args.batch) c.args.fence c.args.staging in
    let first = c.in-Some.ensures (SamePrice c.args.batch) in
    (first, outside_refuses c.in-Some.setting s first)
