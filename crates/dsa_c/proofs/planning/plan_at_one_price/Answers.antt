use Rattle.std.proofs.Common.{inl}
use Rattle.dsa_c.proofs.planning.plan_at_one_price.Goals as goal

pub returns-in-Ok-same_price : goal.returns-in-Ok-same_price
returns-in-Ok-same_price c =
    let made = rw c.in-Ok-same_price.is at (c.same_price-2.ensures c.args.table.now) in
    c.plan_under.ensures c.args.settings.now c.args.table.now made.0 made.1

pub returns-in-Err : goal.returns-in-Err
returns-in-Err c =
    let none = rw c.in-Err.is at (c.same_price-2.ensures c.args.table.now) in
    (c.settings_refusal-in-Err.ensures.some, inl (inl (c.settings_refusal-in-Err.ensures.names c.args.table.now none)))
