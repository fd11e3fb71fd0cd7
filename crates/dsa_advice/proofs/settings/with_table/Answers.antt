use Rattle.dsa_settings.specs.Settings.BatchPrices.{BySize}
use Rattle.dsa_advice.proofs.Spelled.{no_numbers, no_settings, one_table, same_table, some_settings}
use Rattle.dsa_advice.proofs.settings.with_table.Goals as goal

pub returns-in_default : goal.returns-in_default
returns-in_default c = no_numbers c.args.words.now c.in_default.ensures

pub returns-in-Ok : goal.returns-in-Ok
returns-in-Ok c =
    some_settings c.args.words.now c.in-Some.n (BySize c.args.table.now) c.in-Ok.settings c.in-Some.ensures
    (one_table c.args.words.now c.args.batches.now c.args.table.now c.requires.given c.requires.spelled) c.in-Ok.ensures.0 c.in-Ok.ensures.1

pub returns-in-Err : goal.returns-in-Err
returns-in-Err c =
    no_settings c.args.words.now c.in-Some.n (BySize c.args.table.now) c.in-Some.ensures
    (same_table c.args.words.now c.args.batches.now c.args.table.now c.requires.given c.requires.spelled) c.in-Err.ensures.1
