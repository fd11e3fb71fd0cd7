use Rattle.std.proofs.Common.{refl, sym, ◌∙◌}
use Rattle.json.specs.Reads.{token_of}
use Rattle.json.specs.Token.{Token}
use Rattle.dsa_settings.specs.Settings.BatchPrices.{SamePrice}
use Rattle.dsa_tokens.proofs.Begun.{is_array, kind_taken}
use Rattle.dsa_report.proofs.SettingsRead.{first_prices, no_prices, no_table}
use Rattle.dsa_report.proofs.settings.BatchPricesKind.read.Goals as goal

pub returns-in-Some : goal.returns-in-Some
returns-in-Some c =
    let list = rw c.in-Some.is at c.in_ok-table-in-BeginArray.ensures in
    (list.0, rw c.in-BeginArray.is list.1, first_prices list.0 c.in-Some.table.items list.2, list.3)

pub returns-in-Some-2 : goal.returns-in-Some-2
returns-in-Some-2 c =
    let read = rw c.in-Some-2.is at c.in_ok-price-in_default.ensures in
    (read.0, read.1, (SamePrice c.in-Some-2.price, read.2, refl), read.3)

pub returns-in-None : goal.returns-in-None
returns-in-None c =
    let list = rw c.in-None.is at c.in_ok-table-in-BeginArray.ensures in
    let kind = kind_taken c.args.depth c.args.reader.now c.list_up_to.new.reader list.0 Token.begin_array list.1 in
    (list.0, rw c.in-BeginArray.is list.1, no_prices list.0 kind list.2, list.3)

pub returns-in-None-2 : goal.returns-in-None-2
returns-in-None-2 c =
    let read = rw c.in-None-2.is at c.in_ok-price-in_default.ensures in
    let kind = kind_taken c.args.depth c.args.reader.now c.read.new.reader read.0 (token_of c.args.first) read.1 in
    (read.0, read.1, no_table read.0 (λ e. let eq = is_array c.args.first (sym kind ∙ e) in c.in_default.not-BeginArray (cc)) read.2, read.3)
