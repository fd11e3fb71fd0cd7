use Rattle.dsa_report.specs.Settings.{settings_shown}
use Rattle.dsa_report.proofs.SettingsRead.{read_whole}
use Rattle.dsa_report.proofs.settings.settings_of.Goals as goal

pub returns-in-Price : goal.returns-in-Price
returns-in-Price c = λ s kept. read_whole s (settings_shown c.args.numbers.now) c.with_price.result kept c.with_price.ensures

pub returns-in-Table : goal.returns-in-Table
returns-in-Table c = λ s kept. read_whole s (settings_shown c.args.numbers.now) c.with_table.result kept c.with_table.ensures
