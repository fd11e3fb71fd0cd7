use Rattle.dsa_report.proofs.SettingsRead.{are_settings, other_settings}
use Rattle.dsa_report.proofs.settings.Held.into_numbers.Goals as goal

pub returns-then-has_others : goal.returns-then-has_others
returns-then-has_others c = λ ms are order. other_settings c.args.self ms are c.if-has_others.true

pub returns : goal.returns
returns c = λ ms are order.
    are_settings c.args.self ms are c.in_ok-into_option.field-0 c.in_ok-into_option-2.field-0 c.in_ok-into_option-3.field-0 c.in_ok-into_option-4.field-0 c.in_ok-into_option-5.field-0 c.in_ok-into_option-6.field-0 c.in_ok-into_option-7.field-0 order c.if-has_others.false
    c.in_ok-into_option.ensures c.in_ok-into_option-2.ensures c.in_ok-into_option-3.ensures c.in_ok-into_option-4.ensures c.in_ok-into_option-5.ensures c.in_ok-into_option-6.ensures c.in_ok-into_option-7.ensures
