use Rattle.dsa_report.proofs.SettingsRead.{is_image, other_image}
use Rattle.dsa_report.proofs.image.HeldImage.into_members.Goals as goal

pub returns-then-has_others : goal.returns-then-has_others
returns-then-has_others c = λ ms are order. other_image c.args.self ms are c.if-has_others.true

pub returns : goal.returns
returns c = λ ms are order.
    is_image c.args.self ms are c.in_ok-into_option.field-0 c.in_ok-into_option-2.field-0 order c.if-has_others.false c.in_ok-into_option.ensures c.in_ok-into_option-2.ensures
