use Rattle.std.proofs.Common.{rules, refl}
use Rattle.dsa_advice.specs.Shown.{is_too_large}
use Rattle.dsa_advice.proofs.Answered.{both}
use Rattle.dsa_advice.proofs.shown.answer_picture.Goals as goal

pub returns-then-groups-gt-MOST_ROWS : goal.returns-then-groups-gt-MOST_ROWS
returns-then-groups-gt-MOST_ROWS c =
    both c.too_many_groups.result _ _ _ (λ a one words. is_too_large c.args.range refl c.requires (search rules) one (search rules)) c.too_many_groups.ensures.status c.too_many_groups.ensures.text
