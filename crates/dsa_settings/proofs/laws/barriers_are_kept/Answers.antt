use Rattle.dsa_settings.proofs.Barriers.{legal_is_kept, barriers_part}
use Rattle.dsa_settings.proofs.laws.barriers_are_kept.Goals as goal

pub returns : goal.returns
returns g c = record { kept = legal_is_kept g.C.Conflicts.conflict; part = barriers_part g.C.Conflicts.conflict }
