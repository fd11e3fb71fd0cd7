use Rattle.dsa_settings.proofs.Epochs.{legal_parts, legal_with_more, epochs_follow}
use Rattle.dsa_settings.proofs.laws.legal_epochs_part.Goals as goal

pub returns : goal.returns
returns g c = record { follow = epochs_follow; part = legal_parts g.C.Conflicts.conflict; more = legal_with_more g.C.Conflicts.conflict }
