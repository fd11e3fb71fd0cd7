use Rattle.dsa_recording.proofs.Extended.{outcome_of_nothing}
use Rattle.dsa_recording.proofs.Lacking.{own_nothing}
use Rattle.dsa_recording.proofs.parts.Parts.new.Goals as goal

pub returns : goal.returns
returns c options = (own_nothing, outcome_of_nothing options c.none.result c.none.ensures)
