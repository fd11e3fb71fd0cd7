use Rattle.dsa_prepared.proofs.ByRegions.{meeting_spans_stay}
use Rattle.dsa_prepared.proofs.keeping.meeting_spans_stay.Goals as goal

pub returns : goal.returns
returns c = meeting_spans_stay
