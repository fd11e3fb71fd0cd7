use Rattle.dsa_flight.proofs.Spans.{descriptors_tell, hosted_tell, staging_is_written}
use Rattle.dsa_flight.proofs.laws.spans_tell.Goals as goal

pub returns : goal.returns
returns c = record { descriptors = descriptors_tell; hosted = hosted_tell; staging = staging_is_written }
