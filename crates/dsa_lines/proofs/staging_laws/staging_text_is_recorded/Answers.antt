use Rattle.dsa_lines.proofs.RecordedAgain.{staging_is_recorded}
use Rattle.dsa_lines.proofs.staging_laws.staging_text_is_recorded.Goals as goal

pub returns : goal.returns
returns c = staging_is_recorded
