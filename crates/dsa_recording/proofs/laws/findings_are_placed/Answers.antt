use Rattle.dsa_recording.proofs.Found.{report_placed}
use Rattle.dsa_recording.proofs.laws.findings_are_placed.Goals as goal

pub returns : goal.returns
returns c = report_placed
