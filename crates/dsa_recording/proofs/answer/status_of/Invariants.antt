use Rattle.std.proofs.Common.{◌↔◌, length}
use Rattle.std.specs.List.{AllByRecursion}
use Rattle.dsa_recording.specs.Answers.{AreNoErrors, IsNoError}
use Rattle.dsa_recording.specs.Reports.{reported_by}
use Rattle.dsa_recording.specs.Details.{IsPlaced}
use Rattle.dsa_recording.proofs.answer.status_of.Given as goal

-- those that are left are of entries, and they are no errors exactly if all are none
abbrev pub invariant-loop-rest : goal.invariant-loop-rest
invariant-loop-rest l =
    AllByRecursion (IsPlaced l.all (reported_by l.report)) l.rest
    × (AllByRecursion (IsNoError l.options l.all (reported_by l.report)) l.rest ↔ AreNoErrors l.options l.all (reported_by l.report))

abbrev pub decreases-loop-rest : goal.decreases-loop-rest
decreases-loop-rest l = length l.rest
