use Rattle.std.proofs.Common.{◌≡◌, ◌+◌, ◌-◌, ◌≤◌, length}
use Rattle.dsa_conflicts.proofs.Lasts.{AreSwept}
use Rattle.dsa_audit.specs.Members.{reads_of, writes_of}
use Rattle.dsa_audit.specs.Steps.{AreLooks}
use Rattle.dsa_audit.proofs.looks.looks_of.Given as goal

abbrev pub invariant-loop-looks : goal.invariant-loop-looks
invariant-loop-looks l = record {
  within : l.at ≤ length l.members;
  swept : AreSwept reads_of writes_of l.members l.at l.sweep.segments;
  counted : l.sweep.count ≡ l.at;
  looks : AreLooks l.members l.looks.items;
}

abbrev pub decreases-loop-looks : goal.decreases-loop-looks
decreases-loop-looks l = (length l.wanted - length l.looks.items) + (length l.members - l.at)
