use Rattle.dsa_waits.specs.RecordedSteps.{HasEntries, entries_before}
use Rattle.dsa_waits.proofs.recorded.entries_of.Given as goal

abbrev pub invariant-loop-number : goal.invariant-loop-number
invariant-loop-number l = HasEntries l.all l.submissions (entries_before 0 l.submissions l.number) l.entries.items l.members.items
