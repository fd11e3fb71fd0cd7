use Rattle.dsa_lists.specs.Submissions.{TouchesArea}
use Rattle.dsa_lists.proofs.First.{NoneBefore}
use Rattle.dsa_lists.proofs.submitting.first_meeting.Given as goal

-- none so far meets the area
abbrev pub invariant-loop-index : goal.invariant-loop-index
invariant-loop-index l = NoneBefore (TouchesArea l.area) l.operations l.index
