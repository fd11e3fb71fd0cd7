use Rattle.dsa_recording.specs.Uses.{AddsKeys}
use Rattle.dsa_waits.specs.Steps.{UsesBetween}
use Rattle.dsa_waits.proofs.search.use_all_waits.Given as goal

-- the keys of the entries before are there
abbrev pub invariant-loop-entry : goal.invariant-loop-entry
invariant-loop-entry l =
    AddsKeys (UsesBetween l.keyed.accepted.now l.keyed.all.now l.keyed.submissions.now l.course l.outstanding l.from l.entry) l.fn.used l.used
