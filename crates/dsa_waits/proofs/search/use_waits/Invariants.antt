use Rattle.std.specs.Prelude.{All}
use Rattle.dsa_recording.specs.Uses.{AddsKeys}
use Rattle.dsa_waits.specs.Steps.{IsSettled, UsesFirst}
use Rattle.dsa_waits.proofs.search.use_waits.Given as goal

-- the keys of the first ones are there, and those of the known ones
abbrev pub invariant-loop-i : goal.invariant-loop-i
invariant-loop-i l =
    AddsKeys (UsesFirst l.keyed.accepted.now l.keyed.all.now l.keyed.submissions.now l.course l.outstanding l.i l.entry) l.fn.used l.used
    × All (IsSettled l.keyed.accepted.now l.keyed.all.now l.keyed.submissions.now l.course l.entry l.used) l.known.items
