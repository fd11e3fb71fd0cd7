use Rattle.dsa_recording.specs.Uses.{AddsKeys, TakesFirstOut}
use Rattle.dsa_recording.proofs.uses.use_members.Given as goal

-- the keys of the first ones are there
abbrev pub invariant-loop-at : goal.invariant-loop-at
invariant-loop-at l = AddsKeys (TakesFirstOut l.judged.accepted.now l.judged.entries.now l.judged.audited.now l.members l.at l.later) l.fn.used l.used
