use Rattle.dsa_recording.specs.Uses.{AddsKeys, IsEpochBefore, TakesBelowOut}
use Rattle.dsa_recording.proofs.uses.use_pairs.Given as goal

-- the keys of the members so far are there
abbrev pub invariant-loop-later : goal.invariant-loop-later
invariant-loop-later l =
    IsEpochBefore l.judged.audited.now.fences.items l.later l.epoch
    × AddsKeys (TakesBelowOut l.judged.accepted.now l.judged.entries.now l.judged.audited.now l.later) l.fn.used l.used
