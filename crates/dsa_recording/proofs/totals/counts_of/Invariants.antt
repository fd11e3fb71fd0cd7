use Rattle.std.proofs.Common.{take}
use Rattle.dsa_recording.specs.Totals.{AreCounts}
use Rattle.dsa_recording.proofs.totals.counts_of.Given as goal

-- how many of the findings so far are of each kind
abbrev pub invariant-loop-finding : goal.invariant-loop-finding
invariant-loop-finding l = AreCounts (take l.finding-index l.findings)
    (record { unseen = l.unseen; missing = l.missing; needless = l.needless; guarding = l.guarding; signalling = l.signalling; flaws = l.flaws })
