use Rattle.std.proofs.Common.{ℕ, ◌<◌, get_or}
use Rattle.dsa_audit.specs.declared.member.Unseen.TheVariants.{Blank}
use Rattle.dsa_recording.specs.Entries.{Applies}
use Rattle.dsa_recording.proofs.member.unseen_reason.Given as goal

-- no reason so far applies
abbrev pub invariant-loop-why : goal.invariant-loop-why
invariant-loop-why l = (k : ℕ) → k < l.why-index → ¬ Applies l.head l.entry (get_or l.why-items k Blank)
