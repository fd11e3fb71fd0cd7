use Rattle.std.proofs.Common.{◌≡◌, ℕ, ◌<◌, false, length, get_or, []}
use Rattle.dsa_audit.specs.declared.member.Member.TheVariants.{Unknown}
use Rattle.dsa_audit.specs.declared.member.Unseen.TheVariants.{Operation}
use Rattle.dsa_recording.specs.Showing.{can_show}
use Rattle.dsa_recording.proofs.showing.visible_of.Given as goal

-- of the members so far it is right
abbrev pub invariant-loop-k : goal.invariant-loop-k
invariant-loop-k l = record {
  count : length l.visible.items ≡ l.k;
  each : (n : ℕ) → n < l.k → get_or l.visible.items n false ≡ can_show l.assumptions l.head (get_or l.members n (Unknown Operation)) (get_or l.entries n []);
}
