use Rattle.std.proofs.Common.{◌≡◌, ℕ, Option, Some, length, slice_get}
use Rattle.dsa_audit.specs.Repeats.{RepeatsLast}
use Rattle.dsa_audit.proofs.repeats.repeats_of.Given as goal

abbrev pub invariant-loop-k : goal.invariant-loop-k
invariant-loop-k l = record {
  each : (k : ℕ) (last : Option ℕ) → slice_get l.repeated.items k ≡ Some last → RepeatsLast l.actions l.members k last;
  count : length l.repeated.items ≡ l.k;
}
