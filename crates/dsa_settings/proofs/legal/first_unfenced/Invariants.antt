use Rattle.std.proofs.Common.{ℕ, ◌≡◌, ◌<◌, Some, slice_get}
use Rattle.dsa_settings.specs.Plan.{Group, start_of}
use Rattle.dsa_settings.specs.LegalFaults.{IsFencedWithin}
use Rattle.dsa_settings.proofs.legal.first_unfenced.Given as goal

-- the piece that the next group begins with, and no pair in the groups so far
abbrev pub invariant-loop-group : goal.invariant-loop-group
invariant-loop-group g l = record {
  begins : l.start ≡ start_of l.groups l.group-index;
  fenced : (number : ℕ) (group : Group) → number < l.group-index → slice_get l.groups number ≡ Some group →
      IsFencedWithin (g.P.Touching.conflict l.pieces) (start_of l.groups number) group;
}
