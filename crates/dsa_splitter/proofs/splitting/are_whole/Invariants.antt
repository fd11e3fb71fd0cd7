use Rattle.std.proofs.Common.{◌≡◌, ◌<◌, ◌≤◌, ℕ}
use Rattle.std.specs.Prelude.{Some, slice_get}
use Rattle.dsa_descriptor.specs.declared.descriptor.Descriptor.{Descriptor}
use Rattle.dsa_splitter.proofs.splitting.are_whole.Given as goal

-- each operation so far is no longer than a piece may be
abbrev pub invariant-loop-d : goal.invariant-loop-d
invariant-loop-d l = (i : ℕ) (d : Descriptor) → i < l.d-index → slice_get l.list i ≡ Some d → d.size ≤ l.greatest
