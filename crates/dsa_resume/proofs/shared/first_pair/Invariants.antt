use Rattle.std.proofs.Common.{◌≡◌, ℕ, ◌<◌, Option, Some, None, slice_get}
use Rattle.dsa_resume.proofs.shared.first_pair.Given as goal

abbrev pub invariant-loop-j : goal.invariant-loop-j
invariant-loop-j l = (y : ℕ) (last : Option ℕ) → y < l.j → slice_get l.lasts y ≡ Some last → last ≡ None
