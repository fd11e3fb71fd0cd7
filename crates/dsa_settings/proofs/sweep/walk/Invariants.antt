use Rattle.std.proofs.Common.{ℕ, ◌<◌, get_or}
use Rattle.dsa_settings.specs.declared.sweep.Access.{Access}
use Rattle.dsa_settings.specs.Sweeps.{Clash, IsOrdered, HasSeen}
use Rattle.dsa_settings.proofs.sweep.walk.Given as goal

-- the accesses so far are seen, and no two of them clash
abbrev pub invariant-loop-access : goal.invariant-loop-access
invariant-loop-access l = record {
  ordered : IsOrdered l.seen;
  seen : (i : ℕ) (d : Access) → i < l.access-index → HasSeen l.seen (get_or l.accesses i d);
  clear : (i j : ℕ) (d : Access) → i < j → j < l.access-index → ¬ Clash (get_or l.accesses i d) (get_or l.accesses j d);
}
