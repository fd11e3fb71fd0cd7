use Rattle.std.proofs.Common.{◌≡◌, ◌+◌, ◌++◌, map, length, take}
use Rattle.dsa_settings.specs.Sweeps.{access}
use Rattle.dsa_settings.proofs.sweep.push_all.Given as goal

-- the spans so far are appended
abbrev pub invariant-loop-span : goal.invariant-loop-span
invariant-loop-span l = record {
  items : l.accesses.items ≡ l.initial.accesses.items ++ map (λ span. access span l.owner l.written) (take l.span-index l.spans);
  len : length l.accesses.items ≡ length l.initial.accesses.items + l.span-index;
}
