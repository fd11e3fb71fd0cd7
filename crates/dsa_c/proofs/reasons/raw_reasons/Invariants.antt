use Rattle.std.proofs.Common.{◌≡◌, ◌≤◌, ◌++◌, drop}
use Rattle.dsa_c.specs.Reasons.{raw_reasons}
use Rattle.dsa_c.proofs.reasons.raw_reasons.Given as goal

-- the reasons so far and those of the other fences are all, and no more groups have begun than fences were looked at
abbrev pub invariant-loop-fence : goal.invariant-loop-fence
invariant-loop-fence l = record {
  so_far : l.reasons.items ++ raw_reasons l.pieces l.marks l.group (drop l.fence-index l.fences) ≡ raw_reasons l.pieces l.marks 0 l.fences;
  few : l.group ≤ l.fence-index;
}
