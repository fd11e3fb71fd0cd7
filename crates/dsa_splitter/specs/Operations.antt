-- What differs by operation when a long operation is split: how its data addresses move up, in which order its pieces are
-- done, and which operations may be split at all. No other file of these definitions has a case for each operation.
use Rattle.std.specs.Prelude.{ℕ, ◌+◌, ◌^◌, ◌<◌, ◌≤◌, ◌≡◌, ⊤, true, Bool}
use Rattle.dsa_descriptor.specs.declared.op.Op.{Op}
use Rattle.dsa_descriptor.specs.declared.op.Op.TheVariants.{Move, Fill, Compare, ComparePattern, ApplyDelta, Dualcast}
use Rattle.dsa_descriptor.specs.Profile.{checks_result}
use Rattle.dsa_image.specs.Lines.{runs_down}

-- the operation with all its data addresses moved up
abbrev pub moved_up : ℕ → Op → Op
moved_up by (Move src dst) = Move (src + by) (dst + by)
moved_up by (Fill pattern dst) = Fill pattern (dst + by)
moved_up by (Compare src src2 expected) = Compare (src + by) (src2 + by) expected
moved_up by (ComparePattern src pattern expected) = ComparePattern (src + by) pattern expected
moved_up by (ApplyDelta delta dst record_size) = ApplyDelta (delta + by) (dst + by) record_size
moved_up by (Dualcast src dst dst2) = Dualcast (src + by) (dst + by) (dst2 + by)

-- each data address stays an address when it is moved up
abbrev pub CanMoveUp : ℕ → Op → Type 0
CanMoveUp by (Move src dst) = (src + by < 2 ^ 64) × (dst + by < 2 ^ 64)
CanMoveUp by (Fill pattern dst) = dst + by < 2 ^ 64
CanMoveUp by (Compare src src2 expected) = (src + by < 2 ^ 64) × (src2 + by < 2 ^ 64)
CanMoveUp by (ComparePattern src pattern expected) = src + by < 2 ^ 64
CanMoveUp by (ApplyDelta delta dst record_size) = (delta + by < 2 ^ 64) × (dst + by < 2 ^ 64)
CanMoveUp by (Dualcast src dst dst2) = (src + by < 2 ^ 64) × (dst + by < 2 ^ 64) × (dst2 + by < 2 ^ 64)

-- its pieces are done from the highest offset down
abbrev pub op_runs_down : Op → ℕ → Bool
op_runs_down (Move src dst) size = runs_down src dst size
op_runs_down (Fill _ _) size = Bool.false
op_runs_down (Compare _ _ _) size = Bool.false
op_runs_down (ComparePattern _ _ _) size = Bool.false
op_runs_down (ApplyDelta _ _ _) size = Bool.false
op_runs_down (Dualcast _ _ _) size = Bool.false

-- a delta is never split
abbrev pub IsSplittable : Op → ℕ → ℕ → Type 0
IsSplittable (ApplyDelta _ _ _) size greatest = size ≤ greatest
IsSplittable (Move _ _) size greatest = ⊤
IsSplittable (Fill _ _) size greatest = ⊤
IsSplittable (Compare _ _ _) size greatest = ⊤
IsSplittable (ComparePattern _ _ _) size greatest = ⊤
IsSplittable (Dualcast _ _ _) size greatest = ⊤

-- a compare that checks its result and expects a difference has to be a single piece: whether the regions differ is known
-- only from all pieces together (this project's choice)
abbrev pub ExpectedFits : Op → ℕ → ℕ → ℕ → Type 0
ExpectedFits (Move _ _) flags size greatest = ⊤
ExpectedFits (Fill _ _) flags size greatest = ⊤
ExpectedFits (Compare _ _ expected) flags size greatest = checks_result flags ≡ true → expected ≡ 1 → size ≤ greatest
ExpectedFits (ComparePattern _ _ expected) flags size greatest = checks_result flags ≡ true → expected ≡ 1 → size ≤ greatest
ExpectedFits (ApplyDelta _ _ _) flags size greatest = ⊤
ExpectedFits (Dualcast _ _ _) flags size greatest = ⊤
