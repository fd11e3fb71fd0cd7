-- What is worth a warning about a piece by itself (this project's choice).
use Rattle.std.specs.Prelude.{ℕ, ◌-◌, ◌&&◌, nat_lt, Bool, false, Option, Some, None, if◌then◌else◌}
use Rattle.dsa_descriptor.specs.declared.op.Op.{Op}
use Rattle.dsa_descriptor.specs.declared.op.Op.TheVariants.{Move, Fill, Compare, ComparePattern, ApplyDelta, Dualcast}
use Rattle.dsa_descriptor.specs.Profile.{checks_result}
use Rattle.dsa_warnings.specs.declared.concerns.Concern.{Concern}
use Rattle.dsa_warnings.specs.declared.concerns.Concern.TheVariants.{Overlap, Unchecked, Unguarded}

-- why the result of a compare does not stop all that comes after it: it has no check and a barrier is after it, or it
-- has one and the next piece, in the same epoch, does not wait for it
abbrev pub compare_concern : Bool → Bool → Bool → Option Concern
compare_concern checked before_barrier goes_on =
    if checked then (if goes_on then Some Unguarded else None) else (if before_barrier then Some Unchecked else None)

-- the same of an operation with these flags, if it is a compare
abbrev pub check_concern : Op → ℕ → Bool → Bool → Option Concern
check_concern (Move src dst) flags before_barrier goes_on = None
check_concern (Fill pattern dst) flags before_barrier goes_on = None
check_concern (Compare src src2 expected) flags before_barrier goes_on = compare_concern (checks_result flags) before_barrier goes_on
check_concern (ComparePattern src pattern expected) flags before_barrier goes_on = compare_concern (checks_result flags) before_barrier goes_on
check_concern (ApplyDelta delta dst record_size) flags before_barrier goes_on = None
check_concern (Dualcast src dst dst2) flags before_barrier goes_on = None

-- the source and the destination of a move of so many bytes overlap, so only devices with overlapping copy support
-- take it (specification 341204, GENCAP)
abbrev pub overlaps : Op → ℕ → Bool
overlaps (Move src dst) len = nat_lt (src - dst) len && nat_lt (dst - src) len
overlaps (Fill pattern dst) len = false
overlaps (Compare src src2 expected) len = false
overlaps (ComparePattern src pattern expected) len = false
overlaps (ApplyDelta delta dst record_size) len = false
overlaps (Dualcast src dst dst2) len = false

-- that a piece does so
abbrev pub overlap_concern : Op → ℕ → Option Concern
overlap_concern op size = if overlaps op size then Some Overlap else None
