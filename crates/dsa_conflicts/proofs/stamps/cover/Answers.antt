use Rattle.std.proofs.Common.{◌≡◌, ℕ, ◌<◌, length, refl, subst, arith}
use Rattle.std.specs.Prelude.{slice_index, slice_set}
use Rattle.dsa_conflicts.specs.Stamps.{Covered}
use Rattle.dsa_conflicts.proofs.Levels.{cover_more, set_covered}
use Rattle.dsa_conflicts.proofs.stamps.cover.Goals as goal

pub loop-place-preserved : goal.loop-place-preserved
loop-place-preserved c =
    let within : c.loop-place.place < length c.loop-place.stamps = omega arith in
    cover_more (slice_index c.args.stamps.now) (slice_index c.loop-place.stamps) (slice_index (slice_set c.loop-place.stamps c.loop-place.place c.args.stamp)) c.args.from c.loop-place.place c.args.stamp (omega arith) c.loop-place.invariant
    (set_covered c.loop-place.stamps c.loop-place.place c.args.stamp within)

pub loop-place-init : goal.loop-place-init
loop-place-init c = record { inside = λ p low high. absurd (omega (arith, low, high)); before = λ p lt. refl; after = λ p ge. refl }

pub bounds-stamps-place : goal.bounds-stamps-place
bounds-stamps-place c = omega arith

pub returns : goal.returns
returns c =
    let at_end : c.loop-place.place ≡ c.args.to = omega arith in
    subst (λ (n : ℕ). Covered (slice_index c.args.stamps.now) (slice_index c.loop-place.stamps) c.args.from n c.args.stamp) at_end c.loop-place.invariant
