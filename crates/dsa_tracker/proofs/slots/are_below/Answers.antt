use Rattle.std.proofs.Common.{refl, arith}
use Rattle.dsa_tracker.proofs.Bits.{all_below, none_from}
use Rattle.dsa_tracker.proofs.Noting.{all_low}
use Rattle.dsa_tracker.proofs.slots.are_below.Goals as goal

pub returns-then-slots-eq64 : goal.returns-then-slots-eq64
returns-then-slots-eq64 c = (λ yes s h. let low = all_low c.args.set (omega arith) s h in omega (arith, low, c.if-slots-eq64.true), λ below. refl)

pub returns : goal.returns
returns c = (
  λ yes s h. none_from c.args.set.0 c.args.slots (c.has_no_bit.ensures.0 yes) s h,
  λ below. c.has_no_bit.ensures.1 (all_below c.args.set.0 c.args.slots below),
)
