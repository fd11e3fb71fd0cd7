use Rattle.std.proofs.Common.{◌≡◌, false, true, arith}
use Rattle.dsa_tracker.proofs.Bits.{not_above}
use Rattle.dsa_tracker.proofs.slots.has_bit.Goals as goal

pub returns-then-place-ge64 : goal.returns-then-place-ge64
returns-then-place-ge64 c =
    (λ (h : false ≡ true). absurd cc, λ h. absurd (not_above c.args.word c.args.place (omega (arith, c.ranges.word)) (omega (arith, c.if-place-ge64.true)) h))
