use Rattle.std.proofs.Common.{◌-◌, ◌^◌, ◌<◌, inl, inr, arith}
use Rattle.std.specs.Int.{bit_at}
use Rattle.std.proofs.lemmas.Bool.{cases_lt}
use Rattle.dsa_tracker.proofs.Bits.{all_set, lowest, not_set}
use Rattle.dsa_tracker.proofs.slots.Slots.first_without.Goals as goal

pub returns-then-self-eq18446744073709551615 : goal.returns-then-self-eq18446744073709551615
returns-then-self-eq18446744073709551615 c = λ s low. all_set c.args.self.0 s c.if-self-eq18446744073709551615.true low

pub returns : goal.returns
returns c =
    let apart = c.if-self-eq18446744073709551615.false in
    let small : c.args.self.0 < 2 ^ 64 = omega arith in
    let found = lowest (18446744073709551615 - c.args.self.0) (omega (arith, apart, small)) (omega arith) in (
      found.0,
      (not_set c.args.self.0 _ small found.0).0 found.1,
      λ k below. elim (cases_lt 0 (bit_at c.args.self.0 k)) [
        | inl set ↦ set
        | inr none ↦ absurd (found.2 k below ((not_set c.args.self.0 k small (let low = found.0 in omega (arith, below, low))).1 (λ set. omega (arith, none, set))))
      ],
    )
