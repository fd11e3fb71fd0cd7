use Rattle.std.proofs.Common.{inl, inr, refl, map, arith}
use Rattle.std.proofs.lemmas.Bool.{cases_lt, cases_eq, false≢true}
use Rattle.dsa_prepared.specs.Sound.{AreWithin}
use Rattle.dsa_prepared.specs.Rows.{region_in, entry_in}
use Rattle.dsa_prepared.proofs.RowChecks.{all_read, one_read}
use Rattle.dsa_prepared.proofs.reading.entries_lie.Goals as goal

pub returns-in-None : goal.returns-in-None
returns-in-None c = (
  λ yes. absurd (false≢true yes),
  λ all. absurd (c.in-None.ensures (one_read (AreWithin (map region_in c.args.regions.now)) entry_in c.args.entries.now c.loop-k.k all c.loop-k-test.true)),
)

pub loop-k-preserved : goal.loop-k-preserved
loop-k-preserved c = λ j lt.
    elim (cases_lt j c.loop-k.k) [
      | inl early ↦ c.loop-k.invariant j early
      | inr late ↦
          elim (cases_eq j c.loop-k.k) [
            | inl here ↦ rw here c.in-Some.ensures.1
            | inr past ↦ c.first_unbounded-k.ensures.lie j (omega (arith, late, past)) lt
          ]
    ]

pub returns : goal.returns
returns c = (λ yes. all_read (AreWithin (map region_in c.args.regions.now)) entry_in c.args.entries.now (λ k lt. c.loop-k.invariant k (omega (arith, lt, c.loop-k-test.false))), λ all. refl)
