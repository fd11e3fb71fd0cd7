use Rattle.std.proofs.Common.{◌+◌, sym, ◌∙◌, arith}
use Rattle.std.proofs.lemmas.Bool.{eqb-true}
use Rattle.dsa_descriptor.specs.Operands.{own_len}
use Rattle.dsa_descriptor.proofs.Zeros.{zero_end, zero_pair}
use Rattle.dsa_descriptor.proofs.reading.is_zero_by_words.Goals as goal

pub returns-then-u64_at-eq0 : goal.returns-then-u64_at-eq0
returns-then-u64_at-eq0 c = λ last. (
  omega (arith, c.if-u32_at-ne0.false, c.u32_at.ensures),
  zero_pair c.args.bytes.now (sym c.u16_at.ensures ∙ c.if-u16_at-ne0.false),
  zero_end c.args.bytes.now (40 + own_len c.args.op.now) c.told-bytes (λ i le lt. c.after_own.ensures c.if-after_own-ne0.false i le lt)
      (sym c.u64_at.ensures ∙ c.if-u64_at-eq0.true) (sym c.u64_at-then-u64_at-eq0.ensures ∙ eqb-true _ _ last),
)
