use Rattle.std.proofs.Common.{◌≡◌, ◌/◌, ◌^◌, sym, ap, ◌∙◌, arith}
use Rattle.dsa_descriptor.specs.Operands.{own_len}
use Rattle.dsa_descriptor.specs.Places.{u64_at}
use Rattle.dsa_descriptor.proofs.Zeros.{word_zero, word_above_one, word_above_four}
use Rattle.dsa_descriptor.proofs.reading.after_own.Goals as goal

pub returns-in-Move : goal.returns-in-Move
returns-in-Move c = λ e i le lt. word_zero 40 c.args.bytes.now (sym c.u64_at-word.ensures ∙ e) i (omega (arith, le)) lt

pub returns-in-Fill : goal.returns-in-Fill
returns-in-Fill c = λ e i le lt. word_zero 40 c.args.bytes.now (sym c.u64_at-word.ensures ∙ e) i (omega (arith, le)) lt

pub returns-in-Compare : goal.returns-in-Compare
returns-in-Compare c = λ e i le lt.
    let len : own_len c.args.op.now ≡ 1 = ap own_len c.in-Compare.is in
    let high : u64_at 40 c.args.bytes.now / 2 ^ 8 ≡ 0 = omega (arith, e, c.u64_at-word.ensures) in
    word_above_one 40 c.args.bytes.now high i (omega (arith, le, len)) lt

pub returns-in-ComparePattern : goal.returns-in-ComparePattern
returns-in-ComparePattern c = λ e i le lt.
    let len : own_len c.args.op.now ≡ 1 = ap own_len c.in-ComparePattern.is in
    let high : u64_at 40 c.args.bytes.now / 2 ^ 8 ≡ 0 = omega (arith, e, c.u64_at-word.ensures) in
    word_above_one 40 c.args.bytes.now high i (omega (arith, le, len)) lt

pub returns-in-ApplyDelta : goal.returns-in-ApplyDelta
returns-in-ApplyDelta c = λ e i le lt.
    let len : own_len c.args.op.now ≡ 4 = ap own_len c.in-ApplyDelta.is in
    let high : u64_at 40 c.args.bytes.now / 2 ^ 32 ≡ 0 = omega (arith, e, c.u64_at-word.ensures) in
    word_above_four 40 c.args.bytes.now high i (omega (arith, le, len)) lt
