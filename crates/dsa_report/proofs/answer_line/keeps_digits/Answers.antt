use Rattle.std.proofs.Common.{arith}
use Rattle.hex.specs.Hex.{IsBytes}
use Rattle.dsa_report.proofs.Digits.{digits_text}
use Rattle.dsa_report.proofs.answer_line.keeps_digits.Goals as goal

pub returns : goal.returns
returns c =
    let fits : IsBytes c.args.bytes.now = λ i. let f = c.type_inv.bytes i in omega arith in
    digits_text c.args.bytes.now fits
