use Rattle.std.proofs.Common.{arith}
use Rattle.hex.specs.Hex.{IsBytes}
use Rattle.dsa_report.proofs.Digits.{string_added}
use Rattle.dsa_report.proofs.line.push_bytes.Goals as goal

pub returns : goal.returns
returns c =
    let fits : IsBytes c.args.bytes.now = λ i. let f = c.type_inv.bytes i in omega arith in
    string_added c.args.line.now.items c.push.new.self.items c.push_digits.new.line.items c.push-2.new.self.items c.args.bytes.now fits
    c.in_ok-push.ensures.items c.in_ok-push_digits.ensures c.in_ok-push-2.ensures.items
