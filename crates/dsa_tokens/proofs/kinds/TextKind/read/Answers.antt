use Rattle.std.proofs.Common.{refl, sym, ◌∙◌, arith}
use Rattle.serde_json.specs.Data.{string}
use Rattle.dsa_tokens.proofs.Grammar.{takes_string}
use Rattle.dsa_tokens.proofs.Begun.{no_text, is_string}
use Rattle.dsa_tokens.proofs.kinds.TextKind.read.Goals as goal

pub returns-in-String : goal.returns-in-String
returns-in-String c =
    (string c.in-String.found.now, rw c.in-String.is (takes_string c.args.depth c.in-String.found.now c.args.reader.now), refl, omega arith)

pub returns-in_ok-pass_other-in_default : goal.returns-in_ok-pass_other-in_default
returns-in_ok-pass_other-in_default c =
    let t = c.args.first in
    let passed = c.in_ok-pass_other-in_default.ensures in (
      passed.0,
      passed.1,
      no_text passed.0 (λ e. let same = is_string t (sym passed.2 ∙ e) in let eq = same.1 in c.in_default.not-String same.0 (cc)),
      omega (arith, passed.3),
    )
