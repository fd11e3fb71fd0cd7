use Rattle.std.proofs.Common.{refl, sym, ◌∙◌, arith}
use Rattle.serde_json.specs.Data.{boolean}
use Rattle.dsa_tokens.proofs.Grammar.{takes_boolean}
use Rattle.dsa_tokens.proofs.Begun.{no_truth, is_bool}
use Rattle.dsa_tokens.proofs.kinds.TruthKind.read.Goals as goal

pub returns-in-Bool : goal.returns-in-Bool
returns-in-Bool c =
    (boolean c.in-Bool.found, rw c.in-Bool.is (takes_boolean c.args.depth c.in-Bool.found c.args.reader.now), refl, omega arith)

pub returns-in_ok-pass_other-in_default : goal.returns-in_ok-pass_other-in_default
returns-in_ok-pass_other-in_default c =
    let t = c.args.first in
    let passed = c.in_ok-pass_other-in_default.ensures in (
      passed.0,
      passed.1,
      no_truth passed.0 (λ e. let same = is_bool t (sym passed.2 ∙ e) in let eq = same.1 in c.in_default.not-Bool same.0 (cc)),
      omega (arith, passed.3),
    )
