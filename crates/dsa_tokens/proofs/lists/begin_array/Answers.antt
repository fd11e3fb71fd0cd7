use Rattle.std.proofs.Common.{sym, ◌∙◌, arith}
use Rattle.dsa_tokens.proofs.Grammar.{refuses_deep_array}
use Rattle.dsa_tokens.proofs.Begun.{is_array, no_array}
use Rattle.dsa_tokens.proofs.lists.begin_array.Goals as goal

pub returns-then-depth-eq0 : goal.returns-then-depth-eq0
returns-then-depth-eq0 c =
    rw c.in-BeginArray.is (refuses_deep_array c.args.depth c.args.reader.now (omega arith))

pub returns-in_ok-pass_other-in_default : goal.returns-in_ok-pass_other-in_default
returns-in_ok-pass_other-in_default c =
    let t = c.args.first in
    let passed = c.in_ok-pass_other-in_default.ensures in (
      passed.0,
      passed.1,
      no_array passed.0 (λ e. let eq = is_array t (sym passed.2 ∙ e) in c.in_default.not-BeginArray (cc)),
      omega (arith, passed.3),
    )
