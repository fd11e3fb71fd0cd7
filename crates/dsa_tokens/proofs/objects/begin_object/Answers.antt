use Rattle.std.proofs.Common.{sym, ◌∙◌, arith}
use Rattle.dsa_tokens.proofs.Grammar.{refuses_deep_object}
use Rattle.dsa_tokens.proofs.Begun.{is_object, no_object}
use Rattle.dsa_tokens.proofs.objects.begin_object.Goals as goal

pub returns-then-depth-eq0 : goal.returns-then-depth-eq0
returns-then-depth-eq0 c =
    rw c.in-BeginObject.is (refuses_deep_object c.args.depth c.args.reader.now (omega arith))

pub returns-in_ok-pass_other-in_default : goal.returns-in_ok-pass_other-in_default
returns-in_ok-pass_other-in_default c =
    let t = c.args.first in
    let passed = c.in_ok-pass_other-in_default.ensures in (
      passed.0,
      passed.1,
      no_object passed.0 (λ e. let eq = is_object t (sym passed.2 ∙ e) in c.in_default.not-BeginObject (cc)),
      omega (arith, passed.3),
    )
