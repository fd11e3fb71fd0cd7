use Rattle.std.proofs.Common.{sym, ◌∙◌, arith}
use Rattle.serde_json.specs.Data.{number}
use Rattle.serde_json.specs.Find.{as_u64}
use Rattle.serde_json.specs.Read.{number_of}
use Rattle.dsa_tokens.proofs.Grammar.{takes_number, refuses_number, number_read, number_missed}
use Rattle.dsa_tokens.proofs.Begun.{no_whole, is_number, whole_read}
use Rattle.dsa_tokens.proofs.kinds.WholeKind.read.Goals as goal

pub returns-in-Some : goal.returns-in-Some
returns-in-Some c =
    let s = c.in-Number.text.now in
    let found = number_read as_u64 (number_of s) c.in-Some.found c.in-Some.ensures in
    (number found.0, rw c.in-Number.is (takes_number c.args.depth s found.0 c.args.reader.now found.1), whole_read found.0 c.in-Some.found found.2, omega arith)

pub returns-in-None : goal.returns-in-None
returns-in-None c =
    let s = c.in-Number.text.now in
    rw c.in-Number.is (refuses_number c.args.depth s c.args.reader.now (number_missed as_u64 (number_of s) c.in-None.ensures))

pub returns-in_ok-pass_other-in_default : goal.returns-in_ok-pass_other-in_default
returns-in_ok-pass_other-in_default c =
    let t = c.args.first in
    let passed = c.in_ok-pass_other-in_default.ensures in (
      passed.0,
      passed.1,
      no_whole passed.0 (λ e. let same = is_number t (sym passed.2 ∙ e) in let eq = same.1 in c.in_default.not-Number same.0 (cc)),
      omega (arith, passed.3),
    )
