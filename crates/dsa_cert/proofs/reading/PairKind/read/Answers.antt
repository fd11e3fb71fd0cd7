use Rattle.std.proofs.Common.{refl, arith}
use Rattle.std.proofs.lemmas.Result.{err_from_is_err_and}
use Rattle.serde_json.specs.Data.{null, array}
use Rattle.dsa_tokens.proofs.Grammar.{refuses_deep_array, takes_array, takes_null}
use Rattle.dsa_tokens.proofs.Read.{array_refused}
use Rattle.dsa_cert.proofs.Documents.{no_two}
use Rattle.dsa_cert.proofs.reading.PairKind.read.Goals as goal

pub returns-then-depth-eq0 : goal.returns-then-depth-eq0
returns-then-depth-eq0 c = rw c.in-BeginArray.is (refuses_deep_array c.args.depth c.args.reader.now (omega arith))

pub returns-in_err-pair-in-BeginArray : goal.returns-in_err-pair-in-BeginArray
returns-in_err-pair-in-BeginArray c =
    let e = err_from_is_err_and c.from_residual.result c.from_residual.ensures.1 in
    rw (e.1, e.2, c.in-BeginArray.is) (array_refused c.args.depth c.args.reader.now c.in_err-pair-in-BeginArray.field-0.0 (omega arith) c.in_err-pair-in-BeginArray.ensures)

pub returns-in-Null : goal.returns-in-Null
returns-in-Null c = (null, rw c.in-Null.is (takes_null c.args.depth c.args.reader.now), (refl, tt), omega arith)

pub returns-in-Some : goal.returns-in-Some
returns-in-Some c =
    let items = rw c.in-Some.is at c.in_ok-pair-in-BeginArray.ensures in
    (array items.0, rw c.in-BeginArray.is (takes_array c.args.depth c.args.reader.now items.0 c.two_numbers.new.reader (omega arith) items.1), items.2, omega (arith, items.3))

pub returns-in-None : goal.returns-in-None
returns-in-None c =
    let items = rw c.in-None.is at c.in_ok-pair-in-BeginArray.ensures in
    (array items.0, rw c.in-BeginArray.is (takes_array c.args.depth c.args.reader.now items.0 c.two_numbers.new.reader (omega arith) items.1), no_two items.0 items.2, omega (arith, items.3))
