use Rattle.std.proofs.Common.{◌∷◌}
use Rattle.json.specs.Reads.{token_of}
use Rattle.dsa_tokens.proofs.Read.{array_answers}
use Rattle.dsa_report.specs.Trace.{ReadsEvent, ReadsThree}
use Rattle.dsa_report.proofs.trace.EventItemsKind.read.Goals as goal

pub returns : goal.returns
returns c =
    let begun = rw c.if-not-branch.false at c.in_ok-begin_array.ensures in
    array_answers ReadsThree ReadsEvent c.args.depth (token_of c.args.first ∷ c.args.reader.now) c.begin_array.new.reader c.three_of.new.reader c.three_of.result begun.0 begun.1 (λ ds found said. said) c.three_of.ensures
