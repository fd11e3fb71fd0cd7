use Rattle.std.proofs.Common.{◌∷◌}
use Rattle.json.specs.Reads.{token_of}
use Rattle.dsa_tokens.proofs.Read.{array_answers}
use Rattle.dsa_report.specs.Fields.{SaysPlan}
use Rattle.dsa_report.specs.Groups.{ReadsGroups}
use Rattle.dsa_report.proofs.plan.PlanGroupsKind.read.Goals as goal

pub returns : goal.returns
returns c =
    let begun = rw c.if-not-branch.false at c.in_ok-begin_array.ensures in
    array_answers ReadsGroups SaysPlan c.args.depth (token_of c.args.first ∷ c.args.reader.now) c.begin_array.new.reader c.groups_of.new.reader c.groups_of.result begun.0 begun.1 (λ ds found said. said) c.groups_of.ensures
