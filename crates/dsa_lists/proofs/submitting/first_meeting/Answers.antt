use Rattle.std.proofs.Common.{◌≡◌, true, false, sym, ◌∙◌}
use Rattle.dsa_lists.specs.Submissions.{TouchesArea}
use Rattle.dsa_lists.proofs.First.{all_none, first_here, none_here}
use Rattle.dsa_lists.proofs.submitting.first_meeting.Goals as goal

pub returns-then-touches_area : goal.returns-then-touches_area
returns-then-touches_area c =
    first_here (TouchesArea c.args.area) c.args.operations.now c.loop-index.index c.index-operations-index.result c.loop-index-test.true c.index-operations-index.is c.loop-index.invariant
    (c.touches_area.ensures.0 c.if-touches_area.true)

pub loop-index-preserved : goal.loop-index-preserved
loop-index-preserved c =
    none_here (TouchesArea c.args.area) c.args.operations.now c.loop-index.index c.index-operations-index.result c.loop-index-test.true c.index-operations-index.is c.loop-index.invariant
    (λ meets. let no : false ≡ true = sym c.if-touches_area.false ∙ c.touches_area.ensures.1 meets in absurd cc)

pub returns : goal.returns
returns c = all_none (TouchesArea c.args.area) c.args.operations.now c.loop-index.index c.loop-index-test.false c.loop-index.invariant
