use Rattle.std.proofs.lemmas.Result.{IfOk-weaker}
use Rattle.dsa_lists.proofs.ReadLists.{entire_again, entire_is_planned, split_again, split_is_planned}
use Rattle.dsa_lists.proofs.read_list.plan_read_list.Goals as goal

pub returns-in-Some-clause-legal : goal.returns-in-Some-clause-legal
returns-in-Some-clause-legal c =
    let ds = c.in-Some.descriptors in
    IfOk-weaker c.plan_split.result _ _ (λ p h. h.legal) (split_is_planned c.args.settings.now ds.descriptors.items ds.barriers.items c.plan_split.result c.plan_split.ensures.answer)

pub returns-in-Some-clause-few : goal.returns-in-Some-clause-few
returns-in-Some-clause-few c =
    let ds = c.in-Some.descriptors in
    IfOk-weaker c.plan_split.result _ _ (λ p h. h.few) (split_is_planned c.args.settings.now ds.descriptors.items ds.barriers.items c.plan_split.result c.plan_split.ensures.answer)

pub returns-in-None-clause-legal : goal.returns-in-None-clause-legal
returns-in-None-clause-legal c =
    IfOk-weaker c.plan_entire.result _ _ (λ p h. h.legal) (entire_is_planned c.args.settings.now c.args.list.now.entries.items c.args.list.now.barriers.items c.plan_entire.result c.plan_entire.ensures.answer)

pub returns-in-Some-clause-again : goal.returns-in-Some-clause-again
returns-in-Some-clause-again c =
    let ds = c.in-Some.descriptors in
    split_again c.args.settings.now ds.descriptors.items ds.barriers.items ds.one_owner c.plan_split.result c.plan_split.ensures.answer c.plan_split.ensures.marked

pub returns-in-None-clause-again : goal.returns-in-None-clause-again
returns-in-None-clause-again c =
    let list = c.args.list.now in
    entire_again c.args.settings.now list.entries.items list.barriers.items list.one_owner c.plan_entire.result c.plan_entire.ensures.answer c.plan_entire.ensures.marked
