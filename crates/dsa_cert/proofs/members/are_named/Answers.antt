use Rattle.std.proofs.Common.{arith, sym, true≢false}
use Rattle.dsa_cert.proofs.Names.{member_names-members_view, turn_apart, turn_same, turn_last}
use Rattle.dsa_cert.proofs.members.are_named.Goals as goal

pub loop-name-init : goal.loop-name-init
loop-name-init c = rw c.keys-keys.ensures.rest (member_names-members_view c.args.members.now.entries)

pub returns-then-ne : goal.returns-then-ne
returns-then-ne c = (λ h. absurd (true≢false (sym h)), λ whole. absurd (turn_apart _ c.args.names.now c.loop-name.name-index c.loop-name.keys c.loop-name.invariant _ _ _ c.as_str.result.now _ c.in-Some.ensures.steps c.as_str.ensures.value (omega arith) c.ne.ensures c.if-ne.true whole))

pub loop-name-preserved : goal.loop-name-preserved
loop-name-preserved c = turn_same _ c.args.names.now c.loop-name.name-index c.loop-name.keys c.loop-name.invariant _ _ _ c.as_str.result.now _ c.in-Some.ensures.steps c.as_str.ensures.value (omega arith) c.ne.ensures c.if-ne.false

pub returns : goal.returns
returns c = turn_last _ c.args.names.now c.loop-name.name-index c.loop-name.keys c.loop-name.invariant _ _ _ (omega arith) c.next-2.ensures.steps c.is_none.ensures
