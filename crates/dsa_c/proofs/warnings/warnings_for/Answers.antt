use Rattle.std.proofs.Common.{◌≡◌, ◌<◌, length, arith}
use Rattle.std.proofs.lemmas.Grind.{common_steps}
use Rattle.dsa_c.specs.Raw.{limits_of}
use Rattle.dsa_c.specs.Warnings.{AreRawWarningsOf}
use Rattle.dsa_c.proofs.WhyPlanned.{all_pieces, few_pieces, refuses_room, said_of_plan}
use Rattle.dsa_c.proofs.warnings.warnings_for.Goals as goal

pub warnings_in-requires-clause-all : goal.warnings_in-requires-clause-all
warnings_in-requires-clause-all c = all_pieces c.args.list.now (limits_of c.args.settings.now c.args.table.now) c.in-Ok.planned.operations.items c.in-Ok.planned.barriers.items c.in-Ok.planned.plan c.in-Ok.ensures.1

pub warnings_in-requires-clause-few : goal.warnings_in-requires-clause-few
warnings_in-requires-clause-few c = few_pieces c.args.list.now (limits_of c.args.settings.now c.args.table.now) c.in-Ok.planned.operations.items c.in-Ok.planned.barriers.items c.in-Ok.planned.plan c.in-Ok.ensures.1

pub returns-then-len-room : goal.returns-then-len-room
returns-then-len-room c =
    let items = c.in-Ok-warnings_in.warnings.items in
    let said = said_of_plan AreRawWarningsOf c.args.settings.now c.args.table.now c.args.list.now c.in-Ok.planned.operations.items c.in-Ok.planned.barriers.items c.in-Ok.planned.plan items c.in-Ok.ensures.0 c.in-Ok.ensures.1 c.in-Ok-warnings_in.ensures in
    let count : c.len-then-len-room.result ≡ length items = grind (arith, common_steps, c.len-then-len-room.ensures) in
    let short : c.args.room < length items = grind (arith, common_steps, c.if-len-room.true, c.len.ensures) in (
      rw c.refusal_at.ensures (omega arith),
      refuses_room AreRawWarningsOf 95 c.args.settings.now c.args.table.now c.args.list.now c.args.room items c.refusal_at.result c.len-then-len-room.result said short c.refusal_at.ensures count,
    )

pub returns : goal.returns
returns c = (
  said_of_plan AreRawWarningsOf c.args.settings.now c.args.table.now c.args.list.now c.in-Ok.planned.operations.items c.in-Ok.planned.barriers.items c.in-Ok.planned.plan c.in-Ok-warnings_in.warnings.items c.in-Ok.ensures.0 c.in-Ok.ensures.1 c.in-Ok-warnings_in.ensures,
  grind (arith, common_steps, c.if-len-room.false, c.len.ensures),
)
