use Rattle.std.proofs.Common.{◌≡◌, ◌*◌, length, arith}
use Rattle.std.proofs.lemmas.Grind.{common_steps}
use Rattle.dsa_resume.specs.Shared.{IsFirstShared, NoneShare}
use Rattle.dsa_resume.proofs.Resumed.{answer_idle, answer_left, answer_records, answer_shared}
use Rattle.dsa_resume.proofs.resuming.resume_pieces.Goals as goal

pub returns-then-records-pieces : goal.returns-then-records-pieces
returns-then-records-pieces g c = answer_records g.P.Touching.writes _ _ (grind (arith, common_steps, c.if-records-pieces.true))

pub returns-in-Ok-Some : goal.returns-in-Ok-Some
returns-in-Ok-Some g c =
    let shared : IsFirstShared g.P.Touching.writes c.args.pieces.now c.in-Ok-Some.i c.in-Ok-Some.j = rw c.in-Ok-Some.field-0-is at c.in-Ok-Some.ensures in
    answer_shared g.P.Touching.writes _ _ c.in-Ok-Some.i c.in-Ok-Some.j (grind (arith, common_steps, c.if-records-pieces.false)) shared

pub returns-in-Some : goal.returns-in-Some
returns-in-Some g c =
    let count : length c.args.records.now ≡ 32 * length c.args.pieces.now = grind (arith, common_steps, c.if-records-pieces.false) in
    let none : NoneShare g.P.Touching.writes c.args.pieces.now = rw c.in-Ok-None.field-0-is at c.in-Ok-None.ensures in
    answer_idle g.P.Touching.writes _ _ (record { count = count; own = none }) c.as_chunks.result.0.now c.as_chunks.ensures.front c.in-Some.i c.in-Some.ensures

pub returns : goal.returns
returns g c =
    let count : length c.args.records.now ≡ 32 * length c.args.pieces.now = grind (arith, common_steps, c.if-records-pieces.false) in
    let none : NoneShare g.P.Touching.writes c.args.pieces.now = rw c.in-Ok-None.field-0-is at c.in-Ok-None.ensures in
    answer_left g.P.Touching.writes _ _ (record { count = count; own = none }) c.as_chunks.result.0.now c.as_chunks.ensures.front c.in_default.ensures c.left_over.result c.left_over.ensures
