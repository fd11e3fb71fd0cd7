use Rattle.std.proofs.Common.{ℕ, ◌≡◌, ◌++◌, ◌<◌, List, length, subst, arith}
use Rattle.std.specs.Prelude.{OnOk}
use Rattle.dsa_emission.proofs.Places.{batch_cut}
use Rattle.dsa_emission.proofs.emission.stage_group.Goals as goal

pub returns-then-len-gt1 : goal.returns-then-len-gt1
returns-then-len-gt1 g c =
    let more : 1 < length c.args.group.now = omega (arith, c.len.ensures, c.if-len-gt1.true) in
    subst (λ (bytes : List ℕ). OnOk c.stage_batch.result (c.stage_batch.new.staging.items ≡ c.args.staging.now.items ++ bytes))
    (batch_cut _ g.E.Entry.spelling c.args.place c.args.group.now c.args.pieces.now more) c.stage_batch.ensures
