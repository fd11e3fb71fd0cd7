use Rattle.std.proofs.Common.{inl, inr, refl}
use Rattle.dsa_c.specs.Raw.{limits_of}
use Rattle.dsa_c.proofs.tracking.pieces_for.Goals as goal

pub returns-in-Ok-Some : goal.returns-in-Ok-Some
returns-in-Ok-Some c =
    let kept = c.in-Ok-Some.ensures (limits_of c.args.settings.now c.args.table.now) refl refl in
    let found = rw c.in-Ok-Some.field-0-is at kept in
    (c.are_settings.ensures c.if-not-are_settings.false, found)

pub returns-in-Err : goal.returns-in-Err
returns-in-Err c = (
  c.refusal.ensures.some,
  inr (inl (c.refusal.ensures.value, c.are_settings.ensures c.if-not-are_settings.false)),
)
