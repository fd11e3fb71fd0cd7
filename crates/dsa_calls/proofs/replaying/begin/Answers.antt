use Rattle.std.proofs.Common.{Err, inl, inr, refl, ap, arith}
use Rattle.dsa_calls.proofs.Beginnings.{none_outside}
use Rattle.dsa_calls.proofs.replaying.begin.Goals as goal

pub unreachable-requires : goal.unreachable-requires
unreachable-requires c =
    let held = none_outside c.args.image.now c.args.pieces.now (λ i first. let e = c.in-Err-ImageSize.ensures.fault i in let same = e.1 first in let kind = c.in-Err-ImageSize.field-0-is in cc) in
    let ok = c.in-Err-ImageSize.ensures.ok.1 held in cc

pub returns-in-Some : goal.returns-in-Some
returns-in-Some c = (
  refl,
  record {
    are_engines = record { some = c.if-engines-lt1.false; few = c.if-engines-gt64.false };
    holds = c.in-Ok.ensures.ok.0 refl;
    few_events = omega (arith, c.in-Some.ensures.0, c.in-Some.ensures.1);
  },
)

pub returns-in-None : goal.returns-in-None
returns-in-None c = inr (inr (refl, record { some = c.if-engines-lt1.false; few = c.if-engines-gt64.false }, c.in-Ok.ensures.ok.0 refl, c.in-None.ensures))

pub returns-in-Err-OutOfImage : goal.returns-in-Err-OutOfImage
returns-in-Err-OutOfImage c =
    inr (inl (c.in-Err-OutOfImage.piece, refl, record { some = c.if-engines-lt1.false; few = c.if-engines-gt64.false }, (c.in-Err-OutOfImage.ensures.fault c.in-Err-OutOfImage.piece).0 (ap Err c.in-Err-OutOfImage.field-0-is)))
