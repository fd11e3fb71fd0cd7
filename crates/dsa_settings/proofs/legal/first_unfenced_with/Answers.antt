use Rattle.std.proofs.Common.{ℕ, ◌≤◌, arith}
use Rattle.dsa_settings.specs.LegalFaults.{IsUnfenced}
use Rattle.dsa_settings.proofs.Unkept.{all_or_first, first_is_barrier, first_is_conflict}
use Rattle.dsa_settings.proofs.legal.first_unfenced_with.Given.{Over}
use Rattle.dsa_settings.proofs.legal.first_unfenced_with.Goals as goal
use Rattle.dsa_settings.proofs.legal.first_unfenced_with.Goals.{In_default-found, in_default-found-via-in-Some-found+else-second-piece, in_default-found-via-in_default-found}

pub returns-in_default : goal.returns-in_default
returns-in_default g c =
    all_or_first (g.P.Touching.conflict c.args.pieces.now) c.args.barriers.now c.args.groups.now
    c.first_unfenced-found.result c.in_default.ensures c.first_unfenced-found.ensures

pub returns-in-Some-found : goal.returns-in-Some-found
returns-in-Some-found g c =
    first_is_conflict (g.P.Touching.conflict c.args.pieces.now) c.args.barriers.now c.args.groups.now
    c.in-Some-found.first c.in-Some-found.second c.in-Some-found.ensures
    (λ x y h. omega (arith, c.if-second-piece.true, c.in-Some.ensures.least x y h))

later : (g : Over) (c : In_default-found g) (x y : ℕ) →
    IsUnfenced (g.P.Touching.conflict c.args.pieces.now) c.args.groups.now x y → c.in-Some.piece ≤ y
later g c x y h =
    elim c.in_default-found.branch [
      | in_default-found-via-in-Some-found+else-second-piece w ↦
          omega (arith, w.if-second-piece.false, w.in-Some-found.ensures.least x y h)
      | in_default-found-via-in_default-found w ↦ absurd (w.in_default-found.ensures x y h)
    ]

pub returns-in_default-found : goal.returns-in_default-found
returns-in_default-found g c =
    first_is_barrier (g.P.Touching.conflict c.args.pieces.now) c.args.barriers.now c.args.groups.now
    c.in-Some.piece c.in-Some.ensures (later g c)
