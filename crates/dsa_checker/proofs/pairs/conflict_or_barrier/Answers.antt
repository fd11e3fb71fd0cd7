use Rattle.std.proofs.Common.{refl, sym, ◌∙◌, arith}
use Rattle.std.proofs.lemmas.Bool.{true≢false}
use Rattle.dsa_checker.proofs.Holding.{parted_if_conflict, parted_if_barrier, barrier_if}
use Rattle.dsa_checker.proofs.pairs.conflict_or_barrier.Goals as goal

pub returns-then-conflict_at : goal.returns-then-conflict_at
returns-then-conflict_at g c = (
  λ yes. parted_if_conflict (g.P.Touching.conflict c.args.pieces.now) c.args.barriers.now c.args.first c.args.second
      c.requires.order (c.conflict_at.ensures.0 c.if-conflict_at.true),
  λ h. refl,
)

pub returns-then-second-first-gt1 : goal.returns-then-second-first-gt1
returns-then-second-first-gt1 g c =
    let only = barrier_if (g.P.Touching.conflict c.args.pieces.now) c.args.barriers.now c.args.first c.args.second
    c.requires.order (λ x. true≢false (sym (c.conflict_at.ensures.1 x) ∙ c.if-conflict_at.false)) in (
      λ e. absurd cc,
      λ h. absurd (omega (arith, c.if-second-first-gt1.true, (only h).0)),
    )

pub returns : goal.returns
returns g c =
    let only = barrier_if (g.P.Touching.conflict c.args.pieces.now) c.args.barriers.now c.args.first c.args.second
    c.requires.order (λ x. true≢false (sym (c.conflict_at.ensures.1 x) ∙ c.if-conflict_at.false)) in (
      λ yes. parted_if_barrier (g.P.Touching.conflict c.args.pieces.now) c.args.barriers.now c.args.first c.args.second
          c.requires.order (omega (arith, c.if-second-first-gt1.false, c.requires.order)) (c.is_barrier.ensures.0 yes),
      λ h. c.is_barrier.ensures.1 (only h).1,
    )
