use Rattle.std.proofs.Common.{◌↔◌, ◌⊎◌, List, drop, ◌∙◌, subst, arith}
use Rattle.dsa_descriptor.specs.Spans.{InSome}
use Rattle.dsa_descriptor.specs.declared.span.Span.{Span}
use Rattle.dsa_tracker.specs.Kept.{kept}
use Rattle.dsa_tracker.proofs.Pieces.{all_pieces, more_pieces}
use Rattle.dsa_tracker.proofs.keeping.append_targets.Goals as goal

pub loop-piece-preserved : goal.loop-piece-preserved
loop-piece-preserved g c =
    record {
      spans = λ a. more_pieces (λ p. drop 1 (g.P.Touching.writes p)) c.args.pieces.now c.loop-piece.piece-index c.piece-item.result a (InSome (kept c.args.store.now) a) (InSome (kept c.loop-piece.store) a) (InSome (kept c.append.new.store) a)
          c.loop-piece-test.true c.piece-item.is (c.loop-piece.invariant.spans a)
          (subst (λ (xs : List Span). InSome (kept c.append.new.store) a ↔ (InSome (kept c.loop-piece.store) a ⊎ InSome xs a)) (c.as_slice.ensures.value ∙ c.targets-targets.ensures.value) (c.append.ensures.spans a));
      count = omega (arith, c.loop-piece.invariant.count, c.append.ensures.count, c.as_slice.ensures.fits);
    }

pub returns-clause-spans : goal.returns-clause-spans
returns-clause-spans g c = λ a. all_pieces (λ p. drop 1 (g.P.Touching.writes p)) c.args.pieces.now c.loop-piece.piece-index a (InSome (kept c.args.store.now) a) (InSome (kept c.loop-piece.store) a) c.loop-piece-test.false (c.loop-piece.invariant.spans a)
