use Rattle.std.proofs.Common.{◌≡◌, ◌+◌, ◌++◌, List, map, refl, sym, subst}
use Rattle.std.specs.Prelude.{All, Some, length, slice_get}
use Rattle.std.specs.List.{Contains}
use Rattle.std.proofs.lemmas.Option.{slice_get_read}
use Rattle.dsa_conflicts.specs.declared.touches.Touch.{Touch}
use Rattle.dsa_conflicts.specs.Touches.{HasKind, IsTouchOf, access_of, spans_of, touch}
use Rattle.dsa_conflicts.proofs.Touching.{has_more, kept_more, known_more}
use Rattle.dsa_conflicts.proofs.touches.push_kind.Goals as goal

pub loop-piece-preserved : goal.loop-piece-preserved
loop-piece-preserved g c =
    let reads = g.T.Touching.reads in
    let writes = g.T.Touching.writes in
    let ps = c.args.pieces.now in
    let kind = c.args.kind in
    let i = c.loop-piece.piece in
    let p = c.index-pieces-piece.result in
    let at : slice_get ps i ≡ Some p = slice_get_read ps (length ps) i p refl c.loop-piece-test.true c.index-pieces-piece.is in
    let old = c.loop-piece.touches.items in
    let is : c.push_spans.new.touches.items ≡ old ++ map (touch i (access_of kind)) (spans_of kind (reads p) (writes p)) = c.in_ok-push_spans.ensures in
    record {
      known = subst (λ (xs : List Touch). All (IsTouchOf reads writes ps) xs) (sym is) (known_more reads writes ps kind i p at old c.loop-piece.invariant.known);
      kept = λ t h. subst (λ (xs : List Touch). Contains xs t) (sym is) (kept_more reads writes ps kind i p at old t (c.loop-piece.invariant.kept t h));
      all = subst (λ (xs : List Touch). HasKind reads writes kind xs ps (i + 1)) (sym is) (has_more reads writes ps kind i p at old c.loop-piece.invariant.all);
    }
