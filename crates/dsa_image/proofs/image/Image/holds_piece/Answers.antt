use Rattle.std.proofs.Common.{◌≡◌, ◌∙◌}
use Rattle.dsa_image.proofs.Holdings.{pieces_held, pieces_read, pieces_written}
use Rattle.dsa_image.proofs.image.Image.holds_piece.Goals as goal

pub returns : goal.returns
returns g c =
    let rs : c.deref.result.now ≡ g.P.Touching.reads c.args.piece.now = c.deref.ensures.0 ∙ c.touched_spans-touched.ensures.reads in
    let ws : c.deref-2.result.now ≡ g.P.Touching.writes c.args.piece.now = c.deref-2.ensures.0 ∙ c.touched_spans-touched.ensures.writes in (
      λ t. pieces_held c.args.self.now _ _ c.deref.result.now c.deref-2.result.now rs ws (c.holds_spans.ensures.0 c.if-not-holds_spans.false) (c.holds_spans-2.ensures.0 t),
      λ held. c.holds_spans-2.ensures.1 (pieces_written c.args.self.now _ _ c.deref-2.result.now ws held),
    )

pub returns-then-not-holds_spans : goal.returns-then-not-holds_spans
returns-then-not-holds_spans g c =
    let rs : c.deref.result.now ≡ g.P.Touching.reads c.args.piece.now = c.deref.ensures.0 ∙ c.touched_spans-touched.ensures.reads in (
      λ t. absurd cc,
      λ held. let so = c.holds_spans.ensures.1 (pieces_read c.args.self.now _ (g.P.Touching.writes c.args.piece.now) c.deref.result.now rs held) in absurd cc,
    )
