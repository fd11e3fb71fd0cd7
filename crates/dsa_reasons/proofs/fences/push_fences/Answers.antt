use Rattle.std.proofs.Common.{◌≡◌, ◌<◌, ◌++◌, get_or, length, subst, true, false}
use Rattle.dsa_settings.specs.Plan.{Group}
use Rattle.dsa_reasons.specs.declared.fences.Fence.{Fence}
use Rattle.dsa_reasons.specs.Fences.{HasReasons, fence_places, fenced_in}
use Rattle.dsa_reasons.proofs.Fenced.{explained_pushed, fence_passed, fence_pushed, is_fenced}
use Rattle.dsa_reasons.proofs.fences.push_fences.Goals.{then-fenced+in_ok-fence_of+in_ok-push, else-fenced}
use Rattle.dsa_reasons.proofs.fences.push_fences.Goals as goal

pub loop-column-preserved : goal.loop-column-preserved
loop-column-preserved g c =
    let group = c.args.group.now in
    let i = c.loop-column.invariant in
    let same : c.fences-flags.result.now ≡ group = c.fences-flags.ensures in
    let within : c.loop-column.column < length group = subst (λ (h : Group). c.loop-column.column < length h) same c.loop-column-test.true in
    elim c.if-fenced.branch [
      | then-fenced+in_ok-fence_of+in_ok-push w ↦
          let fence : Fence = w.in_ok-fence_of.field-0 in
          let fenced : get_or group c.loop-column.column false ≡ true = subst (λ (h : Group). get_or h c.loop-column.column false ≡ true) same w.if-fenced.true in
          let reasons : HasReasons c.args.detail g.P.Touching.reads g.P.Touching.writes c.args.pieces.now c.args.start group fence = subst (λ (h : Group). HasReasons c.args.detail g.P.Touching.reads g.P.Touching.writes c.args.pieces.now c.args.start h fence) same w.in_ok-fence_of.ensures.reasons in
          rw (w.fences-is, w.in_ok-push.ensures.items) (record {
            places = fence_pushed c.loop-column.fences.items fence c.args.start c.loop-column.column group (fence_places c.args.fences.now.items ++ fenced_in c.args.start group) w.in_ok-fence_of.ensures.piece within fenced i.places;
            explained = explained_pushed c.args.detail g.P.Touching.reads g.P.Touching.writes c.args.pieces.now c.args.barriers.now c.args.start group c.args.fences.now.items c.loop-column.fences.items fence
                (rw w.in_ok-fence_of.ensures.piece (is_fenced c.args.start c.loop-column.column group within fenced)) reasons (rw w.in_ok-fence_of.ensures.piece w.in_ok-fence_of.ensures.barrier) i.explained;
          })
      | else-fenced w ↦
          let unfenced : get_or group c.loop-column.column false ≡ false = subst (λ (h : Group). get_or h c.loop-column.column false ≡ false) same w.if-fenced.false in
          rw w.fences-is (record {
            places = fence_passed (fence_places c.loop-column.fences.items) c.args.start c.loop-column.column group (fence_places c.args.fences.now.items ++ fenced_in c.args.start group) within unfenced i.places;
            explained = i.explained;
          })
    ]
