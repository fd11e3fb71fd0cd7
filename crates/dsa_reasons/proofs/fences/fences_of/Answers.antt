use Rattle.std.proofs.Common.{◌≡◌, Some, ap, sym, ◌∙◌, slice_get, arith}
use Rattle.std.proofs.lemmas.Option.{slice_get-get_or}
use Rattle.dsa_settings.proofs.Plans.{start_of-next}
use Rattle.dsa_reasons.specs.Fences.{fence_places, fenced_pieces}
use Rattle.dsa_reasons.proofs.Fenced.{group_pushed}
use Rattle.dsa_reasons.proofs.fences.fences_of.Goals as goal

pub loop-group-preserved : goal.loop-group-preserved
loop-group-preserved g c =
    let plan = c.groups-group-items.result.now in
    let i = c.loop-group.invariant in
    let here : slice_get plan c.loop-group.group-index ≡ Some c.group-item.result =
    slice_get-get_or plan c.loop-group.group-index c.group-item.result c.loop-group-test.true ∙ ap Some (sym c.group-item.is) in
    record {
      start = omega (arith, i.start, c.len-start.ensures, start_of-next plan c.loop-group.group-index c.group-item.result here);
      places = rw c.len-start.ensures
          (group_pushed (fence_places c.loop-group.fences.items) (fence_places c.push_fences.new.fences.items) c.loop-group.start c.loop-group.group-index c.group-item.result plan
          (fenced_pieces 0 plan) c.loop-group-test.true c.group-item.is c.in_ok-push_fences.ensures.places i.places);
      explained = c.in_ok-push_fences.ensures.explained plan c.loop-group.group-index here i.start i.explained;
    }
