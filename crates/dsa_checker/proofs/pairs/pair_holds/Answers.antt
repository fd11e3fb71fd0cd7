use Rattle.std.proofs.Common.{◌≡◌, ◌<◌, ◌≤◌, ◌⊎◌, inl, inr, length, None, Some, ap, ◌∙◌, slice_get, arith}
use Rattle.std.proofs.lemmas.Grind.{elements}
use Rattle.std.proofs.lemmas.Option.{slice_get-get_or}
use Rattle.dsa_settings.specs.Barriers.{WithBarriers}
use Rattle.dsa_checker.proofs.Holding.{holds_if, conflict_if, no_pair}
use Rattle.dsa_checker.proofs.pairs.pair_holds.Goals as goal
use Rattle.dsa_checker.proofs.pairs.pair_holds.Goals.{then-first-i-via-then-first-i, then-first-i-via-else-first-i+then-second-first, then-first-i-via-else-first-i+else-second-first+then-pieces-second}

pub returns-then-first-i : goal.returns-then-first-i
returns-then-first-i g c =
    let C = WithBarriers (g.P.Touching.conflict c.args.pieces.now) c.args.barriers.now in
    let n = length c.args.pieces.now in
    let pairs = c.args.pairs.now in
    let i = c.args.i in
    let first = c.in-Some.first in
    let second = c.in-Some.second in
    let is : slice_get pairs i ≡ Some (Some (first, second)) =
    slice_get-get_or pairs i None c.requires.inside ∙ ap Some c.in-Some.is in
    let outside : (first < i) ⊎ (second ≤ first) ⊎ (n ≤ second) =
    elim c.then-first-i.branch [
      | then-first-i-via-then-first-i w ↦ inl w.if-first-i.true
      | then-first-i-via-else-first-i+then-second-first w ↦ inr (inl w.if-second-first.true)
      | then-first-i-via-else-first-i+else-second-first+then-pieces-second w ↦ inr (inr w.if-pieces-second.true)
    ] in (
      λ e. absurd cc,
      λ h. absurd (no_pair C n pairs i first second is outside h),
    )

pub returns : goal.returns
returns g c =
    let C = WithBarriers (g.P.Touching.conflict c.args.pieces.now) c.args.barriers.now in
    let n = length c.args.pieces.now in
    let pairs = c.args.pairs.now in
    let i = c.args.i in
    let first = c.in-Some.first in
    let second = c.in-Some.second in
    let is : slice_get pairs i ≡ Some (Some (first, second)) =
    slice_get-get_or pairs i None c.requires.inside ∙ ap Some c.in-Some.is in (
      λ yes. holds_if C n pairs i first second is c.if-first-i.false c.if-second-first.false c.if-pieces-second.false
          (c.conflict_or_barrier.ensures.0 yes),
      λ h. c.conflict_or_barrier.ensures.1 (conflict_if C n pairs i first second is h),
    )

pub returns-in_default : goal.returns-in_default
returns-in_default g c = grind (arith, elements)
