use Rattle.std.proofs.Common.{ℕ, ◌≡◌, ◌+◌, ◌-◌, ◌<◌, ◌≤◌, Some, true, false, length, get_or}
use Rattle.std.proofs.Common.{refl, sym, ap, ◌∙◌, subst, arith}
use Rattle.std.proofs.lemmas.Option.{slice_get-get_or, slice_get_read}
use Rattle.arrayvec.specs.ArrayVec.{ArrayVec}
use Rattle.dsa_settings.specs.Plan.{Group}
use Rattle.dsa_settings.specs.Legal.{IsFenced}
use Rattle.dsa_settings.specs.declared.sweep.Access.{Access}
use Rattle.dsa_settings.specs.Sweeps.{HasNoClash}
use Rattle.dsa_settings.proofs.Judged.{not_fenced}
use Rattle.dsa_settings.proofs.Swept.{IsGathered, settled, past_unfenced, past_fence, gathered_more}
use Rattle.dsa_settings.proofs.sweep.is_seen_fenced.Goals as goal
use Rattle.dsa_settings.proofs.sweep.is_seen_fenced.Goals.{then-fences-at+else-not-is_clear, else-fences-at}

fenced_there : (start at : ℕ) (group fences : Group) → start ≤ at → at - start < length group → fences ≡ group →
    get_or fences (at - start) false ≡ true → IsFenced start group at
fenced_there start at group fences from within same read =
    (from, slice_get-get_or group (at - start) false within ∙ ap Some (ap (λ (z : Group). get_or z (at - start) false) (sym same) ∙ read))

unfenced_there : (start at : ℕ) (group fences : Group) → at - start < length group → fences ≡ group →
    get_or fences (at - start) false ≡ false → IsFenced start group at → ⊥
unfenced_there start at group fences within same read fenced =
    not_fenced group (at - start) within (ap (λ (z : Group). get_or z (at - start) false) (sym same) ∙ read) fenced.1

pub loop-at-preserved : goal.loop-at-preserved
loop-at-preserved g c =
    let reads = g.P.Touching.reads in
    let writes = g.P.Touching.writes in
    let ps = c.args.pieces.now in
    let C = g.P.Touching.conflict ps in
    let start = c.args.start in
    let group = c.args.group.now in
    let at = c.loop-at.at in
    let within : at - start < length group = omega (arith, c.loop-at-test.true, c.len.ensures, c.loop-at.auto.at) in
    let known : at < length ps = omega (arith, c.loop-at-test.true, c.len.ensures, c.requires.known) in
    gathered_more _ reads writes C ps start group
    c.if-fences-at.accesses.items c.push_piece.new.accesses.items at c.index-pieces-at.result
    (slice_get_read ps _ at c.index-pieces-at.result refl known c.index-pieces-at.is)
    c.push_piece.ensures.kept c.push_piece.ensures.held
    (elim c.if-fences-at.branch [
      | then-fences-at+else-not-is_clear w ↦
          past_fence _ reads writes C ps start group c.if-fences-at.accesses.items at
          (fenced_there start at group c.fences.result.now c.loop-at.auto.at within
          c.fences.ensures w.if-fences-at.true)
          (settled _ reads writes C ps start group (λ i j. (c.conflict_as_touched.ensures ps i j).0)
          c.loop-at.accesses.items at c.loop-at.invariant
          (subst HasNoClash w.as_mut_slice.ensures.value (w.is_clear.ensures w.if-not-is_clear.false)))
      | else-fences-at w ↦
          subst (λ (z : ArrayVec Access). IsGathered reads writes C ps start group z.items at (at + 1))
          (sym w.accesses-is)
          (past_unfenced _ reads writes C ps start group c.loop-at.accesses.items at
          (unfenced_there start at group c.fences.result.now within c.fences.ensures w.if-fences-at.false)
          c.loop-at.invariant)
    ])

pub returns : goal.returns
returns g c clear i j u =
    let ps = c.args.pieces.now in
    settled _ g.P.Touching.reads g.P.Touching.writes (g.P.Touching.conflict ps) ps c.args.start c.args.group.now
    (λ x y. (c.conflict_as_touched.ensures ps x y).0) c.loop-at.accesses.items c.loop-at.at c.loop-at.invariant
    (subst HasNoClash c.as_mut_slice-2.ensures.value (c.is_clear-2.ensures clear)) i j
    (omega (arith, u.pair.ends, c.len.ensures, c.loop-at-test.false)) u
