use Rattle.std.proofs.Common.{ℕ, ◌≡◌, ◌+◌, ◌-◌, ◌<◌, true, false, Some, length, get_or, sym, ap, ◌∙◌, subst, below_more, arith}
use Rattle.std.proofs.lemmas.Bool.{true≢false}
use Rattle.std.proofs.lemmas.Option.{slice_get-get_or}
use Rattle.dsa_settings.specs.Plan.{Group}
use Rattle.dsa_settings.specs.Barriers.{IsBarrierPair}
use Rattle.dsa_settings.specs.LegalFaults.{HasNoUnfenced}
use Rattle.dsa_settings.proofs.Judged.{not_fenced, first_within, all_within}
use Rattle.dsa_settings.proofs.Unkept.{none_unmarked, none_fenced, last_unkept}
use Rattle.dsa_settings.proofs.keeping.first_unkept_within.Goals as goal
use Rattle.dsa_settings.proofs.keeping.first_unkept_within.Goals.{Joined-else-not-fences-at, else-not-fences-at-via-then-not-fences-at+else-is_barrier, else-not-fences-at-via-else-not-fences-at}

pub returns-then-is_barrier : goal.returns-then-is_barrier
returns-then-is_barrier c =
    let within : c.loop-at.at - c.args.start < length c.args.group.now = omega (arith, c.loop-at-test.true, c.len.ensures, c.loop-at.invariant.from) in
    let inside : c.loop-at.at < c.args.start + length c.args.group.now = omega (arith, c.loop-at-test.true, c.len.ensures) in
    let read : get_or c.args.group.now (c.loop-at.at - c.args.start) false ≡ false =
    subst (λ (z : Group). get_or z (c.loop-at.at - c.args.start) false ≡ false) c.fences.ensures c.if-not-fences-at.true in
    first_within (IsBarrierPair c.args.barriers.now) c.args.start c.args.group.now (c.loop-at.at - 1) c.loop-at.at
    (last_unkept c.args.barriers.now c.args.start c.args.group.now c.loop-at.at c.loop-at.invariant.from inside (c.is_barrier.ensures.0 c.if-is_barrier.true)
    (not_fenced c.args.group.now (c.loop-at.at - c.args.start) within read)) c.loop-at.invariant.none

pub loop-at-preserved : goal.loop-at-preserved
loop-at-preserved c = record {
  from = omega (arith, c.loop-at.invariant.from);
  none = below_more (λ (j : ℕ). HasNoUnfenced (IsBarrierPair c.args.barriers.now) c.args.start c.args.group.now j) c.loop-at.at c.loop-at.invariant.none (here c);
}
  where
    here : (c : Joined-else-not-fences-at) → HasNoUnfenced (IsBarrierPair c.args.barriers.now) c.args.start c.args.group.now c.loop-at.at
    here c =
        elim c.else-not-fences-at.branch [
          | else-not-fences-at-via-then-not-fences-at+else-is_barrier w ↦
              none_unmarked c.args.barriers.now c.args.start c.args.group.now c.loop-at.at (λ b. true≢false (sym (w.is_barrier.ensures.1 b) ∙ w.if-is_barrier.false))
          | else-not-fences-at-via-else-not-fences-at w ↦
              let within : c.loop-at.at - c.args.start < length c.args.group.now = omega (arith, c.loop-at-test.true, c.len.ensures, c.loop-at.invariant.from) in
              let read : get_or c.args.group.now (c.loop-at.at - c.args.start) false ≡ true =
              subst (λ (z : Group). get_or z (c.loop-at.at - c.args.start) false ≡ true) c.fences.ensures w.if-not-fences-at.false in
              none_fenced c.args.barriers.now c.args.start c.args.group.now c.loop-at.at (omega (arith, c.loop-at.invariant.from))
              (slice_get-get_or c.args.group.now (c.loop-at.at - c.args.start) false within ∙ ap Some read)
        ]

pub returns : goal.returns
returns c =
    all_within (IsBarrierPair c.args.barriers.now) c.args.start c.args.group.now c.loop-at.at (omega arith) c.loop-at.invariant.none
