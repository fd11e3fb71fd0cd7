use Rattle.std.proofs.Common.{◌≡◌, ℕ, ◌+◌, ◌*◌, ◌<◌, ◌≤◌, length, slice_index, slice_set, inl, inr, refl, sym, subst, ◌∙◌, arith}
use Rattle.std.proofs.Math.Nat.{mul-le-mul_right}
use Rattle.std.proofs.lemmas.Bool.{cases_eq}
use Rattle.std.proofs.lemmas.List.{length-set, get_or-set_same, get_or-set_other}
use Rattle.dsa_settings.specs.Settings.{greatest_price}
use Rattle.dsa_plan.proofs.Chains.{IsLastBelow-start}
use Rattle.dsa_plan.proofs.Joined.{last_fits}
use Rattle.dsa_search.proofs.one_batch.fill_joined.Goals.{then-last-eq0, else-last-eq0}
use Rattle.dsa_search.proofs.one_batch.fill_joined.Goals as goal

pub loop-last-init : goal.loop-last-init
loop-last-init c = record {
  size = refl;
  first = c.requires.first;
  second = λ some. absurd (omega (arith, some));
  each = λ j two within. absurd (omega (arith, two, within));
  chain = IsLastBelow-start c.args.pairs.now c.requires.forward 0;
}

pub overflow_mul-fence : goal.overflow_mul-fence
overflow_mul-fence c =
    let few = last_fits c.args.pairs.now c.requires.forward 0 (c.loop-last.last + 1) c.loop-last.fences c.loop-last.piece c.loop-last.invariant.chain in
    let most : c.args.fence * c.loop-last.fences ≤ greatest_price * c.loop-last.fences = mul-le-mul_right c.loop-last.fences c.requires.fence in
    omega (arith, few, most, c.loop-last-test.true, c.requires.few)

pub overflow_add-batch : goal.overflow_add-batch
overflow_add-batch c =
    let few = last_fits c.args.pairs.now c.requires.forward 0 (c.loop-last.last + 1) c.loop-last.fences c.loop-last.piece c.loop-last.invariant.chain in
    let most : c.args.fence * c.loop-last.fences ≤ greatest_price * c.loop-last.fences = mul-le-mul_right c.loop-last.fences c.requires.fence in
    omega (arith, few, most, c.loop-last-test.true, c.requires.few, c.requires.batch)

pub chain_step-requires-clause-few : goal.chain_step-requires-clause-few
chain_step-requires-clause-few c =
    let few = last_fits c.args.pairs.now c.requires.forward 0 (c.loop-last.last + 1) c.loop-last.fences c.loop-last.piece c.loop-last.invariant.chain in
    omega (arith, few, c.loop-last-test.true, c.requires.few)

pub loop-last-preserved : goal.loop-last-preserved
loop-last-preserved c =
    let costs = c.loop-last.costs in
    let end = c.loop-last.last + 1 in
    let cost = c.if-last-eq0.costs in
    let size : end < length costs = omega (arith, c.loop-last.invariant.size, c.requires.count, c.loop-last-test.true) in
    let here : slice_index (slice_set costs end cost) end ≡ cost = get_or-set_same costs end cost 0 size in
    record {
      size = length-set costs end cost ∙ c.loop-last.invariant.size;
      first = get_or-set_other costs end 0 cost 0 (omega arith) ∙ c.loop-last.invariant.first;
      second = λ some. elim (cases_eq 1 end) [
        | inl one ↦ elim c.if-last-eq0.branch [
          | then-last-eq0 w ↦ subst (λ (z : ℕ). slice_index (slice_set costs end cost) z ≡ c.args.lone) (sym one) (here ∙ w.costs-is)
          | else-last-eq0 w ↦ absurd (omega (arith, one, w.if-last-eq0))
        ]
        | inr other ↦ get_or-set_other costs end 1 cost 0 other ∙ c.loop-last.invariant.second (omega (arith, some, other))
      ];
      each = λ j two within. elim (cases_eq j end) [
        | inl last ↦ elim c.if-last-eq0.branch [
          | then-last-eq0 w ↦ absurd (omega (arith, last, two, w.if-last-eq0))
          | else-last-eq0 w ↦ (
            c.loop-last.fences,
            rw last (c.loop-last.piece, c.loop-last.invariant.chain),
            rw last (here ∙ w.costs-is ∙ w.min.ensures),
          )
        ]
        | inr before ↦
            let (count, has, at) = c.loop-last.invariant.each j two (omega (arith, within, before)) in
            (count, has, get_or-set_other costs end j cost 0 before ∙ at)
      ];
      chain = c.chain_step.ensures.chain 0 c.requires.forward c.loop-last.invariant.chain;
    }
