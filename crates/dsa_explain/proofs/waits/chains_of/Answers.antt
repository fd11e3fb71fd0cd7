use Rattle.std.proofs.Common.{ℕ, List, length, subst, sym, ◌∙◌, arith}
use Rattle.dsa_explain.proofs.Chains.{AreWithin, chains_within, one_within}
use Rattle.dsa_explain.proofs.waits.chains_of.Goals as goal

pub overflow_add-before : goal.overflow_add-before
overflow_add-before c =
    let within = chains_within c.args.slots.now c.args.sets.now c.loop-set.set-index in
    let le = one_within c.args.slots.now _ c.deref.result.now c.loop-set.set-index (length c.deref.result.now) c.longest_in-before.result
    (subst (λ (xs : List ℕ). AreWithin xs c.loop-set.set-index) (sym (c.deref.ensures.value ∙ c.loop-set.invariant.so_far)) within) c.longest_in-before.ensures in
    omega (arith, le, c.loop-set-test.true)
