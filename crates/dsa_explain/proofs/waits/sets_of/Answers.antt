use Rattle.std.proofs.Common.{[], ◌∷◌, ℕ, inl, inr, length, slice_get, sym, ap, ◌∙◌, subst, arith}
use Rattle.std.specs.Prelude.{slice_index}
use Rattle.std.proofs.lemmas.List.{length-append}
use Rattle.dsa_tracker.specs.declared.slots.Slots.{Slots}
use Rattle.dsa_tracker.specs.Table.{IsExactly, WaitsFor}
use Rattle.dsa_tracker.specs.Words.{table_in}
use Rattle.dsa_explain.proofs.Waited.{last_or_before}
use Rattle.dsa_explain.proofs.waits.sets_of.Goals as goal

pub loop-slot-preserved : goal.loop-slot-preserved
loop-slot-preserved c =
    record {
      count = omega (arith, c.loop-slot.invariant.count, ap length c.in_ok-push.ensures.items, length-append c.loop-slot.sets.items (c.waits_of.result ∷ []));
      each = λ k set is.
          elim (last_or_before c.loop-slot.sets.items c.waits_of.result set k (sym (ap (λ xs. slice_get xs k) c.in_ok-push.ensures.items) ∙ is)) [
            | inl before ↦ c.loop-slot.invariant.each k set before
            | inr last ↦
                subst (λ (n : ℕ). IsExactly set (λ s. WaitsFor (table_in c.args.tracker.now).slots s (slice_index c.args.slots.now n))) (sym (last.0 ∙ c.loop-slot.invariant.count))
                (subst (λ (w : Slots). IsExactly w (λ s. WaitsFor (table_in c.args.tracker.now).slots s (slice_index c.args.slots.now c.loop-slot.slot-index))) last.1 c.waits_of.ensures)
          ];
    }
