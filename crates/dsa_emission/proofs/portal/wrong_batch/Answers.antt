use Rattle.std.proofs.Common.{ℕ, ◌≡◌, List, [], true, ap, sym, subst, ◌∙◌, below_more, arith}
use Rattle.std.specs.Prelude.{slice_index_or}
use Rattle.dsa_emission.specs.declared.place.Place.{Place}
use Rattle.dsa_settings.specs.Settings.{Limits}
use Rattle.dsa_emission.specs.EmissionFaults.{is_batch_entry, place_before, after_entry, place_at_end, IsBatchAt, IsRightAt}
use Rattle.dsa_emission.proofs.Shapes.{batched_within, place_before-next, placed_more}
use Rattle.dsa_emission.proofs.portal.wrong_batch.Goals as goal

-- what was found of an entry, at its place
found : (s : Limits) (es : List (List ℕ)) (owner : List ℕ) (total n : ℕ) (place : Place) → total ≡ (place_at_end es).batched → place ≡ place_before es n →
    (is_batch_entry (slice_index_or es n []) ≡ true → IsBatchAt s owner total place (slice_index_or es n [])) → IsRightAt s es owner n
found s es owner total n place t e h is =
    subst (λ (p : Place). IsBatchAt s owner (place_at_end es).batched p (slice_index_or es n [])) e (subst (λ (k : ℕ). IsBatchAt s owner k place (slice_index_or es n [])) t (h is))

pub is_right_at-requires-clause-total : goal.is_right_at-requires-clause-total
is_right_at-requires-clause-total c = omega (arith, c.requires.few, c.requires.total, batched_within c.args.all.now)

pub loop-number-preserved : goal.loop-number-preserved
loop-number-preserved c =
    let es = c.args.all.now in
    let n = c.loop-number.number in
    let right = c.is_right_at.ensures.0 c.if-not-is_right_at.false in
    let more = placed_more c.loop-number.place c.after_entry-place.result (slice_index_or es n []) c.after_entry-place.ensures (λ is. omega (arith, (right is).least)) c.loop-number.invariant.batches c.loop-number.invariant.batched in
    record {
      placed = c.after_entry-place.ensures ∙ ap (λ (p : Place). after_entry p (slice_index_or es n [])) c.loop-number.invariant.placed ∙ sym (place_before-next es n c.loop-number-test.true);
      batched = more.0;
      batches = more.1;
      right = below_more _ _ c.loop-number.invariant.right (found c.args.settings.now es c.args.owner.now c.args.total n c.loop-number.place c.requires.total c.loop-number.invariant.placed right);
    }
