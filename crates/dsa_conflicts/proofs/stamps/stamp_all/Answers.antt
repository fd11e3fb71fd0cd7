use Rattle.std.proofs.Common.{◌≡◌, ◌+◌, ◌⊎◌, ℕ, List, arith, get_or, sym, subst, refl, ◌∙◌, inl, inr}
use Rattle.std.specs.Prelude.{Some, slice_get}
use Rattle.std.proofs.lemmas.Option.{slice_get-get_or}
use Rattle.dsa_conflicts.specs.declared.stamps.Stamps.{Stamps}
use Rattle.dsa_conflicts.specs.declared.stamps.Range.{Range}
use Rattle.dsa_conflicts.specs.Stamps.{AreAtMost, AreStamps, covers_at, places_of, points_at}
use Rattle.dsa_conflicts.specs.Latest.{IsAmong, Stamped}
use Rattle.dsa_conflicts.proofs.Latest.{among_left, among_more, among_right, stamped_as, stamped_join, stamped_none, stamped_one}
use Rattle.dsa_conflicts.proofs.stamps.stamp_all.Goals as goal
use Rattle.dsa_conflicts.proofs.stamps.stamp_all.Goals.{then-range, else-range}

pub loop-range-init : goal.loop-range-init
loop-range-init c = record {
  stamps = c.requires.stamps;
  most = c.requires.most;
  count = refl;
  stamped = stamped_none c.args.stamp (IsAmong c.args.ranges.now 0) (points_at c.args.stamps.now) (covers_at c.args.stamps.now) (λ r among. absurd (omega (arith, among.1)));
}

-- what the loop keeps, of stamps as they are after one range more
abbrev Kept : Stamps → List Range → ℕ → ℕ → Stamps → Type 0
Kept old ranges n stamp m =
    record {
      stamps : AreStamps m;
      most : AreAtMost stamp m;
      count : places_of m ≡ places_of old;
      stamped : Stamped (IsAmong ranges n) stamp (points_at old) (points_at m) (covers_at old) (covers_at m);
    }

pub loop-range-preserved : goal.loop-range-preserved
loop-range-preserved c =
    let ranges = c.args.ranges.now in
    let stamp = c.args.stamp in
    let i = c.loop-range.range-index in
    let x : Range = get_or ranges i (record { from = 0; to = 0 }) in
    let at : slice_get ranges i ≡ Some x = slice_get-get_or ranges i (record { from = 0; to = 0 }) c.loop-range-test.true in
    let old = c.args.stamps.now in
    let was = c.loop-range.stamps in
    let h = c.loop-range.invariant in
    elim c.if-range.branch [
      | then-range w ↦
          let m = w.stamp.new.self in
          subst (λ (y : Stamps). Kept old ranges (i + 1) stamp y) (sym w.stamps-is) (record {
            stamps = w.stamp.ensures.stamps;
            most = w.stamp.ensures.most;
            count = w.stamp.ensures.count ∙ h.count;
            stamped = stamped_as stamp (λ r. IsAmong ranges i r ⊎ (r ≡ x)) (IsAmong ranges (i + 1)) (points_at old) (points_at m) (covers_at old) (covers_at m)
                (λ r either. elim either [
                  | inl before ↦ among_left ranges i x at r before
                  | inr same ↦ subst (IsAmong ranges (i + 1)) (sym same) (among_right ranges i x at w.if-range.true)
                ])
                (λ r among. elim (among_more ranges i x at r among) [ inl before ↦ inl before | inr new ↦ inr new.0 ])
                (stamped_join stamp (IsAmong ranges i) (λ r. r ≡ x) (points_at old) (points_at was) (points_at m) (covers_at old) (covers_at was) (covers_at m) h.stamped
                (stamped_one stamp x (points_at was) (points_at m) (covers_at was) (covers_at m) w.stamp.ensures.points w.stamp.ensures.covers));
          })
      | else-range w ↦
          subst (λ (y : Stamps). Kept old ranges (i + 1) stamp y) (sym w.stamps-is) (record {
            stamps = h.stamps;
            most = h.most;
            count = h.count;
            stamped = stamped_as stamp (IsAmong ranges i) (IsAmong ranges (i + 1)) (points_at old) (points_at was) (covers_at old) (covers_at was) (λ r before. among_left ranges i x at r before)
                (λ r among. elim (among_more ranges i x at r among) [ inl before ↦ before | inr new ↦ absurd (omega (arith, new.1, w.if-range.false)) ]) h.stamped;
          })
    ]
