use Rattle.std.proofs.Common.{ℕ, ◌≡◌, ◌+◌, ◌-◌, ◌<◌, ◌∙◌, Some, inl, inr, List, sym, ap, subst, slice_get, arith}
use Rattle.std.proofs.lemmas.Bool.{cases_lt}
use Rattle.std.proofs.lemmas.Option.{same_Some, slice_get-get_or}
use Rattle.std.proofs.lemmas.Bool.{eqb-true}
use Rattle.dsa_settings.specs.Barriers.{IsBarrierPair}
use Rattle.dsa_settings.specs.Plan.{Group, start_of}
use Rattle.dsa_settings.specs.LegalFaults.{IsFencedWithin, IsFirstUnfencedWithin}
use Rattle.dsa_settings.proofs.Plans.{start_of-next}
use Rattle.dsa_settings.proofs.Unkept.{none_without_marks}
use Rattle.dsa_settings.proofs.Judged.{first_of_plan, all_of_plan}
use Rattle.dsa_settings.proofs.keeping.first_unkept.Goals as goal

pub returns-then-is_empty : goal.returns-then-is_empty
returns-then-is_empty c = none_without_marks c.args.barriers.now c.args.groups.now (eqb-true _ _ (sym c.is_empty.ensures ∙ c.if-is_empty.true))

pub returns-in-Some : goal.returns-in-Some
returns-in-Some c =
    let here : slice_get c.args.groups.now c.loop-group.group-index ≡ Some c.group-item.result =
    slice_get-get_or c.args.groups.now c.loop-group.group-index c.group-item.result c.loop-group-test.true ∙ ap Some (sym c.group-item.is) in
    first_of_plan (IsBarrierPair c.args.barriers.now) c.args.groups.now c.loop-group.group-index c.group-item.result (c.in-Some.piece - 1) c.in-Some.piece here c.loop-group.invariant.fenced
    (subst (λ (z : ℕ). IsFirstUnfencedWithin (IsBarrierPair c.args.barriers.now) z c.group-item.result (c.in-Some.piece - 1) c.in-Some.piece) c.loop-group.invariant.begins c.in-Some.ensures)

pub loop-group-preserved : goal.loop-group-preserved
loop-group-preserved c =
    let here : slice_get c.args.groups.now c.loop-group.group-index ≡ Some c.group-item.result =
    slice_get-get_or c.args.groups.now c.loop-group.group-index c.group-item.result c.loop-group-test.true ∙ ap Some (sym c.group-item.is) in
    record {
      begins = omega (arith, c.loop-group.invariant.begins, c.len-start.ensures, start_of-next c.args.groups.now c.loop-group.group-index c.group-item.result here);
      fenced = fenced_more (IsBarrierPair c.args.barriers.now) c.args.groups.now c.loop-group.group-index c.group-item.result here c.loop-group.invariant.fenced
          (subst (λ (z : ℕ). IsFencedWithin (IsBarrierPair c.args.barriers.now) z c.group-item.result) c.loop-group.invariant.begins c.in_default.ensures);
    }
  where
    fenced_more : (C : ℕ → ℕ → Type 0) (plan : List Group) (m : ℕ) (g : Group) → slice_get plan m ≡ Some g →
        ((n : ℕ) (other : Group) → n < m → slice_get plan n ≡ Some other → IsFencedWithin C (start_of plan n) other) → IsFencedWithin C (start_of plan m) g →
        (n : ℕ) (other : Group) → n < m + 1 → slice_get plan n ≡ Some other → IsFencedWithin C (start_of plan n) other
    fenced_more C plan m g here before last n other below is =
        elim (cases_lt n m) [
          | inl less ↦ before n other less is
          | inr most ↦
              let same : m ≡ n = omega arith in
              let one : g ≡ other = same_Some g other (sym here ∙ ap (λ (z : ℕ). slice_get plan z) same ∙ is) in
              subst (λ (z : Group). IsFencedWithin C (start_of plan n) z) one (subst (λ (z : ℕ). IsFencedWithin C (start_of plan z) g) same last)
        ]

pub returns : goal.returns
returns c = all_of_plan (IsBarrierPair c.args.barriers.now) c.args.groups.now c.loop-group.group-index (omega arith) c.loop-group.invariant.fenced
