use Rattle.std.proofs.Common.{ℕ, ◌≡◌, ◌+◌, ◌<◌, ◌∙◌, Some, inl, inr, List, sym, ap, subst, slice_get, arith}
use Rattle.std.proofs.lemmas.Bool.{cases_lt}
use Rattle.std.proofs.lemmas.Option.{same_Some, slice_get-get_or}
use Rattle.dsa_settings.specs.Plan.{Group, start_of}
use Rattle.dsa_settings.specs.LegalFaults.{IsFencedWithin, IsFirstUnfencedWithin}
use Rattle.dsa_settings.proofs.Plans.{start_of-next}
use Rattle.dsa_settings.proofs.Judged.{first_of_plan, all_of_plan}
use Rattle.dsa_settings.proofs.legal.first_unfenced.Goals as goal

pub returns-in-Some : goal.returns-in-Some
returns-in-Some g c =
    let C = g.P.Touching.conflict c.args.pieces.now in
    let groups = c.args.groups.now in
    let m = c.loop-group.group-index in
    let group = c.group-item.result in
    let pair = c.in-Some.pair in
    let here : slice_get groups m ≡ Some group =
    slice_get-get_or groups m group c.loop-group-test.true ∙ ap Some (sym c.group-item.is) in
    first_of_plan C groups m group pair.0 pair.1 here c.loop-group.invariant.fenced
    (subst (λ (z : ℕ). IsFirstUnfencedWithin C z group pair.0 pair.1) c.loop-group.invariant.begins c.in-Some.ensures)

pub loop-group-preserved : goal.loop-group-preserved
loop-group-preserved g c =
    let C = g.P.Touching.conflict c.args.pieces.now in
    let groups = c.args.groups.now in
    let m = c.loop-group.group-index in
    let group = c.group-item.result in
    let here : slice_get groups m ≡ Some group =
    slice_get-get_or groups m group c.loop-group-test.true ∙ ap Some (sym c.group-item.is) in
    record {
      begins = omega (arith, c.loop-group.invariant.begins, c.len-start.ensures, start_of-next groups m group here);
      fenced = fenced_more C groups m group here c.loop-group.invariant.fenced
          (subst (λ (z : ℕ). IsFencedWithin C z group) c.loop-group.invariant.begins c.in_default.ensures);
    }
  where
    fenced_more : (C : ℕ → ℕ → Type 0) (plan : List Group) (m : ℕ) (g : Group) → slice_get plan m ≡ Some g →
        ((n : ℕ) (other : Group) → n < m → slice_get plan n ≡ Some other → IsFencedWithin C (start_of plan n) other) →
        IsFencedWithin C (start_of plan m) g →
        (n : ℕ) (other : Group) → n < m + 1 → slice_get plan n ≡ Some other → IsFencedWithin C (start_of plan n) other
    fenced_more C plan m g here before last n other below is =
        elim (cases_lt n m) [
          | inl less ↦ before n other less is
          | inr most ↦
              let same : m ≡ n = omega arith in
              let one : g ≡ other = same_Some g other (sym here ∙ ap (λ (z : ℕ). slice_get plan z) same ∙ is) in
              subst (λ (z : Group). IsFencedWithin C (start_of plan n) z) one
              (subst (λ (z : ℕ). IsFencedWithin C (start_of plan z) g) same last)
        ]

pub returns : goal.returns
returns g c =
    all_of_plan (g.P.Touching.conflict c.args.pieces.now) c.args.groups.now c.loop-group.group-index (omega arith)
    c.loop-group.invariant.fenced
