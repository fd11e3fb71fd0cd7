-- One cause at most is the first why nothing is filled, and none where all can be filled.
use Rattle.std.proofs.Common.{◌≡◌, ℕ, inl, inr, List, length, refl, sym, ap, subst, ◌∙◌}
use Rattle.std.proofs.lemmas.Bool.{cases_order}
use Rattle.dsa_prepared.specs.declared.fault.FillFault.{FillFault}
use Rattle.dsa_prepared.specs.declared.fault.FillFault.TheVariants.{Bases, Room, RegionWrap, Misaligned, DualcastBits, RegionsMeet, StagingMeets, Staging}
use Rattle.dsa_settings.specs.Staging.{staging_area}
use Rattle.dsa_prepared.specs.Templates.{Template}
use Rattle.dsa_prepared.specs.Filling.{IsFirstNot, FitsAt, IsAlignedBase, IsTiedAt, IsApartFromEarlier, IsClearAt, AreApartAt, HasBuffers, CanFill, IsFirstFillFault, tie_at}

first_same : (n : ℕ) (Is : ℕ → Type 0) (i j : ℕ) → IsFirstNot n Is i → IsFirstNot n Is j → i ≡ j
first_same n Is i j p q =
    elim (cases_order i j) [
      | inl same ↦ same
      | inr (inl less) ↦ absurd (p.2 (q.1 i less))
      | inr (inr more) ↦ absurd (q.2 (p.1 j more))
    ]

pub one_fault : (t : Template) (bases : List ℕ) (staging portal_len staging_len : ℕ) (f g : FillFault) → IsFirstFillFault t bases staging portal_len staging_len f → IsFirstFillFault t bases staging portal_len staging_len g → f ≡ g
one_fault t bases staging portal_len staging_len Bases Bases p q = refl
one_fault t bases staging portal_len staging_len Bases Room p q = absurd (p q.0)
one_fault t bases staging portal_len staging_len Bases (RegionWrap i') p q = absurd (p q.0.0)
one_fault t bases staging portal_len staging_len Bases (Misaligned i') p q = absurd (p q.0.0)
one_fault t bases staging portal_len staging_len Bases (DualcastBits i' j') p q = absurd (p q.0.0)
one_fault t bases staging portal_len staging_len Bases (RegionsMeet i' j') p q = absurd (p q.0.0)
one_fault t bases staging portal_len staging_len Bases (StagingMeets i') p q = absurd (p q.0.0)
one_fault t bases staging portal_len staging_len Bases Staging p q = absurd (p q.0.0)
one_fault t bases staging portal_len staging_len Room Bases p q = absurd (q p.0)
one_fault t bases staging portal_len staging_len Room Room p q = refl
one_fault t bases staging portal_len staging_len Room (RegionWrap i') p q = absurd (p.1 q.0.1)
one_fault t bases staging portal_len staging_len Room (Misaligned i') p q = absurd (p.1 q.0.1)
one_fault t bases staging portal_len staging_len Room (DualcastBits i' j') p q = absurd (p.1 q.0.1)
one_fault t bases staging portal_len staging_len Room (RegionsMeet i' j') p q = absurd (p.1 q.0.1)
one_fault t bases staging portal_len staging_len Room (StagingMeets i') p q = absurd (p.1 q.0.1)
one_fault t bases staging portal_len staging_len Room Staging p q = absurd (p.1 q.0.1)
one_fault t bases staging portal_len staging_len (RegionWrap i) Bases p q = absurd (q p.0.0)
one_fault t bases staging portal_len staging_len (RegionWrap i) Room p q = absurd (q.1 p.0.1)
one_fault t bases staging portal_len staging_len (RegionWrap i) (RegionWrap i') p q = ap RegionWrap (first_same (length t.regions) (FitsAt t.regions bases) i i' p.1 q.1)
one_fault t bases staging portal_len staging_len (RegionWrap i) (Misaligned i') p q = absurd (p.1.2 (q.1 i p.1.0))
one_fault t bases staging portal_len staging_len (RegionWrap i) (DualcastBits i' j') p q = absurd (p.1.2 (q.1 i p.1.0))
one_fault t bases staging portal_len staging_len (RegionWrap i) (RegionsMeet i' j') p q = absurd (p.1.2 (q.1 i p.1.0))
one_fault t bases staging portal_len staging_len (RegionWrap i) (StagingMeets i') p q = absurd (p.1.2 (q.1 i p.1.0))
one_fault t bases staging portal_len staging_len (RegionWrap i) Staging p q = absurd (p.1.2 (q.1 i p.1.0))
one_fault t bases staging portal_len staging_len (Misaligned i) Bases p q = absurd (q p.0.0)
one_fault t bases staging portal_len staging_len (Misaligned i) Room p q = absurd (q.1 p.0.1)
one_fault t bases staging portal_len staging_len (Misaligned i) (RegionWrap i') p q = absurd (q.1.2 (p.1 i' q.1.0))
one_fault t bases staging portal_len staging_len (Misaligned i) (Misaligned i') p q = ap Misaligned (first_same (length t.regions) (IsAlignedBase t.regions t.units bases) i i' p.2 q.2)
one_fault t bases staging portal_len staging_len (Misaligned i) (DualcastBits i' j') p q = absurd (p.2.2 (q.2 i p.2.0))
one_fault t bases staging portal_len staging_len (Misaligned i) (RegionsMeet i' j') p q = absurd (p.2.2 (q.2 i p.2.0))
one_fault t bases staging portal_len staging_len (Misaligned i) (StagingMeets i') p q = absurd (p.2.2 (q.2 i p.2.0))
one_fault t bases staging portal_len staging_len (Misaligned i) Staging p q = absurd (p.2.2 (q.2 i p.2.0))
one_fault t bases staging portal_len staging_len (DualcastBits i j) Bases p q = absurd (q p.0.0)
one_fault t bases staging portal_len staging_len (DualcastBits i j) Room p q = absurd (q.1 p.0.1)
one_fault t bases staging portal_len staging_len (DualcastBits i j) (RegionWrap i') p q = absurd (q.1.2 (p.1 i' q.1.0))
one_fault t bases staging portal_len staging_len (DualcastBits i j) (Misaligned i') p q = absurd (q.2.2 (p.2 i' q.2.0))
one_fault t bases staging portal_len staging_len (DualcastBits i j) (DualcastBits i' j') p q =
    let k : p.3.0 ≡ q.3.0 = first_same (length t.ties) (IsTiedAt t.ties bases) p.3.0 q.3.0 p.3.1 q.3.1 in
    let a : i ≡ i' = p.3.2 ∙ ap (λ (n : ℕ). (tie_at t.ties n).region) k ∙ sym q.3.2 in
    let b : j ≡ j' = p.3.3 ∙ ap (λ (n : ℕ). (tie_at t.ties n).other) k ∙ sym q.3.3 in
    λ x. DualcastBits (a x) (b x)
one_fault t bases staging portal_len staging_len (DualcastBits i j) (RegionsMeet i' j') p q = absurd (p.3.1.2 (q.3 p.3.0 p.3.1.0))
one_fault t bases staging portal_len staging_len (DualcastBits i j) (StagingMeets i') p q = absurd (p.3.1.2 (q.3 p.3.0 p.3.1.0))
one_fault t bases staging portal_len staging_len (DualcastBits i j) Staging p q = absurd (p.3.1.2 (q.3 p.3.0 p.3.1.0))
one_fault t bases staging portal_len staging_len (RegionsMeet i j) Bases p q = absurd (q p.0.0)
one_fault t bases staging portal_len staging_len (RegionsMeet i j) Room p q = absurd (q.1 p.0.1)
one_fault t bases staging portal_len staging_len (RegionsMeet i j) (RegionWrap i') p q = absurd (q.1.2 (p.1 i' q.1.0))
one_fault t bases staging portal_len staging_len (RegionsMeet i j) (Misaligned i') p q = absurd (q.2.2 (p.2 i' q.2.0))
one_fault t bases staging portal_len staging_len (RegionsMeet i j) (DualcastBits i' j') p q = absurd (q.3.1.2 (p.3 q.3.0 q.3.1.0))
one_fault t bases staging portal_len staging_len (RegionsMeet i j) (RegionsMeet i' j') p q =
    let a : i ≡ i' = first_same (length t.regions) (IsApartFromEarlier t.regions bases) i i' p.4 q.4 in
    let here : IsFirstNot i' (AreApartAt t.regions bases i') j = subst (λ (n : ℕ). IsFirstNot n (AreApartAt t.regions bases n) j) a p.5 in
    let b : j ≡ j' = first_same i' (AreApartAt t.regions bases i') j j' here q.5 in
    λ x. RegionsMeet (a x) (b x)
one_fault t bases staging portal_len staging_len (RegionsMeet i j) (StagingMeets i') p q = absurd (p.4.2 (q.4 i p.4.0))
one_fault t bases staging portal_len staging_len (RegionsMeet i j) Staging p q = absurd (p.4.2 (q.4 i p.4.0))
one_fault t bases staging portal_len staging_len (StagingMeets i) Bases p q = absurd (q p.0.0)
one_fault t bases staging portal_len staging_len (StagingMeets i) Room p q = absurd (q.1 p.0.1)
one_fault t bases staging portal_len staging_len (StagingMeets i) (RegionWrap i') p q = absurd (q.1.2 (p.1 i' q.1.0))
one_fault t bases staging portal_len staging_len (StagingMeets i) (Misaligned i') p q = absurd (q.2.2 (p.2 i' q.2.0))
one_fault t bases staging portal_len staging_len (StagingMeets i) (DualcastBits i' j') p q = absurd (q.3.1.2 (p.3 q.3.0 q.3.1.0))
one_fault t bases staging portal_len staging_len (StagingMeets i) (RegionsMeet i' j') p q = absurd (q.4.2 (p.4 i' q.4.0))
one_fault t bases staging portal_len staging_len (StagingMeets i) (StagingMeets i') p q = ap StagingMeets (first_same (length t.regions) (IsClearAt t.regions bases (staging_area staging t.pieces)) i i' p.5 q.5)
one_fault t bases staging portal_len staging_len (StagingMeets i) Staging p q = absurd (p.5.2 (q.5 i p.5.0))
one_fault t bases staging portal_len staging_len Staging Bases p q = absurd (q p.0.0)
one_fault t bases staging portal_len staging_len Staging Room p q = absurd (q.1 p.0.1)
one_fault t bases staging portal_len staging_len Staging (RegionWrap i') p q = absurd (q.1.2 (p.1 i' q.1.0))
one_fault t bases staging portal_len staging_len Staging (Misaligned i') p q = absurd (q.2.2 (p.2 i' q.2.0))
one_fault t bases staging portal_len staging_len Staging (DualcastBits i' j') p q = absurd (q.3.1.2 (p.3 q.3.0 q.3.1.0))
one_fault t bases staging portal_len staging_len Staging (RegionsMeet i' j') p q = absurd (q.4.2 (p.4 i' q.4.0))
one_fault t bases staging portal_len staging_len Staging (StagingMeets i') p q = absurd (q.5.2 (p.5 i' q.5.0))
one_fault t bases staging portal_len staging_len Staging Staging p q = refl

pub no_fault : (t : Template) (bases : List ℕ) (staging portal_len staging_len : ℕ) (f : FillFault) → HasBuffers t bases portal_len staging_len → CanFill t bases staging → IsFirstFillFault t bases staging portal_len staging_len f → ⊥
no_fault t bases staging portal_len staging_len Bases buffers can p = p buffers.0
no_fault t bases staging portal_len staging_len Room buffers can p = p.1 buffers.1
no_fault t bases staging portal_len staging_len (RegionWrap i) buffers can p = p.1.2 (can.fit i p.1.0)
no_fault t bases staging portal_len staging_len (Misaligned i) buffers can p = p.2.2 (can.aligned i p.2.0)
no_fault t bases staging portal_len staging_len (DualcastBits i j) buffers can p = p.3.1.2 (can.tied p.3.0 p.3.1.0)
no_fault t bases staging portal_len staging_len (RegionsMeet i j) buffers can p = p.4.2 (can.apart i p.4.0)
no_fault t bases staging portal_len staging_len (StagingMeets i) buffers can p = p.5.2 (can.clear i p.5.0)
no_fault t bases staging portal_len staging_len Staging buffers can p = p.6 can.address
