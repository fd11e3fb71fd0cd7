-- Checking an emission of pieces of any kind has one outcome, and accepts the chosen plan of the pieces.
use Rattle.std.proofs.Common.{◌≡◌, ◌⊎◌, inl, inr, if◌then◌else◌, Bool, true, false, ℕ, zero, suc, ◌<◌, List, [], ◌∷◌, length, slice_get, Result, Ok, Err, refl, sym, ap, subst, ◌∙◌, arith}
use Rattle.std.proofs.lemmas.Bool.{cases_order}
use Rattle.dsa_descriptor.specs.Lists.{AreEntries}
use Rattle.dsa_emission.specs.declared.emission_fault.EmissionFault.{EmissionFault}
use Rattle.dsa_emission.specs.Causes.{emission_is_memory}
use Rattle.dsa_emission.proofs.OneFault.{one_fault}
use Rattle.dsa_ranges.specs.Pieces.{Kind}
use Rattle.dsa_settings.specs.Settings.{Limits, tariff_of, version_of}
use Rattle.dsa_settings.specs.Plan.{Plan, plan_cost}
use Rattle.dsa_settings.specs.Legal.{IsLeast}
use Rattle.dsa_plan.specs.Certificate.{Contents, IsGood}
use Rattle.dsa_emission.specs.EmissionFaults.{IsEmissionAs, IsFirstEmissionFaultAs}
use Rattle.dsa_plan.proofs.Steps.{yes_means_least}
use Rattle.dsa_search.specs.Chosen.{IsChosen}
use Rattle.dsa_search.proofs.Choosing.{chosen_is_good, chosen_is_least}
use Rattle.dsa_calls.specs.declared.fault.PlanFault.{PlanFault}
use Rattle.dsa_calls.specs.declared.fault.PlanFault.TheVariants.{Emission, Memory}
use Rattle.dsa_calls.specs.declared.checking.FencedFault.{FencedFault}
use Rattle.dsa_calls.specs.declared.checking.FencedFault.TheVariants.{Call, OtherPiece}
use Rattle.dsa_calls.specs.Fault.{emission_cause}
use Rattle.dsa_calls.specs.Checked.{ChecksPlanBy, IsShownLeastBy}
use Rattle.dsa_calls.specs.FencedChecked.{IsFirstOther, in_call, ChecksPieces}
use Rattle.dsa_calls.proofs.BytesChecked.{no_fault, same_emission}
use Rattle.dsa_calls.proofs.CheckedOnce.{one_checked_by}

abbrev pub refused_call : PlanFault → Result ℕ FencedFault
refused_call fault = Err (Call fault)

-- ---- the first other piece

module _ {P : Type 0} where
  one_other : (xs ys : List P) (i j : ℕ) → IsFirstOther xs ys i → IsFirstOther xs ys j → i ≡ j
  one_other xs ys i j p q =
      elim (cases_order i j) [
        | inl same ↦ same
        | inr (inl less) ↦ absurd (p.other (q.before i less))
        | inr (inr more) ↦ absurd (q.other (p.before j more))
      ]

  none_other : (xs : List P) (i : ℕ) → IsFirstOther xs xs i → ⊥
  none_other xs i p = p.other refl

  -- where one list ends and the other doesn't, they differ
  pub ends_differ : (xs ys : List P) (n : ℕ) → n ≡ length xs → n < length ys → slice_get xs n ≡ slice_get ys n → ⊥
  ends_differ [] [] n is lt e = absurd (omega (arith, lt))
  ends_differ [] (y ∷ ys) zero is lt e = cc
  ends_differ [] (y ∷ ys) (suc n) is lt e = absurd (omega (arith, is))
  ends_differ (x ∷ xs) [] n is lt e = absurd (omega (arith, lt))
  ends_differ (x ∷ xs) (y ∷ ys) zero is lt e = absurd (omega (arith, is))
  ends_differ (x ∷ xs) (y ∷ ys) (suc n) is lt e = ends_differ xs ys n (omega (arith, is)) (omega (arith, lt)) e

-- ---- the chosen plan

-- the chosen plan of n pieces is shown to be least
pub shown_by : (C : ℕ → ℕ → Type 0) (s : Limits) (n : ℕ) (plan : Plan) (c : Contents) (cost : ℕ) → IsChosen C s.greatest_batch (tariff_of s) n c.prices c.pairs plan
    → c.version ≡ version_of s → cost ≡ plan_cost (tariff_of s) plan → IsShownLeastBy C s n plan c cost
shown_by C s n plan c cost chosen version is =
    let least = chosen_is_least C s.greatest_batch (tariff_of s) n c.prices c.pairs plan chosen in
    let good = chosen_is_good C s.greatest_batch (tariff_of s) n c.prices c.pairs chosen.has_costs chosen.has_pairs in
    record {
      legal = least.0.legal;
      version = version;
      good = subst (λ (w : ℕ). IsGood C s.greatest_batch (tariff_of s) n c.prices c.pairs w) (sym least.1 ∙ sym is) good;
      is_cost = is;
    }

-- ---- pieces

module _ (P : Type 0) (kind : Kind P) (are : AreEntries kind.spelling kind.keeps) (C : ℕ → ℕ → Type 0) (s : Limits) (pieces : List P) (portal staging : List ℕ) (c : Contents) where
  pub one_pieces : (o p : Result ℕ FencedFault) → ChecksPieces kind C s pieces portal staging c o → ChecksPieces kind C s pieces portal staging c p → o ≡ p
  one_pieces o p (inl (f, nf, first, is)) (inl (g, ng, first', is')) =
      is ∙ ap (λ (x : EmissionFault). Err (Call (Emission x))) (one_fault P kind are s portal staging f g nf ng first first') ∙ sym is'
  one_pieces o p (inl (f, nf, first, is)) (inr (inl (j, plan, ps, emission, other, is'))) = absurd (no_fault P kind are portal staging s plan ps f emission nf first)
  one_pieces o p (inl (f, nf, first, is)) (inr (inr (r, plan, emission, checks, is'))) = absurd (no_fault P kind are portal staging s plan pieces f emission nf first)
  one_pieces o p (inr (inl (i, plan, ps, emission, other, is))) (inl (g, ng, first, is')) = absurd (no_fault P kind are portal staging s plan ps g emission ng first)
  one_pieces o p (inr (inr (r, plan, emission, checks, is))) (inl (g, ng, first, is')) = absurd (no_fault P kind are portal staging s plan pieces g emission ng first)
  one_pieces o p (inr (inl (i, plan, ps, emission, other, is))) (inr (inl (j, plan', ps', emission', other', is'))) =
      let same = same_emission P kind are portal staging s plan plan' ps ps' emission emission' in
      let here = subst (λ (xs : List P). IsFirstOther xs pieces j) (sym same.1) other' in
      is ∙ ap (λ (x : ℕ). Err (OtherPiece x)) (one_other ps pieces i j other here) ∙ sym is'
  one_pieces o p (inr (inl (i, plan, ps, emission, other, is))) (inr (inr (r, plan', emission', checks, is'))) =
      let same = same_emission P kind are portal staging s plan plan' ps pieces emission emission' in
      absurd (none_other pieces i (subst (λ (xs : List P). IsFirstOther xs pieces i) same.1 other))
  one_pieces o p (inr (inr (r, plan, emission, checks, is))) (inr (inl (j, plan', ps', emission', other', is'))) =
      let same = same_emission P kind are portal staging s plan plan' pieces ps' emission emission' in
      absurd (none_other pieces j (subst (λ (xs : List P). IsFirstOther xs pieces j) (sym same.1) other'))
  one_pieces o p (inr (inr (r, plan, emission, checks, is))) (inr (inr (r', plan', emission', checks', is'))) =
      let same = same_emission P kind are portal staging s plan plan' pieces pieces emission emission' in
      let here = subst (λ (x : Plan). ChecksPlanBy C s (length pieces) x c r') (sym same.0) checks' in
      is ∙ ap in_call (one_checked_by C s (length pieces) plan c r r' checks here) ∙ sym is'

module _ {P : Type 0} (kind : Kind P) (C : ℕ → ℕ → Type 0) (s : Limits) (pieces : List P) (portal staging : List ℕ) (c : Contents) where
  -- the bytes were refused
  pub emission_refused : (cause : EmissionFault) (fault : PlanFault) → fault ≡ emission_cause cause → IsFirstEmissionFaultAs kind s portal staging cause
      → (refused_call fault ≡ refused_call Memory) ⊎ ChecksPieces kind C s pieces portal staging c (Err (Call fault))
  emission_refused cause fault is first = go (emission_is_memory cause) refl is
    where
      go : (b : Bool) → emission_is_memory cause ≡ b → fault ≡ (if b then Memory else Emission cause) → (refused_call fault ≡ refused_call Memory) ⊎ ChecksPieces kind C s pieces portal staging c (Err (Call fault))
      go true e same = inl (ap refused_call same)
      go false e same = inr (inl (cause, (λ f. let g = ap emission_is_memory f in cc), first, ap refused_call same))

  -- the chosen plan is accepted
  pub chosen_checks : (plan : Plan) (cost : ℕ) → IsEmissionAs kind s portal staging plan pieces → IsShownLeastBy C s (length pieces) plan c cost → ChecksPieces kind C s pieces portal staging c (Ok cost)
  chosen_checks plan cost emission shown = inr (inr (Ok cost, plan, emission, shown, refl))

  -- what is accepted is least
  pub least_checked : (cost : ℕ) → ChecksPieces kind C s pieces portal staging c (Ok cost)
      → (plan : Plan) × IsEmissionAs kind s portal staging plan pieces × IsLeast C s.greatest_batch (tariff_of s) (length pieces) plan × (cost ≡ plan_cost (tariff_of s) plan)
  least_checked cost (inl (fault, other, first, is)) = cc
  least_checked cost (inr (inl (i, plan, ps, emission, other, is))) = cc
  least_checked cost (inr (inr (Err fault, plan, emission, checks, is))) = cc
  least_checked cost (inr (inr (Ok total, plan, emission, shown, is))) =
      let same : cost ≡ total = cc in
      (plan, emission, yes_means_least C s.greatest_batch (tariff_of s) (length pieces) plan c.prices c.pairs total shown.legal shown.good shown.is_cost, same ∙ shown.is_cost)

-- ---- answers

-- an answer that is an outcome, or an allocation failure, is the one outcome, or an allocation failure
pub only_check : (Says : Result ℕ FencedFault → Type 0) → ((o p : Result ℕ FencedFault) → Says o → Says p → o ≡ p) → (r : Result ℕ FencedFault) → (r ≡ refused_call Memory) ⊎ Says r
    → (o : Result ℕ FencedFault) → Says o → (r ≡ refused_call Memory) ⊎ (r ≡ o)
only_check Says one r (inl memory) o says = inl memory
only_check Says one r (inr told) o says = inr (one r o told says)
