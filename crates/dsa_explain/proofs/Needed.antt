-- Each fence of a group that has just those of a chain of pairs is needed.
use Rattle.std.proofs.Common.{◌≡◌, ℕ, suc, ◌+◌, ◌-◌, ◌<◌, ◌≤◌, inl, inr, length, Some, ap, subst, arith}
use Rattle.std.specs.Prelude.{min}
use Rattle.std.proofs.lemmas.Bool.{cases_eq, cases_lt}
use Rattle.std.proofs.lemmas.Option.{slice_get_within}
use Rattle.dsa_settings.specs.Plan.{Group}
use Rattle.dsa_settings.specs.Legal.{IsFenced}
use Rattle.dsa_plan.specs.Chain.{Pairs, Reaches, HasChainFences, IsFirstPair, HasPairs}
use Rattle.dsa_plan.proofs.Chains.{Reaches-same, Reaches-lt, Reaches-le, Reaches-from_start}
use Rattle.dsa_plan.proofs.Groups.{forward_from_pairs}
use Rattle.dsa_reasons.specs.Reasons.{NeedsFence}

-- a piece of the chain after y is k or comes after it
next_on_chain : (C : ℕ → ℕ → Type 0) (greatest_batch n : ℕ) (pairs : Pairs) → HasPairs C greatest_batch n pairs → (start count y k m other : ℕ)
    → Reaches pairs start count y → Reaches pairs start (suc count) k → Reaches pairs start (suc m) other → y < other → other ≤ k → other ≡ k
next_on_chain C greatest_batch n pairs h start count y k m other to_y to_k to_other after up_to =
    elim (cases_lt m count) [
      | inl below ↦
          let le : other ≤ y = Reaches-le pairs (forward_from_pairs C greatest_batch n pairs h) start (suc m) count other y (omega arith) to_other to_y in
          absurd (omega arith)
      | inr above ↦
          elim (cases_eq m count) [
            | inl same ↦ let e : suc m ≡ suc count = ap suc same in Reaches-same pairs start (suc count) other k (subst (λ (t : ℕ). Reaches pairs start t other) e to_other) to_k
            | inr more ↦
                let lt : k < other = Reaches-lt pairs (forward_from_pairs C greatest_batch n pairs h) start (suc count) (suc m) k other (omega arith) to_k to_other in
                absurd (omega arith)
          ]
    ]

-- the fence at k is needed by k and the piece that its pair names
pub chain_needed : (C : ℕ → ℕ → Type 0) (greatest_batch n : ℕ) (pairs : Pairs) (start : ℕ) (group : Group) (k : ℕ) → HasPairs C greatest_batch n pairs
    → HasChainFences pairs start group → IsFenced start group k → (a : ℕ) × NeedsFence C start group k a k
chain_needed C greatest_batch n pairs start group k h chain (begun, set) =
    let within : k - start < length group = slice_get_within group (k - start) _ set in
    let (count, (y, to_y, (a, e))) = (chain k begun (omega arith)).0 (begun, set) in
    let to_k : Reaches pairs start (suc count) k = (y, to_y, (a, e)) in
    let first : IsFirstPair C y (min (y + greatest_batch) n) a k = h.each y (Some (a, k)) e in
    let from : start ≤ y = Reaches-from_start pairs (forward_from_pairs C greatest_batch n pairs h) start count y to_y in (
      a,
      record {
        conflicts = record {
          starts = omega (arith, first.conflicts.starts);
          ordered = first.conflicts.ordered;
          ends = omega arith;
          conflict = first.conflicts.conflict;
        };
        before = first.conflicts.ordered;
        after = omega arith;
        alone = λ other after up_to (other_begun, other_set).
            let other_within : other - start < length group = slice_get_within group (other - start) _ other_set in
            let (m, to_other) = (chain other other_begun (omega arith)).0 (other_begun, other_set) in
            next_on_chain C greatest_batch n pairs h start count y k m other to_y to_k to_other (omega (arith, first.conflicts.starts)) up_to;
      },
    )
