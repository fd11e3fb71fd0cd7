-- Reasons in their order, by their places in the list of them.
use Rattle.std.proofs.Common.{◌≡◌, ℕ, zero, suc, ◌<◌, ◌≤◌, List, [], ◌∷◌, get_or, refl, subst, arith}
use Rattle.dsa_audit.specs.declared.member.Unseen.{Unseen}
use Rattle.dsa_audit.specs.declared.member.Unseen.TheVariants.{Blank, Operation, Nested, Owner, Empty, Wrap}
use Rattle.dsa_recording.specs.Entries.{Applies, rank, IsFirstReason}

abbrev pub in_order : List Unseen
in_order = Blank ∷ Operation ∷ Nested ∷ Owner ∷ Empty ∷ Wrap ∷ []

at_rank : (why : Unseen) → get_or in_order (rank why) Blank ≡ why
at_rank Blank = refl
at_rank Operation = refl
at_rank Nested = refl
at_rank Owner = refl
at_rank Empty = refl
at_rank Wrap = refl

rank-lt : (why : Unseen) → rank why < 6
rank-lt Blank = omega arith
rank-lt Operation = omega arith
rank-lt Nested = omega arith
rank-lt Owner = omega arith
rank-lt Empty = omega arith
rank-lt Wrap = omega arith

rank_at : (i : ℕ) → i < 6 → rank (get_or in_order i Blank) ≡ i
rank_at zero lt = refl
rank_at (suc zero) lt = refl
rank_at (suc (suc zero)) lt = refl
rank_at (suc (suc (suc zero))) lt = refl
rank_at (suc (suc (suc (suc zero)))) lt = refl
rank_at (suc (suc (suc (suc (suc zero))))) lt = refl
rank_at (suc (suc (suc (suc (suc (suc i)))))) lt = absurd (omega arith)

-- the reasons before i do not apply, and that at i does
pub first_at : (head e : List ℕ) (i : ℕ) → i < 6 → ((k : ℕ) → k < i → ¬ Applies head e (get_or in_order k Blank))
    → Applies head e (get_or in_order i Blank) → IsFirstReason head e (get_or in_order i Blank)
first_at head e i lt before applies = record {
  applies = applies;
  first = λ other less.
      let here = rank_at i lt in
      let there : rank other < i = omega (arith, here, less) in
      subst (λ (why : Unseen). ¬ Applies head e why) (at_rank other) (before (rank other) there);
}

-- no reason applies
pub none_applies : (head e : List ℕ) (n : ℕ) → 6 ≤ n → ((k : ℕ) → k < n → ¬ Applies head e (get_or in_order k Blank)) → (why : Unseen) → ¬ Applies head e why
none_applies head e n le before why =
    let lt = rank-lt why in
    subst (λ (z : Unseen). ¬ Applies head e z) (at_rank why) (before (rank why) (omega (arith, lt, le)))
