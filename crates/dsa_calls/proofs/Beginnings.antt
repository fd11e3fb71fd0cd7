-- Whether a run of pieces can begin.
use Rattle.std.proofs.Common.{◌≡◌, inl, inr, ℕ, zero, suc, ◌+◌, ◌<◌, ◌≤◌, List, [], ◌∷◌, length, map, take, get_or, refl, subst, add-one, arith}
use Rattle.std.specs.Prelude.{All}
use Rattle.std.proofs.lemmas.Bool.{cases_lt}
use Rattle.std.proofs.lemmas.List.Elements.{All-nil}
use Rattle.dsa_descriptor.specs.declared.descriptor.Descriptor.{Descriptor}
use Rattle.dsa_descriptor.specs.Fields.{Fields}
use Rattle.dsa_descriptor.specs.Descriptors.{fields}
use Rattle.dsa_image.specs.Memory.{Memory, HoldsRanges}
use Rattle.dsa_image.specs.Holding.{IsFirstOutside}
use Rattle.dsa_image.proofs.Holdings.{list_more, list_first, list_all}

-- whether a memory has the addresses of a piece can be decided
stable : (m : Memory) (d : Fields) → ((HoldsRanges m d → ⊥) → ⊥) → HoldsRanges m d
stable m d not_not a touched =
    elim (cases_lt a m.first) [
      | inl before ↦ absurd (not_not (λ h. let at = h a touched in omega (arith, at.0)))
      | inr from ↦ elim (cases_lt a (m.first + length m.bytes)) [
        | inl inside ↦ (omega arith, inside)
        | inr past ↦ absurd (not_not (λ h. let at = h a touched in omega (arith, at.1)))
      ]
    ]

any_default : {A : Type 0} (xs : List A) (i : ℕ) (d e : A) → i < length xs → get_or xs i d ≡ get_or xs i e
any_default [] i d e within = absurd (omega arith)
any_default (x ∷ xs) zero d e within = refl
any_default (x ∷ xs) (suc i) d e within = any_default xs i d e (omega arith)

-- where none of the pieces is the first outside, those before each place are held
held_before : (m : Memory) (ds : List Descriptor) (some : Descriptor) (n : ℕ) → n ≤ length ds → ((i : ℕ) → IsFirstOutside m (map fields ds) i → ⊥)
    → All (HoldsRanges m) (map fields (take n ds))
held_before m ds some zero within none = All-nil (HoldsRanges m)
held_before m ds some (suc n) within none =
    let before = held_before m ds some n (omega arith) none in
    let inside : n < length ds = omega arith in
    let is : get_or ds n some ≡ get_or ds n (get_or ds n some) = any_default ds n some (get_or ds n some) inside in
    let held = stable m (fields (get_or ds n some)) (λ out. none n (list_first fields m ds n (get_or ds n some) inside before is out)) in
    subst (λ (k : ℕ). All (HoldsRanges m) (map fields (take k ds))) (add-one n) (list_more fields m ds n (get_or ds n some) inside before is held)

-- so none of them is outside
pub none_outside : (m : Memory) (ds : List Descriptor) → ((i : ℕ) → IsFirstOutside m (map fields ds) i → ⊥) → All (HoldsRanges m) (map fields ds)
none_outside m [] none = All-nil (HoldsRanges m)
none_outside m (d ∷ ds) none = list_all fields m (d ∷ ds) (length (d ∷ ds)) (omega arith) (held_before m (d ∷ ds) d (length (d ∷ ds)) (omega arith) none)
