-- The bytes of one piece, fenced or not, and the owner that they tell.
use Rattle.std.proofs.Common.{ℕ, ◌≡◌, ◌+◌, ◌-◌, ◌/◌, ◌%◌, ◌^◌, ◌<◌, ◌≤◌, inl, inr, Bool, true, false, eqb, List, [], ◌∷◌, length, take, get_or, set, refl, sym, ap, ◌∙◌, bit_or, arith}
use Rattle.std.proofs.lemmas.Bool.{eqb-true, eqb-false, cases_lt}
use Rattle.std.proofs.lemmas.List.{set-set, set-get_or, length-set, get_or-set_same, get_or-set_other}
use Rattle.dsa_descriptor.specs.declared.descriptor.Descriptor.{Descriptor}
use Rattle.dsa_descriptor.specs.Descriptors.{fields}
use Rattle.dsa_descriptor.specs.Fences.{fenced, is_fenced, unfenced, with_fence}
use Rattle.dsa_descriptor.specs.Lists.{AreEntries, AgreeOnOwner}
use Rattle.dsa_descriptor.specs.Places.{u32_at}
use Rattle.dsa_descriptor.specs.Spelling.{spelling}
use Rattle.dsa_descriptor.proofs.Fenced.{or_one, fenced_alike, fenced_is, unfenced_fenced, length-fenced}
use Rattle.dsa_descriptor.proofs.Listed.{are_entries}
use Rattle.dsa_ranges.specs.Pieces.{Kind, descriptors}
use Rattle.dsa_emission.specs.EmissionFaults.{owner_at, Spells}

-- ---- the owner

owner_is : (bytes : List ℕ) → 4 ≤ length bytes → owner_at bytes ≡ take 4 bytes
owner_is [] long = absurd (omega arith)
owner_is (_ ∷ []) long = absurd (omega arith)
owner_is (_ ∷ _ ∷ []) long = absurd (omega arith)
owner_is (_ ∷ _ ∷ _ ∷ []) long = absurd (omega arith)
owner_is (_ ∷ _ ∷ _ ∷ _ ∷ _) long = refl

kept : (bytes : List ℕ) (n : ℕ) → owner_at (set bytes 4 n) ≡ owner_at bytes
kept bytes n i =
    get_or-set_other bytes 4 0 n 0 (λ e. absurd (omega arith)) i ∷ get_or-set_other bytes 4 1 n 0 (λ e. absurd (omega arith)) i
    ∷ get_or-set_other bytes 4 2 n 0 (λ e. absurd (omega arith)) i ∷ get_or-set_other bytes 4 3 n 0 (λ e. absurd (omega arith)) i ∷ []

-- the word of PASID and privilege is in the first four bytes
word_kept : (bytes : List ℕ) → 4 ≤ length bytes → u32_at 0 (take 4 bytes) ≡ u32_at 0 bytes
unfolding u32_at
word_kept [] long = absurd (omega arith)
word_kept (_ ∷ []) long = absurd (omega arith)
word_kept (_ ∷ _ ∷ []) long = absurd (omega arith)
word_kept (_ ∷ _ ∷ _ ∷ []) long = absurd (omega arith)
word_kept (_ ∷ _ ∷ _ ∷ _ ∷ _) long = refl

-- ---- pieces of a kind

module _ (P : Type 0) (kind : Kind P) (are : AreEntries kind.spelling kind.keeps) where
  -- without a fence
  pub no_fence_by : (p : P) → get_or (kind.spelling p) 4 0 % 2 ≡ 0
  no_fence_by p = are.plain (kind.spelling p) (are.kept p)

  -- the bytes of a piece tell its fence, and the piece
  pub told_by : (bytes : List ℕ) (fence : Bool) (p : P) → bytes ≡ fenced fence (kind.spelling p) → (is_fenced bytes ≡ fence) × Spells kind bytes p
  told_by bytes fence p e = (
    ap is_fenced e ∙ fenced_is (kind.spelling p) (are.whole p) (no_fence_by p) fence,
    ap unfenced e ∙ unfenced_fenced (kind.spelling p) (are.whole p) (no_fence_by p) fence,
  )

  pub length-fenced_by : (fence : Bool) (p : P) → length (fenced fence (kind.spelling p)) ≡ 64
  length-fenced_by fence p = length-fenced (kind.spelling p) (are.whole p) (no_fence_by p) fence

  -- a piece and its fence are known by their bytes
  pub one_fenced_by : (p q : P) (a b : Bool) → fenced a (kind.spelling p) ≡ fenced b (kind.spelling q) → (a ≡ b) × (p ≡ q)
  one_fenced_by p q a b same =
      let left = told_by (fenced a (kind.spelling p)) a p refl in
      let right = told_by (fenced a (kind.spelling p)) b q same in
      (sym left.0 ∙ right.0, are.one p q (sym left.1 ∙ right.1))

  length-piece : (bytes : List ℕ) (p : P) → Spells kind bytes p → length bytes ≡ 64
  length-piece bytes p spelt = sym (length-set bytes 4 (get_or bytes 4 0 - get_or bytes 4 0 % 2)) ∙ ap length spelt ∙ are.whole p

  -- and back
  pub refenced_by : (bytes : List ℕ) (fence : Bool) (p : P) → fence ≡ is_fenced bytes → Spells kind bytes p → bytes ≡ fenced fence (kind.spelling p)
  refenced_by bytes false p is spelt =
      let other : get_or bytes 4 0 % 2 ≡ 1 → ⊥ = eqb-false (get_or bytes 4 0 % 2) 1 (sym is) in
      let even : get_or bytes 4 0 % 2 ≡ 0 = elim (cases_lt 0 (get_or bytes 4 0 % 2)) [ inl more ↦ absurd (other (omega arith)) | inr none ↦ omega arith ] in
      let same : get_or bytes 4 0 - get_or bytes 4 0 % 2 ≡ get_or bytes 4 0 = omega arith in
      sym (set-get_or bytes 4 0) ∙ ap (λ (n : ℕ). set bytes 4 n) (sym same) ∙ spelt
  refenced_by bytes true p is spelt =
      let odd : get_or bytes 4 0 % 2 ≡ 1 = eqb-true (get_or bytes 4 0 % 2) 1 (sym is) in
      let long : 4 < length bytes = omega (arith, length-piece bytes p spelt) in
      let made : set bytes 4 (get_or bytes 4 0 - 1) ≡ kind.spelling p = ap (λ (n : ℕ). set bytes 4 (get_or bytes 4 0 - n)) (sym odd) ∙ spelt in
      let there : get_or (kind.spelling p) 4 0 ≡ get_or bytes 4 0 - 1 = ap (λ (l : List ℕ). get_or l 4 0) (sym made) ∙ get_or-set_same bytes 4 (get_or bytes 4 0 - 1) 0 long in
      let again : get_or bytes 4 0 - 1 + 1 ≡ get_or bytes 4 0 = omega arith in
      let back : bit_or (get_or (kind.spelling p) 4 0) 1 ≡ get_or bytes 4 0 =
      ap (λ (n : ℕ). bit_or n 1) there ∙ or_one (get_or bytes 4 0 - 1) (omega arith) ∙ again in
      sym (set-get_or bytes 4 0) ∙ sym (set-set bytes 4 (get_or bytes 4 0 - 1) (get_or bytes 4 0)) ∙ ap (λ (l : List ℕ). set l 4 (get_or bytes 4 0)) made
      ∙ ap (λ (n : ℕ). set (kind.spelling p) 4 n) (sym back)

  -- an unfenced piece is its spelling
  pub plain_by : (bytes : List ℕ) (p : P) → is_fenced bytes ≡ false → Spells kind bytes p → bytes ≡ kind.spelling p
  plain_by bytes p none spelt = refenced_by bytes false p (sym none) spelt

  -- the bytes of the first piece tell the owner
  pub owner_by : (bytes : List ℕ) (p : P) → Spells kind bytes p → owner_at bytes ≡ take 4 (kind.spelling p)
  owner_by bytes p spelt =
      sym (kept bytes (get_or bytes 4 0 - get_or bytes 4 0 % 2)) ∙ ap owner_at spelt ∙ owner_is (kind.spelling p) (omega (arith, are.whole p))

  -- which is that of each piece with the same PASID and privilege
  pub owned_by : (bytes : List ℕ) (p q : P) → Spells kind bytes p → AgreeOnOwner (kind.spelling p) (kind.spelling q) → AgreeOnOwner (owner_at bytes) (kind.spelling q)
  owned_by bytes p q spelt agree =
      let word : u32_at 0 (owner_at bytes) ≡ u32_at 0 (kind.spelling p) = ap (u32_at 0) (owner_by bytes p spelt) ∙ word_kept (kind.spelling p) (omega (arith, are.whole p)) in
      (ap (λ (n : ℕ). n % 2 ^ 20) word ∙ agree.0, ap (λ (n : ℕ). eqb (n / 2 ^ 31) 1) word ∙ agree.1)

-- ---- pieces that are descriptors

pub told_piece : (bytes : List ℕ) (fence : Bool) (d : Descriptor) → bytes ≡ spelling (with_fence fence (fields d)) → (is_fenced bytes ≡ fence) × Spells descriptors bytes d
told_piece bytes fence d e = told_by Descriptor descriptors are_entries bytes fence d (e ∙ sym (fenced_alike d fence))

pub refenced : (bytes : List ℕ) (fence : Bool) (d : Descriptor) → fence ≡ is_fenced bytes → unfenced bytes ≡ spelling (fields d) → bytes ≡ spelling (with_fence fence (fields d))
refenced bytes fence d is spelt = refenced_by Descriptor descriptors are_entries bytes fence d is spelt ∙ fenced_alike d fence
