-- A word of digits at the head of a text, byte by byte.
use Rattle.std.proofs.Common.{ℕ, ◌≡◌, ◌+◌, ◌<◌, ◌≤◌, ◌∷◌, List, Bool, true, false, length, drop, get_or, refl, sym, ap, ◌∙◌}
use Rattle.std.proofs.lemmas.List.{drop_all, drop_more}
use Rattle.std.specs.Prelude.{◌||◌, ◌&&◌, ◌==◌, if◌then◌else◌}
use Rattle.dsa_forms.specs.Forms.{is_gap, is_digit, is_word_of_digits}

next : (b seen : Bool) (c : ℕ) (cs : List ℕ) → is_digit c ≡ b
    → is_word_of_digits seen (c ∷ cs) ≡ (if b then is_word_of_digits true cs else seen && (is_gap c || c == 58))
unfolding is_word_of_digits
next b seen c cs e = rw e refl

begun_at : (b seen : Bool) (text : List ℕ) (i c : ℕ) → i < length text → c ≡ get_or text i 0 → is_digit c ≡ b
    → is_word_of_digits seen (drop i text) ≡ is_word_of_digits false text
    → (if b then is_word_of_digits true (drop (i + 1) text) else seen && (is_gap c || c == 58)) ≡ is_word_of_digits false text
begun_at b seen text i c lt is e so_far =
    let here : drop i text ≡ c ∷ drop (i + 1) text = drop_more text i 0 lt ∙ ap (λ (z : ℕ). z ∷ drop (i + 1) text) (sym is) in
    sym (next b seen c (drop (i + 1) text) e) ∙ (ap (is_word_of_digits seen) (sym here) ∙ so_far)

pub begun_end : (seen : Bool) (text : List ℕ) (i : ℕ) → length text ≤ i
    → is_word_of_digits seen (drop i text) ≡ is_word_of_digits false text → seen ≡ is_word_of_digits false text
unfolding is_word_of_digits
begun_end seen text i le so_far = sym (ap (is_word_of_digits seen) (drop_all i text le)) ∙ so_far

-- ---- what the code answers after digits

gap_then : (s b n : Bool) → s ≡ true → b ≡ true → b ≡ (s && (b || n))
gap_then true true n e f = refl
gap_then true false n e f = absurd cc
gap_then false b n e f = absurd cc

colon_then : (s b n : Bool) → s ≡ true → b ≡ false → n ≡ (s && (b || n))
colon_then true false n e f = refl
colon_then true true n e f = absurd cc
colon_then false b n e f = absurd cc

unseen_then : (s x : Bool) → s ≡ false → s ≡ (s && x)
unseen_then false x e = refl
unseen_then true x e = absurd cc

pub begun_more : (seen : Bool) (text : List ℕ) (i c : ℕ) → i < length text → c ≡ get_or text i 0 → is_digit c ≡ true
    → is_word_of_digits seen (drop i text) ≡ is_word_of_digits false text
    → is_word_of_digits true (drop (i + 1) text) ≡ is_word_of_digits false text
begun_more seen text i c lt is e so_far = begun_at true seen text i c lt is e so_far

pub begun_gap : (seen : Bool) (text : List ℕ) (i c : ℕ) → i < length text → c ≡ get_or text i 0 → is_digit c ≡ false
    → is_word_of_digits seen (drop i text) ≡ is_word_of_digits false text → seen ≡ true → is_gap c ≡ true
    → is_gap c ≡ is_word_of_digits false text
begun_gap seen text i c lt is e so_far s b = gap_then seen (is_gap c) (c == 58) s b ∙ begun_at false seen text i c lt is e so_far

pub begun_colon : (seen : Bool) (text : List ℕ) (i c : ℕ) → i < length text → c ≡ get_or text i 0 → is_digit c ≡ false
    → is_word_of_digits seen (drop i text) ≡ is_word_of_digits false text → seen ≡ true → is_gap c ≡ false
    → (c == 58) ≡ is_word_of_digits false text
begun_colon seen text i c lt is e so_far s b = colon_then seen (is_gap c) (c == 58) s b ∙ begun_at false seen text i c lt is e so_far

pub begun_none : (seen : Bool) (text : List ℕ) (i c : ℕ) → i < length text → c ≡ get_or text i 0 → is_digit c ≡ false
    → is_word_of_digits seen (drop i text) ≡ is_word_of_digits false text → seen ≡ false → seen ≡ is_word_of_digits false text
begun_none seen text i c lt is e so_far s = unseen_then seen (is_gap c || c == 58) s ∙ begun_at false seen text i c lt is e so_far
