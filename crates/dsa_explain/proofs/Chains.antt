-- Chains of waits are no longer than the groups are many.
use Rattle.std.proofs.Common.{◌≡◌, ℕ, zero, suc, ◌+◌, ◌≤◌, Bool, true, false, cond, List, [], ◌∷◌, ◌++◌, get_or, length, ap, ◌∙◌, arith}
use Rattle.std.specs.Prelude.{codes}
use Rattle.std.proofs.lemmas.List.{length-append}
use Rattle.dsa_tracker.specs.declared.slots.Slots.{Slots}
use Rattle.dsa_explain.specs.Waits.{chains_of, has_group, longest, longest_in, saved_words, set_at, waits_lines, waits_words}

abbrev pub AreWithin : List ℕ → ℕ → Type 0
AreWithin chains most = (k : ℕ) → get_or chains k 0 ≤ most

one_more : (chains : List ℕ) (chain most : ℕ) → AreWithin chains most → chain ≤ most → AreWithin (chains ++ chain ∷ []) most
one_more [] chain most within last zero = last
one_more [] chain most within last (suc k) = omega arith
one_more (x ∷ xs) chain most within last zero = within 0
one_more (x ∷ xs) chain most within last (suc k) = one_more xs chain most (λ j. within (suc j)) last k

chosen : (b : Bool) (n most : ℕ) → n ≤ most → cond b n 0 ≤ most
chosen true n most le = le
chosen false n most le = omega arith

pub longest_in_within : (slots : List ℕ) (set : Slots) (chains : List ℕ) (most : ℕ) → AreWithin chains most → (count : ℕ) → longest_in slots set chains count ≤ most
longest_in_within slots set chains most within zero = omega arith
longest_in_within slots set chains most within (suc count) =
    let before = longest_in_within slots set chains most within count in
    let here = chosen (has_group slots set count) (get_or chains count 0) most (within count) in
    omega (arith, before, here)

pub one_within : (slots : List ℕ) (set : Slots) (chains : List ℕ) (most count n : ℕ) → AreWithin chains most → n ≡ longest_in slots set chains count → n ≤ most
one_within slots set chains most count n within is = let le = longest_in_within slots set chains most within count in omega (arith, le, is)

pub longest_within : (chains : List ℕ) (most : ℕ) → AreWithin chains most → (count : ℕ) → longest chains count ≤ most
longest_within chains most within zero = omega arith
longest_within chains most within (suc count) =
    let before = longest_within chains most within count in
    let here = within count in
    omega (arith, before, here)

pub chains_within : (slots : List ℕ) (sets : List Slots) (count : ℕ) → AreWithin (chains_of slots sets count) count
chains_within slots sets zero = λ k. omega arith
chains_within slots sets (suc count) =
    let before = chains_within slots sets count in
    one_more (chains_of slots sets count) (longest_in slots (set_at sets count) (chains_of slots sets count) count + 1) (suc count)
    (λ k. let le = before k in omega (arith, le))
    (let le = longest_in_within slots (set_at sets count) (chains_of slots sets count) count before count in omega (arith, le))

pub chains_count : (slots : List ℕ) (sets : List Slots) (count : ℕ) → length (chains_of slots sets count) ≡ count
chains_count slots sets zero = omega arith
chains_count slots sets (suc count) =
    let before = chains_count slots sets count in
    omega (arith, before, length-append (chains_of slots sets count) ((longest_in slots (set_at sets count) (chains_of slots sets count) count + 1) ∷ []))

-- the whole text
pub whole_text :
    (slots : List ℕ) (sets : List Slots) (chains mid new line : List ℕ) (groups chain : ℕ) → chains ≡ chains_of slots sets (length sets) → chain ≡ longest chains (length chains) → groups ≡ length sets →
    line ≡ saved_words groups chain → mid ≡ waits_lines slots sets (length sets) → new ≡ mid ++ (line ++ codes "\n") → new ≡ waits_words slots sets
whole_text slots sets chains mid new line groups chain chains_are chain_is groups_are line_is mid_is new_is =
    let count : length chains ≡ length sets = ap length chains_are ∙ chains_count slots sets (length sets) in
    new_is ∙ (λ i. mid_is i ++ ((line_is ∙ (λ j. saved_words (groups_are j) ((chain_is ∙ (λ h. longest (chains_are h) (count h))) j))) i ++ codes "\n"))
