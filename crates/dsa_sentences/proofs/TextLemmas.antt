-- A sentence with its numbers, byte by byte, and the text of a refusal.
use Rattle.std.proofs.Common.{◌≡◌, ℕ, suc, ◌+◌, ◌-◌, ◌<◌, ◌≤◌, true, false, List, [], ◌∷◌, ◌++◌, length, get_or, take, drop, refl, sym, ap, ◌∙◌, append_assoc, arith}
use Rattle.std.specs.Prelude.{codes, ◌==◌}
use Rattle.std.proofs.Math.Seq.{take-length}
use Rattle.std.proofs.lemmas.Bool.{eqb-true}
use Rattle.std.proofs.lemmas.List.{append-nil}
use Rattle.dsa_sentences.specs.Texts.{filled, filled_byte, longest, longest_byte, with_inner}

whole : (xs : List ℕ) → take (suc (length xs) - 1) xs ≡ xs
whole xs = let e : suc (length xs) - 1 ≡ length xs = omega arith in rw e (take-length xs)

-- the first byte and the rest
pub filled_first : (rest : List ℕ) (first second : ℕ) → 1 ≤ length rest
    → filled rest first second ≡ filled_byte (get_or rest 0 0) first second ++ filled (take (length rest - 1) (drop 1 rest)) first second
unfolding filled
filled_first [] first second lt = absurd (omega arith)
filled_first (c ∷ cs) first second lt = rw (whole cs) refl

pub longest_first : (rest : List ℕ) → 1 ≤ length rest → longest rest ≡ longest_byte (get_or rest 0 0) + longest (take (length rest - 1) (drop 1 rest))
longest_first [] lt = absurd (omega arith)
longest_first (c ∷ cs) lt = rw (whole cs) refl

pub filled_more : (all written new rest : List ℕ) (first second : ℕ) → 1 ≤ length rest → all ≡ written ++ filled rest first second
    → new ≡ written ++ filled_byte (get_or rest 0 0) first second → all ≡ new ++ filled (take (length rest - 1) (drop 1 rest)) first second
filled_more all written new rest first second lt e f =
    let back = filled (take (length rest - 1) (drop 1 rest)) first second in
    e ∙ ap (λ (x : List ℕ). written ++ x) (filled_first rest first second lt)
    ∙ sym (append_assoc written (filled_byte (get_or rest 0 0) first second) back)
    ∙ ap (λ (x : List ℕ). x ++ back) (sym f)

pub filled_all : (all written rest : List ℕ) (first second : ℕ) → length rest < 1 → all ≡ written ++ filled rest first second → written ≡ all
unfolding filled
filled_all all written [] first second lt e = sym (e ∙ append-nil written)
filled_all all written (c ∷ cs) first second lt e = absurd (omega arith)

-- ---- a cause and the one within

filled_append : (a b : List ℕ) (first second : ℕ) → filled (a ++ b) first second ≡ filled a first second ++ filled b first second
unfolding filled
filled_append [] b first second = refl
filled_append (c ∷ cs) b first second =
    ap (λ (x : List ℕ). filled_byte c first second ++ x) (filled_append cs b first second)
    ∙ sym (append_assoc (filled_byte c first second) (filled cs first second) (filled b first second))

pub no_text : (said inner : List ℕ) (first second : ℕ) → length said < 1 → filled (with_inner said inner) first second ≡ []
unfolding filled
no_text [] inner first second lt = refl
no_text (c ∷ cs) inner first second lt = absurd (omega arith)

pub alone : (said inner : List ℕ) (first second : ℕ) → length inner < 1 → filled (with_inner said inner) first second ≡ filled said first second
alone [] inner first second lt = refl
alone (c ∷ cs) [] first second lt = ap (λ (x : List ℕ). filled x first second) (append-nil (c ∷ cs))
alone (c ∷ cs) (d ∷ ds) first second lt = absurd (omega arith)

pub both : (said inner : List ℕ) (first second : ℕ) → 1 ≤ length said → 1 ≤ length inner
    → filled (with_inner said inner) first second ≡ (filled said first second ++ filled (codes ": ") first second) ++ filled inner first second
both [] inner first second some more = absurd (omega arith)
both (c ∷ cs) [] first second some more = absurd (omega arith)
both (c ∷ cs) (d ∷ ds) first second some more =
    filled_append (c ∷ cs) (codes ": " ++ (d ∷ ds)) first second
    ∙ ap (λ (x : List ℕ). filled (c ∷ cs) first second ++ x) (filled_append (codes ": ") (d ∷ ds) first second)
    ∙ sym (append_assoc (filled (c ∷ cs) first second) (filled (codes ": ") first second) (filled (d ∷ ds) first second))

pub some_bytes : (xs : List ℕ) → (length xs == 0) ≡ false → 1 ≤ length xs
some_bytes [] e = absurd cc
some_bytes (c ∷ cs) e = omega arith

pub no_bytes : (xs : List ℕ) → (length xs == 0) ≡ true → length xs < 1
no_bytes xs e = let none : length xs ≡ 0 = eqb-true (length xs) 0 e in omega (arith, none)
