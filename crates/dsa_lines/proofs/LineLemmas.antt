-- No canonical line holds a newline.
use Rattle.std.proofs.Common.{◌≡◌, ℕ, Bool, true, false, cond, List, [], ◌∷◌, ◌++◌, length, refl, arith}
use Rattle.std.specs.Prelude.{not, ◌==◌, ◌&&◌}
use Rattle.std.proofs.lemmas.Bool.{ne_eqb, eqb-true}
use Rattle.dsa_operations.specs.OperationFields.{OperationFields, AreListedFields}
use Rattle.dsa_lines.specs.Words.{Word, is_in_word}
use Rattle.dsa_lines.specs.Text.{spaced, tail_text, text_of, line_words, line_text}
use Rattle.dsa_lines.proofs.WordLemmas.{all_in, is_word, both, AreWords}
use Rattle.dsa_lines.proofs.RoundTrip.{line_words_are}

-- no byte is a newline
abbrev pub is_line : List ℕ → Bool
is_line [] = true
is_line (c ∷ cs) = not (c == 10) && is_line cs

pub line_append : (a b : List ℕ) → is_line a ≡ true → is_line b ≡ true → is_line (a ++ b) ≡ true
line_append [] b p q = q
line_append (c ∷ cs) b p q = let e = both (not (c == 10)) (is_line cs) p in rw (e.0, line_append cs b e.1 q) refl

word_byte_plain : (c : ℕ) → is_in_word c ≡ true → (c == 10) ≡ false
word_byte_plain c e = ne_eqb c 10 (λ k. let no : is_in_word 10 ≡ true = rw k at e in cc)

pub plain_line : (w : List ℕ) → all_in w ≡ true → is_line w ≡ true
plain_line [] e = refl
plain_line (c ∷ cs) e = let p = both (is_in_word c) (all_in cs) e in rw (word_byte_plain c p.0, plain_line cs p.1) refl

by_comma : (b : Bool) (c : ℕ) (cs : List ℕ) → (c == 44) ≡ b → cond b (length cs == 0) (is_in_word c && all_in cs) ≡ true → is_line (c ∷ cs) ≡ true
by_comma true c [] e w = let k : c ≡ 44 = eqb-true _ _ e in rw k refl
by_comma true c (d ∷ ds) e w = absurd (let f : length (d ∷ ds) ≡ 0 = eqb-true _ _ w in omega arith)
by_comma false c cs e w = plain_line (c ∷ cs) w

pub word_line : (w : Word) → is_word w ≡ true → is_line w ≡ true
word_line [] e = refl
word_line (c ∷ cs) e = by_comma (c == 44) c cs refl e

spaced_line : (w : Word) → is_line w ≡ true → is_line (spaced w) ≡ true
spaced_line [] e = refl
spaced_line (c ∷ cs) e = by (c == 44) c cs e
  where
    by : (b : Bool) (c : ℕ) (cs : List ℕ) → is_line (c ∷ cs) ≡ true → is_line (cond b (c ∷ cs) (32 ∷ c ∷ cs)) ≡ true
    by true c cs e = e
    by false c cs e = e

tail_line : (ws : List Word) → AreWords ws → is_line (tail_text ws) ≡ true
tail_line [] all = refl
tail_line (w ∷ ws) all = line_append (spaced w) (tail_text ws) (spaced_line w (word_line w all.0)) (tail_line ws all.1)

pub words_line : (ws : List Word) → AreWords ws → is_line (text_of ws) ≡ true
words_line [] all = refl
words_line (w ∷ ws) all = line_append w (tail_text ws) (word_line w all.0) (tail_line ws all.1)

pub canonical_is_line : (f : OperationFields) → AreListedFields f → is_line (line_text f) ≡ true
unfolding line_text
canonical_is_line f listed = words_line (line_words f) (line_words_are f listed)
