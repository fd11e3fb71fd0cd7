-- The words of a text, from its front.
use Rattle.std.proofs.Common.{◌≡◌, ℕ, ◌<◌, Bool, true, false, cond, List, [], ◌∷◌, ◌++◌, length, get_or, take, drop, refl, ap, ◌∙◌, arith, rules}
use Rattle.std.proofs.lemmas.Bool.{eqb-true}
use Rattle.std.specs.Prelude.{not, ◌||◌, ◌==◌}
use Rattle.std.specs.Prelude.{◌&&◌}
use Rattle.std.specs.List.{AllByRecursion}
use Rattle.std.specs.Str.{bytes_eq}
use Rattle.dsa_lines.specs.Text.{tail_text, text_of}
use Rattle.dsa_lines.specs.Words.{Word, is_blank, is_in_word, begins_blank, goes_on, with_front, words_in, words_of, word_len}

none_of : (b k n h : Bool) → not (b || k || n || h) ≡ true → (b ≡ false) × (k ≡ false) × (n ≡ false) × (h ≡ false)
none_of true k n h e = absurd cc
none_of false true n h e = absurd cc
none_of false false true h e = absurd cc
none_of false false false true e = absurd cc
none_of false false false false e = (refl, refl, refl, refl)

-- a byte of a word comes first
pub word_byte : (c : ℕ) (cs : List ℕ) → is_in_word c ≡ true → words_of (c ∷ cs) ≡ cond (goes_on cs) (with_front c (words_of cs)) ((c ∷ []) ∷ words_of cs)
unfolding words_in
word_byte c cs e =
    let n = none_of (is_blank c) (c == 44) (c == 10) (c == 35) e in
    rw (n.0, n.1, n.2, n.3) refl

abbrev pub Front : List ℕ → Type 0
Front text = words_of text ≡ take (word_len text) text ∷ words_of (drop (word_len text) text)

word_further : (b : Bool) (c d : ℕ) (ds : List ℕ) → is_in_word c ≡ true → is_in_word d ≡ b → (0 < word_len (d ∷ ds) → Front (d ∷ ds))
    → words_of (c ∷ d ∷ ds) ≡ (c ∷ take (word_len (d ∷ ds)) (d ∷ ds)) ∷ words_of (drop (word_len (d ∷ ds)) (d ∷ ds))
word_further true c d ds e f front =
    let positive : 0 < word_len (d ∷ ds) = rw f (omega arith) in
    word_byte c (d ∷ ds) e ∙ rw f (ap (with_front c) (rw f at (front positive)))
word_further false c d ds e f front = word_byte c (d ∷ ds) e ∙ rw f refl

at_front : (b : Bool) (c : ℕ) (cs : List ℕ) → is_in_word c ≡ b → 0 < word_len (c ∷ cs)
    → (is_in_word c ≡ true → words_of (c ∷ cs) ≡ (c ∷ take (word_len cs) cs) ∷ words_of (drop (word_len cs) cs)) → Front (c ∷ cs)
at_front true c cs e lt step = rw e (step e)
at_front false c cs e lt step = absurd (let none : 0 < 0 = rw e at lt in omega arith)

-- the word at the front, and the words after it
pub word_front : (text : List ℕ) → 0 < word_len text → Front text
word_front [] lt = absurd (omega arith)
word_front (c ∷ []) lt = at_front (is_in_word c) c [] refl lt (λ e. word_byte c [] e)
word_front (c ∷ d ∷ ds) lt = at_front (is_in_word c) c (d ∷ ds) refl lt (λ e. word_further (is_in_word d) c d ds e refl (word_front (d ∷ ds)))

-- ---- what comes first

pub none_here : (text : List ℕ) → length text ≡ 0 → words_of text ≡ []
unfolding words_in
none_here [] e = refl
none_here (c ∷ cs) e = absurd (omega arith)

pub comment_here : (text : List ℕ) → 0 < length text → get_or text 0 0 ≡ 35 → words_of text ≡ words_in true text
unfolding words_in
comment_here [] lt e = absurd (omega arith)
comment_here (c ∷ cs) lt e = rw e refl

pub comma_here : (text : List ℕ) → 0 < length text → get_or text 0 0 ≡ 44 → words_of text ≡ take 1 text ∷ words_of (drop 1 text)
unfolding words_in
comma_here [] lt e = absurd (omega arith)
comma_here (c ∷ cs) lt e = rw e refl

pub newline_here : (text : List ℕ) → 0 < length text → get_or text 0 0 ≡ 10 → words_of text ≡ take 1 text ∷ words_of (drop 1 text)
unfolding words_in
newline_here [] lt e = absurd (omega arith)
newline_here (c ∷ cs) lt e = rw e refl

-- if no blank, comma, newline or comment comes first, a word does
pub word_here : (text : List ℕ) → 0 < length text → begins_blank text ≡ false → (get_or text 0 0 == 44) ≡ false → (get_or text 0 0 == 10) ≡ false → (get_or text 0 0 == 35) ≡ false
    → Front text
word_here [] lt e f n g = absurd (omega arith)
word_here (c ∷ cs) lt e f n g =
    let inside : is_in_word c ≡ true = rw (e, f, n, g) refl in
    let positive : 0 < word_len (c ∷ cs) = rw inside (omega arith) in
    word_front (c ∷ cs) positive

-- ---- tests

pub eqb-false-of : (a b : ℕ) → (a ≡ b → ⊥) → (a == b) ≡ false
eqb-false-of a b ne = search rules

pub is_empty_len : (text : List ℕ) → (length text == 0) ≡ true → length text ≡ 0
is_empty_len text e = eqb-true _ _ e

pub not_empty_len : (text : List ℕ) → (length text == 0) ≡ false → 0 < length text
not_empty_len [] e = absurd cc
not_empty_len (c ∷ cs) e = omega arith

-- ---- the words of a text that is made of words

abbrev pub all_in : List ℕ → Bool
all_in [] = true
all_in (c ∷ cs) = is_in_word c && all_in cs

-- a comma, or bytes of a word
abbrev pub is_word : Word → Bool
is_word [] = false
is_word (c ∷ cs) = cond (c == 44) (length cs == 0) (is_in_word c && all_in cs)

abbrev pub AreWords : List Word → Type 0
AreWords ws = AllByRecursion (λ w. is_word w ≡ true) ws

pub both : (b d : Bool) → (b && d) ≡ true → (b ≡ true) × (d ≡ true)
both true d e = (refl, e)
both false d e = absurd cc

-- words of the same bytes are the same
pub same_word : (w word : Word) → bytes_eq w word ≡ true → w ≡ word
same_word [] [] e = refl
same_word [] (d ∷ ds) e = absurd cc
same_word (c ∷ cs) [] e = absurd cc
same_word (c ∷ cs) (d ∷ ds) e =
    let parts = both (c == d) (bytes_eq cs ds) e in
    let first : c ≡ d = eqb-true c d parts.0 in
    let rest : cs ≡ ds = same_word cs ds parts.1 in cc

-- a word ends where its bytes do
pub word_then : (c : ℕ) (cs rest : List ℕ) → is_in_word c ≡ true → all_in cs ≡ true → goes_on rest ≡ false → words_of (c ∷ (cs ++ rest)) ≡ (c ∷ cs) ∷ words_of rest
word_then c [] rest e all ends = word_byte c rest e ∙ rw ends refl
word_then c (d ∷ ds) rest e all ends =
    let p = both (is_in_word d) (all_in ds) all in
    word_byte c (d ∷ (ds ++ rest)) e ∙ rw p.0 (ap (with_front c) (word_then d ds rest p.0 p.1 ends))

tail_ends : (ws : List Word) → AreWords ws → goes_on (tail_text ws) ≡ false
tail_ends [] all = refl
tail_ends ([] ∷ ws) all = absurd (let e : false ≡ true = all.0 in cc)
tail_ends ((c ∷ cs) ∷ ws) all = ends_at (c == 44) c cs ws refl
  where
    ends_at : (b : Bool) (c : ℕ) (cs : List ℕ) (ws : List Word) → (c == 44) ≡ b → goes_on (tail_text ((c ∷ cs) ∷ ws)) ≡ false
    ends_at true c cs ws e = let k : c ≡ 44 = eqb-true _ _ e in rw k refl
    ends_at false c cs ws e = rw e refl

comma_then : (rest : List ℕ) → words_of (44 ∷ rest) ≡ (44 ∷ []) ∷ words_of rest
unfolding words_in
comma_then rest = refl

pub blank_then : (rest : List ℕ) → words_of (32 ∷ rest) ≡ words_of rest
unfolding words_in
blank_then rest = refl

not_chosen : (b x y : Bool) → b ≡ false → cond b x y ≡ true → y ≡ true
not_chosen true x y e h = absurd cc
not_chosen false x y e h = h

chosen : (b x y : Bool) → b ≡ true → cond b x y ≡ true → x ≡ true
chosen true x y e h = h
chosen false x y e h = absurd cc

one_more : (b : Bool) (c : ℕ) (cs : List ℕ) (ws : List Word) → (c == 44) ≡ b → is_word (c ∷ cs) ≡ true → AreWords ws → words_of (tail_text ws) ≡ ws
    → words_of (tail_text ((c ∷ cs) ∷ ws)) ≡ (c ∷ cs) ∷ ws
one_more true c [] ws e w all so_far = let k : c ≡ 44 = eqb-true _ _ e in rw k (comma_then (tail_text ws) ∙ ap (λ (v : List Word). (44 ∷ []) ∷ v) so_far)
one_more true c (d ∷ ds) ws e w all so_far = absurd (let f : length (d ∷ ds) ≡ 0 = eqb-true _ _ (chosen (c == 44) (length (d ∷ ds) == 0) (is_in_word c && all_in (d ∷ ds)) e w) in omega arith)
one_more false c cs ws e w all so_far =
    let plain : (is_in_word c && all_in cs) ≡ true = not_chosen (c == 44) (length cs == 0) (is_in_word c && all_in cs) e w in
    let p = both (is_in_word c) (all_in cs) plain in
    rw e (blank_then (c ∷ (cs ++ tail_text ws)) ∙ word_then c cs (tail_text ws) p.0 p.1 (tail_ends ws all) ∙ ap (λ (v : List Word). (c ∷ cs) ∷ v) so_far)

tail_words : (ws : List Word) → AreWords ws → words_of (tail_text ws) ≡ ws
unfolding words_in
tail_words [] all = refl
tail_words ([] ∷ ws) all = absurd (let e : false ≡ true = all.0 in cc)
tail_words ((c ∷ cs) ∷ ws) all = one_more (c == 44) c cs ws refl all.0 all.1 (tail_words ws all.1)

-- the words of a text that begins with a plain word
pub text_words : (c : ℕ) (cs : List ℕ) (ws : List Word) → (is_in_word c && all_in cs) ≡ true → AreWords ws → words_of (text_of ((c ∷ cs) ∷ ws)) ≡ (c ∷ cs) ∷ ws
text_words c cs ws plain all =
    let p = both (is_in_word c) (all_in cs) plain in
    word_then c cs (tail_text ws) p.0 p.1 (tail_ends ws all) ∙ ap (λ (v : List Word). (c ∷ cs) ∷ v) (tail_words ws all)
