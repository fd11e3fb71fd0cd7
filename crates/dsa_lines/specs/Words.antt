-- The words of a line.
use Rattle.std.specs.Prelude.{ℕ, Bool, true, false, not, ◌||◌, ◌==◌, suc, List, [], ◌∷◌, if◌then◌else◌}

-- a word is its bytes
abbrev pub Word : Type 0
Word = List ℕ

-- a space, a tab or a carriage return
abbrev pub is_blank : ℕ → Bool
is_blank c = c == 32 || c == 9 || c == 13

-- neither a blank, nor a comma, nor a newline, nor the '#' of a comment
abbrev pub is_in_word : ℕ → Bool
is_in_word c = not (is_blank c || c == 44 || c == 10 || c == 35)

-- the text begins with a blank
abbrev pub begins_blank : List ℕ → Bool
begins_blank [] = false
begins_blank (c ∷ cs) = is_blank c

-- the text begins with a byte of a word
abbrev pub goes_on : List ℕ → Bool
goes_on [] = false
goes_on (c ∷ cs) = is_in_word c

-- the words with a byte before the first of them
abbrev pub with_front : ℕ → List Word → List Word
with_front c [] = (c ∷ []) ∷ []
with_front c (w ∷ ws) = (c ∷ w) ∷ ws

-- the words of a text that begins in a comment, or not: blanks part words, a comma and a newline
-- are words by themselves, and a comment runs to the next newline
unfoldable pub words_in : Bool → List ℕ → List Word
words_in comment [] = []
words_in true (c ∷ cs) = if c == 10 then (10 ∷ []) ∷ words_in false cs else words_in true cs
words_in false (c ∷ cs) =
    if c == 35 then words_in true cs else
    if is_blank c then words_in false cs else
    if c == 44 then (44 ∷ []) ∷ words_in false cs else
    if c == 10 then (10 ∷ []) ∷ words_in false cs else
    if goes_on cs then with_front c (words_in false cs) else
    (c ∷ []) ∷ words_in false cs

-- the words of a line; a text with a newline is no line, since the grammar has no such word
abbrev pub words_of : List ℕ → List Word
words_of text = words_in false text

-- how many bytes the word at the front has
abbrev pub word_len : List ℕ → ℕ
word_len [] = 0
word_len (c ∷ cs) = if is_in_word c then suc (word_len cs) else 0
