-- The lines of a text, and the operations of its lines.
use Rattle.std.proofs.Common.{◌≡◌, ℕ, suc, ◌+◌, ◌-◌, ◌<◌, ◌≤◌, Bool, true, false, Option, Some, None, List, [], ◌∷◌, ◌++◌, length, take, drop, refl, sym, ap, ◌∙◌, append_assoc, arith}
use Rattle.std.specs.Prelude.{codes, not, ◌==◌, ◌&&◌}
use Rattle.std.specs.Str.{bytes_eq}
use Rattle.std.proofs.Math.Seq.{take-length}
use Rattle.std.proofs.lemmas.List.{append-nil, length-drop, length-take-le}
use Rattle.dsa_operations.specs.OperationFields.{OperationFields, all_spelled, fields_spelling}
use Rattle.dsa_lines.specs.Words.{Word, words_of}
use Rattle.dsa_lines.specs.Grammar.{op_at, fields_of, ◌>>=◌}
use Rattle.dsa_lines.proofs.WordLemmas.{both, same_word}
use Rattle.dsa_lines.specs.Texts.{with_byte, lines_of, line_fields, with_fields, all_fields, before, lines_after}
use Rattle.dsa_lines.specs.TextLists.{LeavesGrammarAt}
use Rattle.dsa_lines.proofs.LineLemmas.{is_line}

-- ---- lines

len_by : (b : Bool) (c : ℕ) (cs : List ℕ) → (c == 10) ≡ b
    → lines_of cs ≡ take (before 10 cs) cs ∷ lines_after (drop (before 10 cs) cs)
    → lines_of (c ∷ cs) ≡ take (before 10 (c ∷ cs)) (c ∷ cs) ∷ lines_after (drop (before 10 (c ∷ cs)) (c ∷ cs))
unfolding lines_of
len_by true c cs e so_far = rw e refl
len_by false c cs e so_far = rw e (ap (with_byte c) so_far)

-- the first line, and those after its newline
pub lines_at : (text : List ℕ) → lines_of text ≡ take (before 10 text) text ∷ lines_after (drop (before 10 text) text)
unfolding lines_of
lines_at [] = refl
lines_at (c ∷ cs) = len_by (c == 10) c cs refl (lines_at cs)

line_by : (b : Bool) (c : ℕ) (cs rest : List ℕ) → (c == 10) ≡ b → (not (c == 10) && is_line cs) ≡ true
    → lines_of (cs ++ (10 ∷ rest)) ≡ cs ∷ lines_of rest → lines_of (c ∷ (cs ++ (10 ∷ rest))) ≡ (c ∷ cs) ∷ lines_of rest
unfolding lines_of
line_by true c cs rest e p so_far = let no : false ≡ true = rw e at p in absurd cc
line_by false c cs rest e p so_far = rw e (ap (with_byte c) so_far)

-- a line and a newline come first
pub line_first : (line rest : List ℕ) → is_line line ≡ true → lines_of (line ++ (10 ∷ rest)) ≡ line ∷ lines_of rest
unfolding lines_of
line_first [] rest e = refl
line_first (c ∷ cs) rest e = line_by (c == 10) c cs rest refl e (line_first cs rest (both (not (c == 10)) (is_line cs) e).1)

-- ---- operations

-- an operation does not begin with another word
pub batch_spells_none : (w : Word) (ws : List Word) (f : OperationFields) → w ≡ codes "batch" → fields_of (w ∷ ws) ≡ Some f → ⊥
unfolding fields_of op_at
batch_spells_none w ws f same e = let no : None ≡ Some f = rw same at e in absurd cc

pub fence_spells_none : (w : Word) (ws : List Word) (f : OperationFields) → w ≡ codes "fence" → fields_of (w ∷ ws) ≡ Some f → ⊥
unfolding fields_of op_at
fence_spells_none w ws f same e = let no : None ≡ Some f = rw same at e in absurd cc

pub barrier_spells_none : (w : Word) (ws : List Word) (f : OperationFields) → w ≡ codes "barrier" → fields_of (w ∷ ws) ≡ Some f → ⊥
unfolding fields_of op_at
barrier_spells_none w ws f same e = let no : None ≡ Some f = rw same at e in absurd cc

line_by_word : (batch barrier fence : Bool) (w : Word) (ws : List Word) (f : OperationFields) → bytes_eq w (codes "batch") ≡ batch → bytes_eq w (codes "barrier") ≡ barrier
    → bytes_eq w (codes "fence") ≡ fence → fields_of (w ∷ ws) ≡ Some f → line_fields (w ∷ ws) ≡ Some (f ∷ [])
unfolding line_fields
line_by_word true barrier fence w ws f p b q e = absurd (batch_spells_none w ws f (same_word w (codes "batch") p) e)
line_by_word false true fence w ws f p b q e = absurd (barrier_spells_none w ws f (same_word w (codes "barrier") b) e)
line_by_word false false true w ws f p b q e = absurd (fence_spells_none w ws f (same_word w (codes "fence") q) e)
line_by_word false false false w ws f p b q e = rw (p, b, q, e) refl

pub spelt_line : (words : List Word) (f : OperationFields) → fields_of words ≡ Some f → line_fields words ≡ Some (f ∷ [])
unfolding fields_of op_at
spelt_line [] f e = absurd cc
spelt_line (w ∷ ws) f e = line_by_word (bytes_eq w (codes "batch")) (bytes_eq w (codes "barrier")) (bytes_eq w (codes "fence")) w ws f refl refl refl e

-- ---- for the loops

pub spelling_append : (fs gs : List OperationFields) → all_spelled (fs ++ gs) ≡ all_spelled fs ++ all_spelled gs
spelling_append [] gs = refl
spelling_append (f ∷ fs) gs = rw (spelling_append fs gs) (sym (append_assoc (fields_spelling f) (all_spelled fs) (all_spelled gs)))

with_none : (o : Option (List OperationFields)) → o ≡ with_fields [] o
with_none None = refl
with_none (Some more) = refl

with_more : (fs gs : List OperationFields) (o : Option (List OperationFields)) → with_fields fs (with_fields gs o) ≡ with_fields (fs ++ gs) o
with_more fs gs None = refl
with_more fs gs (Some more) = ap Some (sym (append_assoc fs gs more))

fields_then : (here first rest : Option (List OperationFields))
    → (here >>= λ h. with_fields h (first >>= λ f. with_fields f rest)) ≡ ((here >>= λ h. with_fields h first) >>= λ f. with_fields f rest)
fields_then None first rest = refl
fields_then (Some h) None rest = refl
fields_then (Some h) (Some f) rest = with_more h f rest

-- the operations of lines after others
fields_append : (lines more : List (List ℕ)) → all_fields (lines ++ more) ≡ (all_fields lines >>= λ fs. with_fields fs (all_fields more))
unfolding all_fields
fields_append [] more = with_none (all_fields more)
fields_append (line ∷ lines) more =
    ap (λ (o : Option (List OperationFields)). line_fields (words_of line) >>= λ h. with_fields h o) (fields_append lines more)
    ∙ fields_then (line_fields (words_of line)) (all_fields lines) (all_fields more)

one_line : (line : List ℕ) (here : List OperationFields) → line_fields (words_of line) ≡ Some here → all_fields (line ∷ []) ≡ Some here
unfolding all_fields
one_line line here e = ap (λ (o : Option (List OperationFields)). o >>= λ h. with_fields h (Some [])) e ∙ ap Some (append-nil here)

no_line : (line : List ℕ) (after : List (List ℕ)) → line_fields (words_of line) ≡ None → all_fields (line ∷ after) ≡ None
unfolding all_fields
no_line line after e = ap (λ (o : Option (List OperationFields)). o >>= λ h. with_fields h (all_fields after)) e

-- one line more
pub fields_more : (before : List (List ℕ)) (line : List ℕ) (done here : List OperationFields) → all_fields before ≡ Some done → line_fields (words_of line) ≡ Some here
    → all_fields (before ++ line ∷ []) ≡ Some (done ++ here)
fields_more before line done here e f =
    fields_append before (line ∷ [])
    ∙ ap (λ (o : Option (List OperationFields)). o >>= λ fs. with_fields fs (all_fields (line ∷ []))) e
    ∙ ap (with_fields done) (one_line line here f)

-- lines of which one leaves the grammar spell no operations
pub leaves_none : (lines : List (List ℕ)) (number : ℕ) → LeavesGrammarAt lines number → all_fields lines ≡ None
leaves_none lines number leaves =
    ap all_fields leaves.lines_are
    ∙ fields_append leaves.before (leaves.line ∷ leaves.after)
    ∙ ap (λ (o : Option (List OperationFields)). o >>= λ fs. with_fields fs (all_fields (leaves.line ∷ leaves.after))) leaves.spelled.1
    ∙ ap (with_fields leaves.spelled.0) (no_line leaves.line leaves.after leaves.outside)

after_newline : (back : List ℕ) → 1 ≤ length back → lines_after back ≡ lines_of (take (length back - 1) (drop 1 back))
after_newline [] lt = absurd (omega arith)
after_newline (c ∷ cs) lt = ap lines_of (sym (whole cs))
  where
    whole : (xs : List ℕ) → take (suc (length xs) - 1) xs ≡ xs
    whole xs = let e : suc (length xs) - 1 ≡ length xs = omega arith in rw e (take-length xs)

-- the first line, as it was split off
pub first_line : (rest line back : List ℕ) (n : ℕ) → n ≡ before 10 rest → line ≡ take n rest → back ≡ drop n rest → lines_of rest ≡ line ∷ lines_after back
first_line rest line back n e f g =
    lines_at rest
    ∙ rw (← e) (ap (λ (l : List ℕ). l ∷ lines_after (drop n rest)) (sym f) ∙ ap (λ (b : List ℕ). line ∷ lines_after b) (sym g))

pub no_fields : all_fields [] ≡ Some []
unfolding all_fields
no_fields = refl

-- the line before a newline, and the lines after it
pub more_lines : (rest line back : List ℕ) (n : ℕ) → n ≡ before 10 rest → line ≡ take n rest → back ≡ drop n rest → 1 ≤ length back
    → lines_of rest ≡ line ∷ lines_of (take (length back - 1) (drop 1 back))
more_lines rest line back n e f g lt = first_line rest line back n e f g ∙ ap (λ (ls : List (List ℕ)). line ∷ ls) (after_newline back lt)

-- what comes after a newline is shorter than the whole text
pub next_shorter : (rest back : List ℕ) (n : ℕ) → back ≡ drop n rest → 1 ≤ length back → length (take (length back - 1) (drop 1 back)) + 1 ≤ length rest
next_shorter rest back n e lt =
    let here : length back ≡ length rest - n = ap length e ∙ length-drop n rest in
    omega (arith, here, length-take-le (length back - 1) (drop 1 back) (omega (arith, length-drop 1 back)))

no_lines : (back : List ℕ) → length back < 1 → lines_after back ≡ []
no_lines [] lt = refl
no_lines (c ∷ cs) lt = absurd (omega arith)

-- the last line
pub last_line : (rest line back : List ℕ) (n : ℕ) → n ≡ before 10 rest → line ≡ take n rest → back ≡ drop n rest → length back < 1
    → lines_of rest ≡ line ∷ []
last_line rest line back n e f g lt = first_line rest line back n e f g ∙ ap (λ (ls : List (List ℕ)). line ∷ ls) (no_lines back lt)
