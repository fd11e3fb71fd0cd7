-- The operations that a text spells are known by their bytes.
use Rattle.std.proofs.Common.{◌≡◌, ℕ, Bool, true, false, Option, List, [], ◌∷◌, ◌++◌, length, Some, None, refl, sym, ap, subst, ◌∙◌, length-append, arith}
use Rattle.std.specs.Prelude.{codes, map, option_and_then, if◌then◌else◌}
use Rattle.std.specs.Str.{bytes_eq}
use Rattle.std.specs.List.{AllByRecursion, flat_map}
use Rattle.std.proofs.lemmas.List.Folds.{flat_map-map}
use Rattle.std.proofs.lemmas.Option.{same_Some}
use Rattle.dsa_operations.specs.declared.operation.Operation.{Operation}
use Rattle.dsa_operations.specs.OperationFields.{OperationFields, all_spelled, fields_spelling, operation_fields}
use Rattle.dsa_operations.specs.Operations.{spelling_of}
use Rattle.dsa_operations.proofs.Same.{long_fields, operation_fits, operation_plain, same_fields}
use Rattle.dsa_lines.specs.Words.{Word, words_of}
use Rattle.dsa_lines.specs.Grammar.{fields_of, ◌>>=◌}
use Rattle.dsa_lines.specs.Recordings.{at_end, batch_at}
use Rattle.dsa_lines.proofs.OneLine.{AreOfLine, words_spelt}
use Rattle.dsa_lines.specs.Texts.{all_fields, line_fields, lines_of, with_fields, TextSpells}

-- ---- the operations of lines fit their places

pub bound : {A B : Type 0} (o : Option A) (f : A → Option B) (y : B) → option_and_then f o ≡ Some y → (x : A) × (o ≡ Some x) × (f x ≡ Some y)
bound None f y e = absurd cc
bound (Some x) f y e = (x, refl, e)

pub more_fields : (here fs : List OperationFields) (rest : Option (List OperationFields)) → with_fields here rest ≡ Some fs → (more : List OperationFields) × (rest ≡ Some more) × (here ++ more ≡ fs)
more_fields here fs None e = absurd cc
more_fields here fs (Some more) e = (more, refl, same_Some (here ++ more) fs e)

all_append : (fs gs : List OperationFields) → AllByRecursion AreOfLine fs → AllByRecursion AreOfLine gs → AllByRecursion AreOfLine (fs ++ gs)
all_append [] gs p q = q
all_append (f ∷ fs) gs p q = (p.0, all_append fs gs p.1 q)

fields_fit : (words : List Word) (here : List OperationFields) → (fields_of words >>= λ f. Some (f ∷ [])) ≡ Some here → AllByRecursion AreOfLine here
fields_fit words here e =
    let f = bound (fields_of words) _ here e in
    subst (AllByRecursion AreOfLine) (same_Some (f.0 ∷ []) here f.2) (words_spelt words f.0 f.1, tt)

no_fields_fit : (ws : List Word) (here : List OperationFields) → at_end [] ws ≡ Some here → AllByRecursion AreOfLine here
no_fields_fit [] here e = subst (AllByRecursion AreOfLine) (same_Some [] here e) tt
no_fields_fit (w ∷ ws) here e = absurd cc

line_fits_by : (batch barrier fence : Bool) (w : Word) (ws : List Word) (here : List OperationFields)
    → (if batch then (batch_at ws >>= λ b. Some []) else if barrier then at_end [] ws else if fence then (fields_of ws >>= λ f. Some (f ∷ [])) else (fields_of (w ∷ ws) >>= λ f. Some (f ∷ []))) ≡ Some here
    → AllByRecursion AreOfLine here
line_fits_by true barrier fence w ws here e =
    let b = bound (batch_at ws) _ here e in
    subst (AllByRecursion AreOfLine) (same_Some [] here b.2) tt
line_fits_by false true fence w ws here e = no_fields_fit ws here e
line_fits_by false false true w ws here e = fields_fit ws here e
line_fits_by false false false w ws here e = fields_fit (w ∷ ws) here e

line_fits : (words : List Word) (here : List OperationFields) → line_fields words ≡ Some here → AllByRecursion AreOfLine here
unfolding line_fields
line_fits [] here e = subst (AllByRecursion AreOfLine) (same_Some [] here e) tt
line_fits (w ∷ ws) here e = line_fits_by (bytes_eq w (codes "batch")) (bytes_eq w (codes "barrier")) (bytes_eq w (codes "fence")) w ws here e

lines_fit : (lines : List (List ℕ)) (fs : List OperationFields) → all_fields lines ≡ Some fs → AllByRecursion AreOfLine fs
unfolding all_fields
lines_fit [] fs e = subst (AllByRecursion AreOfLine) (same_Some [] fs e) tt
lines_fit (line ∷ lines) fs e =
    let here = bound (line_fields (words_of line)) _ fs e in
    let more = more_fields here.0 fs (all_fields lines) here.2 in
    subst (AllByRecursion AreOfLine) more.2 (all_append here.0 more.0 (line_fits (words_of line) here.0 here.1) (lines_fit lines more.0 more.1))

-- so do those of operations
all_of_line : (os : List Operation) → AllByRecursion AreOfLine (map operation_fields os)
all_of_line [] = tt
all_of_line (o ∷ os) = ((operation_fits o, operation_plain o), all_of_line os)

-- ---- lists of one spelling

pub front : (a b c d : List ℕ) → length a ≡ length c → a ++ b ≡ c ++ d → (a ≡ c) × (b ≡ d)
front [] b [] d n e = (refl, e)
front [] b (y ∷ ys) d n e = absurd (omega arith)
front (x ∷ xs) b [] d n e = absurd (omega arith)
front (x ∷ xs) b (y ∷ ys) d n e =
    let same : x ≡ y = cc in
    let tails : xs ++ b ≡ ys ++ d = cc in
    let rest = front xs b ys d (omega arith) tails in
    (let xs_are : xs ≡ ys = rest.0 in cc, rest.1)

one_list : (fs gs : List OperationFields) → AllByRecursion AreOfLine fs → AllByRecursion AreOfLine gs → all_spelled fs ≡ all_spelled gs → fs ≡ gs
one_list [] [] p q e = refl
one_list [] (g ∷ gs) p q e = absurd (omega (arith, ap length e, length-append (fields_spelling g) (all_spelled gs), long_fields g q.0.0))
one_list (f ∷ fs) [] p q e = absurd (omega (arith, ap length e, length-append (fields_spelling f) (all_spelled fs), long_fields f p.0.0))
one_list (f ∷ fs) (g ∷ gs) p q e =
    let parts = front (fields_spelling f) (all_spelled fs) (fields_spelling g) (all_spelled gs) (long_fields f p.0.0 ∙ sym (long_fields g q.0.0)) e in
    let same : f ≡ g = same_fields f g p.0.0 q.0.0 parts.0 in
    let rest : fs ≡ gs = one_list fs gs p.1 q.1 parts.1 in
    cc

-- texts that spell fields of the same bytes spell the same fields
pub same_bytes : (text other : List ℕ) (fs gs : List OperationFields) → TextSpells text fs → TextSpells other gs → all_spelled fs ≡ all_spelled gs → fs ≡ gs
same_bytes text other fs gs e p same = one_list fs gs (lines_fit (lines_of text) fs e) (lines_fit (lines_of other) gs p) same

-- the bytes of operations, by their fields
pub spelled_is : (os : List Operation) → all_spelled (map operation_fields os) ≡ flat_map spelling_of os
spelled_is os = flat_map-map fields_spelling operation_fields os

pub spelled_list : (lines : List (List ℕ)) (fs : List OperationFields) (os : List Operation) → all_fields lines ≡ Some fs → all_spelled fs ≡ flat_map spelling_of os → fs ≡ map operation_fields os
spelled_list lines fs os e same = one_list fs (map operation_fields os) (lines_fit lines fs e) (all_of_line os) (same ∙ sym (spelled_is os))

-- the list that a text spells, where that of its bytes can be read
pub spells_list : (text : List ℕ) (fs : List OperationFields) (os : List Operation) → TextSpells text fs → all_spelled fs ≡ flat_map spelling_of os → fs ≡ map operation_fields os
spells_list text fs os e same = spelled_list (lines_of text) fs os e same

-- lines whose bytes are those of operations spell these
pub spelled_now : (lines : List (List ℕ)) (bytes : List ℕ) (fs : List OperationFields) (os : List Operation) → all_fields lines ≡ Some fs → bytes ≡ all_spelled fs
    → bytes ≡ flat_map spelling_of os → all_fields lines ≡ Some (map operation_fields os)
spelled_now lines bytes fs os e here found = e ∙ ap Some (spelled_list lines fs os e (sym here ∙ found))
