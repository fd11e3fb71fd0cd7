-- The barriers of a text, and the canonical text of a list.
use Rattle.std.proofs.Common.{◌≡◌, ◌≢◌, inl, inr, ℕ, zero, suc, ◌+◌, ◌<◌, Bool, true, false, Some, List, [], ◌∷◌, ◌++◌, length, take, drop, get_or, map, refl, sym, ap, ◌∙◌, append_assoc, length-append, arith}
use Rattle.std.specs.Prelude.{codes, slice_get, if◌then◌else◌}
use Rattle.std.specs.List.{AllByRecursion, list_any}
use Rattle.std.specs.Str.{bytes_eq}
use Rattle.std.proofs.lemmas.List.{append-nil, length-map}
use Rattle.std.proofs.lemmas.Option.{same_Some}
use Rattle.dsa_descriptor.proofs.Marked.{dropped}
use Rattle.dsa_descriptor.proofs.Seen.{barriers_count}
use Rattle.dsa_descriptor.specs.Fences.{after_first, fenced, fenced_entries, set_marks}
use Rattle.dsa_operations.specs.declared.operation.Operation.{Operation as AnyOperation}
use Rattle.dsa_operations.specs.OperationFields.{OperationFields, AreListedFields, operation_fields}
use Rattle.dsa_operations.specs.Operations.{spelling_of}
use Rattle.dsa_lines.specs.Words.{Word, words_in, words_of}
use Rattle.dsa_lines.specs.Grammar.{fields_of, op_at, ◌>>=◌}
use Rattle.dsa_lines.specs.Recordings.{at_end, batch_at}
use Rattle.dsa_lines.specs.Text.{line_text}
use Rattle.dsa_lines.specs.Texts.{all_fields, line_fields, lines_of, text_line, TextSpells}
use Rattle.dsa_lines.specs.Barriers.{barrier_line, barriers_of, LineKind, line_kind, line_marks, list_text, marks_from, pending_after, OneMarkEach, OneMarkedSpelling, CanonicalTextSpells}
use Rattle.dsa_lines.specs.Barriers.LineKind.{Other, Barrier, Fenced, Operation}
use Rattle.dsa_lines.specs.TextLists.{numbered, operation_lines, OneLineEach}
use Rattle.dsa_lines.proofs.WordLemmas.{same_word}
use Rattle.dsa_lines.proofs.FencedOperations.{long_fenced, one_fenced}
use Rattle.dsa_lines.proofs.LineLemmas.{canonical_is_line}
use Rattle.dsa_lines.proofs.OneText.{bound, front, more_fields}
use Rattle.dsa_lines.proofs.ReadAgain.{line_before, nothing}
use Rattle.dsa_lines.proofs.RoundTrip.{line_spells}
use Rattle.dsa_lines.proofs.TextLemmas.{barrier_spells_none, batch_spells_none, fence_spells_none, line_first, spelt_line}

-- ---- the marks of lines, one line after another

pub marks_next : (keep pending : Bool) (line : List ℕ) (lines : List (List ℕ))
    → marks_from keep pending (line ∷ lines) ≡ line_marks keep pending (line_kind (words_of line)) ++ marks_from keep (pending_after pending (line_kind (words_of line))) lines
unfolding marks_from
marks_next keep pending line lines = refl

pub no_marks : (keep pending : Bool) → marks_from keep pending [] ≡ []
unfolding marks_from
no_marks keep pending = refl

-- ---- the text of one operation more

pub text_more : (fs : List OperationFields) (bs : List Bool) (i : ℕ) (f : OperationFields) → slice_get fs i ≡ Some f
    → list_text (take (i + 1) fs) bs ≡ list_text (take i fs) bs ++ (barrier_line (get_or bs i false) ++ text_line f)
unfolding list_text
text_more [] bs i f h = cc
text_more (x ∷ xs) bs zero f h =
    ap (λ (t : List ℕ). barrier_line (get_or bs 0 false) ++ t) (append-nil (text_line x))
    ∙ ap (λ (z : OperationFields). barrier_line (get_or bs 0 false) ++ text_line z) (same_Some x f h)
text_more (x ∷ xs) bs (suc i) f h =
    let next : suc i + 1 ≡ suc (i + 1) = omega arith in
    let barrier : List ℕ = barrier_line (get_or bs 0 false) in
    let rest : List ℕ = list_text (take i xs) (drop 1 bs) in
    let last : List ℕ = barrier_line (get_or (drop 1 bs) i false) ++ text_line f in
    ap (λ (n : ℕ). list_text (take n (x ∷ xs)) bs) next
    ∙ ap (λ (t : List ℕ). barrier ++ (text_line x ++ t)) (text_more xs (drop 1 bs) i f h)
    ∙ ap (λ (t : List ℕ). barrier ++ t) (sym (append_assoc (text_line x) rest last))
    ∙ sym (append_assoc barrier (text_line x ++ rest) last)
    ∙ ap (λ (m : Bool). (barrier ++ (text_line x ++ rest)) ++ (barrier_line m ++ text_line f)) (dropped bs i)

-- the fields of the operation at a place
pub field_at : (os : List AnyOperation) (i : ℕ) (o : AnyOperation) → i < length os → o ≡ get_or os i o → slice_get (map operation_fields os) i ≡ Some (operation_fields o)
field_at [] i o lt is = absurd (omega arith)
field_at (x ∷ xs) zero o lt is = ap (λ (y : AnyOperation). Some (operation_fields y)) (sym is)
field_at (x ∷ xs) (suc i) o lt is = field_at xs i o (omega arith) is

pub none_written : (bs : List Bool) → list_text [] bs ≡ []
unfolding list_text
none_written bs = refl

-- ---- a mark for each operation

no_fields : (ws : List Word) (here : List OperationFields) → at_end [] ws ≡ Some here → 0 ≡ length here
no_fields [] here e = ap length (same_Some [] here e)
no_fields (w ∷ ws) here e = absurd cc

one_field : (ws : List Word) (here : List OperationFields) → (fields_of ws >>= λ f. Some (f ∷ [])) ≡ Some here → 1 ≡ length here
one_field ws here e =
    let f = bound (fields_of ws) _ here e in
    ap length (same_Some (f.0 ∷ []) here f.2)

count_by : (batch barrier fence keep pending : Bool) (w : Word) (ws : List Word) (here : List OperationFields)
    → (if batch then (batch_at ws >>= λ b. Some []) else if barrier then at_end [] ws else if fence then (fields_of ws >>= λ f. Some (f ∷ [])) else (fields_of (w ∷ ws) >>= λ f. Some (f ∷ []))) ≡ Some here
    → length (line_marks keep pending (if batch then Other else if barrier then Barrier else if fence then Fenced else Operation)) ≡ length here
count_by true barrier fence keep pending w ws here e =
    let b = bound (batch_at ws) _ here e in
    ap length (same_Some [] here b.2)
count_by false true fence keep pending w ws here e = no_fields ws here e
count_by false false true keep pending w ws here e = one_field ws here e
count_by false false false keep pending w ws here e = one_field (w ∷ ws) here e

line_count : (keep pending : Bool) (words : List Word) (here : List OperationFields) → line_fields words ≡ Some here → length (line_marks keep pending (line_kind words)) ≡ length here
unfolding line_fields line_kind
line_count keep pending [] here e = ap length (same_Some [] here e)
line_count keep pending (w ∷ ws) here e =
    count_by (bytes_eq w (codes "batch")) (bytes_eq w (codes "barrier")) (bytes_eq w (codes "fence")) keep pending w ws here e

lines_count : (keep pending : Bool) (lines : List (List ℕ)) (fs : List OperationFields) → all_fields lines ≡ Some fs → length (marks_from keep pending lines) ≡ length fs
unfolding all_fields marks_from
lines_count keep pending [] fs e = ap length (same_Some [] fs e)
lines_count keep pending (line ∷ lines) fs e =
    let here = bound (line_fields (words_of line)) _ fs e in
    let more = more_fields here.0 fs (all_fields lines) here.2 in
    let kind : LineKind = line_kind (words_of line) in
    let first = line_count keep pending (words_of line) here.0 here.1 in
    let rest = lines_count keep (pending_after pending kind) lines more.0 more.1 in
    let both : length fs ≡ length here.0 + length more.0 = ap length (sym more.2) ∙ length-append here.0 more.0 in
    omega (arith, first, rest, both, length-append (line_marks keep pending kind) (marks_from keep (pending_after pending kind) lines))

pub one_mark_each : OneMarkEach
one_mark_each keep text fs e = lines_count keep false (lines_of text) fs e

-- there are as many lines of operations as marks
lines_numbered : (number : ℕ) (pending : Bool) (lines : List (List ℕ)) → length (operation_lines number lines) ≡ length (marks_from false pending lines)
unfolding operation_lines marks_from
lines_numbered number pending [] = refl
lines_numbered number pending (line ∷ lines) =
    let kind : LineKind = line_kind (words_of line) in
    let rest = lines_numbered (number + 1) (pending_after pending kind) lines in
    omega (
      arith,
      marks_alike kind,
      rest,
      length-append (numbered number line kind) (operation_lines (number + 1) lines),
      length-append (line_marks false pending kind) (marks_from false (pending_after pending kind) lines),
    )
  where
    marks_alike : (kind : LineKind) → length (numbered number line kind) ≡ length (line_marks false pending kind)
    marks_alike Other = refl
    marks_alike Barrier = refl
    marks_alike Fenced = refl
    marks_alike Operation = refl

pub one_line_each : OneLineEach
one_line_each text fs e = lines_numbered 1 false (lines_of text) ∙ one_mark_each false text fs e

-- the barriers of a text are none, or there is a mark for each operation
pub marks_count : (keep : Bool) (text : List ℕ) (os : List AnyOperation) (barriers : List Bool) → TextSpells text (map operation_fields os) → barriers ≡ barriers_of keep (lines_of text)
    → barriers ≢ [] → length barriers ≡ length os
marks_count keep text os barriers spelled is =
    barriers_count barriers (marks_from keep false (lines_of text)) (length os) is (one_mark_each keep text (map operation_fields os) spelled ∙ length-map os operation_fields)

-- ---- the canonical text of a list

kind_by : (batch barrier fence : Bool) (w : Word) (ws : List Word) (f : OperationFields) → bytes_eq w (codes "batch") ≡ batch → bytes_eq w (codes "barrier") ≡ barrier
    → bytes_eq w (codes "fence") ≡ fence → fields_of (w ∷ ws) ≡ Some f → line_kind (w ∷ ws) ≡ Operation
unfolding line_kind
kind_by true barrier fence w ws f p b q e = absurd (batch_spells_none w ws f (same_word w (codes "batch") p) e)
kind_by false true fence w ws f p b q e = absurd (barrier_spells_none w ws f (same_word w (codes "barrier") b) e)
kind_by false false true w ws f p b q e = absurd (fence_spells_none w ws f (same_word w (codes "fence") q) e)
kind_by false false false w ws f p b q e = rw (p, b, q) refl

operation_kind : (words : List Word) (f : OperationFields) → fields_of words ≡ Some f → line_kind words ≡ Operation
unfolding fields_of op_at
operation_kind [] f e = absurd cc
operation_kind (w ∷ ws) f e = kind_by (bytes_eq w (codes "batch")) (bytes_eq w (codes "barrier")) (bytes_eq w (codes "fence")) w ws f refl refl refl e

pub barrier_spells : line_fields (words_of (codes "barrier")) ≡ Some []
unfolding words_in line_fields
barrier_spells = refl

barrier_kind : line_kind (words_of (codes "barrier")) ≡ Barrier
unfolding words_in line_kind
barrier_kind = refl

empty_kind : line_kind (words_of []) ≡ Other
unfolding words_in line_kind
empty_kind = refl

no_lines : lines_of [] ≡ [] ∷ []
unfolding lines_of
no_lines = refl

spells_marked : (m : Bool) (rest : List ℕ) (fs : List OperationFields) → TextSpells rest fs → TextSpells (barrier_line m ++ rest) fs
spells_marked false rest fs e = e
spells_marked true rest fs e = line_before (codes "barrier") rest [] fs refl barrier_spells e

marked_spells : (fs : List OperationFields) (marks : List Bool) → AllByRecursion AreListedFields fs → TextSpells (list_text fs marks) fs
unfolding list_text
marked_spells [] marks all = nothing
marked_spells (f ∷ fs) marks all =
    spells_marked (get_or marks 0 false) (text_line f ++ list_text fs (drop 1 marks)) (f ∷ fs)
    (line_before (line_text f) (list_text fs (drop 1 marks)) (f ∷ []) fs (canonical_is_line f all.0)
    (spelt_line (words_of (line_text f)) f (line_spells f all.0)) (marked_spells fs (drop 1 marks) all.1))

-- the mark of an operation whose line is before others
operation_marks : (keep pending : Bool) (f : OperationFields) (rest : List ℕ) → AreListedFields f
    → marks_from keep pending (lines_of (text_line f ++ rest)) ≡ pending ∷ marks_from keep false (lines_of rest)
operation_marks keep pending f rest listed =
    let kind : line_kind (words_of (line_text f)) ≡ Operation = operation_kind (words_of (line_text f)) f (line_spells f listed) in
    ap (λ (t : List ℕ). marks_from keep pending (lines_of t)) (append_assoc (line_text f) (10 ∷ []) rest)
    ∙ ap (marks_from keep pending) (line_first (line_text f) rest (canonical_is_line f listed))
    ∙ marks_next keep pending (line_text f) (lines_of rest)
    ∙ ap (λ (k : LineKind). line_marks keep pending k ++ marks_from keep (pending_after pending k) (lines_of rest)) kind

-- a barrier before it, if it is marked
marked_first : (keep m : Bool) (f : OperationFields) (rest : List ℕ) → AreListedFields f
    → marks_from keep false (lines_of (barrier_line m ++ (text_line f ++ rest))) ≡ m ∷ marks_from keep false (lines_of rest)
marked_first keep false f rest listed = operation_marks keep false f rest listed
marked_first keep true f rest listed =
    ap (marks_from keep false) (line_first (codes "barrier") (text_line f ++ rest) refl)
    ∙ marks_next keep false (codes "barrier") (lines_of (text_line f ++ rest))
    ∙ ap (λ (k : LineKind). line_marks keep false k ++ marks_from keep (pending_after false k) (lines_of (text_line f ++ rest))) barrier_kind
    ∙ operation_marks keep true f rest listed

marks_again : (keep : Bool) (fs : List OperationFields) (marks : List Bool) → AllByRecursion AreListedFields fs → length marks ≡ length fs
    → marks_from keep false (lines_of (list_text fs marks)) ≡ marks
unfolding list_text
marks_again keep [] [] all e =
    ap (marks_from keep false) no_lines ∙ marks_next keep false [] []
    ∙ ap (λ (k : LineKind). line_marks keep false k ++ marks_from keep (pending_after false k) []) empty_kind ∙ no_marks keep false
marks_again keep [] (m ∷ ms) all e = absurd (omega arith)
marks_again keep (f ∷ fs) [] all e = absurd (omega arith)
marks_again keep (f ∷ fs) (m ∷ ms) all e =
    marked_first keep m f (list_text fs ms) all.0 ∙ ap (λ (bs : List Bool). m ∷ bs) (marks_again keep fs ms all.1 (omega arith))

-- with no marks it has none
none_marked : (keep : Bool) (fs : List OperationFields) → AllByRecursion AreListedFields fs → list_any (λ (mark : Bool). mark) (marks_from keep false (lines_of (list_text fs []))) ≡ false
unfolding list_text
none_marked keep [] all =
    ap (list_any (λ (mark : Bool). mark)) (ap (marks_from keep false) no_lines ∙ marks_next keep false [] []
    ∙ ap (λ (k : LineKind). line_marks keep false k ++ marks_from keep (pending_after false k) []) empty_kind ∙ no_marks keep false)
none_marked keep (f ∷ fs) all =
    ap (list_any (λ (mark : Bool). mark)) (marked_first keep false f (list_text fs []) all.0) ∙ none_marked keep fs all.1

none_after : (marks : List Bool) → list_any (λ (mark : Bool). mark) marks ≡ false → set_marks (after_first marks) ≡ []
none_after [] e = refl
none_after (true ∷ marks) e = absurd cc
none_after (false ∷ marks) e = rw e refl

pub canonical_text_spells : CanonicalTextSpells
canonical_text_spells keep fs marks all (inl none) = (
  marked_spells fs marks all,
  rw none (none_after (marks_from keep false (lines_of (list_text fs []))) (none_marked keep fs all)),
)
canonical_text_spells keep fs marks all (inr each) =
    (marked_spells fs marks all, ap (λ (ms : List Bool). set_marks (after_first ms)) (marks_again keep fs marks all each))

-- ---- the bytes of a list with barriers are those of no other

first_of : (o : AnyOperation) (m : Bool) (rest : List ℕ) → fenced m (spelling_of o) ++ rest ≡ [] → ⊥
first_of o m rest e = absurd (omega (arith, ap length e, length-append (fenced m (spelling_of o)) rest, long_fenced o m))

pub one_marked_spelling : OneMarkedSpelling
unfolding fenced_entries
one_marked_spelling [] [] [] [] a b e = (refl, refl)
one_marked_spelling [] [] (m ∷ ms) others a b e = absurd (omega arith)
one_marked_spelling [] [] [] (n ∷ ns) a b e = absurd (omega arith)
one_marked_spelling [] (p ∷ ps) marks others a b e = absurd (first_of p (get_or others 0 false) (fenced_entries spelling_of ps (drop 1 others)) (sym e))
one_marked_spelling (o ∷ os) [] marks others a b e = absurd (first_of o (get_or marks 0 false) (fenced_entries spelling_of os (drop 1 marks)) e)
one_marked_spelling (o ∷ os) (p ∷ ps) [] others a b e = absurd (omega arith)
one_marked_spelling (o ∷ os) (p ∷ ps) (m ∷ ms) [] a b e = absurd (omega arith)
one_marked_spelling (o ∷ os) (p ∷ ps) (m ∷ ms) (n ∷ ns) a b e =
    let parts = front (fenced m (spelling_of o)) (fenced_entries spelling_of os ms) (fenced n (spelling_of p)) (fenced_entries spelling_of ps ns)
    (long_fenced o m ∙ sym (long_fenced p n)) e in
    let here = one_fenced o p m n parts.0 in
    let later = one_marked_spelling os ps ms ns (omega arith) (omega arith) parts.1 in
    let marks : m ≡ n = here.0 in
    let same : o ≡ p = here.1 in
    let others : os ≡ ps = later.0 in
    let rest : ms ≡ ns = later.1 in
    (λ i. same i ∷ others i, λ i. marks i ∷ rest i)
