-- What is written of a portal or a staging area is read again.
use Rattle.std.proofs.Common.{◌≡◌, ℕ, zero, suc, ◌+◌, ◌*◌, ◌/◌, ◌%◌, ◌^◌, ◌<◌, ◌≤◌, Bool, true, false, cond, Some, List, [], ◌∷◌, ◌++◌, refl, ap, ◌∙◌, append_assoc, length, arith}
use Rattle.std.specs.Prelude.{codes, decimal, map, not, nat_lt, replicate, ◌==◌, ◌&&◌}
use Rattle.std.specs.Fmt.{digit_glyph, digits, digits_onto}
use Rattle.std.specs.List.{AllByRecursion, AllZip}
use Rattle.std.specs.Str.{bytes_eq}
use Rattle.std.proofs.Math.Nat.{mod-lt}
use Rattle.std.proofs.lemmas.Bool.{ne_eqb}
use Rattle.dsa_descriptor.specs.Lists.{entries}
use Rattle.dsa_operations.specs.OperationFields.{OperationFields, AreListedFields, operation_fields}
use Rattle.dsa_operations.specs.declared.operation.Operation.{Operation}
use Rattle.dsa_operations.proofs.Same.{listed_of}
use Rattle.dsa_lines.specs.Words.{Word, goes_on, words_in, words_of}
use Rattle.dsa_lines.specs.Numbers.{hex}
use Rattle.dsa_lines.specs.Grammar.{greatest, fields_of}
use Rattle.dsa_lines.specs.Recordings.{batch_at}
use Rattle.dsa_lines.specs.Text.{line_text}
use Rattle.dsa_lines.specs.Texts.{lines_of, line_fields, all_fields, TextSpells}
use Rattle.dsa_lines.specs.Portals.{Submission, IsKnown, Submits, IsPortal, batch_words, submission_text, portal_text}
use Rattle.dsa_lines.specs.Portals.Submission.{Batch, Lone, Other}
use Rattle.dsa_lines.specs.Stagings.{StagedPiece, IsPlausible, IsRecord, IsStaging, piece_text, entries_text, record_place, record_text, records_text, written_text, staging_text}
use Rattle.dsa_lines.specs.Stagings.StagedEntry.{Piece}
use Rattle.dsa_lines.specs.ReadAgain.{lone_fields}
use Rattle.dsa_lines.proofs.WordLemmas.{blank_then, both, word_then}
use Rattle.dsa_lines.proofs.LineLemmas.{is_line, line_append}
use Rattle.dsa_lines.proofs.RoundTrip.{decimal_at, hex_at, line_spells}
use Rattle.dsa_lines.proofs.TextLemmas.{line_first, spelt_line}
use Rattle.dsa_lines.proofs.PortalLemmas.{batch_read, submission_line}
use Rattle.dsa_lines.proofs.StagingTexts.{fenced_line, written_line}

-- ---- lines

-- a line before others
pub line_before : (line rest : List ℕ) (here more : List OperationFields) → is_line line ≡ true → line_fields (words_of line) ≡ Some here → all_fields (lines_of rest) ≡ Some more
    → all_fields (lines_of ((line ++ 10 ∷ []) ++ rest)) ≡ Some (here ++ more)
unfolding all_fields
line_before line rest here more is e f =
    ap (λ (t : List ℕ). all_fields (lines_of t)) (append_assoc line (10 ∷ []) rest)
    ∙ ap all_fields (line_first line rest is)
    ∙ rw (e, f) refl

pub nothing : all_fields (lines_of []) ≡ Some []
unfolding lines_of all_fields words_in line_fields
nothing = refl

-- the line of a batch names no operation
pub batch_again : (c l r : ℕ) → c < 2 ^ 32 → l < 2 ^ 64 → r < 2 ^ 64
    → batch_at (codes "of" ∷ decimal c ∷ codes "at" ∷ hex l ∷ codes "," ∷ codes "record" ∷ hex r ∷ []) ≡ Some (record { count = c; list_at = l; record_at = r })
unfolding batch_at
batch_again c l r a b d =
    rw (
      decimal_at c (greatest 32) (codes "at" ∷ hex l ∷ codes "," ∷ codes "record" ∷ hex r ∷ []) (omega arith) (omega arith),
      hex_at l (greatest 64) (codes "," ∷ codes "record" ∷ hex r ∷ []) b (omega arith),
      hex_at r (greatest 64) [] d (omega arith),
    ) refl

batch_none : (c l r : ℕ) → c < 2 ^ 32 → l < 2 ^ 64 → r < 2 ^ 64 → line_fields (batch_words c l r) ≡ Some []
unfolding line_fields
batch_none c l r a b d = rw (batch_again c l r a b d) refl

-- what the line of an entry of a portal names
submission_read : (bytes : List ℕ) (s : Submission) → Submits bytes s → IsKnown s → line_fields (words_of (submission_text s)) ≡ Some (lone_fields (s ∷ []))
submission_read bytes (Batch c l r) p known =
    ap line_fields (batch_read c l r (omega (arith, p.count_fits)) p.list_fits p.record_fits) ∙ batch_none c l r p.count_fits p.list_fits p.record_fits
submission_read bytes (Lone d) p known = spelt_line (words_of (line_text (operation_fields d))) (operation_fields d) (line_spells (operation_fields d) (listed_of d))
submission_read bytes (Other b f) p known = absurd known

lone_more : (s : Submission) (ss : List Submission) → lone_fields (s ∷ []) ++ lone_fields ss ≡ lone_fields (s ∷ ss)
lone_more (Batch c l r) ss = refl
lone_more (Lone d) ss = refl
lone_more (Other b f) ss = refl

portal_read : (es : List (List ℕ)) (ss : List Submission) → AllZip Submits es ss → AllByRecursion IsKnown ss → TextSpells (portal_text ss) (lone_fields ss)
unfolding portal_text
portal_read [] [] p known = nothing
portal_read [] (s ∷ ss) p known = absurd p
portal_read (e ∷ es) [] p known = absurd p
portal_read (e ∷ es) (s ∷ ss) p known =
    line_before (submission_text s) (portal_text ss) (lone_fields (s ∷ [])) (lone_fields ss) (submission_line e s p.0) (submission_read e s p.0 known.0) (portal_read es ss p.1 known.1)
    ∙ ap Some (lone_more s ss)

pub portal_is_read : (bytes : List ℕ) (ss : List Submission) → IsPortal bytes ss → AllByRecursion IsKnown ss → TextSpells (portal_text ss) (lone_fields ss)
portal_is_read bytes ss p known = portal_read (entries bytes) ss p.each known

-- ---- the line of a piece

pub fence_front : (line : List ℕ) → words_of (codes "fence " ++ line) ≡ codes "fence" ∷ words_of line
fence_front line = word_then 102 (codes "ence") (32 ∷ line) refl refl refl ∙ ap (λ (ws : List Word). codes "fence" ∷ ws) (blank_then line)

fence_read : (words : List Word) (f : OperationFields) → fields_of words ≡ Some f → line_fields (codes "fence" ∷ words) ≡ Some (f ∷ [])
unfolding line_fields
fence_read words f e = rw e refl

piece_read : (fence : Bool) (d : Operation) → line_fields (words_of (cond fence (codes "fence ") [] ++ line_text (operation_fields d))) ≡ Some (operation_fields d ∷ [])
piece_read true d = ap line_fields (fence_front (line_text (operation_fields d))) ∙ fence_read (words_of (line_text (operation_fields d))) (operation_fields d) (line_spells (operation_fields d) (listed_of d))
piece_read false d = spelt_line (words_of (line_text (operation_fields d))) (operation_fields d) (line_spells (operation_fields d) (listed_of d))

pieces_read : (ps : List StagedPiece) (rest : List ℕ) → all_fields (lines_of rest) ≡ Some [] → all_fields (lines_of (entries_text (map Piece ps) ++ rest)) ≡ Some (map (λ p. operation_fields p.piece) ps)
unfolding entries_text
pieces_read [] rest e = e
pieces_read (p ∷ ps) rest e =
    ap (λ (t : List ℕ). all_fields (lines_of t)) (append_assoc (piece_text p ++ 10 ∷ []) (entries_text (map Piece ps)) rest)
    ∙ line_before (piece_text p) (entries_text (map Piece ps) ++ rest) (operation_fields p.piece ∷ []) (map (λ q. operation_fields q.piece) ps) (fenced_line p.fence p.piece) (piece_read p.fence p.piece) (pieces_read ps rest e)

-- ---- lines of digits

glyph_by : (b : Bool) (d : ℕ) → d < 16 → cond b (48 + d) (87 + d) ≡ 10 → ⊥
glyph_by true d lt e = absurd (omega arith)
glyph_by false d lt e = absurd (omega arith)

glyph_line : (d : ℕ) (acc : List ℕ) → d < 16 → is_line acc ≡ true → is_line (digit_glyph false d ∷ acc) ≡ true
glyph_line d acc lt e = rw (ne_eqb (digit_glyph false d) 10 (glyph_by (nat_lt d 10) d lt), e) refl

digits_by : (b : Bool) (x y : List ℕ) → is_line x ≡ true → is_line y ≡ true → is_line (cond b x y) ≡ true
digits_by true x y p q = p
digits_by false x y p q = q

digits_line_onto : (k base n : ℕ) (acc : List ℕ) → 0 < base → base ≤ 16 → is_line acc ≡ true → is_line (digits_onto k base false n acc) ≡ true
digits_line_onto zero base n acc some le e = e
digits_line_onto (suc k) base n acc some le e =
    let lt : n % base < 16 = omega (arith, mod-lt n some) in
    let here : is_line (digit_glyph false (n % base) ∷ acc) ≡ true = glyph_line (n % base) acc lt e in
    digits_by (n / base == 0) (digit_glyph false (n % base) ∷ acc) (digits_onto k base false (n / base) (digit_glyph false (n % base) ∷ acc)) here
    (digits_line_onto k base (n / base) (digit_glyph false (n % base) ∷ acc) some le here)

pub digits_line : (base n : ℕ) → 0 < base → base ≤ 16 → is_line (digits base false n) ≡ true
unfolding digits
digits_line base n some le = digits_line_onto 64 base n [] some le refl

-- ---- a line that is a comment

comment_by : (b : Bool) (c : ℕ) (cs : List ℕ) → (c == 10) ≡ b → (not (c == 10) && is_line cs) ≡ true → words_in true cs ≡ [] → words_in true (c ∷ cs) ≡ []
unfolding words_in
comment_by true c cs k h so_far = let no : false ≡ true = rw k at h in cc
comment_by false c cs k h so_far = rw k so_far

-- it has no words
pub comment : (text : List ℕ) → is_line text ≡ true → words_in true text ≡ []
unfolding words_in
comment [] e = refl
comment (c ∷ cs) e = comment_by (c == 10) c cs refl e (comment cs (both (not (c == 10)) (is_line cs) e).1)

pub comment_read : (text : List ℕ) → is_line text ≡ true → line_fields (words_of (35 ∷ text)) ≡ Some []
unfolding words_in line_fields
comment_read text e = rw (comment text e) refl

-- ---- a comment after a line

goes_on_same : (line text : List ℕ) → goes_on (line ++ (32 ∷ text)) ≡ goes_on line
goes_on_same [] text = refl
goes_on_same (c ∷ cs) text = refl

-- it adds no words, whether the line begins in a comment or not
comment_after_in : (comments : Bool) (line text : List ℕ) → words_in true text ≡ [] → words_in comments (line ++ (32 ∷ 35 ∷ text)) ≡ words_in comments line
unfolding words_in
comment_after_in true [] text e = e
comment_after_in false [] text e = e
comment_after_in true (c ∷ cs) text e = rw (comment_after_in true cs text e, comment_after_in false cs text e) refl
comment_after_in false (c ∷ cs) text e =
    rw (comment_after_in true cs text e, comment_after_in false cs text e, goes_on_same cs (35 ∷ text)) refl

pub comment_after : (line text : List ℕ) → is_line text ≡ true → words_of (line ++ (32 ∷ 35 ∷ text)) ≡ words_of line
comment_after line text e = comment_after_in false line text (comment text e)

-- a canonical line with a comment after it spells its fields
pub commented_read : (f : OperationFields) (text : List ℕ) → AreListedFields f → is_line text ≡ true → line_fields (words_of (line_text f ++ (32 ∷ 35 ∷ text))) ≡ Some (f ∷ [])
commented_read f text listed e = ap line_fields (comment_after (line_text f) text e) ∙ spelt_line (words_of (line_text f)) f (line_spells f listed)

-- ---- the lines of records

place_line : (batch address : ℕ) → is_line (record_place batch address) ≡ true
place_line batch address =
    line_append (codes "record ") (decimal batch ++ (codes " at " ++ hex address)) refl
    (line_append (decimal batch) (codes " at " ++ hex address) (digits_line 10 batch (omega arith) (omega arith))
    (line_append (codes " at 0x") (digits 16 false address) refl (digits_line 16 address (omega arith) (omega arith))))

-- what comes after `#`
abbrev pub comment_text : ℕ → ℕ → List ℕ → List ℕ
comment_text batch address r = codes " " ++ (record_place batch address ++ written_text r)

pub comment_line : (batch address : ℕ) (r : List ℕ) → IsRecord r → is_line (comment_text batch address r) ≡ true
comment_line batch address r h = line_append (record_place batch address) (written_text r) (place_line batch address) (written_line (bytes_eq r (replicate 32 0)) r h)

pub record_is : (batch address : ℕ) (r : List ℕ) → IsPlausible r → record_text batch address r ≡ 35 ∷ comment_text batch address r
record_is batch address r plausible = rw plausible refl

records_read : (batch address : ℕ) (rs : List (List ℕ)) → AllByRecursion IsRecord rs → AllByRecursion IsPlausible rs → all_fields (lines_of (records_text batch address rs)) ≡ Some []
unfolding records_text
records_read batch address [] all can = nothing
records_read batch address (r ∷ rs) all can =
    let text : List ℕ = comment_text batch address r in
    let rest : List ℕ = records_text (batch + 1) (address + 32) rs in
    let is : is_line text ≡ true = comment_line batch address r all.0 in
    ap (λ (line : List ℕ). all_fields (lines_of ((line ++ 10 ∷ []) ++ rest))) (record_is batch address r can.0)
    ∙ line_before (35 ∷ text) rest [] [] is (comment_read text is) (records_read (batch + 1) (address + 32) rs all.1 can.1)

pub staging_is_read : (at : ℕ) (bytes : List ℕ) (ps : List StagedPiece) (rs : List (List ℕ)) → IsStaging bytes (map Piece ps) rs → AllByRecursion IsPlausible rs
    → TextSpells (staging_text at (map Piece ps) rs) (map (λ p. operation_fields p.piece) ps)
staging_is_read at bytes ps rs h can =
    let first : ℕ = at + 64 * length (map Piece ps) in
    pieces_read ps (records_text 0 first rs) (records_read 0 first rs h.each_record can)
