-- What is written of a portal or a staging area is read again as a recording.
use Rattle.std.proofs.Common.{◌≡◌, ℕ, ◌+◌, ◌*◌, ◌^◌, ◌<◌, Bool, true, false, cond, Some, List, [], ◌∷◌, ◌++◌, length, refl, ap, ◌∙◌, append_assoc, arith}
use Rattle.std.specs.Prelude.{codes, map}
use Rattle.std.specs.List.{AllByRecursion, AllZip, flat_map}
use Rattle.std.specs.Str.{bytes_eq}
use Rattle.dsa_descriptor.specs.Lists.{entries}
use Rattle.dsa_descriptor.specs.Fences.{fenced}
use Rattle.dsa_operations.specs.OperationFields.{OperationFields, fields_spelling, operation_fields}
use Rattle.dsa_operations.specs.Operations.{spelling_of}
use Rattle.dsa_operations.specs.declared.operation.Operation.{Operation}
use Rattle.dsa_operations.proofs.Same.{listed_of}
use Rattle.dsa_lines.specs.declared.recording.Recorded.{Recorded}
use Rattle.dsa_lines.specs.declared.recording.Recorded.TheVariants.{Batch as BatchSaid, Entry as EntrySaid}
use Rattle.dsa_lines.specs.Words.{Word, words_in, words_of}
use Rattle.dsa_lines.specs.Grammar.{op_at, fields_of}
use Rattle.dsa_lines.specs.Recordings.{recorded_at, line_recorded, all_recorded, recording_bytes, LinesSpell}
use Rattle.dsa_lines.specs.Text.{line_text}
use Rattle.dsa_lines.specs.Texts.{lines_of}
use Rattle.dsa_lines.specs.Portals.{Submission, IsKnown, Submits, IsPortal, batch_words, submission_text, portal_text}
use Rattle.dsa_lines.specs.Portals.Submission.{Batch, Lone, Other}
use Rattle.dsa_lines.specs.Stagings.{StagedPiece, IsPlausible, IsRecord, IsStaging, staged_bytes, piece_text, entries_text, records_text, staging_text}
use Rattle.dsa_lines.specs.Stagings.StagedEntry.{Piece}
use Rattle.dsa_lines.specs.ReadAgain.{said_by}
use Rattle.dsa_lines.proofs.WordLemmas.{same_word}
use Rattle.dsa_lines.proofs.LineLemmas.{is_line}
use Rattle.dsa_lines.proofs.RoundTrip.{line_spells}
use Rattle.dsa_lines.proofs.TextLemmas.{batch_spells_none, fence_spells_none, line_first}
use Rattle.dsa_lines.proofs.PortalLemmas.{batch_read, submission_line}
use Rattle.dsa_lines.proofs.StagingTexts.{fenced_line}
use Rattle.dsa_lines.proofs.ReadAgain.{batch_again, comment, comment_line, comment_text, fence_front, record_is}

-- a line before others
line_before : (line rest : List ℕ) (here more : List Recorded) → is_line line ≡ true → line_recorded (words_of line) ≡ Some here → all_recorded (lines_of rest) ≡ Some more
    → all_recorded (lines_of ((line ++ 10 ∷ []) ++ rest)) ≡ Some (here ++ more)
unfolding all_recorded
line_before line rest here more is e f =
    ap (λ (t : List ℕ). all_recorded (lines_of t)) (append_assoc line (10 ∷ []) rest)
    ∙ ap all_recorded (line_first line rest is)
    ∙ rw (e, f) refl

nothing : all_recorded (lines_of []) ≡ Some []
unfolding lines_of all_recorded words_in
nothing = refl

-- ---- lines

batch_said : (c l r : ℕ) → c < 2 ^ 32 → l < 2 ^ 64 → r < 2 ^ 64 → line_recorded (batch_words c l r) ≡ Some (BatchSaid (record { count = c; list_at = l; record_at = r }) ∷ [])
unfolding recorded_at
batch_said c l r a b d = rw (batch_again c l r a b d) refl

said_by_word : (batch fence : Bool) (w : Word) (ws : List Word) (f : OperationFields) → bytes_eq w (codes "batch") ≡ batch → bytes_eq w (codes "fence") ≡ fence
    → fields_of (w ∷ ws) ≡ Some f → line_recorded (w ∷ ws) ≡ Some (EntrySaid (fields_spelling f) ∷ [])
unfolding recorded_at
said_by_word true fence w ws f p q e = absurd (batch_spells_none w ws f (same_word w (codes "batch") p) e)
said_by_word false true w ws f p q e = absurd (fence_spells_none w ws f (same_word w (codes "fence") q) e)
said_by_word false false w ws f p q e = rw (p, q, e) refl

entry_said : (words : List Word) (f : OperationFields) → fields_of words ≡ Some f → line_recorded words ≡ Some (EntrySaid (fields_spelling f) ∷ [])
unfolding fields_of op_at
entry_said [] f e = absurd cc
entry_said (w ∷ ws) f e = said_by_word (bytes_eq w (codes "batch")) (bytes_eq w (codes "fence")) w ws f refl refl e

fence_said : (words : List Word) (f : OperationFields) → fields_of words ≡ Some f → line_recorded (codes "fence" ∷ words) ≡ Some (EntrySaid (fenced true (fields_spelling f)) ∷ [])
unfolding recorded_at
fence_said words f e = rw e refl

comment_said : (text : List ℕ) → is_line text ≡ true → line_recorded (words_of (35 ∷ text)) ≡ Some []
unfolding words_in
comment_said text e = rw (comment text e) refl

-- ---- a portal

submission_said : (bytes : List ℕ) (s : Submission) → Submits bytes s → IsKnown s → line_recorded (words_of (submission_text s)) ≡ Some (said_by (s ∷ []))
submission_said bytes (Batch c l r) p known =
    ap line_recorded (batch_read c l r (omega (arith, p.count_fits)) p.list_fits p.record_fits) ∙ batch_said c l r p.count_fits p.list_fits p.record_fits
submission_said bytes (Lone d) p known = entry_said (words_of (line_text (operation_fields d))) (operation_fields d) (line_spells (operation_fields d) (listed_of d))
submission_said bytes (Other b f) p known = absurd known

said_more : (s : Submission) (ss : List Submission) → said_by (s ∷ []) ++ said_by ss ≡ said_by (s ∷ ss)
said_more (Batch c l r) ss = refl
said_more (Lone d) ss = refl
said_more (Other b f) ss = refl

portal_said : (es : List (List ℕ)) (ss : List Submission) → AllZip Submits es ss → AllByRecursion IsKnown ss → all_recorded (lines_of (portal_text ss)) ≡ Some (said_by ss)
unfolding portal_text
portal_said [] [] p known = nothing
portal_said [] (s ∷ ss) p known = absurd p
portal_said (e ∷ es) [] p known = absurd p
portal_said (e ∷ es) (s ∷ ss) p known =
    line_before (submission_text s) (portal_text ss) (said_by (s ∷ [])) (said_by ss) (submission_line e s p.0) (submission_said e s p.0 known.0) (portal_said es ss p.1 known.1)
    ∙ ap Some (said_more s ss)

pub portal_is_recorded : (bytes : List ℕ) (ss : List Submission) → IsPortal bytes ss → AllByRecursion IsKnown ss → all_recorded (lines_of (portal_text ss)) ≡ Some (said_by ss)
portal_is_recorded bytes ss p known = portal_said (entries bytes) ss p.each known

-- ---- a staging area

abbrev entries_said : List StagedPiece → List Recorded
entries_said ps = map (λ p. EntrySaid (staged_bytes p)) ps

piece_said : (fence : Bool) (o : Operation)
    → line_recorded (words_of (cond fence (codes "fence ") [] ++ line_text (operation_fields o))) ≡ Some (EntrySaid (fenced fence (spelling_of o)) ∷ [])
piece_said true o =
    ap line_recorded (fence_front (line_text (operation_fields o)))
    ∙ fence_said (words_of (line_text (operation_fields o))) (operation_fields o) (line_spells (operation_fields o) (listed_of o))
piece_said false o = entry_said (words_of (line_text (operation_fields o))) (operation_fields o) (line_spells (operation_fields o) (listed_of o))

pieces_said : (ps : List StagedPiece) (rest : List ℕ) → all_recorded (lines_of rest) ≡ Some [] → all_recorded (lines_of (entries_text (map Piece ps) ++ rest)) ≡ Some (entries_said ps)
unfolding entries_text
pieces_said [] rest e = e
pieces_said (p ∷ ps) rest e =
    ap (λ (t : List ℕ). all_recorded (lines_of t)) (append_assoc (piece_text p ++ 10 ∷ []) (entries_text (map Piece ps)) rest)
    ∙ line_before (piece_text p) (entries_text (map Piece ps) ++ rest) (EntrySaid (staged_bytes p) ∷ []) (entries_said ps) (fenced_line p.fence p.piece) (piece_said p.fence p.piece)
    (pieces_said ps rest e)

records_said : (batch address : ℕ) (rs : List (List ℕ)) → AllByRecursion IsRecord rs → AllByRecursion IsPlausible rs → all_recorded (lines_of (records_text batch address rs)) ≡ Some []
unfolding records_text
records_said batch address [] all can = nothing
records_said batch address (r ∷ rs) all can =
    let text : List ℕ = comment_text batch address r in
    let rest : List ℕ = records_text (batch + 1) (address + 32) rs in
    let is : is_line text ≡ true = comment_line batch address r all.0 in
    ap (λ (line : List ℕ). all_recorded (lines_of ((line ++ 10 ∷ []) ++ rest))) (record_is batch address r can.0)
    ∙ line_before (35 ∷ text) rest [] [] is (comment_said text is) (records_said (batch + 1) (address + 32) rs all.1 can.1)

bytes_said : (ps : List StagedPiece) → flat_map staged_bytes ps ≡ recording_bytes (entries_said ps)
bytes_said [] = refl
bytes_said (p ∷ ps) = ap (λ (b : List ℕ). staged_bytes p ++ b) (bytes_said ps)

pub staging_is_recorded : (at : ℕ) (bytes : List ℕ) (ps : List StagedPiece) (rs : List (List ℕ)) → IsStaging bytes (map Piece ps) rs → AllByRecursion IsPlausible rs
    → LinesSpell (lines_of (staging_text at (map Piece ps) rs)) (flat_map staged_bytes ps)
staging_is_recorded at bytes ps rs h can =
    let first : ℕ = at + 64 * length (map Piece ps) in
    (entries_said ps, pieces_said ps (records_text 0 first rs) (records_said 0 first rs h.each_record can), bytes_said ps)
