-- What the lines of a recording say, and its bytes.
use Rattle.std.proofs.Common.{◌≡◌, ◌≢◌, ◌⊎◌, inl, inr, ℕ, Option, Some, None, List, [], ◌∷◌, ◌++◌, refl, sym, ap, subst, ◌∙◌, append_assoc}
use Rattle.std.specs.Prelude.{replicate, take}
use Rattle.std.specs.Int.{w32, w64, to_le_bytes}
use Rattle.dsa_emission.specs.Emission.{batch_spelling}
use Rattle.std.proofs.lemmas.List.{append-nil}
use Rattle.dsa_lines.specs.declared.fault.TextFault.{TextFault}
use Rattle.dsa_lines.specs.declared.fault.TextFault.TheVariants.{Grammar, List as Listed, Memory}
use Rattle.dsa_lines.specs.declared.recording.BatchLine.{BatchLine}
use Rattle.dsa_lines.specs.declared.recording.Recorded.{Recorded}
use Rattle.dsa_lines.specs.declared.recording.Recorded.TheVariants.{Batch, Entry}
use Rattle.dsa_lines.specs.Words.{Word, words_of}
use Rattle.dsa_lines.specs.Grammar.{◌>>=◌}
use Rattle.dsa_lines.specs.Recordings.{recorded_at, line_recorded, with_recorded, all_recorded, first_owner, batch_bytes, owned_bytes, recording_bytes, AreRecorded, LinesSpell, LinesSpellNone, LeavesRecordingAt, IsRecordingFault, StopsRecording}

pub said_line : (words : List Word) (r : Recorded) → words ≢ [] → recorded_at words ≡ Some r → line_recorded words ≡ Some (r ∷ [])
said_line [] r some e = absurd (some refl)
said_line (w ∷ ws) r some e = rw e refl

-- ---- bytes

grow : (a x y : List ℕ) {b c : List ℕ} → b ≡ a ++ x → c ≡ b ++ y → c ≡ a ++ (x ++ y)
grow a x y e f = f ∙ ap (λ (l : List ℕ). l ++ y) e ∙ append_assoc a x y

-- seven parts, written one after the other
pub batch_written : (b0 b1 b2 b3 b4 b5 b6 b7 owner : List ℕ) (record_at list_at count : ℕ) → b1 ≡ b0 ++ owner → b2 ≡ b1 ++ to_le_bytes w32 0x0100000c
    → b3 ≡ b2 ++ to_le_bytes w64 record_at → b4 ≡ b3 ++ to_le_bytes w64 list_at → b5 ≡ b4 ++ replicate 8 0 → b6 ≡ b5 ++ to_le_bytes w32 count
    → b7 ≡ b6 ++ replicate 28 0 → b7 ≡ b0 ++ batch_spelling owner record_at list_at count
unfolding batch_spelling
batch_written b0 b1 b2 b3 b4 b5 b6 b7 owner record_at list_at count e1 e2 e3 e4 e5 e6 e7 =
    grow b0 _ (replicate 28 0)
    (grow b0 _ (to_le_bytes w32 count)
    (grow b0 _ (replicate 8 0)
    (grow b0 _ (to_le_bytes w64 list_at)
    (grow b0 _ (to_le_bytes w64 record_at) (grow b0 owner (to_le_bytes w32 0x0100000c) e1 e2) e3) e4) e5) e6) e7

pub more_batch : (before after : List ℕ) (pending : Option BatchLine) (b : BatchLine) → after ≡ before ++ owned_bytes pending (replicate 4 0)
    → (said : List Recorded) → AreRecorded before pending said → AreRecorded after (Some b) (said ++ Batch b ∷ [])
more_batch before after pending b e said are = λ rs.
    ap (λ (x : List ℕ). x ++ (batch_bytes b (first_owner rs) ++ recording_bytes rs)) e
    ∙ append_assoc before (owned_bytes pending (replicate 4 0)) (batch_bytes b (first_owner rs) ++ recording_bytes rs)
    ∙ are (Batch b ∷ rs)
    ∙ ap recording_bytes (sym (append_assoc said (Batch b ∷ []) rs))

pub more_entry : (before mid after bytes : List ℕ) (pending : Option BatchLine) → mid ≡ before ++ owned_bytes pending (take 4 bytes) → after ≡ mid ++ bytes
    → (said : List Recorded) → AreRecorded before pending said → AreRecorded after None (said ++ Entry bytes ∷ [])
more_entry before mid after bytes pending e f said are = λ rs.
    ap (λ (x : List ℕ). x ++ recording_bytes rs) (f ∙ ap (λ (m : List ℕ). m ++ bytes) e)
    ∙ append_assoc (before ++ owned_bytes pending (take 4 bytes)) bytes (recording_bytes rs)
    ∙ append_assoc before (owned_bytes pending (take 4 bytes)) (bytes ++ recording_bytes rs)
    ∙ are (Entry bytes ∷ rs)
    ∙ ap recording_bytes (sym (append_assoc said (Entry bytes ∷ []) rs))

pub at_last : (before after : List ℕ) (pending : Option BatchLine) (said : List Recorded) → after ≡ before ++ owned_bytes pending (replicate 4 0)
    → AreRecorded before pending said → after ≡ recording_bytes said
at_last before after pending said e are =
    e ∙ ap (λ (x : List ℕ). before ++ x) (sym (append-nil (owned_bytes pending (replicate 4 0)))) ∙ are [] ∙ ap recording_bytes (append-nil said)

-- ---- lines

with_none : (o : Option (List Recorded)) → o ≡ with_recorded [] o
with_none None = refl
with_none (Some more) = refl

with_more : (rs ss : List Recorded) (o : Option (List Recorded)) → with_recorded rs (with_recorded ss o) ≡ with_recorded (rs ++ ss) o
with_more rs ss None = refl
with_more rs ss (Some more) = ap Some (sym (append_assoc rs ss more))

recorded_then : (here first rest : Option (List Recorded))
    → (here >>= λ h. with_recorded h (first >>= λ f. with_recorded f rest)) ≡ ((here >>= λ h. with_recorded h first) >>= λ f. with_recorded f rest)
recorded_then None first rest = refl
recorded_then (Some h) None rest = refl
recorded_then (Some h) (Some f) rest = with_more h f rest

recorded_append : (lines more : List (List ℕ)) → all_recorded (lines ++ more) ≡ (all_recorded lines >>= λ rs. with_recorded rs (all_recorded more))
unfolding all_recorded
recorded_append [] more = with_none (all_recorded more)
recorded_append (line ∷ lines) more =
    ap (λ (o : Option (List Recorded)). line_recorded (words_of line) >>= λ h. with_recorded h o) (recorded_append lines more)
    ∙ recorded_then (line_recorded (words_of line)) (all_recorded lines) (all_recorded more)

one_line : (line : List ℕ) (here : List Recorded) → line_recorded (words_of line) ≡ Some here → all_recorded (line ∷ []) ≡ Some here
unfolding all_recorded
one_line line here e = ap (λ (o : Option (List Recorded)). o >>= λ h. with_recorded h (Some [])) e ∙ ap Some (append-nil here)

pub no_recorded : all_recorded [] ≡ Some []
unfolding all_recorded
no_recorded = refl

-- one line more
pub recorded_more : (before : List (List ℕ)) (line : List ℕ) (said here : List Recorded) → all_recorded before ≡ Some said → line_recorded (words_of line) ≡ Some here
    → all_recorded (before ++ line ∷ []) ≡ Some (said ++ here)
recorded_more before line said here e f =
    recorded_append before (line ∷ [])
    ∙ ap (λ (o : Option (List Recorded)). o >>= λ rs. with_recorded rs (all_recorded (line ∷ []))) e
    ∙ ap (with_recorded said) (one_line line here f)

-- what stops a line stops the lines, of which it is the first that leaves the grammar
pub stops_there : (number : ℕ) (read : Option (List Recorded)) (lines : List (List ℕ)) (fault : TextFault)
    → (read ≡ None → LeavesRecordingAt lines number) → StopsRecording number read fault → IsRecordingFault lines fault
stops_there number read lines (Grammar line column what) leaves e = subst (LeavesRecordingAt lines) (sym e.0) (leaves e.1)
stops_there number read lines (Listed line fault) leaves e = e
stops_there number read lines Memory leaves e = tt

-- ---- what leaves the grammar spells nothing

none_with : (here : Option (List Recorded)) → (here >>= λ h. with_recorded h None) ≡ None
none_with None = refl
none_with (Some h) = refl

nothing_said : (before : List (List ℕ)) (line : List ℕ) (after : List (List ℕ)) → line_recorded (words_of line) ≡ None
    → all_recorded (before ++ line ∷ after) ≡ None
unfolding all_recorded
nothing_said [] line after e = ap (λ (o : Option (List Recorded)). o >>= λ h. with_recorded h (all_recorded after)) e
nothing_said (first ∷ before) line after e =
    ap (λ (o : Option (List Recorded)). line_recorded (words_of first) >>= λ h. with_recorded h o) (nothing_said before line after e)
    ∙ none_with (line_recorded (words_of first))

pub spells_none : (lines : List (List ℕ)) (fault : TextFault) → IsRecordingFault lines fault → (fault ≡ Memory) ⊎ LinesSpellNone lines
spells_none lines (Grammar line column what) leaves =
    inr
    (λ bytes spells.
    let never : Some spells.0 ≡ None =
    sym spells.1 ∙ ap all_recorded leaves.lines_are ∙ nothing_said leaves.before leaves.line leaves.after leaves.outside in
    absurd cc)
spells_none lines (Listed line fault) leaves = absurd leaves
spells_none lines Memory leaves = inl refl

pub one_spelled : (lines : List (List ℕ)) (bytes other : List ℕ) → LinesSpell lines bytes → LinesSpell lines other → bytes ≡ other
one_spelled lines bytes other (rs, e, f) (ss, g, h) =
    let some : Some rs ≡ Some ss = sym e ∙ g in
    let same : rs ≡ ss = cc in
    f ∙ ap recording_bytes same ∙ sym h
