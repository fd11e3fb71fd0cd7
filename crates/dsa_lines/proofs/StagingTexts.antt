-- The text of a staging area.
use Rattle.std.proofs.Common.{◌≡◌, ℕ, suc, ◌+◌, ◌*◌, ◌^◌, ◌<◌, Bool, true, false, inl, inr, cond, List, [], ◌∷◌, ◌++◌, length, get_or, drop, refl, sym, ap, subst, ◌∙◌, append_assoc, length-append, arith}
use Rattle.std.specs.Prelude.{◌⊎◌, replicate, codes, decimal}
use Rattle.std.specs.List.{AllByRecursion, concat, flat_map}
use Rattle.std.specs.Str.{bytes_eq}
use Rattle.std.proofs.lemmas.List.{append-nil, append_cancel_left}
use Rattle.std.proofs.lemmas.Option.{same_Some}
use Rattle.std.proofs.lemmas.Slice.Eq.{bytes_eq-Decides}
use Rattle.hex.specs.Hex.{encode_lower}
use Rattle.dsa_descriptor.specs.declared.fault.FieldFault.{FieldFault}
use Rattle.dsa_descriptor.proofs.Bytes.{u32_at-lt}
use Rattle.dsa_operations.specs.declared.operation.Operation.{Operation}
use Rattle.dsa_operations.specs.OperationFields.{operation_fields}
use Rattle.dsa_operations.proofs.Same.{listed_of}
use Rattle.dsa_lines.specs.Words.{Word, words_of}
use Rattle.dsa_lines.specs.Numbers.{hex, number_of}
use Rattle.dsa_lines.specs.Text.{tail_text, text_of, line_text}
use Rattle.dsa_lines.specs.Portals.{other_words}
use Rattle.dsa_lines.specs.Stagings.{StagedPiece, StagedEntry, IsEntry, IsRecord, IsStaging, entry_bytes, piece_text, entry_text, entries_text, status_at, finished_at, written_record, is_plain, is_plausible, byte_words, more_words, written_words, written_text, record_place, record_text, records_text, staging_text}
use Rattle.dsa_lines.specs.Stagings.StagedEntry.{Piece, Other}
use Rattle.dsa_lines.proofs.WordLemmas.{AreWords, text_words}
use Rattle.dsa_lines.proofs.NumberLemmas.{decimal_word, decimal_again, digits_word, hex_word, hex_again, spaced_decimal, spaced_digits}
use Rattle.dsa_lines.proofs.LineLemmas.{is_line, line_append, words_line, canonical_is_line}
use Rattle.dsa_lines.proofs.PortalLemmas.{first_line, line_begins, no_unknown, one_encoding, other_line, same_line, same_other_bytes}
use Rattle.dsa_lines.proofs.StagingLemmas.{same_other}

-- ---- the line of an entry

pub fenced_line : (fence : Bool) (d : Operation) → is_line (cond fence (codes "fence ") [] ++ line_text (operation_fields d)) ≡ true
fenced_line true d = line_append (codes "fence ") (line_text (operation_fields d)) refl (canonical_is_line (operation_fields d) (listed_of d))
fenced_line false d = canonical_is_line (operation_fields d) (listed_of d)

entry_line : (e : StagedEntry) → IsEntry e → is_line (entry_text e) ≡ true
entry_line (Piece p) h = fenced_line p.fence p.piece
entry_line (Other bytes fault) h = other_line bytes fault h.shown.1.whole h.shown.1.are_bytes

-- no line of an entry begins with `#`, and none of a piece with `u`
fenced_begins : (fence : Bool) (d : Operation) → get_or (cond fence (codes "fence ") [] ++ line_text (operation_fields d)) 0 35 ≡ 35 → ⊥
fenced_begins true d e = let no : ◌≡◌ {A = ℕ} 102 35 = e in absurd (omega arith)
fenced_begins false d e = (line_begins (operation_fields d)).1 e

fenced_known : (fence : Bool) (d : Operation) → get_or (cond fence (codes "fence ") [] ++ line_text (operation_fields d)) 0 0 ≡ 117 → ⊥
fenced_known true d e = let no : ◌≡◌ {A = ℕ} 102 117 = e in absurd (omega arith)
fenced_known false d e = no_unknown (operation_fields d) e

piece_or_other_text : (p : StagedPiece) (bytes : List ℕ) (fault : FieldFault) → text_of (other_words bytes fault) ≡ piece_text p → ⊥
piece_or_other_text p bytes fault e = fenced_known p.fence p.piece (ap (λ (t : List ℕ). get_or t 0 0) (sym e))

same_fenced : (a b : Bool) (d e : Operation) → cond a (codes "fence ") [] ++ line_text (operation_fields d) ≡ cond b (codes "fence ") [] ++ line_text (operation_fields e) → (a ≡ b) × (d ≡ e)
same_fenced true true d e same = (refl, same_line d e (ap (drop 6) same))
same_fenced true false d e same = absurd ((line_begins (operation_fields e)).2 (ap (λ (t : List ℕ). get_or t 3 0) (sym same)))
same_fenced false true d e same = absurd ((line_begins (operation_fields d)).2 (ap (λ (t : List ℕ). get_or t 3 0) same))
same_fenced false false d e same = (refl, same_line d e same)

same_piece : (p q : StagedPiece) → piece_text p ≡ piece_text q → p ≡ q
same_piece p q e =
    let both = same_fenced p.fence q.fence p.piece q.piece e in
    let fences : p.fence ≡ q.fence = both.0 in
    let pieces : p.piece ≡ q.piece = both.1 in
    λ i. record { fence = fences i; piece = pieces i }

same_entry : (e f : StagedEntry) → IsEntry e → IsEntry f → entry_text e ≡ entry_text f → e ≡ f
same_entry (Piece p) (Piece q) h k same = ap Piece (same_piece p q same)
same_entry (Piece p) (Other c g) h k same = absurd (piece_or_other_text p c g (sym same))
same_entry (Other b f) (Piece q) h k same = absurd (piece_or_other_text q b f same)
same_entry (Other b f) (Other c g) h k same =
    same_other b c f g (same_other_bytes b c f g h.shown.1.whole k.shown.1.whole h.shown.1.are_bytes k.shown.1.are_bytes same) h.shown.1 k.shown.1

-- ---- the lines of entries, with what comes after them: nothing, or what begins with `#` or with `unknown r`

begins_more : (a b : List ℕ) → (get_or a 0 35 ≡ 35 → ⊥) → get_or (a ++ b) 0 35 ≡ 35 → ⊥
begins_more [] b plain e = plain refl
begins_more (c ∷ cs) b plain e = plain e

first_more : (a b : List ℕ) → (get_or a 0 35 ≡ 35 → ⊥) → get_or (a ++ b) 0 35 ≡ get_or a 0 0
first_more [] b plain = absurd (plain refl)
first_more (c ∷ cs) b plain = refl

abbrev Marks : List ℕ → Type 0
Marks t = (get_or t 0 35 ≡ 35) ⊎ ((get_or t 0 35 ≡ 117) × (get_or t 8 0 ≡ 114))

no_mark : (e : StagedEntry) (t : List ℕ) → Marks (entry_text e ++ t) → ⊥
no_mark (Piece p) t (inl e) = begins_more (piece_text p) t (fenced_begins p.fence p.piece) e
no_mark (Piece p) t (inr e) = fenced_known p.fence p.piece (sym (first_more (piece_text p) t (fenced_begins p.fence p.piece)) ∙ e.0)
no_mark (Other bytes fault) t (inl e) = let no : ◌≡◌ {A = ℕ} 117 35 = e in absurd (omega arith)
no_mark (Other bytes fault) t (inr e) = let no : ◌≡◌ {A = ℕ} 48 114 = e.1 in absurd (omega arith)

-- the first of four parts, taken out
parted : (p w n x : List ℕ) → ((p ++ w) ++ n) ++ x ≡ p ++ ((w ++ n) ++ x)
parted p w n x = ap (λ (l : List ℕ). l ++ x) (append_assoc p w n) ∙ append_assoc p (w ++ n) x

no_entries_there : (f : StagedEntry) (fs : List StagedEntry) (r t : List ℕ) → Marks r → r ≡ entries_text (f ∷ fs) ++ t → ⊥
unfolding entries_text
no_entries_there f fs r t mark e =
    no_mark f ((10 ∷ entries_text fs) ++ t) (subst Marks (e ∙ parted (entry_text f) (10 ∷ []) (entries_text fs) t) mark)

same_entries : (es fs : List StagedEntry) (r t : List ℕ) → AllByRecursion IsEntry es → AllByRecursion IsEntry fs → Marks r → Marks t
    → entries_text es ++ r ≡ entries_text fs ++ t → (es ≡ fs) × (r ≡ t)
unfolding entries_text
same_entries [] [] r t p q m n e = (refl, e)
same_entries [] (f ∷ fs) r t p q m n e = absurd (no_entries_there f fs r t m e)
same_entries (x ∷ es) [] r t p q m n e = absurd (no_entries_there x es t r n (sym e))
same_entries (x ∷ es) (y ∷ fs) r t p q m n e =
    let parts = first_line (entry_text x) (entry_text y) (entries_text es ++ r) (entries_text fs ++ t) (entry_line x p.0) (entry_line y q.0)
    (sym (append_assoc (entry_text x ++ 10 ∷ []) (entries_text es) r) ∙ e ∙ append_assoc (entry_text y ++ 10 ∷ []) (entries_text fs) t) in
    let here : x ≡ y = same_entry x y p.0 q.0 parts.0 in
    let rest = same_entries es fs r t p.1 q.1 m n parts.1 in
    let later : es ≡ fs = rest.0 in
    (λ i. here i ∷ later i, rest.1)

-- ---- what is said of a record

status_fits : (r : List ℕ) → IsRecord r → status_at r < 2 ^ 64
status_fits r h = omega (arith, h.are_bytes 0)

finished_fits : (r : List ℕ) → IsRecord r → finished_at r < 2 ^ 64
finished_fits r h = omega (arith, u32_at-lt 4 r h.are_bytes)

more_are : (plain : Bool) (r : List ℕ) → IsRecord r → AreWords (cond plain [] (byte_words r))
more_are true r h = tt
more_are false r h = (refl, (refl, (refl, (digits_word r (omega (arith, h.whole)), tt))))

written_are : (r : List ℕ) → IsRecord r → AreWords (written_words r)
written_are r h =
    (refl, (refl, (hex_word (status_at r) (status_fits r h), (refl, (decimal_word (finished_at r) (finished_fits r h), (refl, more_are (is_plain r) r h))))))

written_read : (r : List ℕ) → IsRecord r → words_of (text_of (written_words r)) ≡ written_words r
written_read r h =
    let all = written_are r h in
    text_words 58 [] (codes "status" ∷ hex (status_at r) ∷ codes "," ∷ decimal (finished_at r) ∷ codes "finished" ∷ more_words r) refl all.1

same_bytes : (b c : List ℕ) → bytes_eq b c ≡ true → b ≡ c
same_bytes b c e = (bytes_eq-Decides b c).0 e

-- two records of these words are the same
same_more : (a b : Bool) (r t : List ℕ) → IsRecord r → IsRecord t → bytes_eq r (written_record (status_at r) (finished_at r)) ≡ a → bytes_eq t (written_record (status_at t) (finished_at t)) ≡ b
    → status_at r ≡ status_at t → finished_at r ≡ finished_at t
    → cond a [] (byte_words r) ≡ cond b [] (byte_words t)
    → r ≡ t
same_more true true r t p q x y status finished e =
    same_bytes r (written_record (status_at r) (finished_at r)) x ∙ (λ i. written_record (status i) (finished i)) ∙ sym (same_bytes t (written_record (status_at t) (finished_at t)) y)
same_more true false r t p q x y status finished e = absurd cc
same_more false true r t p q x y status finished e = absurd cc
same_more false false r t p q x y status finished e = one_encoding r t p.are_bytes q.are_bytes (ap (λ (ws : List Word). get_or ws 3 []) e)

same_words : (r t : List ℕ) → IsRecord r → IsRecord t → written_words r ≡ written_words t → r ≡ t
same_words r t p q e =
    let status : status_at r ≡ status_at t = same_Some (status_at r) (status_at t)
    (sym (hex_again (status_at r) (status_fits r p)) ∙ ap (λ (ws : List Word). number_of (get_or ws 2 [])) e ∙ hex_again (status_at t) (status_fits t q)) in
    let finished : finished_at r ≡ finished_at t = same_Some (finished_at r) (finished_at t)
    (sym (decimal_again (finished_at r) (finished_fits r p)) ∙ ap (λ (ws : List Word). number_of (get_or ws 4 [])) e ∙ decimal_again (finished_at t) (finished_fits t q)) in
    same_more (is_plain r) (is_plain t) r t p q refl refl status finished (ap (drop 6) e)

same_written : (a b : Bool) (r t : List ℕ) → IsRecord r → IsRecord t → bytes_eq r (replicate 32 0) ≡ a → bytes_eq t (replicate 32 0) ≡ b
    → cond a [] (text_of (written_words r)) ≡ cond b [] (text_of (written_words t)) → r ≡ t
same_written true true r t p q x y e = same_bytes r (replicate 32 0) x ∙ sym (same_bytes t (replicate 32 0) y)
same_written true false r t p q x y e = absurd cc
same_written false true r t p q x y e = absurd cc
same_written false false r t p q x y e = same_words r t p q (sym (written_read r p) ∙ ap words_of e ∙ written_read t q)

pub written_line : (b : Bool) (r : List ℕ) → IsRecord r → is_line (cond b [] (text_of (written_words r))) ≡ true
written_line true r h = refl
written_line false r h = words_line (written_words r) (written_are r h)

-- ---- the lines of records

mark_by : (plausible : Bool) (x y n z : List ℕ) → Marks ((cond plausible (codes "# " ++ x) (codes "unknown record " ++ y) ++ n) ++ z)
mark_by true x y n z = inl refl
mark_by false x y n z = inr (refl, refl)

mark : (batch address : ℕ) (rs : List (List ℕ)) → Marks (records_text batch address rs)
unfolding records_text
mark batch address [] = inl refl
mark batch address (r ∷ rs) =
    mark_by (is_plausible r) (record_place batch address ++ written_text r) ((decimal batch ++ (codes " at " ++ hex address)) ++ text_of (byte_words r)) (10 ∷ [])
    (records_text (batch + 1) (address + 32) rs)

none_left : (a x : List ℕ) → (a ++ 10 ∷ []) ++ x ≡ [] → ⊥
none_left a x e = omega (arith, ap length e, length-append (a ++ 10 ∷ []) x, length-append a (10 ∷ []))

some_text : (batch address : ℕ) (r : List ℕ) (rs : List (List ℕ)) → records_text batch address (r ∷ rs) ≡ [] → ⊥
unfolding records_text
some_text batch address r rs e = none_left (record_text batch address r) (records_text (batch + 1) (address + 32) rs) e

-- all bytes of a record
pub bytes_are : (r : List ℕ) → IsRecord r → text_of (byte_words r) ≡ codes ", 32 bytes " ++ encode_lower r
bytes_are r h = rw (spaced_digits r (omega (arith, h.whole)), append-nil) refl

bytes_line : (r : List ℕ) → IsRecord r → is_line (text_of (byte_words r)) ≡ true
bytes_line r h = words_line (byte_words r) (more_are false r h)

same_digits : (r t : List ℕ) → IsRecord r → IsRecord t → text_of (byte_words r) ≡ text_of (byte_words t) → r ≡ t
same_digits r t p q e = one_encoding r t p.are_bytes q.are_bytes (ap (drop 11) (sym (bytes_are r p) ∙ e ∙ bytes_are t q))

-- a line is its place, and then what the record has
after_place : (place v w x y : List ℕ) → is_line v ≡ true → is_line w ≡ true → ((place ++ v) ++ 10 ∷ []) ++ x ≡ ((place ++ w) ++ 10 ∷ []) ++ y → (v ≡ w) × (x ≡ y)
after_place place v w x y p q e = first_line v w x y p q (append_cancel_left place _ _ (sym (parted place v (10 ∷ []) x) ∙ e ∙ parted place w (10 ∷ []) y))

abbrev line_by : Bool → List ℕ → List ℕ → List ℕ
line_by plausible place r = cond plausible (codes "# " ++ (place ++ written_text r)) (codes "unknown " ++ (place ++ text_of (byte_words r)))

same_record : (a b : Bool) (place r t x y : List ℕ) → IsRecord r → IsRecord t → (line_by a place r ++ 10 ∷ []) ++ x ≡ (line_by b place t ++ 10 ∷ []) ++ y → (r ≡ t) × (x ≡ y)
same_record true true place r t x y p q e =
    let parts = after_place place (written_text r) (written_text t) x y
    (written_line (bytes_eq r (replicate 32 0)) r p) (written_line (bytes_eq t (replicate 32 0)) t q) (ap (drop 2) e) in
    (same_written (bytes_eq r (replicate 32 0)) (bytes_eq t (replicate 32 0)) r t p q refl refl parts.0, parts.1)
same_record true false place r t x y p q e = let no : ◌≡◌ {A = ℕ} 35 117 = ap (λ (l : List ℕ). get_or l 0 0) e in absurd (omega arith)
same_record false true place r t x y p q e = let no : ◌≡◌ {A = ℕ} 117 35 = ap (λ (l : List ℕ). get_or l 0 0) e in absurd (omega arith)
same_record false false place r t x y p q e =
    let parts = after_place place (text_of (byte_words r)) (text_of (byte_words t)) x y (bytes_line r p) (bytes_line t q) (ap (drop 8) e) in
    (same_digits r t p q parts.0, parts.1)

same_records_text : (batch address : ℕ) (rs ts : List (List ℕ)) → AllByRecursion IsRecord rs → AllByRecursion IsRecord ts → records_text batch address rs ≡ records_text batch address ts → rs ≡ ts
unfolding records_text
same_records_text batch address [] [] p q e = refl
same_records_text batch address [] (t ∷ ts) p q e = absurd (some_text batch address t ts (sym e))
same_records_text batch address (r ∷ rs) [] p q e = absurd (some_text batch address r rs e)
same_records_text batch address (r ∷ rs) (t ∷ ts) p q e =
    let left : List ℕ = records_text (batch + 1) (address + 32) rs in
    let right : List ℕ = records_text (batch + 1) (address + 32) ts in
    let parts = same_record (is_plausible r) (is_plausible t) (record_place batch address) r t left right p.0 q.0 e in
    let here : r ≡ t = parts.0 in
    let rest : rs ≡ ts = same_records_text (batch + 1) (address + 32) rs ts p.1 q.1 parts.1 in
    λ i. here i ∷ rest i

-- ---- one text

pub one_staging_text : (at : ℕ) (bytes other : List ℕ) (es fs : List StagedEntry) (rs ts : List (List ℕ)) → IsStaging bytes es rs → IsStaging other fs ts
    → staging_text at es rs ≡ staging_text at fs ts → (es ≡ fs) × (rs ≡ ts) × (bytes ≡ other)
one_staging_text at bytes other es fs rs ts p q e =
    let both = same_entries es fs (records_text 0 (at + 64 * length es) rs) (records_text 0 (at + 64 * length fs) ts) p.each_entry q.each_entry
    (mark 0 (at + 64 * length es) rs) (mark 0 (at + 64 * length fs) ts) e in
    let entries : es ≡ fs = both.0 in
    let records : rs ≡ ts = same_records_text 0 (at + 64 * length es) rs ts p.each_record q.each_record
    (both.1 ∙ ap (λ (xs : List StagedEntry). records_text 0 (at + 64 * length xs) ts) (sym entries)) in
    (entries, records, p.bytes_are ∙ (λ i. flat_map entry_bytes (entries i) ++ concat (records i)) ∙ sym q.bytes_are)

-- ---- for the loops

pub no_entries : entries_text [] ≡ []
unfolding entries_text
no_entries = refl

pub entries_more : (es : List StagedEntry) (e : StagedEntry) → entries_text (es ++ e ∷ []) ≡ entries_text es ++ (entry_text e ++ 10 ∷ [])
unfolding entries_text
entries_more [] e = append-nil (entry_text e ++ 10 ∷ [])
entries_more (f ∷ es) e =
    ap (λ (x : List ℕ). (entry_text f ++ 10 ∷ []) ++ x) (entries_more es e) ∙ sym (append_assoc (entry_text f ++ 10 ∷ []) (entries_text es) (entry_text e ++ 10 ∷ []))

pub no_records : (batch address : ℕ) → records_text batch address [] ≡ []
unfolding records_text
no_records batch address = refl

pub records_more : (batch address : ℕ) (rs : List (List ℕ)) (r : List ℕ)
    → records_text batch address (rs ++ r ∷ []) ≡ records_text batch address rs ++ (record_text (batch + length rs) (address + 32 * length rs) r ++ 10 ∷ [])
unfolding records_text
records_more batch address [] r =
    let b : batch ≡ batch + 0 = omega arith in
    let a : address ≡ address + 32 * 0 = omega arith in
    append-nil (record_text batch address r ++ 10 ∷ []) ∙ (λ i. record_text (b i) (a i) r ++ 10 ∷ [])
records_more batch address (t ∷ rs) r =
    let b : batch + 1 + length rs ≡ batch + suc (length rs) = omega arith in
    let a : address + 32 + 32 * length rs ≡ address + 32 * suc (length rs) = omega arith in
    ap (λ (x : List ℕ). (record_text batch address t ++ 10 ∷ []) ++ x)
    (records_more (batch + 1) (address + 32) rs r ∙ (λ i. records_text (batch + 1) (address + 32) rs ++ (record_text (b i) (a i) r ++ 10 ∷ [])))
    ∙ sym (append_assoc (record_text batch address t ++ 10 ∷ []) (records_text (batch + 1) (address + 32) rs) (record_text (batch + suc (length rs)) (address + 32 * suc (length rs)) r ++ 10 ∷ []))

-- the line of a record that was written, as the code makes it
regroup : (s d c f w x : List ℕ) → (s ++ (d ++ (c ++ (f ++ w)))) ++ x ≡ s ++ (d ++ (c ++ (f ++ (w ++ x))))
regroup s d c f w x = simp append_assoc

written_front : (status finished : ℕ) (ws : List Word) → finished < 2 ^ 64
    → text_of (codes ":" ∷ codes "status" ∷ hex status ∷ codes "," ∷ decimal finished ∷ codes "finished" ∷ ws)
    ≡ (codes ": status " ++ (hex status ++ (codes ", " ++ (decimal finished ++ codes " finished")))) ++ tail_text ws
written_front status finished ws f =
    rw (spaced_decimal finished f) (sym (regroup (codes ": status ") (hex status) (codes ", ") (decimal finished) (codes " finished") (tail_text ws)))

more_text : (plain : Bool) (r : List ℕ) → tail_text (cond plain [] (byte_words r)) ≡ cond plain [] (text_of (byte_words r))
more_text true r = refl
more_text false r = refl

pub written_is : (plain : Bool) (r : List ℕ) → IsRecord r → is_plain r ≡ plain
    → text_of (written_words r)
    ≡ (codes ": status " ++ (hex (status_at r) ++ (codes ", " ++ (decimal (finished_at r) ++ codes " finished")))) ++ cond plain [] (text_of (byte_words r))
written_is plain r h e =
    let front : List ℕ = codes ": status " ++ (hex (status_at r) ++ (codes ", " ++ (decimal (finished_at r) ++ codes " finished"))) in
    written_front (status_at r) (finished_at r) (more_words r) (finished_fits r h)
    ∙ ap (λ (b : Bool). front ++ tail_text (cond b [] (byte_words r))) e
    ∙ ap (λ (t : List ℕ). front ++ t) (more_text plain r)
