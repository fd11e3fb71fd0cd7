-- What a portal submits, and its text.
use Rattle.std.proofs.Common.{◌≡◌, ◌≢◌, ℕ, ◌^◌, ◌<◌, true, false, List, [], ◌∷◌, ◌++◌, length, get_or, refl, sym, ap, subst, ◌∙◌, append_assoc, length-append, arith}
use Rattle.std.specs.Prelude.{◌⊎◌, Result, Ok, Err, IfOk, IfErr, MatchResult, slice_index, codes, decimal, not, ◌==◌, ◌&&◌}
use Rattle.hex.specs.Hex.{IsBytes, decode_of, encode_lower}
use Rattle.hex.specs.declared.error.FromHexError.{FromHexError}
use Rattle.hex.proofs.HexLemmas.{decode_of-encode_lower}
use Rattle.std.specs.List.{AllZip}
use Rattle.std.proofs.lemmas.Bool.{eqb-true}
use Rattle.std.proofs.lemmas.List.{append-nil}
use Rattle.std.proofs.lemmas.Option.{same_Some}
use Rattle.dsa_descriptor.specs.declared.fault.FieldFault.{FieldFault}
use Rattle.dsa_descriptor.specs.declared.fault.FieldFault.TheVariants.{Opcode, FlagBits, Reserved, SizeZero, Wrap, RecordAlign, DualcastBits, Overlap, Delta, Expected, RecordMeetsData}
use Rattle.dsa_descriptor.specs.declared.op.Op.{Op}
use Rattle.dsa_descriptor.specs.declared.op.Op.TheVariants.{Move, Fill, Compare, ComparePattern, ApplyDelta, Dualcast}
use Rattle.dsa_descriptor.specs.Lists.{entries}
use Rattle.dsa_descriptor.proofs.Rules.{first_is_one}
use Rattle.dsa_descriptor.proofs.Entries.{fault_by}
use Rattle.dsa_emission.specs.declared.emission_fault.EmissionFault.TheVariants.{PortalLength}
use Rattle.dsa_emission.specs.EmissionFaults.{is_batch_entry}
use Rattle.dsa_operations.specs.declared.checksum_op.ChecksumOp.{ChecksumOp}
use Rattle.dsa_operations.specs.declared.checksum_op.ChecksumOp.TheVariants.{Crc, CopyCrc}
use Rattle.dsa_operations.specs.declared.operation.Operation.{Operation}
use Rattle.dsa_operations.specs.Faults.{IsFirstOperationFault, OperationKeeps}
use Rattle.dsa_operations.specs.OperationFields.{OperationFields, AreListedFields, operation_fields}
use Rattle.dsa_operations.specs.Operations.{spelling_of}
use Rattle.dsa_operations.proofs.Answered.{are_operations}
use Rattle.dsa_operations.proofs.Same.{listed_of, one_spelling, same_operation}
use Rattle.dsa_operations.specs.OperationFields.OperationFields.{OfDescriptor, OfChecksum}
use Rattle.dsa_lines.specs.declared.fault.EmittedFault.{EmittedFault}
use Rattle.dsa_lines.specs.declared.fault.EmittedFault.TheVariants.{Memory}
use Rattle.dsa_lines.specs.Words.{Word, words_of}
use Rattle.dsa_lines.specs.Numbers.{hex, number_of}
use Rattle.dsa_lines.specs.Text.{op_words, checksum_words, spaced, text_of, line_text}
use Rattle.dsa_lines.specs.Grammar.{fields_of}
use Rattle.dsa_lines.specs.Portals.{Submission, Submits, IsOther, IsPortal, batch_words, other_words, submission_text, portal_text, why, IsFirstPortalFault}
use Rattle.dsa_lines.specs.Portals.Submission.{Batch, Lone, Other}
use Rattle.dsa_lines.proofs.WordLemmas.{AreWords, is_word, text_words, both}
use Rattle.dsa_lines.proofs.NumberLemmas.{hex_word, decimal_word, hex_again, decimal_again, spaced_decimal, digits_word, spaced_digits}
use Rattle.dsa_lines.proofs.LineLemmas.{is_line, words_line, canonical_is_line}
use Rattle.dsa_lines.proofs.RoundTrip.{line_spells}
use Rattle.dsa_lines.proofs.EmittedLemmas.{only_memory, refused_for_length, whole_or_fault}

-- ---- what an entry submits

-- the bytes of an operation are those of no batch
pub no_batch : (bytes : List ℕ) (o : Operation) → bytes ≡ spelling_of o → is_batch_entry bytes ≡ true → ⊥
no_batch bytes o e is = are_operations.single o (ap (λ (b : List ℕ). get_or b 7 0) (sym e) ∙ eqb-true _ _ is)

-- bytes with a fault are those of no operation
pub no_operation : (bytes : List ℕ) (fault : FieldFault) (o : Operation) → IsFirstOperationFault bytes fault → bytes ≡ spelling_of o → ⊥
no_operation bytes fault o first is = fault_by Operation spelling_of OperationKeeps are_operations bytes fault o first is

batch_or_other : (bytes others : List ℕ) (fault : FieldFault) → is_batch_entry bytes ≡ true → (bytes ≡ others) × IsOther others fault → ⊥
batch_or_other bytes others fault code is =
    let no : true ≡ false = sym code ∙ ap is_batch_entry is.0 ∙ is.1.no_batch in cc

fault_of : (bytes others : List ℕ) (fault : FieldFault) → (bytes ≡ others) × IsOther others fault → IsFirstOperationFault bytes fault
fault_of bytes others fault is = subst (λ (b : List ℕ). IsFirstOperationFault b fault) (sym is.0) is.1.fault_is

same_other : (b c : List ℕ) (f g : FieldFault) → b ≡ c → IsOther b f → IsOther c g → Other b f ≡ Other c g
same_other b c f g e p q =
    let fault : f ≡ g = first_is_one OperationKeeps b f g p.fault_is (subst (λ (x : List ℕ). IsFirstOperationFault x g) (sym e) q.fault_is) in
    λ i. Other (e i) (fault i)

one_submission : (bytes : List ℕ) (s t : Submission) → Submits bytes s → Submits bytes t → s ≡ t
one_submission bytes (Batch c l r) (Batch c' l' r') p q =
    let a : c ≡ c' = sym p.count_there ∙ q.count_there in
    let b : l ≡ l' = sym p.list_there ∙ q.list_there in
    let d : r ≡ r' = sym p.record_there ∙ q.record_there in
    λ i. Batch (a i) (b i) (d i)
one_submission bytes (Batch c l r) (Lone d) p q = absurd (no_batch bytes d q p.code)
one_submission bytes (Lone d) (Batch c l r) p q = absurd (no_batch bytes d p q.code)
one_submission bytes (Lone d) (Lone e) p q = ap Lone (one_spelling d e (sym p ∙ q))
one_submission bytes (Batch c l r) (Other b f) p q = absurd (batch_or_other bytes b f p.code q)
one_submission bytes (Other b f) (Batch c l r) p q = absurd (batch_or_other bytes b f q.code p)
one_submission bytes (Lone d) (Other b f) p q = absurd (no_operation bytes f d (fault_of bytes b f q) p)
one_submission bytes (Other b f) (Lone d) p q = absurd (no_operation bytes f d (fault_of bytes b f p) q)
one_submission bytes (Other b f) (Other c g) p q = same_other b c f g (sym p.0 ∙ q.0) p.1 q.1

one_each : (es : List (List ℕ)) (ss ts : List Submission) → AllZip Submits es ss → AllZip Submits es ts → ss ≡ ts
one_each [] [] [] p q = refl
one_each [] [] (t ∷ ts) p q = absurd q
one_each [] (s ∷ ss) ts p q = absurd p
one_each (e ∷ es) [] ts p q = absurd p
one_each (e ∷ es) (s ∷ ss) [] p q = absurd q
one_each (e ∷ es) (s ∷ ss) (t ∷ ts) p q =
    let here : s ≡ t = one_submission e s t p.0 q.0 in
    let rest : ss ≡ ts = one_each es ss ts p.1 q.1 in
    λ i. here i ∷ rest i

pub one_portal : (bytes : List ℕ) (ss ts : List Submission) → IsPortal bytes ss → IsPortal bytes ts → ss ≡ ts
one_portal bytes ss ts p q = one_each (entries bytes) ss ts p.each q.each

-- ---- lines

-- bytes of the same digits are the same
pub one_encoding : (b c : List ℕ) → IsBytes b → IsBytes c → encode_lower b ≡ encode_lower c → b ≡ c
one_encoding b c b_bytes c_bytes digits =
    let decoded : ◌≡◌ {A = Result (List ℕ) FromHexError} (Ok b) (Ok c) =
    sym (decode_of-encode_lower b b_bytes) ∙ ap decode_of digits ∙ decode_of-encode_lower c c_bytes in
    cc

batch_words_are : (c l r : ℕ) → c < 2 ^ 64 → l < 2 ^ 64 → r < 2 ^ 64 → AreWords (batch_words c l r)
batch_words_are c l r a b d = (refl, (refl, (decimal_word c a, (refl, (hex_word l b, (refl, (refl, (hex_word r d, tt))))))))

pub batch_read : (c l r : ℕ) → c < 2 ^ 64 → l < 2 ^ 64 → r < 2 ^ 64 → words_of (text_of (batch_words c l r)) ≡ batch_words c l r
batch_read c l r a b d =
    let are = batch_words_are c l r a b d in
    text_words 98 (codes "atch") (codes "of" ∷ decimal c ∷ codes "at" ∷ hex l ∷ codes "," ∷ codes "record" ∷ hex r ∷ []) refl are.1

why_word : (fault : FieldFault) → is_word (why fault) ≡ true
why_word Opcode = refl
why_word FlagBits = refl
why_word Reserved = refl
why_word SizeZero = refl
why_word Wrap = refl
why_word RecordAlign = refl
why_word DualcastBits = refl
why_word Overlap = refl
why_word Delta = refl
why_word Expected = refl
why_word RecordMeetsData = refl

-- a code is a byte
code_fits : (bytes : List ℕ) → IsBytes bytes → slice_index bytes 7 < 2 ^ 64
code_fits bytes are = omega (arith, are 7)

other_words_are : (bytes : List ℕ) (fault : FieldFault) → length bytes ≡ 64 → IsBytes bytes → AreWords (other_words bytes fault)
other_words_are bytes fault long are =
    (refl, (hex_word (slice_index bytes 7) (code_fits bytes are), (why_word fault, (refl, (refl, (refl, (digits_word bytes (omega arith), tt)))))))

other_read : (bytes : List ℕ) (fault : FieldFault) → length bytes ≡ 64 → IsBytes bytes → words_of (text_of (other_words bytes fault)) ≡ other_words bytes fault
other_read bytes fault long are =
    let all = other_words_are bytes fault long are in
    text_words 117 (codes "nknown") (hex (slice_index bytes 7) ∷ why fault ∷ codes "," ∷ codes "64" ∷ codes "bytes" ∷ encode_lower bytes ∷ []) refl all.1

-- the line of other bytes, as the code makes it
regroup_other : (a h b w c d : List ℕ) → ((a ++ (h ++ (b ++ w))) ++ c) ++ d ≡ a ++ (h ++ (b ++ (w ++ (c ++ d))))
regroup_other a h b w c d = simp append_assoc

spaced_why : (fault : FieldFault) → spaced (why fault) ≡ 32 ∷ why fault
spaced_why fault = refl

pub other_is : (bytes : List ℕ) (fault : FieldFault) → length bytes ≡ 64
    → text_of (other_words bytes fault)
    ≡ ((codes "unknown " ++ (hex (slice_index bytes 7) ++ (codes " " ++ why fault))) ++ codes ", 64 bytes ") ++ encode_lower bytes
other_is bytes fault long = rw (spaced_digits bytes (omega arith), append-nil) (sym (regroup_other (codes "unknown ") (hex (slice_index bytes 7)) (codes " ") (why fault) (codes ", 64 bytes ") (encode_lower bytes)))

-- the line of a batch, as the code makes it
regroup : (a c b h r : List ℕ) → (a ++ (c ++ (b ++ h))) ++ r ≡ a ++ (c ++ (b ++ (h ++ r)))
regroup a c b h r = simp append_assoc

pub batch_is : (c l r : ℕ) → c < 2 ^ 64
    → text_of (batch_words c l r) ≡ (codes "batch of " ++ (decimal c ++ (codes " at " ++ hex l))) ++ (codes ", record " ++ hex r)
batch_is c l r lt = rw (spaced_decimal c lt, append-nil) (sym (regroup (codes "batch of ") (decimal c) (codes " at ") (hex l) (codes ", record " ++ hex r)))

-- bytes that no canonical line has: `b` or `#` first, or `c` fourth
op_begins : (op : Op) (size : ℕ) (more : List Word) →
    (get_or (text_of (op_words op size ++ more)) 0 0 ≡ 98 → ⊥) × (get_or (text_of (op_words op size ++ more)) 0 35 ≡ 35 → ⊥)
    × (get_or (text_of (op_words op size ++ more)) 3 0 ≡ 99 → ⊥)
op_begins (Move src dst) size more = (λ e. (let no : ◌≡◌ {A = ℕ} 109 98 = e in absurd (omega arith)), λ e. (let no : ◌≡◌ {A = ℕ} 109 35 = e in absurd (omega arith)), λ e. (let no : ◌≡◌ {A = ℕ} 101 99 = e in absurd (omega arith)))
op_begins (Fill pattern dst) size more = (λ e. (let no : ◌≡◌ {A = ℕ} 102 98 = e in absurd (omega arith)), λ e. (let no : ◌≡◌ {A = ℕ} 102 35 = e in absurd (omega arith)), λ e. (let no : ◌≡◌ {A = ℕ} 108 99 = e in absurd (omega arith)))
op_begins (Compare src src2 expected) size more = (λ e. (let no : ◌≡◌ {A = ℕ} 99 98 = e in absurd (omega arith)), λ e. (let no : ◌≡◌ {A = ℕ} 99 35 = e in absurd (omega arith)), λ e. (let no : ◌≡◌ {A = ℕ} 112 99 = e in absurd (omega arith)))
op_begins (ComparePattern src pattern expected) size more = (λ e. (let no : ◌≡◌ {A = ℕ} 99 98 = e in absurd (omega arith)), λ e. (let no : ◌≡◌ {A = ℕ} 99 35 = e in absurd (omega arith)), λ e. (let no : ◌≡◌ {A = ℕ} 112 99 = e in absurd (omega arith)))
op_begins (ApplyDelta delta dst record_size) size more = (λ e. (let no : ◌≡◌ {A = ℕ} 100 98 = e in absurd (omega arith)), λ e. (let no : ◌≡◌ {A = ℕ} 100 35 = e in absurd (omega arith)), λ e. (let no : ◌≡◌ {A = ℕ} 116 99 = e in absurd (omega arith)))
op_begins (Dualcast src dst dst2) size more = (λ e. (let no : ◌≡◌ {A = ℕ} 100 98 = e in absurd (omega arith)), λ e. (let no : ◌≡◌ {A = ℕ} 100 35 = e in absurd (omega arith)), λ e. (let no : ◌≡◌ {A = ℕ} 108 99 = e in absurd (omega arith)))

-- nor has that of a checksum
checksum_begins : (op : ChecksumOp) (size : ℕ) (more : List Word) →
    (get_or (text_of (checksum_words op size ++ more)) 0 0 ≡ 98 → ⊥) × (get_or (text_of (checksum_words op size ++ more)) 0 35 ≡ 35 → ⊥)
    × (get_or (text_of (checksum_words op size ++ more)) 3 0 ≡ 99 → ⊥)
checksum_begins (Crc src seed) size more = (λ e. (let no : ◌≡◌ {A = ℕ} 99 98 = e in absurd (omega arith)), λ e. (let no : ◌≡◌ {A = ℕ} 99 35 = e in absurd (omega arith)), λ e. (let no : ◌≡◌ {A = ℕ} 32 99 = e in absurd (omega arith)))
checksum_begins (CopyCrc src dst seed) size more = (λ e. (let no : ◌≡◌ {A = ℕ} 99 98 = e in absurd (omega arith)), λ e. (let no : ◌≡◌ {A = ℕ} 99 35 = e in absurd (omega arith)), λ e. (let no : ◌≡◌ {A = ℕ} 121 99 = e in absurd (omega arith)))

pub line_begins : (f : OperationFields) →
    (get_or (line_text f) 0 0 ≡ 98 → ⊥) × (get_or (line_text f) 0 35 ≡ 35 → ⊥) × (get_or (line_text f) 3 0 ≡ 99 → ⊥)
unfolding line_text
line_begins (OfDescriptor f) = op_begins f.op f.size _
line_begins (OfChecksum f) = checksum_begins f.op f.size _

-- listed fields of one line are the same
same_line_fields : (f g : OperationFields) → AreListedFields f → AreListedFields g → line_text f ≡ line_text g → f ≡ g
same_line_fields f g p q same = same_Some f g (sym (line_spells f p) ∙ ap (λ (t : List ℕ). fields_of (words_of t)) same ∙ line_spells g q)

pub same_line : (o p : Operation) → line_text (operation_fields o) ≡ line_text (operation_fields p) → o ≡ p
same_line o p same = same_operation o p (same_line_fields (operation_fields o) (operation_fields p) (listed_of o) (listed_of p) same)

pub other_line : (bytes : List ℕ) (fault : FieldFault) → length bytes ≡ 64 → IsBytes bytes → is_line (text_of (other_words bytes fault)) ≡ true
other_line bytes fault long are = words_line (other_words bytes fault) (other_words_are bytes fault long are)

pub submission_line : (bytes : List ℕ) (s : Submission) → Submits bytes s → is_line (submission_text s) ≡ true
submission_line bytes (Batch c l r) p =
    words_line (batch_words c l r) (batch_words_are c l r (omega (arith, p.count_fits)) p.list_fits p.record_fits)
submission_line bytes (Lone d) p = canonical_is_line (operation_fields d) (listed_of d)
submission_line bytes (Other b f) p = other_line b f p.1.whole p.1.are_bytes

-- no canonical line begins as that of other bytes does
op_known : (op : Op) (size : ℕ) (more : List Word) → get_or (text_of (op_words op size ++ more)) 0 0 ≡ 117 → ⊥
op_known (Move src dst) size more = λ e. (let no : ◌≡◌ {A = ℕ} 109 117 = e in absurd (omega arith))
op_known (Fill pattern dst) size more = λ e. (let no : ◌≡◌ {A = ℕ} 102 117 = e in absurd (omega arith))
op_known (Compare src src2 expected) size more = λ e. (let no : ◌≡◌ {A = ℕ} 99 117 = e in absurd (omega arith))
op_known (ComparePattern src pattern expected) size more = λ e. (let no : ◌≡◌ {A = ℕ} 99 117 = e in absurd (omega arith))
op_known (ApplyDelta delta dst record_size) size more = λ e. (let no : ◌≡◌ {A = ℕ} 100 117 = e in absurd (omega arith))
op_known (Dualcast src dst dst2) size more = λ e. (let no : ◌≡◌ {A = ℕ} 100 117 = e in absurd (omega arith))

checksum_known : (op : ChecksumOp) (size : ℕ) (more : List Word) → get_or (text_of (checksum_words op size ++ more)) 0 0 ≡ 117 → ⊥
checksum_known (Crc src seed) size more = λ e. (let no : ◌≡◌ {A = ℕ} 99 117 = e in absurd (omega arith))
checksum_known (CopyCrc src dst seed) size more = λ e. (let no : ◌≡◌ {A = ℕ} 99 117 = e in absurd (omega arith))

pub no_unknown : (f : OperationFields) → get_or (line_text f) 0 0 ≡ 117 → ⊥
unfolding line_text
no_unknown (OfDescriptor f) = op_known f.op f.size _
no_unknown (OfChecksum f) = checksum_known f.op f.size _

other_begins : (b : List ℕ) (fault : FieldFault) (t : List ℕ) → text_of (other_words b fault) ≡ t → get_or t 0 0 ≡ 117
other_begins b fault t e = ap (λ (x : List ℕ). get_or x 0 0) (sym e)

batch_begins : (c l r : ℕ) (t : List ℕ) → text_of (batch_words c l r) ≡ t → get_or t 0 0 ≡ 98
batch_begins c l r t e = ap (λ (b : List ℕ). get_or b 0 0) (sym e)

-- other bytes of one line are the same
pub same_other_bytes : (b c : List ℕ) (f g : FieldFault) → length b ≡ 64 → length c ≡ 64 → IsBytes b → IsBytes c → text_of (other_words b f) ≡ text_of (other_words c g) → b ≡ c
same_other_bytes b c f g b_long c_long b_bytes c_bytes e =
    let words : other_words b f ≡ other_words c g = sym (other_read b f b_long b_bytes) ∙ ap words_of e ∙ other_read c g c_long c_bytes in
    one_encoding b c b_bytes c_bytes (ap (λ (ws : List Word). get_or ws 6 []) words)

same_submission : (bytes other : List ℕ) (s t : Submission) → Submits bytes s → Submits other t → submission_text s ≡ submission_text t → s ≡ t
same_submission bytes other (Batch c l r) (Batch c' l' r') p q e =
    let c_fits : c < 2 ^ 64 = omega (arith, p.count_fits) in
    let c_fits' : c' < 2 ^ 64 = omega (arith, q.count_fits) in
    let words : batch_words c l r ≡ batch_words c' l' r' =
    sym (batch_read c l r c_fits p.list_fits p.record_fits) ∙ ap words_of e ∙ batch_read c' l' r' c_fits' q.list_fits q.record_fits in
    let a : c ≡ c' = same_Some c c' (sym (decimal_again c c_fits) ∙ ap (λ (ws : List Word). number_of (get_or ws 2 [])) words ∙ decimal_again c' c_fits') in
    let b : l ≡ l' = same_Some l l' (sym (hex_again l p.list_fits) ∙ ap (λ (ws : List Word). number_of (get_or ws 4 [])) words ∙ hex_again l' q.list_fits) in
    let d : r ≡ r' = same_Some r r' (sym (hex_again r p.record_fits) ∙ ap (λ (ws : List Word). number_of (get_or ws 7 [])) words ∙ hex_again r' q.record_fits) in
    λ i. Batch (a i) (b i) (d i)
same_submission bytes other (Batch c l r) (Lone d) p q e = absurd ((line_begins (operation_fields d)).0 (batch_begins c l r (line_text (operation_fields d)) e))
same_submission bytes other (Lone d) (Batch c l r) p q e = absurd ((line_begins (operation_fields d)).0 (batch_begins c l r (line_text (operation_fields d)) (sym e)))
same_submission bytes other (Lone d) (Lone f) p q e = ap Lone (same_line d f e)
same_submission bytes other (Batch c l r) (Other b f) p q e =
    let no : ◌≡◌ {A = ℕ} 98 117 = ap (λ (t : List ℕ). get_or t 0 0) e in absurd (omega arith)
same_submission bytes other (Other b f) (Batch c l r) p q e =
    let no : ◌≡◌ {A = ℕ} 117 98 = ap (λ (t : List ℕ). get_or t 0 0) e in absurd (omega arith)
same_submission bytes other (Lone d) (Other b f) p q e = absurd (no_unknown (operation_fields d) (other_begins b f (line_text (operation_fields d)) (sym e)))
same_submission bytes other (Other b f) (Lone d) p q e = absurd (no_unknown (operation_fields d) (other_begins b f (line_text (operation_fields d)) e))
same_submission bytes other (Other b f) (Other c g) p q e =
    same_other b c f g (same_other_bytes b c f g p.1.whole q.1.whole p.1.are_bytes q.1.are_bytes e) p.1 q.1

-- ---- texts

-- the first line of a text, and what comes after it
pub first_line : (a b x y : List ℕ) → is_line a ≡ true → is_line b ≡ true → (a ++ 10 ∷ []) ++ x ≡ (b ++ 10 ∷ []) ++ y → (a ≡ b) × (x ≡ y)
first_line [] [] x y p q e = (refl, cc)
first_line [] (d ∷ ds) x y p q e =
    let is : 10 ≡ d = cc in
    let no : (not (d == 10) && is_line ds) ≡ true = q in
    absurd (newline d ds (sym is) no)
  where
    newline : (d : ℕ) (ds : List ℕ) → d ≡ 10 → (not (d == 10) && is_line ds) ≡ true → ⊥
    newline d ds k h = let no : false ≡ true = rw k at h in cc
first_line (c ∷ cs) [] x y p q e =
    let is : c ≡ 10 = cc in
    absurd (newline c cs is p)
  where
    newline : (d : ℕ) (ds : List ℕ) → d ≡ 10 → (not (d == 10) && is_line ds) ≡ true → ⊥
    newline d ds k h = let no : false ≡ true = rw k at h in cc
first_line (c ∷ cs) (d ∷ ds) x y p q e =
    let same : c ≡ d = cc in
    let tails : (cs ++ 10 ∷ []) ++ x ≡ (ds ++ 10 ∷ []) ++ y = cc in
    let rest = first_line cs ds x y (both (not (c == 10)) (is_line cs) p).1 (both (not (d == 10)) (is_line ds) q).1 tails in
    let lines : cs ≡ ds = rest.0 in
    (λ i. same i ∷ lines i, rest.1)

one_text_each : (es fs : List (List ℕ)) (ss ts : List Submission) → AllZip Submits es ss → AllZip Submits fs ts → portal_text ss ≡ portal_text ts → ss ≡ ts
unfolding portal_text
one_text_each es fs [] [] p q e = refl
one_text_each es fs [] (t ∷ ts) p q e = absurd (omega (arith, ap length e, length-append (submission_text t ++ 10 ∷ []) (portal_text ts), length-append (submission_text t) (10 ∷ [])))
one_text_each es fs (s ∷ ss) [] p q e = absurd (omega (arith, ap length e, length-append (submission_text s ++ 10 ∷ []) (portal_text ss), length-append (submission_text s) (10 ∷ [])))
one_text_each [] fs (s ∷ ss) (t ∷ ts) p q e = absurd p
one_text_each (b ∷ es) [] (s ∷ ss) (t ∷ ts) p q e = absurd q
one_text_each (b ∷ es) (d ∷ fs) (s ∷ ss) (t ∷ ts) p q e =
    let parts = first_line (submission_text s) (submission_text t) (portal_text ss) (portal_text ts) (submission_line b s p.0) (submission_line d t q.0) e in
    let here : s ≡ t = same_submission b d s t p.0 q.0 parts.0 in
    let rest : ss ≡ ts = one_text_each es fs ss ts p.1 q.1 parts.1 in
    λ i. here i ∷ rest i

pub one_text : (bytes other : List ℕ) (ss ts : List Submission) → IsPortal bytes ss → IsPortal other ts → portal_text ss ≡ portal_text ts → ss ≡ ts
one_text bytes other ss ts p q e = one_text_each (entries bytes) (entries other) ss ts p.each q.each e

-- ---- for the loop

pub each_more : (es : List (List ℕ)) (ss : List Submission) (e : List ℕ) (s : Submission) → AllZip Submits es ss → Submits e s → AllZip Submits (es ++ e ∷ []) (ss ++ s ∷ [])
each_more [] [] e s p q = (q, tt)
each_more [] (t ∷ ss) e s p q = absurd p
each_more (f ∷ es) [] e s p q = absurd p
each_more (f ∷ es) (t ∷ ss) e s p q = (p.0, each_more es ss e s p.1 q)

pub no_portal_text : portal_text [] ≡ []
unfolding portal_text
no_portal_text = refl

pub portal_text_more : (ss : List Submission) (s : Submission) → portal_text (ss ++ s ∷ []) ≡ portal_text ss ++ (submission_text s ++ 10 ∷ [])
unfolding portal_text
portal_text_more [] s = append-nil (submission_text s ++ 10 ∷ [])
portal_text_more (t ∷ ss) s = ap (λ (x : List ℕ). (submission_text t ++ 10 ∷ []) ++ x) (portal_text_more ss s) ∙ sym (append_assoc (submission_text t ++ 10 ∷ []) (portal_text ss) (submission_text s ++ 10 ∷ []))

-- ---- the answer

-- what follows of what was answered
module _ (A : Type 0) (shown : A → List ℕ) (bytes : List ℕ) where
  abbrev pub Answered : Result A EmittedFault → Type 0
  Answered r = IfOk r (λ text. (ss : List Submission) × IsPortal bytes ss × (shown text ≡ portal_text ss)) × IfErr r (IsFirstPortalFault bytes)

  pub only_text : (r : Result A EmittedFault) → Answered r → (ss : List Submission) → IsPortal bytes ss → MatchResult r (λ text. shown text ≡ portal_text ss) (λ fault. fault ≡ Memory)
  only_text (Ok text) h ss p = h.0.2 ∙ ap portal_text (one_portal bytes h.0.0 ss h.0.1 p)
  only_text (Err fault) h ss p = only_memory 64 PortalLength bytes fault p.whole h.1

  pub refused_text : (r : Result A EmittedFault) → Answered r → (fault : EmittedFault) → fault ≢ Memory → IsFirstPortalFault bytes fault
      → MatchResult r (λ _. ⊥) (λ other. (other ≡ fault) ⊎ (other ≡ Memory))
  refused_text (Ok text) h fault other first = whole_or_fault 64 PortalLength bytes fault h.0.1.whole other first
  refused_text (Err told) h fault other first = refused_for_length 64 PortalLength bytes told fault other h.1 first
