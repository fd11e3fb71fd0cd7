-- The entries and records of a staging area are determined.
use Rattle.std.proofs.Common.{◌≡◌, ℕ, ◌*◌, ◌%◌, ◌<◌, ◌≤◌, inl, inr, List, [], ◌∷◌, ◌++◌, length, get_or, take, drop, refl, sym, ap, subst, ◌∙◌, append_assoc, length-append, arith}
use Rattle.std.specs.Prelude.{◌≢◌, ◌⊎◌, slice_range}
use Rattle.std.specs.List.{AllByRecursion, concat, flat_map}
use Rattle.std.proofs.lemmas.List.{take_at, drop_at, get_or_append_left, length-drop, take-append-le, drop-append-le}
use Rattle.dsa_descriptor.specs.declared.fault.FieldFault.{FieldFault}
use Rattle.dsa_descriptor.specs.Faults.{AreZero}
use Rattle.dsa_descriptor.specs.Fences.{unfenced}
use Rattle.dsa_descriptor.proofs.Rules.{first_is_one}
use Rattle.dsa_emission.proofs.Spelt.{told_by}
use Rattle.dsa_operations.specs.declared.operation.Operation.{Operation}
use Rattle.dsa_operations.specs.Faults.{IsFirstOperationFault, OperationKeeps}
use Rattle.dsa_operations.specs.Operations.{operation_kind}
use Rattle.dsa_operations.proofs.Answered.{are_operations}
use Rattle.dsa_lines.proofs.FencedOperations.{fenced_code, long_fenced, one_fenced}
use Rattle.dsa_lines.proofs.PortalLemmas.{no_operation}
use Rattle.dsa_lines.specs.Stagings.{StagedPiece, StagedEntry, IsNoPiece, Shows, BeginsRecord, IsEntry, IsRecord, IsStaging, staged_bytes, entry_bytes}
use Rattle.dsa_lines.specs.Stagings.StagedEntry.{Piece, Other}

-- ---- the bytes of a piece

pub long_piece : (p : StagedPiece) → length (staged_bytes p) ≡ 64
long_piece p = long_fenced p.piece p.fence

one_piece : (p q : StagedPiece) → staged_bytes p ≡ staged_bytes q → p ≡ q
one_piece p q e =
    let both = one_fenced p.piece q.piece p.fence q.fence e in
    let fences : p.fence ≡ q.fence = both.0 in
    let pieces : p.piece ≡ q.piece = both.1 in
    λ i. record { fence = fences i; piece = pieces i }

-- byte 7 of a piece is no zero
pub piece_code : (p : StagedPiece) → get_or (staged_bytes p) 7 0 ≡ 0 → ⊥
piece_code p e = fenced_code p.piece p.fence e

-- ---- where records begin

-- it is seen by 32 bytes
begins_front : (a b : List ℕ) → 32 ≤ length a → slice_range (a ++ b) 8 32 ≡ slice_range a 8 32
begins_front a b long =
    ap (take 24) (drop-append-le 8 a b (omega arith)) ∙ take-append-le 24 (drop 8 a) b (omega (arith, length-drop 8 a))

byte_front : (a b : List ℕ) (i : ℕ) → i < length a → get_or (a ++ b) i 0 ≡ get_or a i 0
byte_front a b i lt = get_or_append_left a b 0 i lt

-- equal bytes both have a status or zeros
written_there : (x y : ℕ) (r t : List ℕ) → x ≡ y → r ≡ t → (x ≢ 0) ⊎ AreZero r → (y ≢ 0) ⊎ AreZero t
written_there x y r t e f (inl some) = inl (λ none. some (e ∙ none))
written_there x y r t e f (inr zeros) = inr (subst AreZero f zeros)

pub begins_there : (a b : List ℕ) → 32 ≤ length a → BeginsRecord (a ++ b) → BeginsRecord a
begins_there a b long h =
    (sym (byte_front a b 7 (omega arith)) ∙ h.0, written_there _ _ _ _ (byte_front a b 0 (omega arith)) (begins_front a b long) h.1)

pub begins_before : (a b : List ℕ) → 32 ≤ length a → BeginsRecord a → BeginsRecord (a ++ b)
begins_before a b long h =
    (byte_front a b 7 (omega arith) ∙ h.0, written_there _ _ _ _ (sym (byte_front a b 0 (omega arith))) (sym (begins_front a b long)) h.1)

-- no piece begins a record
pub piece_or_record : (p : StagedPiece) → BeginsRecord (staged_bytes p) → ⊥
piece_or_record p begins = piece_code p begins.0

-- ---- entries

pub long_entry : (e : StagedEntry) → IsEntry e → length (entry_bytes e) ≡ 64
long_entry (Piece p) h = long_piece p
long_entry (Other bytes fault) h = h.shown.1.whole

pub long_entries : (es : List StagedEntry) → AllByRecursion IsEntry es → length (flat_map entry_bytes es) ≡ 64 * length es
long_entries [] all = refl
long_entries (e ∷ es) all = omega (arith, length-append (entry_bytes e) (flat_map entry_bytes es), long_entry e all.0, long_entries es all.1)

-- a piece is no other bytes
piece_or_other : (p : StagedPiece) (bytes : List ℕ) (fault : FieldFault) → bytes ≡ staged_bytes p → IsNoPiece bytes fault → ⊥
piece_or_other p bytes fault e none = no_operation (unfenced bytes) fault p.piece none.fault_is (told_by Operation operation_kind are_operations bytes p.fence p.piece e).1

pub same_other : (b c : List ℕ) (f g : FieldFault) → b ≡ c → IsNoPiece b f → IsNoPiece c g → Other b f ≡ Other c g
same_other b c f g e p q =
    let fault : f ≡ g = first_is_one OperationKeeps (unfenced b) f g p.fault_is (subst (λ (x : List ℕ). IsFirstOperationFault (unfenced x) g) (sym e) q.fault_is) in
    λ i. Other (e i) (fault i)

one_entry : (e f : StagedEntry) → IsEntry e → IsEntry f → entry_bytes e ≡ entry_bytes f → e ≡ f
one_entry (Piece p) (Piece q) h k same = ap Piece (one_piece p q same)
one_entry (Piece p) (Other c g) h k same = absurd (piece_or_other p c g (sym same) k.shown.1)
one_entry (Other b f) (Piece q) h k same = absurd (piece_or_other q b f same h.shown.1)
one_entry (Other b f) (Other c g) h k same = same_other b c f g same h.shown.1 k.shown.1

-- ---- records

pub long_records : (rs : List (List ℕ)) → AllByRecursion IsRecord rs → length (concat rs) ≡ 32 * length rs
long_records [] all = refl
long_records (r ∷ rs) all = omega (arith, length-append r (concat rs), all.0.whole, long_records rs all.1)

same_records : (rs ts : List (List ℕ)) → AllByRecursion IsRecord rs → AllByRecursion IsRecord ts → concat rs ≡ concat ts → rs ≡ ts
same_records [] [] p q e = refl
same_records [] (t ∷ ts) p q e = absurd (omega (arith, ap length e, long_records (t ∷ ts) q))
same_records (r ∷ rs) [] p q e = absurd (omega (arith, ap length e, long_records (r ∷ rs) p))
same_records (r ∷ rs) (t ∷ ts) p q e =
    let front : r ≡ t = sym (take_at r (concat rs) 32 p.0.whole) ∙ ap (take 32) e ∙ take_at t (concat ts) 32 q.0.whole in
    let back : concat rs ≡ concat ts = sym (drop_at r (concat rs) 32 p.0.whole) ∙ ap (drop 32) e ∙ drop_at t (concat ts) 32 q.0.whole in
    let rest : rs ≡ ts = same_records rs ts p.1 q.1 back in
    λ i. front i ∷ rest i

-- ---- one staging area

-- records are no bytes that begin with an entry
entry_or_records : (e : StagedEntry) (es : List StagedEntry) (rs : List (List ℕ)) (rest : List ℕ) → IsEntry e → AllByRecursion IsRecord rs → (2 ≤ length rs → BeginsRecord (concat rs))
    → concat rs ≡ flat_map entry_bytes (e ∷ es) ++ rest → ⊥
entry_or_records e es rs rest h all begins same =
    let after : List ℕ = flat_map entry_bytes es ++ rest in
    let whole : concat rs ≡ entry_bytes e ++ after = same ∙ append_assoc (entry_bytes e) (flat_map entry_bytes es) rest in
    let long = long_entry e h in
    let two : 2 ≤ length rs = omega (arith, ap length whole, length-append (entry_bytes e) after, long_records rs all) in
    h.no_record (begins_there (entry_bytes e) after (omega arith) (subst BeginsRecord whole (begins two)))

same_staging : (es fs : List StagedEntry) (rs ts : List (List ℕ)) → AllByRecursion IsEntry es → AllByRecursion IsEntry fs → AllByRecursion IsRecord rs → AllByRecursion IsRecord ts
    → (2 ≤ length rs → BeginsRecord (concat rs)) → (2 ≤ length ts → BeginsRecord (concat ts))
    → flat_map entry_bytes es ++ concat rs ≡ flat_map entry_bytes fs ++ concat ts → (es ≡ fs) × (rs ≡ ts)
same_staging [] [] rs ts h k p q r t e = (refl, same_records rs ts p q e)
same_staging [] (f ∷ fs) rs ts h k p q r t e = absurd (entry_or_records f fs rs (concat ts) k.0 p r e)
same_staging (x ∷ es) [] rs ts h k p q r t e = absurd (entry_or_records x es ts (concat rs) h.0 q t (sym e))
same_staging (x ∷ es) (y ∷ fs) rs ts h k p q r t e =
    let left : List ℕ = flat_map entry_bytes es ++ concat rs in
    let right : List ℕ = flat_map entry_bytes fs ++ concat ts in
    let whole : entry_bytes x ++ left ≡ entry_bytes y ++ right =
    sym (append_assoc (entry_bytes x) (flat_map entry_bytes es) (concat rs)) ∙ e ∙ append_assoc (entry_bytes y) (flat_map entry_bytes fs) (concat ts) in
    let front : entry_bytes x ≡ entry_bytes y = sym (take_at (entry_bytes x) left 64 (long_entry x h.0)) ∙ ap (take 64) whole ∙ take_at (entry_bytes y) right 64 (long_entry y k.0) in
    let back : left ≡ right = sym (drop_at (entry_bytes x) left 64 (long_entry x h.0)) ∙ ap (drop 64) whole ∙ drop_at (entry_bytes y) right 64 (long_entry y k.0) in
    let here : x ≡ y = one_entry x y h.0 k.0 front in
    let rest = same_staging es fs rs ts h.1 k.1 p q r t back in
    let later : es ≡ fs = rest.0 in
    (λ i. here i ∷ later i, rest.1)

pub one_staging : (bytes : List ℕ) (es fs : List StagedEntry) (rs ts : List (List ℕ)) → IsStaging bytes es rs → IsStaging bytes fs ts → (es ≡ fs) × (rs ≡ ts)
one_staging bytes es fs rs ts p q =
    same_staging es fs rs ts p.each_entry q.each_entry p.each_record q.each_record p.first_record q.first_record (sym p.bytes_are ∙ q.bytes_are)

-- a staging area has whole records
pub whole_staging : (bytes : List ℕ) (es : List StagedEntry) (rs : List (List ℕ)) → IsStaging bytes es rs → length bytes % 32 ≡ 0
whole_staging bytes es rs h =
    omega (arith, ap length h.bytes_are, length-append (flat_map entry_bytes es) (concat rs), long_entries es h.each_entry, long_records rs h.each_record)

-- ---- for the loop

pub all_more : (P : StagedEntry → Type 0) (es : List StagedEntry) (e : StagedEntry) → AllByRecursion P es → P e → AllByRecursion P (es ++ e ∷ [])
all_more P [] e all here = (here, tt)
all_more P (f ∷ es) e all here = (all.0, all_more P es e all.1 here)

pub entry_of : (bytes : List ℕ) (e : StagedEntry) → Shows bytes e → bytes ≡ entry_bytes e
entry_of bytes (Piece p) h = h
entry_of bytes (Other others fault) h = h.0

pub entry_is_one : (bytes : List ℕ) (e : StagedEntry) → Shows bytes e → (BeginsRecord bytes → ⊥) → IsEntry e
entry_is_one bytes (Piece p) h none = record { shown = refl; no_record = piece_or_record p }
entry_is_one bytes (Other others fault) h none = record { shown = (refl, h.1); no_record = λ begins. none (subst BeginsRecord (sym h.0) begins) }
