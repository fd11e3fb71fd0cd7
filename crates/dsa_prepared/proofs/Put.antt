-- Entries that are written one after another, and words that have values.
use Rattle.std.proofs.Common.{◌≡◌, ◌⊎◌, inl, inr, ℕ, ◌+◌, ◌*◌, ◌^◌, ◌<◌, ◌≤◌, List, [], ◌∷◌, ◌++◌, length, take, drop, get_or, set, ◌-◌, append_assoc, length-take, refl, sym, ap, subst, ◌∙◌, arith}
use Rattle.std.specs.Prelude.{◌&&◌, All, replicate}
use Rattle.std.proofs.lemmas.Bool.{cases_Bool}
use Rattle.std.proofs.lemmas.List.{take_at, drop_at, drop-drop, take_more, take_all, append-nil, length-append, length-replicate, set-append_right, drop_more}
use Rattle.std.proofs.lemmas.List.Concat.{flat_map-append}
use Rattle.dsa_descriptor.specs.declared.span.Span.{Span}
use Rattle.dsa_descriptor.specs.Spans.{Apart, span}
use Rattle.dsa_prepared.specs.declared.word.Word.{Word}
use Rattle.dsa_prepared.specs.declared.word.Word.TheVariants.{InRegion, InStaging, Fixed}
use Rattle.dsa_prepared.specs.declared.entry.Entry.{Entry}
use Rattle.dsa_prepared.specs.Entries.{filled, filled_entry, is_address, reads_seed, word_value}
use Rattle.dsa_prepared.specs.Rows.{IsOrigin, entry_in, word_in}
use Rattle.dsa_prepared.specs.declared.row.Row.{Row}
use Rattle.dsa_prepared.specs.Sound.{ArePut, HasValue, HasValues, IsWithin, AreWithin}
use Rattle.dsa_prepared.specs.Templates.{Template, filled_portal, filled_staging}
use Rattle.dsa_prepared.specs.Filling.{AllBelow, FitsAt, IsStaging, written}

-- ---- bytes

pub put_none : (bases : List ℕ) (staging : ℕ) (entries : List Entry) (buffer : List ℕ) → ArePut bases staging entries 0 buffer buffer
put_none bases staging entries buffer = record { bytes = refl; long = refl }

pub put_more : (bases : List ℕ) (staging : ℕ) (entries : List Entry) (k : ℕ) (before now next bytes : List ℕ) (e : Entry) → ArePut bases staging entries k before now → k < length entries → e ≡ get_or entries k e →
    bytes ≡ filled_entry bases staging e → length bytes ≡ 64 → next ≡ take (64 * k) now ++ bytes ++ drop (64 * k + 64) now → ArePut bases staging entries (k + 1) before next
put_more bases staging entries k before now next bytes e h lt is made long put =
    let front : List ℕ = filled bases staging (take k entries) in
    let more : filled bases staging (take (k + 1) entries) ≡ front ++ bytes =
    ap (filled bases staging) (take_more entries k e lt ∙ ap (λ (x : Entry). take k entries ++ x ∷ []) (sym is))
    ∙ flat_map-append (filled_entry bases staging) (take k entries) (e ∷ [])
    ∙ ap (λ (xs : List ℕ). front ++ xs) (append-nil (filled_entry bases staging e) ∙ sym made) in
    let first : take (64 * k) now ≡ front = ap (take (64 * k)) h.bytes ∙ take_at front (drop (64 * k) before) (64 * k) h.long in
    let step : 64 * k + 64 ≡ 64 * (k + 1) = omega arith in
    let rest : drop (64 * k + 64) now ≡ drop (64 * (k + 1)) before =
    sym (drop-drop 64 (64 * k) now) ∙ ap (drop 64) (ap (drop (64 * k)) h.bytes ∙ drop_at front (drop (64 * k) before) (64 * k) h.long)
    ∙ drop-drop 64 (64 * k) before ∙ ap (λ (n : ℕ). drop n before) step in
    record {
      bytes = put ∙ (λ i. first i ++ bytes ++ rest i) ∙ (λ i. sym more i ++ drop (64 * (k + 1)) before);
      long = ap length more ∙ omega (arith, length-append front bytes, h.long, long);
    }

pub put_all : (bases : List ℕ) (staging : ℕ) (entries : List Entry) (k : ℕ) (before now : List ℕ) → ArePut bases staging entries k before now → k ≡ length entries →
    (now ≡ filled bases staging entries ++ drop (64 * length entries) before) × (length (filled bases staging entries) ≡ 64 * length entries)
put_all bases staging entries k before now h end =
    let all : take k entries ≡ entries = take_all k entries (omega (arith, end)) in (
      h.bytes ∙ (λ i. filled bases staging (all i) ++ drop (64 * end i) before),
      sym (ap (λ (es : List Entry). length (filled bases staging es)) all) ∙ h.long ∙ ap (λ (n : ℕ). 64 * n) end,
    )

-- the portal, and the staging area with its records
pub portal_written : (bytes old new : List ℕ) (n : ℕ) → new ≡ bytes ++ drop n old → length bytes ≡ n → new ≡ written bytes old
portal_written bytes old new n put long = put ∙ ap (λ (k : ℕ). bytes ++ drop k old) (sym long)

pub area_written : (bytes old mid new : List ℕ) (n count : ℕ) → mid ≡ bytes ++ drop n old → length bytes ≡ n → new ≡ take n mid ++ replicate count 0 ++ drop (n + count) mid →
    new ≡ written (bytes ++ replicate count 0) old
area_written bytes old mid new n count put long zeros =
    let front : take n mid ≡ bytes = ap (take n) put ∙ take_at bytes (drop n old) n long in
    let size : n + count ≡ length (bytes ++ replicate count 0) = omega (arith, long, length-append bytes (replicate {A = ℕ} count 0), length-replicate {A = ℕ} count 0) in
    let rest : drop (n + count) mid ≡ drop (n + count) old =
    sym (drop-drop count n mid) ∙ ap (drop count) (ap (drop n) put ∙ drop_at bytes (drop n old) n long) ∙ drop-drop count n old in
    zeros ∙ (λ i. front i ++ replicate count 0 ++ rest i) ∙ (λ i. (bytes ++ replicate count 0) ++ drop (size i) old)

-- ---- values

word_has : (rs : List Span) (bases : List ℕ) (staging : ℕ) (w : Word) → length bases ≡ length rs → AllBelow (length rs) (FitsAt rs bases) → staging ≤ 2 ^ 63 → IsWithin rs w → HasValue bases staging w
word_has rs bases staging (InRegion region offset) count fit low within =
    let f = fit region within.0 in
    (omega (arith, count, within.0), omega (arith, f, within.1))
word_has rs bases staging (InStaging offset) count fit low within = omega (arith, low, within)
word_has rs bases staging (Fixed value) count fit low within = tt

pub entries_have : (rs : List Span) (bases : List ℕ) (staging : ℕ) (entries : List Entry) → length bases ≡ length rs → AllBelow (length rs) (FitsAt rs bases) → IsStaging staging → All (AreWithin rs) entries → All (HasValues bases staging) entries
entries_have rs bases staging entries count fit low all k d lt =
    let h = all k d lt in
    let e : Entry = get_or entries k d in
    record {
      completion = word_has rs bases staging e.completion count fit low.0 h.completion;
      first = word_has rs bases staging e.first count fit low.0 h.first;
      second = word_has rs bases staging e.second count fit low.0 h.second;
      own = word_has rs bases staging e.own count fit low.0 h.own;
    }

-- ---- one entry

-- eight bytes more, after those that were written from a place on
pub word_more : (old now next done part : List ℕ) (place n at : ℕ) → now ≡ take place old ++ (done ++ drop (place + n) old) → length done ≡ n → at ≡ place + n → at + 8 ≤ length old →
    next ≡ take at now ++ (part ++ drop (at + 8) now) → next ≡ take place old ++ ((done ++ part) ++ drop (place + (n + 8)) old)
word_more old now next done part place n at was long is room put =
    let front : List ℕ = take place old ++ done in
    let joined : now ≡ front ++ drop (place + n) old = was ∙ sym (append_assoc (take place old) done (drop (place + n) old)) in
    let size : length front ≡ at = omega (arith, length-append (take place old) done, length-take place old, long, is, room) in
    let first : take at now ≡ front = ap (take at) joined ∙ take_at front (drop (place + n) old) at size in
    let last : drop (at + 8) now ≡ drop (place + (n + 8)) old =
    sym (drop-drop 8 at now) ∙ ap (drop 8) (ap (drop at) joined ∙ drop_at front (drop (place + n) old) at size) ∙ drop-drop 8 (place + n) old
    ∙ ap (λ (k : ℕ). drop k old) (omega arith) in
    put ∙ (λ i. first i ++ (part ++ last i))
    ∙ append_assoc (take place old) done (part ++ drop (place + (n + 8)) old)
    ∙ ap (λ (xs : List ℕ). take place old ++ xs) (sym (append_assoc done part (drop (place + (n + 8)) old)))

-- what a row gives has 64 bytes
pub filled_long : (bases : List ℕ) (staging : ℕ) (row : Row) → length (filled_entry bases staging (entry_in row)) ≡ 64
filled_long bases staging row =
    elim (cases_Bool (is_address (entry_in row).own && reads_seed (entry_in row).head)) [
      | inl set ↦ rw set refl
      | inr unset ↦ rw unset refl
    ]

-- ---- tests

-- what a test found of two spans
pub apart_found : (a b s t : Span) → a ≡ s → b ≡ t → Apart (span a.first a.len) (span b.first b.len) → Apart s t
apart_found a b s t p q h =
    let one : Apart s b = subst (λ (x : Span). Apart x b) p h in
    subst (λ (x : Span). Apart s x) q one

-- ---- both buffers

pub buffers_written : (t : Template) (bases : List ℕ) (staging : ℕ) (portal new_portal area mid new_area : List ℕ) (count batches : ℕ) →
    ArePut bases staging t.portal (length t.portal) portal new_portal → ArePut bases staging t.staging (length t.staging) area mid → count ≡ length t.staging → batches ≡ t.batches →
    new_area ≡ take (64 * count) mid ++ replicate (32 * batches) 0 ++ drop (64 * count + 32 * batches) mid →
    (new_portal ≡ written (filled_portal t bases staging) portal) × (new_area ≡ written (filled_staging t bases staging) area)
buffers_written t bases staging portal new_portal area mid new_area count batches put put' same same' zeros =
    let a = put_all bases staging t.portal (length t.portal) portal new_portal put refl in
    let b = put_all bases staging t.staging (length t.staging) area mid put' refl in
    let zeros' : new_area ≡ take (64 * length t.staging) mid ++ replicate (32 * t.batches) 0 ++ drop (64 * length t.staging + 32 * t.batches) mid =
    zeros ∙ (λ i. take (64 * same i) mid ++ replicate (32 * same' i) 0 ++ drop (64 * same i + 32 * same' i) mid) in (
      portal_written (filled bases staging t.portal) portal new_portal (64 * length t.portal) a.0 a.1,
      area_written (filled bases staging t.staging) area mid new_area (64 * length t.staging) (32 * t.batches) b.0 b.1 zeros',
    )

-- regions one of which lies beside where the other lies
pub beside_apart : (s t : Span) (bottom top : ℕ) → (top ≤ s.first) ⊎ (s.first + s.len ≤ bottom) → bottom ≤ t.first → t.first + t.len ≤ top → Apart s t
beside_apart s t bottom top (inl above) low high address a b = omega (arith, above, high, a.0, b.1)
beside_apart s t bottom top (inr below) low high address a b = omega (arith, below, low, a.1, b.0)

-- a word counts from the origin of its kind
pub word_counts : (bases : List ℕ) (staging kind other origin value : ℕ) → IsOrigin bases staging other origin → kind ≡ other → HasValue bases staging (word_in kind value) → word_value bases staging (word_in kind value) ≡ origin + value
word_counts bases staging kind other origin value is same has =
    subst (λ (n : ℕ). HasValue bases staging (word_in n value) → word_value bases staging (word_in n value) ≡ origin + value) (sym same) (is value) has

-- one byte more of those that are written from a place on
pub byte_more : (old bytes now : List ℕ) (place k : ℕ) (v : ℕ) → now ≡ take place old ++ (take k bytes ++ drop (place + k) old) → k < length bytes → place + k < length old → v ≡ get_or bytes k 0 →
    set now (place + k) v ≡ take place old ++ (take (k + 1) bytes ++ drop (place + (k + 1)) old)
byte_more old bytes now place k v was less room is =
    let front : List ℕ = take place old ++ take k bytes in
    let rest : List ℕ = drop (place + k + 1) old in
    let long : length front ≡ place + k = omega (arith, length-append (take place old) (take k bytes), length-take place old, length-take k bytes, less, room) in
    let none : (place + k) - (place + k) ≡ 0 = omega arith in
    let joined : now ≡ front ++ drop (place + k) old = was ∙ sym (append_assoc (take place old) (take k bytes) (drop (place + k) old)) in
    let step : place + k + 1 ≡ place + (k + 1) = omega arith in
    ap (λ (xs : List ℕ). set xs (place + k) v) joined
    ∙ set-append_right front (drop (place + k) old) (place + k) (place + k) v long (omega arith)
    ∙ ap (λ (n : ℕ). front ++ set (drop (place + k) old) n v) none
    ∙ ap (λ (xs : List ℕ). front ++ set xs 0 v) (drop_more old (place + k) v room)
    ∙ append_assoc (take place old) (take k bytes) (v ∷ rest)
    ∙ ap (λ (xs : List ℕ). take place old ++ xs) (sym (append_assoc (take k bytes) (v ∷ []) rest)
    ∙ (λ i. (take k bytes ++ (is i ∷ [])) ++ drop (step i) old)
    ∙ ap (λ (xs : List ℕ). xs ++ drop (place + (k + 1)) old) (sym (take_more bytes k 0 less)))
