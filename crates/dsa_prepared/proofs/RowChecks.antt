-- What tests of rows one by one say of all of them.
use Rattle.std.proofs.Common.{◌≡◌, ◌+◌, ◌<◌, ◌≤◌, ℕ, List, [], length, drop, get_or, map, sym, subst, ◌∙◌, arith}
use Rattle.std.specs.Prelude.{All}
use Rattle.std.proofs.lemmas.List.{length-map, length-take, length-drop, get_or-map}
use Rattle.dsa_prepared.specs.declared.row.Row.{Row}
use Rattle.dsa_prepared.specs.Filling.{AllBelow}
use Rattle.dsa_prepared.specs.Sound.{AreUnits, AreWithin, IsSound, IsTieWithin}
use Rattle.dsa_prepared.specs.Rows.{ArePrepared, HaveHeader, entry_in, header_word, part, portal_at, portal_rows, region_in, region_rows, staging_at, staging_rows, template_in, tie_in, tie_rows, unit_in}

-- the row past the end
abbrev pub no_row : Row
no_row = record { words = [] }

-- what is read of each row
pub all_read : {Y : Type 0} (P : Y → Type 0) (f : Row → Y) (rows : List Row) → AllBelow (length rows) (λ k. P (f (get_or rows k no_row))) → All P (map f rows)
all_read P f rows all k d lt =
    let inside : k < length rows = omega (arith, lt, length-map rows f) in
    subst P (sym (get_or-map f rows k no_row d inside)) (all k inside)

pub one_read : {Y : Type 0} (P : Y → Type 0) (f : Row → Y) (rows : List Row) (k : ℕ) → All P (map f rows) → k < length rows → P (f (get_or rows k no_row))
one_read P f rows k all lt =
    subst P (get_or-map f rows k no_row (f no_row) lt) (all k (f no_row) (omega (arith, lt, length-map rows f)))

-- ---- all parts

pub length_part : (rows : List Row) (n m : ℕ) → n + m ≤ length rows → length (part rows n m) ≡ m
length_part rows n m room = omega (arith, length-take m (drop n rows), length-drop n rows, room)

pub rows_sound : (rows regions ties portal staging : List Row) → regions ≡ region_rows rows → ties ≡ tie_rows rows → portal ≡ portal_rows rows → staging ≡ staging_rows rows → HaveHeader rows →
    AreUnits (map unit_in regions) → All (IsTieWithin (map region_in regions)) (map tie_in ties) → All (AreWithin (map region_in regions)) (map entry_in portal) →
    All (AreWithin (map region_in regions)) (map entry_in staging) → IsSound (template_in rows)
rows_sound rows regions ties portal staging rs ts ps ss h units lie portal_lie staging_lie =
    let rs_ = region_rows rows in
    let p : length (portal_rows rows) ≡ header_word rows 3 = length_part rows (portal_at rows) (header_word rows 3) (omega (arith, h.count)) in
    let s : length (staging_rows rows) ≡ header_word rows 4 = length_part rows (staging_at rows) (header_word rows 4) (omega (arith, h.count)) in
    record {
      unit_count = length-map rs_ unit_in ∙ sym (length-map rs_ region_in);
      units = subst (λ (xs : List Row). AreUnits (map unit_in xs)) rs units;
      ties = subst (λ (xs : List Row). All (IsTieWithin (map region_in xs)) (map tie_in (tie_rows rows))) rs (subst (λ (xs : List Row). All (IsTieWithin (map region_in regions)) (map tie_in xs)) ts lie);
      portal = subst (λ (xs : List Row). All (AreWithin (map region_in xs)) (map entry_in (portal_rows rows))) rs (subst (λ (xs : List Row). All (AreWithin (map region_in regions)) (map entry_in xs)) ps portal_lie);
      staging = subst (λ (xs : List Row). All (AreWithin (map region_in xs)) (map entry_in (staging_rows rows))) rs (subst (λ (xs : List Row). All (AreWithin (map region_in regions)) (map entry_in xs)) ss staging_lie);
      few_entries = omega (arith, length-map (portal_rows rows) entry_in, p, h.few_entries);
      few_staged = omega (arith, length-map (staging_rows rows) entry_in, s, h.few_staged);
      few_batches = h.few_batches;
      few = h.few;
    }

-- and back
pub units_ok : (rows regions : List Row) → regions ≡ region_rows rows → ArePrepared rows → AreUnits (map unit_in regions)
units_ok rows regions rs are = subst (λ (xs : List Row). AreUnits (map unit_in xs)) (sym rs) are.sound.units

pub ties_ok : (rows regions ties : List Row) → regions ≡ region_rows rows → ties ≡ tie_rows rows → ArePrepared rows → All (IsTieWithin (map region_in regions)) (map tie_in ties)
ties_ok rows regions ties rs ts are =
    subst (λ (xs : List Row). All (IsTieWithin (map region_in xs)) (map tie_in ties)) (sym rs)
    (subst (λ (xs : List Row). All (IsTieWithin (map region_in (region_rows rows))) (map tie_in xs)) (sym ts) are.sound.ties)

pub entries_ok : (rows regions entries part : List Row) → regions ≡ region_rows rows → entries ≡ part → All (AreWithin (map region_in (region_rows rows))) (map entry_in part) →
    All (AreWithin (map region_in regions)) (map entry_in entries)
entries_ok rows regions entries part rs es lie =
    subst (λ (xs : List Row). All (AreWithin (map region_in xs)) (map entry_in entries)) (sym rs)
    (subst (λ (xs : List Row). All (AreWithin (map region_in (region_rows rows))) (map entry_in xs)) (sym es) lie)

pub staged_lie : (rows regions staging : List Row) → regions ≡ region_rows rows → staging ≡ staging_rows rows → ArePrepared rows → All (AreWithin (map region_in regions)) (map entry_in staging)
staged_lie rows regions staging rs ss are = entries_ok rows regions staging (staging_rows rows) rs ss are.sound.staging
