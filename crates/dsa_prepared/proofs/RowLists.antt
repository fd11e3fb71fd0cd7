-- The rows of a template, and the template that they say.
use Rattle.std.proofs.Common.{◌≡◌, ℕ, suc, zero, ◌+◌, ◌<◌, List, [], ◌∷◌, ◌++◌, length, take, get_or, refl, sym, ap, subst, ◌∙◌, arith, map, append_assoc, length-append}
use Rattle.std.proofs.lemmas.List.{length-map, take_at, drop_at, take_all, take_more, map_more, map-append}
use Rattle.dsa_descriptor.specs.declared.span.Span.{Span}
use Rattle.dsa_prepared.specs.declared.entry.Entry.{Entry}
use Rattle.dsa_prepared.specs.declared.row.Row.{Row}
use Rattle.dsa_prepared.specs.declared.tie.Tie.{Tie}
use Rattle.dsa_prepared.specs.Sound.{IsSound}
use Rattle.dsa_prepared.specs.Templates.{Template, template}
use Rattle.dsa_prepared.specs.Rows.{region_in, unit_in, tie_in, entry_in, part, region_row, region_rows_of, tie_row, entry_row, header_row, rows_of, template_in, HaveHeader, ArePrepared}

-- ---- regions with their units

pub length_regions : (rs : List Span) (us : List ℕ) → length us ≡ length rs → length (region_rows_of rs us) ≡ length rs
length_regions [] us same = refl
length_regions (r ∷ rs) [] same = absurd (omega (arith, same))
length_regions (r ∷ rs) (u ∷ us) same = let rest = length_regions rs us (omega (arith, same)) in omega (arith, rest)

pub regions_read : (rs : List Span) (us : List ℕ) → length us ≡ length rs → map region_in (region_rows_of rs us) ≡ rs
regions_read [] us same = refl
regions_read (r ∷ rs) [] same = absurd (omega (arith, same))
regions_read (r ∷ rs) (u ∷ us) same = ap (λ (xs : List Span). r ∷ xs) (regions_read rs us (omega (arith, same)))

pub units_read : (rs : List Span) (us : List ℕ) → length us ≡ length rs → map unit_in (region_rows_of rs us) ≡ us
units_read [] [] same = refl
units_read [] (u ∷ us) same = absurd (omega (arith, same))
units_read (r ∷ rs) [] same = absurd (omega (arith, same))
units_read (r ∷ rs) (u ∷ us) same = ap (λ (xs : List ℕ). u ∷ xs) (units_read rs us (omega (arith, same)))

pub ties_read : (ties : List Tie) → map tie_in (map tie_row ties) ≡ ties
ties_read [] = refl
ties_read (tie ∷ ties) = ap (λ (xs : List Tie). tie ∷ xs) (ties_read ties)

-- one region more, and one entry
regions_next : (rs : List Span) (us : List ℕ) (i : ℕ) (r : Span) (u : ℕ) → i < length rs → i < length us → r ≡ get_or rs i r → u ≡ get_or us i u →
    region_rows_of (take (suc i) rs) (take (suc i) us) ≡ region_rows_of (take i rs) (take i us) ++ (region_row r u ∷ [])
regions_next [] us i r u lt lt' is is' = absurd (omega (arith, lt))
regions_next (x ∷ rs) [] i r u lt lt' is is' = absurd (omega (arith, lt'))
regions_next (x ∷ rs) (y ∷ us) zero r u lt lt' is is' = λ k. region_row (sym is k) (sym is' k) ∷ []
regions_next (x ∷ rs) (y ∷ us) (suc i) r u lt lt' is is' =
    ap (λ (rows : List Row). region_row x y ∷ rows) (regions_next rs us i r u (omega (arith, lt)) (omega (arith, lt')) is is')

pub regions_more : (rs : List Span) (us : List ℕ) (i : ℕ) (r : Span) (u : ℕ) → i < length rs → i < length us → r ≡ get_or rs i r → u ≡ get_or us i u →
    region_rows_of (take (i + 1) rs) (take (i + 1) us) ≡ region_rows_of (take i rs) (take i us) ++ (region_row r u ∷ [])
regions_more rs us i r u lt lt' is is' =
    let step : i + 1 ≡ suc i = omega arith in
    ap (λ (n : ℕ). region_rows_of (take n rs) (take n us)) step ∙ regions_next rs us i r u lt lt' is is'

pub entries_more : (es : List Entry) (k : ℕ) (none : Entry) → k < length es → map entry_row (take (k + 1) es) ≡ map entry_row (take k es) ++ (entry_row (get_or es k none) ∷ [])
entries_more es k none lt = map_more entry_row es k none lt

-- the entry that was written is read too
pub reads_more : (es : List Entry) (k : ℕ) (none : Entry) → k < length es → map entry_in (map entry_row (take k es)) ≡ take k es → entry_in (entry_row (get_or es k none)) ≡ get_or es k none →
    map entry_in (map entry_row (take (k + 1) es)) ≡ take (k + 1) es
reads_more es k none lt before here =
    let e : Entry = get_or es k none in
    ap (map entry_in) (map_more entry_row es k none lt)
    ∙ map-append entry_in (map entry_row (take k es)) (entry_row e ∷ [])
    ∙ (λ i. before i ++ (here i ∷ []))
    ∙ sym (take_more es k none lt)

-- ---- parts

part_of : (front mid rest : List Row) (n m : ℕ) → length front ≡ n → length mid ≡ m → part (front ++ (mid ++ rest)) n m ≡ mid
part_of front mid rest n m long long' = ap (take m) (drop_at front (mid ++ rest) n long) ∙ take_at mid rest m long'

part_last : (front mid : List Row) (n m : ℕ) → length front ≡ n → length mid ≡ m → part (front ++ mid) n m ≡ mid
part_last front mid n m long long' = ap (take m) (drop_at front mid n long) ∙ take_all m mid (omega (arith, long'))

-- what is read of the rows of a template is the template, and they are prepared
pub rows_read : (t : Template) (rows : List Row) → rows ≡ rows_of t → IsSound t → map entry_in (map entry_row t.portal) ≡ t.portal → map entry_in (map entry_row t.staging) ≡ t.staging →
    (template_in rows ≡ t) × ArePrepared rows
rows_read t rows is sound portal staging =
    let h : Row = header_row t in
    let R : List Row = region_rows_of t.regions t.units in
    let T : List Row = map tie_row t.ties in
    let P : List Row = map entry_row t.portal in
    let S : List Row = map entry_row t.staging in
    let r : length R ≡ length t.regions = length_regions t.regions t.units sound.unit_count in
    let n : length T ≡ length t.ties = length-map t.ties tie_row in
    let p : length P ≡ length t.portal = length-map t.portal entry_row in
    let s : length S ≡ length t.staging = length-map t.staging entry_row in
    let rt : length (R ++ T) ≡ length R + length T = length-append R T in
    let rtp : length (R ++ (T ++ P)) ≡ length R + length (T ++ P) = length-append R (T ++ P) in
    let tp : length (T ++ P) ≡ length T + length P = length-append T P in
    let two : (R ++ T) ++ (P ++ S) ≡ R ++ (T ++ (P ++ S)) = append_assoc R T (P ++ S) in
    let three : (R ++ (T ++ P)) ++ S ≡ R ++ (T ++ (P ++ S)) = append_assoc R (T ++ P) S ∙ ap (λ (xs : List Row). R ++ xs) (append_assoc T P S) in
    let a : part (rows_of t) 1 (length t.regions) ≡ R = part_of (h ∷ []) R (T ++ (P ++ S)) 1 (length t.regions) refl r in
    let b : part (rows_of t) (1 + length t.regions) (length t.ties) ≡ T = part_of (h ∷ R) T (P ++ S) (1 + length t.regions) (length t.ties) (omega (arith, r)) n in
    let c : part (rows_of t) (1 + length t.regions + length t.ties) (length t.portal) ≡ P =
    ap (λ (xs : List Row). part (h ∷ xs) (1 + length t.regions + length t.ties) (length t.portal)) (sym two)
    ∙ part_of (h ∷ (R ++ T)) P S (1 + length t.regions + length t.ties) (length t.portal) (omega (arith, r, n, rt)) p in
    let d : part (rows_of t) (1 + length t.regions + length t.ties + length t.portal) (length t.staging) ≡ S =
    ap (λ (xs : List Row). part (h ∷ xs) (1 + length t.regions + length t.ties + length t.portal) (length t.staging)) (sym three)
    ∙ part_last (h ∷ (R ++ (T ++ P))) S (1 + length t.regions + length t.ties + length t.portal) (length t.staging) (omega (arith, r, n, p, rtp, tp)) s in
    let e1 = ap (map region_in) a ∙ regions_read t.regions t.units sound.unit_count in
    let e2 = ap (map unit_in) a ∙ units_read t.regions t.units sound.unit_count in
    let e3 = ap (map tie_in) b ∙ ties_read t.ties in
    let e4 = ap (map entry_in) c ∙ portal in
    let e5 = ap (map entry_in) d ∙ staging in
    let whole : template_in (rows_of t) ≡ t = λ i. template (e1 i) (e2 i) (e3 i) (e4 i) (e5 i) t.batches t.pieces in
    let size : length (R ++ (T ++ (P ++ S))) ≡ length R + length (T ++ (P ++ S)) = length-append R (T ++ (P ++ S)) in
    let size2 : length (T ++ (P ++ S)) ≡ length T + length (P ++ S) = length-append T (P ++ S) in
    let size3 : length (P ++ S) ≡ length P + length S = length-append P S in
    let header : HaveHeader (rows_of t) = record {
      magic = refl;
      count = omega (arith, r, n, p, s, size, size2, size3);
      few_entries = sound.few_entries;
      few_staged = sound.few_staged;
      few_batches = sound.few_batches;
      few = sound.few;
    } in
    let prepared : ArePrepared (rows_of t) = record { header = header; sound = subst IsSound (sym whole) sound } in
    (ap template_in is ∙ whole, subst ArePrepared (sym is) prepared)

-- rows that are written part by part
pub rows_joined : (t : Template) (a b c d e : List Row) → a ≡ header_row t ∷ [] → b ≡ a ++ region_rows_of t.regions t.units → c ≡ b ++ map tie_row t.ties → d ≡ c ++ map entry_row t.portal →
    e ≡ d ++ map entry_row t.staging → e ≡ rows_of t
rows_joined t a b c d e p q r s u =
    let h : Row = header_row t in
    let R : List Row = region_rows_of t.regions t.units in
    let T : List Row = map tie_row t.ties in
    let P : List Row = map entry_row t.portal in
    let S : List Row = map entry_row t.staging in
    let one : b ≡ h ∷ R = q ∙ ap (λ (xs : List Row). xs ++ R) p in
    let two : c ≡ h ∷ (R ++ T) = r ∙ ap (λ (xs : List Row). xs ++ T) one in
    let three : d ≡ h ∷ ((R ++ T) ++ P) = s ∙ ap (λ (xs : List Row). xs ++ P) two in
    let four : e ≡ h ∷ (((R ++ T) ++ P) ++ S) = u ∙ ap (λ (xs : List Row). xs ++ S) three in
    four ∙ ap (λ (xs : List Row). h ∷ xs) (append_assoc (R ++ T) P S ∙ append_assoc R T (P ++ S))
