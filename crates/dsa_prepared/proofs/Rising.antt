-- Regions in the order of their addresses: at most one of them can have an address, and it is found by halves.
use Rattle.std.proofs.Common.{◌≡◌, ℕ, zero, suc, ◌+◌, ◌-◌, ◌<◌, ◌≤◌, inl, inr, List, [], ◌∷◌, length, refl, sym, subst, arith}
use Rattle.std.specs.List.Sorted.{IsNonDecreasingBy}
use Rattle.std.proofs.lemmas.Bool.{cases_order}
use Rattle.std.proofs.lemmas.List.{get_or_default}
use Rattle.std.proofs.lemmas.List.Sorted.{IsNonDecreasingBy-from_default}
use Rattle.dsa_descriptor.specs.declared.span.Span.{Span}
use Rattle.dsa_descriptor.specs.Spans.{span, InSpan}
use Rattle.dsa_prepared.specs.Preparing.{AreRegions, region_at, end_of}
use Rattle.dsa_prepared.specs.Regions.{LiesIn, LiesInOne}
use Rattle.dsa_prepared.specs.Entries.{place_in}
use Rattle.dsa_prepared.proofs.Placed.{IsReached, begins, goes_on, found_at, nowhere}

-- a region ends before each later one begins
pub ends_before : (rs : List Span) (i j : ℕ) → AreRegions rs → i < j → j < length rs → end_of (region_at rs i) ≤ (region_at rs j).first
ends_before rs i zero rising lt inside = absurd (omega (arith, lt))
ends_before rs i (suc j) rising lt inside =
    let next : end_of (region_at rs j) ≤ (region_at rs (suc j)).first = (rising (suc j) inside).1 j refl in
    elim (cases_order i j) [
      | inl same ↦ subst (λ (k : ℕ). end_of (region_at rs k) ≤ (region_at rs (suc j)).first) (sym same) next
      | inr (inl before) ↦ omega (arith, next, ends_before rs i j rising before (omega (arith, inside)))
      | inr (inr after) ↦ absurd (omega (arith, lt, after))
    ]

-- so their ends rise
pub ends_rise : (rs : List Span) → AreRegions rs → IsNonDecreasingBy end_of rs
ends_rise rs rising =
    IsNonDecreasingBy-from_default end_of rs (span 0 0)
    (λ i j le inside.
    elim (cases_order i j) [
      | inl same ↦ subst (λ (k : ℕ). end_of (region_at rs i) ≤ end_of (region_at rs k)) same (omega arith)
      | inr (inl before) ↦ omega (arith, ends_before rs i j rising before inside)
      | inr (inr after) ↦ absurd (omega (arith, le, after))
    ])

-- no region before this number has the address
pub reached_by : (rs : List Span) (a n : ℕ) → n ≤ length rs → ((j : ℕ) → j < n → InSpan (region_at rs j) a → ⊥) → IsReached rs a n
reached_by rs a zero le out = begins rs a
reached_by rs a (suc n) le out =
    let inside : n < length rs = omega (arith, le) in
    let e : n + 1 ≡ suc n = omega arith in
    subst (λ (k : ℕ). IsReached rs a k) e
    (goes_on rs a n (region_at rs n) inside (get_or_default rs n (span 0 0) (region_at rs n) inside) (out n (omega arith))
    (reached_by rs a n (omega (arith, le)) (λ j lt. out j (omega (arith, lt)))))

-- a span that lies in one region lies in the region of a number, and the other way round
pub lies_at : (rs : List Span) (s : Span) → LiesInOne rs s → (j : ℕ) × (j < length rs) × LiesIn (region_at rs j) s
lies_at [] s lies = absurd lies
lies_at (r ∷ rs) s (inl here) = (0, omega arith, here)
lies_at (r ∷ rs) s (inr there) =
    let p = lies_at rs s there in
    (suc p.0, omega (arith, p.1), p.2)

pub lies_there : (rs : List Span) (s : Span) (j : ℕ) → j < length rs → LiesIn (region_at rs j) s → LiesInOne rs s
lies_there [] s j lt lies = absurd (omega (arith, lt))
lies_there (r ∷ rs) s zero lt lies = inl lies
lies_there (r ∷ rs) s (suc j) lt lies = inr (lies_there rs s j (omega (arith, lt)) lies)

-- ---- the search by halves stopped at i: the regions before it end at the address or before, the others after it
pub found_by_halves : (rs : List Span) (a i : ℕ) → ((j : ℕ) → j < i → end_of (region_at rs j) ≤ a) → ((j : ℕ) → i ≤ j → j < length rs → a < end_of (region_at rs j)) →
    i < length rs → (region_at rs i).first ≤ a → (i, a - (region_at rs i).first) ≡ place_in rs a
found_by_halves rs a i ended ahead inside low =
    found_at rs a i (region_at rs i) inside (get_or_default rs i (span 0 0) (region_at rs i) inside) (low, ahead i (omega arith) inside)
    (reached_by rs a i (omega (arith, inside)) (λ j lt within. omega (arith, ended j lt, within.1)))

pub past_all : (rs : List Span) (a i : ℕ) → ((j : ℕ) → j < i → end_of (region_at rs j) ≤ a) → i ≡ length rs → (i, a) ≡ place_in rs a
past_all rs a i ended is =
    subst (λ (n : ℕ). (n, a) ≡ place_in rs a) (sym is)
    (nowhere rs a (length rs) (omega arith) (omega arith)
    (reached_by rs a (length rs) (omega arith) (λ j lt within. omega (arith, ended j (omega (arith, lt, is)), within.1))))

pub between_two : (rs : List Span) (a i : ℕ) → AreRegions rs → ((j : ℕ) → j < i → end_of (region_at rs j) ≤ a) → i < length rs → a < (region_at rs i).first → (length rs, a) ≡ place_in rs a
between_two rs a i rising ended inside above =
    nowhere rs a (length rs) (omega arith) (omega arith)
    (reached_by rs a (length rs) (omega arith)
    (λ j lt within.
    elim (cases_order i j) [
      | inl same ↦ omega (arith, above, subst (λ (k : ℕ). (region_at rs k).first ≤ a) (sym same) within.0)
      | inr (inl after) ↦ omega (arith, above, ends_before rs i j rising after lt, within.0)
      | inr (inr before) ↦ omega (arith, ended j before, within.1)
    ]))

-- a span that lies in one region lies in that one
pub lies_here : (rs : List Span) (s : Span) (i : ℕ) → AreRegions rs → ((j : ℕ) → j < i → end_of (region_at rs j) ≤ s.first) →
    ((j : ℕ) → i ≤ j → j < length rs → s.first < end_of (region_at rs j)) → LiesInOne rs s → (i < length rs) × LiesIn (region_at rs i) s
lies_here rs s i rising ended ahead lies =
    let (j, inside, in_j) = lies_at rs s lies in
    elim (cases_order i j) [
      | inl same ↦ (omega (arith, same, inside), subst (λ (k : ℕ). LiesIn (region_at rs k) s) (sym same) in_j)
      | inr (inl after) ↦ absurd (omega (arith, ahead i (omega arith) (omega (arith, after, inside)), ends_before rs i j rising after inside, in_j.0))
      | inr (inr before) ↦ absurd (omega (arith, ended j before, in_j.1))
    ]
