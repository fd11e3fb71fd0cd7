-- Accesses that are not kept, span by span.
use Rattle.std.proofs.Common.{◌≡◌, ◌↔◌, ℕ, ◌+◌, ◌-◌, ◌*◌, ◌<◌, ◌⊎◌, inl, inr, Bool, true, false, List, [], ◌∷◌, ◌++◌, length, get_or, take, drop, min, refl, sym, subst, arith}
use Rattle.std.proofs.lemmas.Bool.{cases_lt}
use Rattle.std.proofs.lemmas.List.{get_or-take, get_or-drop, get_or_past, length-take, take_more}
use Rattle.dsa_descriptor.specs.declared.span.Span.{Span}
use Rattle.dsa_descriptor.specs.Spans.{InSome}
use Rattle.dsa_tracker.specs.declared.slots.Slots.{Slots}
use Rattle.dsa_tracker.specs.Finding.{ConflictsHere, ConflictsWithSpans, reads_store, writes_store}
use Rattle.dsa_tracker.specs.Kept.{Touches, kept, kept_count, store_at}
use Rattle.dsa_tracker.specs.Sets.{Has}
use Rattle.dsa_tracker.proofs.Bits.{zero_has_none}
use Rattle.dsa_tracker.proofs.Noting.{kept_at_some}
use Rattle.dsa_tracker.proofs.Pieces.{in_append}

-- no spans, no conflict
no_spans : (width : ℕ) (stores : List ℕ) (is_written : Bool) (k : ℕ) → ConflictsWithSpans width stores is_written [] k → ⊥
no_spans width stores false k h = h.2
no_spans width stores true k (inl h) = h.2
no_spans width stores true k (inr h) = h.2

pub asked_none : (width : ℕ) (stores : List ℕ) (among : Slots) (is_written : Bool) (k : ℕ) → Has (record { 0 = 0 }) k ↔ (Has among k × ConflictsWithSpans width stores is_written [] k)
asked_none width stores among is_written k = (λ h. absurd (zero_has_none 0 k refl h), λ h. absurd (no_spans width stores is_written k h.1))

-- spans in two parts
in_parts : (kept_spans xs ys : List Span) → ((a : ℕ) × InSome kept_spans a × InSome (xs ++ ys) a) ↔ (((a : ℕ) × InSome kept_spans a × InSome xs a) ⊎ ((a : ℕ) × InSome kept_spans a × InSome ys a))
in_parts kept_spans xs ys = (
  λ h. elim ((in_append xs ys h.0).0 h.2) [ inl x ↦ inl (h.0, h.1, x) | inr y ↦ inr (h.0, h.1, y) ],
  λ h. elim h [ inl x ↦ (x.0, x.1, (in_append xs ys x.0).1 (inl x.2)) | inr y ↦ (y.0, y.1, (in_append xs ys y.0).1 (inr y.2)) ],
)

conflict_in_parts : (width : ℕ) (stores : List ℕ) (is_written : Bool) (xs ys : List Span) (k : ℕ) → ConflictsWithSpans width stores is_written (xs ++ ys) k ↔ (ConflictsWithSpans width stores is_written xs k ⊎ ConflictsWithSpans width stores is_written ys k)
conflict_in_parts width stores false xs ys k = in_parts (kept (writes_store width stores k)) xs ys
conflict_in_parts width stores true xs ys k =
    let w = in_parts (kept (writes_store width stores k)) xs ys in
    let r = in_parts (kept (reads_store width stores k)) xs ys in (
      λ h. elim h [
        | inl a ↦ elim (w.0 a) [ inl x ↦ inl (inl x) | inr y ↦ inr (inl y) ]
        | inr a ↦ elim (r.0 a) [ inl x ↦ inl (inr x) | inr y ↦ inr (inr y) ]
      ],
      λ h. elim h [
        | inl a ↦ elim a [ inl x ↦ inl (w.1 (inl x)) | inr x ↦ inr (r.1 (inl x)) ]
        | inr a ↦ elim a [ inl y ↦ inl (w.1 (inr y)) | inr y ↦ inr (r.1 (inr y)) ]
      ],
    )

pub asked_more :
    (width : ℕ) (stores : List ℕ) (among found here both : Slots) (is_written : Bool) (spans : List Span) (i : ℕ) (d : Span) (k : ℕ) → i < length spans →
    Has found k ↔ (Has among k × ConflictsWithSpans width stores is_written (take i spans) k) → Has here k ↔ (Has among k × ConflictsWithSpans width stores is_written (get_or spans i d ∷ []) k) →
    Has both k ↔ (Has found k ⊎ Has here k) → Has both k ↔ (Has among k × ConflictsWithSpans width stores is_written (take (i + 1) spans) k)
asked_more width stores among found here both is_written spans i d k lt so_far now union =
    subst (λ (xs : List Span). Has both k ↔ (Has among k × ConflictsWithSpans width stores is_written xs k)) (sym (take_more spans i d lt))
    (let parts = conflict_in_parts width stores is_written (take i spans) (get_or spans i d ∷ []) k in (
      λ h. elim (union.0 h) [ inl f ↦ let a = so_far.0 f in (a.0, parts.1 (inl a.1)) | inr g ↦ let a = now.0 g in (a.0, parts.1 (inr a.1)) ],
      λ h. elim (parts.0 h.1) [ inl x ↦ union.1 (inl (so_far.1 (h.0, x))) | inr y ↦ union.1 (inr (now.1 (h.0, y))) ],
    ))

-- words of a part are words of the whole
small_part : (xs : List ℕ) (n m j : ℕ) → ((i : ℕ) → get_or xs i 0 < 18446744073709551616) → get_or (take n (drop m xs)) j 0 < 18446744073709551616
small_part xs n m j small =
    elim (cases_lt j n) [
      | inl lt ↦ let one = get_or-take n (drop m xs) j 0 lt in let two = get_or-drop m xs j 0 in let low = small (m + j) in omega (arith, one, two, low)
      | inr ge ↦ let none = get_or_past (take n (drop m xs)) j 0 (let len = length-take n (drop m xs) in omega (arith, len, ge)) in omega (arith, none)
    ]

-- what is kept lies below 2 ^ 64
kept_small : (width place : ℕ) (stores : List ℕ) → ((i : ℕ) → get_or stores i 0 < 18446744073709551616) → (a : ℕ) → InSome (kept (store_at width stores place)) a → a < 18446744073709551616
kept_small width place stores small a h =
    let at = kept_at_some (store_at width stores place) (kept_count (store_at width stores place)) refl a h in
    let le = at.3 in
    let low = small_part stores ((place + 1) * width - place * width) (place * width) (2 * at.0 + 2) small in
    omega (arith, le, low)

module _ (width : ℕ) (stores : List ℕ) (small : (i : ℕ) → get_or stores i 0 < 18446744073709551616) (span : Span) (last : ℕ) (some : span.len ≡ 0 → ⊥) (last_is : last ≡ min 18446744073709551615 (span.first + (span.len - 1))) where
  touched_one : (place : ℕ) → Touches (store_at width stores place) span.first last ↔ ((a : ℕ) × InSome (kept (store_at width stores place)) a × InSome (span ∷ []) a)
  touched_one place = (
    λ h. let le = h.2 in (h.0, h.3, inl (h.1, omega (arith, le, last_is, some))),
    λ h. elim h.2 [
      | inl here ↦ let lt = here.1 in let low = kept_small width place stores small h.0 h.1 in (h.0, here.0, omega (arith, lt, low, last_is), h.1)
      | inr none ↦ absurd none
    ],
  )

  pub conflicts_one : (is_written : Bool) (k : ℕ) → ConflictsHere width stores is_written span.first last k ↔ ConflictsWithSpans width stores is_written (span ∷ []) k
  conflicts_one false k = touched_one (2 * k + 1)
  conflicts_one true k =
      let w = touched_one (2 * k + 1) in
      let r = touched_one (2 * k) in (
        λ h. elim h [ inl x ↦ inl (w.0 x) | inr y ↦ inr (r.0 y) ],
        λ h. elim h [ inl x ↦ inl (w.1 x) | inr y ↦ inr (r.1 y) ],
      )

-- a span of no addresses
nowhere : (spans : List Span) (span : Span) → span.len ≡ 0 → ((a : ℕ) × InSome spans a × InSome (span ∷ []) a) → ⊥
nowhere spans span none h = elim h.2 [ inl here ↦ let le = here.0 in let lt = here.1 in omega (arith, le, lt, none) | inr nothing ↦ nothing ]

pub no_addresses : (width : ℕ) (stores : List ℕ) (among : Slots) (span : Span) → span.len ≡ 0 → (is_written : Bool) (k : ℕ) → Has (record { 0 = 0 }) k ↔ (Has among k × ConflictsWithSpans width stores is_written (span ∷ []) k)
no_addresses width stores among span none false k = (λ h. absurd (zero_has_none 0 k refl h), λ h. absurd (nowhere (kept (writes_store width stores k)) span none h.1))
no_addresses width stores among span none true k = (
  λ h. absurd (zero_has_none 0 k refl h),
  λ h. elim h.1 [ inl x ↦ absurd (nowhere (kept (writes_store width stores k)) span none x) | inr y ↦ absurd (nowhere (kept (reads_store width stores k)) span none y) ],
)
