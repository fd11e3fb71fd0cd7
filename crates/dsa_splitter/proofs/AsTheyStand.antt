-- Lists whose operations are their own pieces, off an area.
use Rattle.std.proofs.Common.{◌≡◌, ℕ, zero, suc, ◌+◌, ◌*◌, ◌<◌, ◌≤◌, ◌⊎◌, inl, inr, List, [], ◌∷◌, length, map, refl, sym, ap, ◌∙◌, subst, arith}
use Rattle.std.specs.Prelude.{Some, slice_get}
use Rattle.std.proofs.lemmas.Bool.{cases_lt}
use Rattle.std.proofs.lemmas.List.{length-map}
use Rattle.std.proofs.lemmas.Option.{same_Some, slice_get_within}
use Rattle.dsa_descriptor.specs.declared.descriptor.Descriptor.{Descriptor}
use Rattle.dsa_descriptor.specs.declared.span.Span.{Span}
use Rattle.dsa_descriptor.specs.Descriptors.{fields}
use Rattle.dsa_descriptor.specs.Fields.{Fields}
use Rattle.dsa_descriptor.specs.Data.{sources, targets}
use Rattle.dsa_descriptor.specs.Pieces.{most_pieces}
use Rattle.dsa_descriptor.specs.Spans.{InSome, InSpan, span}
use Rattle.dsa_ranges.specs.Ranges.{Touches}
use Rattle.dsa_splitter.specs.Pieces.{all_pieces}
use Rattle.dsa_splitter.specs.Rules.{AllMaySplit, AreWhole, IsClear, IsSplit, MaySplit, piece_total}
use Rattle.dsa_splitter.proofs.OnePiece.{short_may_split, whole_pieces}
use Rattle.dsa_splitter.proofs.Walks.{length_all}

-- the first n operations have at most this length, and between these addresses lies all that they touch
pub record ArePlain (ds : List Descriptor) (longest low high from to n : ℕ) : Type 0 where
  pub short : (i : ℕ) (d : Descriptor) → i < n → slice_get ds i ≡ Some d → d.size ≤ longest
  pub within :
      (i x : ℕ) (f : Fields) → i < n → slice_get (map fields ds) i ≡ Some f → Touches f x →
      ((low ≤ x) × (x < high + longest)) ⊎ ((from ≤ x) × (x < to + 32))

pub plain_none : (ds : List Descriptor) (longest low high from to : ℕ) → ArePlain ds longest low high from to 0
plain_none ds longest low high from to = record { short = λ i d lt at. absurd (omega arith); within = λ i x f lt at touches. absurd (omega arith) }

-- one operation more
module _ (ds : List Descriptor) (n : ℕ) (d : Descriptor) (here : slice_get ds n ≡ Some d) (at : slice_get (map fields ds) n ≡ Some (fields d)) (p q : ℕ)
    (its : (x : ℕ) → InSome (sources d.op d.size) x ⊎ InSome (targets d.op d.size) x → InSpan (span p d.size) x ⊎ InSpan (span q d.size) x)
    (longest low high from to longest' low' high' from' to' : ℕ) (s0 : longest ≤ longest') (s1 : d.size ≤ longest') (l0 : low' ≤ low) (l1 : low' ≤ p) (l2 : low' ≤ q)
    (h0 : high ≤ high') (h1 : p ≤ high') (h2 : q ≤ high') (f0 : from' ≤ from) (f1 : from' ≤ d.record_at) (t0 : to ≤ to') (t1 : d.record_at ≤ to') where
  by_data : (x : ℕ) → InSome (sources d.op d.size) x ⊎ InSome (targets d.op d.size) x → ((low' ≤ x) × (x < high' + longest')) ⊎ ((from' ≤ x) × (x < to' + 32))
  by_data x h =
      elim (its x h) [
        | inl w ↦ inl (omega (arith, w.0), omega (arith, w.1))
        | inr w ↦ inl (omega (arith, w.0), omega (arith, w.1))
      ]

  by_touch : (x : ℕ) → Touches (fields d) x → ((low' ≤ x) × (x < high' + longest')) ⊎ ((from' ≤ x) × (x < to' + 32))
  by_touch x (inl reads) = by_data x (inl reads)
  by_touch x (inr (inl record_has)) = inr (omega (arith, record_has.0), omega (arith, record_has.1))
  by_touch x (inr (inr writes)) = by_data x (inr writes)

  pub plain_more : ArePlain ds longest low high from to n → ArePlain ds longest' low' high' from' to' (n + 1)
  plain_more old = record {
    short = λ i e lt there. elim (cases_lt i n) [
      | inl less ↦ omega (arith, old.short i e less there)
      | inr most ↦
          let same_place : n ≡ i = omega arith in
          let same : d ≡ e = same_Some d e (sym here ∙ ap (slice_get ds) same_place ∙ there) in
          subst (λ (y : Descriptor). y.size ≤ longest') same s1
    ];
    within = λ i x f lt there touches. elim (cases_lt i n) [
      | inl less ↦ elim (old.within i x f less there touches) [
        | inl w ↦ inl (omega (arith, w.0), omega (arith, w.1))
        | inr w ↦ inr (omega (arith, w.0), omega (arith, w.1))
      ]
      | inr most ↦
          let same_place : n ≡ i = omega arith in
          let same : f ≡ fields d = same_Some f (fields d) (sym there ∙ ap (slice_get (map fields ds)) (sym same_place) ∙ at) in
          by_touch x (subst (λ (y : Fields). Touches y x) same touches)
    ];
  }

-- all of them
module _ (ds : List Descriptor) (longest low high from to n : ℕ) (all : length ds ≤ n) (plain : ArePlain ds longest low high from to n) where
  pub plain_whole : (g : ℕ) → longest ≤ g → AreWhole ds g
  plain_whole g fits i d at = omega (arith, fits, plain.short i d (omega (arith, slice_get_within ds i d at, all)) at)

  pub plain_clear : (area : Span) → ((x : ℕ) → low ≤ x → x < high + longest → InSpan area x → ⊥) → ((x : ℕ) → from ≤ x → x < to + 32 → InSpan area x → ⊥)
      → IsClear area (map fields ds)
  plain_clear area off_data off_records i f at (x, inside, touches) =
      elim (plain.within i x f (omega (arith, slice_get_within (map fields ds) i f at, length-map ds fields, all)) at touches) [
        | inl w ↦ off_data x w.0 w.1 inside
        | inr w ↦ off_records x w.0 w.1 inside
      ]

-- such a list is split as it is
may_split : (ds : List Descriptor) (g : ℕ) → AreWhole ds g → AllMaySplit g (map fields ds)
may_split [] g short i f at = absurd cc
may_split (d ∷ ds) g short zero f at =
    let same : fields d ≡ f = same_Some (fields d) f at in
    subst (λ (x : Fields). MaySplit x g) same (short_may_split (fields d) g d.listed (short zero d refl))
may_split (d ∷ ds) g short (suc i) f at = may_split ds g (λ j e there. short (suc j) e there) i f at

total_of_whole : (ds : List Descriptor) (g : ℕ) → AreWhole ds g → piece_total g (map fields ds) ≡ length ds
total_of_whole ds g short =
    let pieces : length (map fields ds) ≡ length (all_pieces (map fields ds) g) = ap length (whole_pieces ds g short) in
    omega (arith, pieces, length_all (map fields ds) g, length-map ds fields)

pub whole_split : (ds : List Descriptor) (g staging : ℕ) → AreWhole ds g → length ds ≤ most_pieces → IsClear (span staging (96 * length ds)) (map fields ds) → IsSplit g staging (map fields ds)
whole_split ds g staging short few clear =
    let total = total_of_whole ds g short in
    record {
      few = record { may_split = may_split ds g short; few = omega (arith, total, few) };
      clear =
          subst (λ (ps : List Fields). IsClear (span staging (96 * piece_total g (map fields ds))) ps) (whole_pieces ds g short)
          (subst (λ (k : ℕ). IsClear (span staging (96 * k)) (map fields ds)) (sym total) clear);
    }
