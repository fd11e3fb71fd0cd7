-- What all pieces of a list touch.
use Rattle.std.proofs.Common.{◌≡◌, ℕ, zero, suc, ◌+◌, List, [], ◌∷◌, ◌++◌, length, get_or, map, min, take, drop, refl, sym, ap, subst, ◌∙◌, arith, inl, inr, ◌⊎◌}
use Rattle.std.specs.Prelude.{All, Some, slice_get, option_map}
use Rattle.std.specs.List.{Contains}
use Rattle.std.proofs.lemmas.Bool.{cases_eq}
use Rattle.std.proofs.lemmas.Option.{same_Some, slice_get-map, slice_get-get_or, slice_get_within, get_or_from_slice_get}
use Rattle.std.proofs.lemmas.List.Elements.{All-append, All-map, Contains-append_left, Contains-append_right}
use Rattle.dsa_descriptor.specs.declared.span.Span.{Span}
use Rattle.dsa_conflicts.specs.declared.access.Access.{Access}
use Rattle.dsa_conflicts.specs.declared.access.Access.TheVariants.{Read, Write}
use Rattle.dsa_conflicts.specs.declared.touches.Touch.{Touch}
use Rattle.dsa_conflicts.specs.declared.touches.Kind.{Kind}
use Rattle.dsa_conflicts.specs.declared.touches.Kind.TheVariants.{Source, Record, Target}
use Rattle.dsa_conflicts.specs.Touches.{HasKind, HasTouches, IsTouchOf, access_of, spans_by, spans_of, touch}

-- what is at a place is an element, and the other way round
pub contains_at : {X : Type 0} (xs : List X) (k : ℕ) (x : X) → slice_get xs k ≡ Some x → Contains xs x
contains_at xs k x e = (k, slice_get_within xs k x e, get_or_from_slice_get xs k x x e)

pub at_contains : {X : Type 0} (xs : List X) (x : X) → Contains xs x → (k : ℕ) × (slice_get xs k ≡ Some x)
at_contains xs x h = (h.0, slice_get-get_or xs h.0 x h.1 ∙ ap Some h.2)

-- a list without its first element, if it has one
pub drop_first : (ss : List Span) → drop (min 1 (length ss)) ss ≡ drop 1 ss
drop_first [] = refl
drop_first (s ∷ ss) = let one : min 1 (length (s ∷ ss)) ≡ 1 = omega arith in ap (λ (n : ℕ). drop n (s ∷ ss)) one

-- what is in one of the two parts is in the list, and the other way round
first_at : (ss : List Span) (k : ℕ) (s : Span) → slice_get (take 1 ss) k ≡ Some s → slice_get ss k ≡ Some s
first_at [] k s e = e
first_at (t ∷ ss) zero s e = e
first_at (t ∷ ss) (suc k) s e = absurd cc

further_at : (ss : List Span) (k : ℕ) (s : Span) → slice_get (drop 1 ss) k ≡ Some s → slice_get ss (suc k) ≡ Some s
further_at [] k s e = absurd cc
further_at (t ∷ ss) k s e = e

at_either : (ss : List Span) (k : ℕ) (s : Span) → slice_get ss k ≡ Some s → (slice_get (take 1 ss) k ≡ Some s) ⊎ ((m : ℕ) × (slice_get (drop 1 ss) m ≡ Some s))
at_either [] k s e = inl e
at_either (t ∷ ss) zero s e = inl e
at_either (t ∷ ss) (suc k) s e = inr (k, e)

-- pieces of any kind, of which each reads and writes some spans
module _ {P : Type 0} (reads writes : P → List Span) where
  -- the spans of each kind are among those by an access, and the other way round
  pub span_by_kind : (kind : Kind) (p : P) (k : ℕ) (s : Span) → slice_get (spans_of kind (reads p) (writes p)) k ≡ Some s → (m : ℕ) × (slice_get (spans_by reads writes (access_of kind) p) m ≡ Some s)
  span_by_kind Source p k s e = (k, e)
  span_by_kind Record p k s e = (k, first_at (writes p) k s e)
  span_by_kind Target p k s e = (suc k, further_at (writes p) k s e)

  pub kind_of_span : (access : Access) (p : P) (k : ℕ) (s : Span) → slice_get (spans_by reads writes access p) k ≡ Some s → (kind : Kind) × (access_of kind ≡ access) × ((m : ℕ) × (slice_get (spans_of kind (reads p) (writes p)) m ≡ Some s))
  kind_of_span Read p k s e = (Source, refl, (k, e))
  kind_of_span Write p k s e = elim (at_either (writes p) k s e) [ inl first ↦ (Record, refl, (k, first)) | inr further ↦ (Target, refl, further) ]

  module _ (ps : List P) (kind : Kind) (i : ℕ) (p : P) (at : slice_get ps i ≡ Some p) (old : List Touch) where
    abbrev spans : List Span
    spans = spans_of kind (reads p) (writes p)

    abbrev own : List Touch
    own = map (touch i (access_of kind)) spans

    -- one piece more
    pub known_more : All (IsTouchOf reads writes ps) old → All (IsTouchOf reads writes ps) (old ++ own)
    known_more known =
        All-append (IsTouchOf reads writes ps) old own known
        (All-map (IsTouchOf reads writes ps) (touch i (access_of kind)) spans (λ k e lt. (p, at, span_by_kind kind p k (get_or spans k e) (slice_get-get_or spans k e lt))))

    pub kept_more : (t : Touch) → Contains old t → Contains (old ++ own) t
    kept_more t h = Contains-append_left old own t h

    here : (k : ℕ) (s : Span) → slice_get spans k ≡ Some s → Contains (old ++ own) (touch i (access_of kind) s)
    here k s e =
        Contains-append_right old own (touch i (access_of kind) s)
        (contains_at own k (touch i (access_of kind) s) (slice_get-map (touch i (access_of kind)) spans k ∙ ap (option_map (touch i (access_of kind))) e))

    pub has_more : HasKind reads writes kind old ps i → HasKind reads writes kind (old ++ own) ps (i + 1)
    has_more has j q k s lt at' e =
        elim (cases_eq j i) [
          | inl same ↦
              let is : q ≡ p = same_Some q p (sym at' ∙ (ap (slice_get ps) same ∙ at)) in
              subst (λ (n : ℕ). Contains (old ++ own) (touch n (access_of kind) s)) (sym same) (here k s (subst (λ (x : P). slice_get (spans_of kind (reads x) (writes x)) k ≡ Some s) is e))
          | inr apart ↦ kept_more (touch j (access_of kind) s) (has j q k s (omega (arith, lt, apart)) at' e)
        ]

  -- with all kinds there are all accesses
  pub has_kinds : (ps : List P) (touches : List Touch) (n : ℕ) → ((kind : Kind) → HasKind reads writes kind touches ps n) → HasTouches reads writes touches ps n
  has_kinds ps touches n has i access s lt (p, at, (k, e)) =
      let w = kind_of_span access p k s e in
      subst (λ (x : Access). Contains touches (touch i x s)) w.1 (has w.0 i p w.2.0 s lt at w.2.1)

-- three kinds are all
pub each_kind : (P : Kind → Type 0) → P Source → P Record → P Target → (kind : Kind) → P kind
each_kind P s r t Source = s
each_kind P s r t Record = r
each_kind P s r t Target = t
