-- What was read so far, one piece and one group more.
use Rattle.std.proofs.Common.{ℕ, zero, suc, ◌≡◌, ◌+◌, ◌<◌, ◌≤◌, inl, inr, Bool, false, List, [], ◌∷◌, ◌++◌, length, get_or, Some, refl, sym, ap, ◌∙◌, subst, slice_get, arith}
use Rattle.std.specs.Prelude.{All, slice_index_or}
use Rattle.std.proofs.lemmas.Bool.{cases_lt}
use Rattle.std.proofs.lemmas.List.{length-append}
use Rattle.std.proofs.lemmas.List.Elements.{All-append, All-nil, All-cons}
use Rattle.std.proofs.lemmas.Option.{same_Some, slice_get_within, slice_get-get_or, get_or_from_slice_get}
use Rattle.dsa_descriptor.specs.Fences.{is_fenced}
use Rattle.dsa_ranges.specs.Pieces.{Kind}
use Rattle.dsa_emission.specs.declared.demands.Demands.{Demands}
use Rattle.dsa_emission.specs.declared.place.Place.{Place}
use Rattle.dsa_settings.specs.Plan.{Group, Plan}
use Rattle.dsa_emission.specs.EmissionFaults.{entry_size, place_before, piece_bytes, Spells, IsFit, IsSoundPiece, IsSoundGroup, IsGroupRead, IsRead}
use Rattle.dsa_emission.proofs.Shapes.{place_before-next, start_before}
use Rattle.dsa_emission.proofs.Told.{some_at}

-- ---- lists

pub slice_get-left : {X : Type 0} (xs ys : List X) (i : ℕ) → i < length xs → slice_get (xs ++ ys) i ≡ slice_get xs i
slice_get-left [] ys i lt = absurd (omega arith)
slice_get-left (x ∷ xs) ys zero lt = refl
slice_get-left (x ∷ xs) ys (suc i) lt = slice_get-left xs ys i (omega arith)

pub slice_get-right : {X : Type 0} (xs ys : List X) (i n : ℕ) → i ≡ length xs + n → slice_get (xs ++ ys) i ≡ slice_get ys n
slice_get-right [] ys i n e = let same : i ≡ n = omega arith in ap (slice_get ys) same
slice_get-right (x ∷ xs) ys zero n e = absurd (omega arith)
slice_get-right (x ∷ xs) ys (suc i) n e = slice_get-right xs ys i n (omega arith)

-- the element after a list
pub slice_get-last : {X : Type 0} (xs : List X) (x y : X) (i : ℕ) → length xs ≤ i → slice_get (xs ++ x ∷ []) i ≡ Some y → (i ≡ length xs) × (x ≡ y)
slice_get-last xs x y i le e =
    let lt : i < length (xs ++ x ∷ []) = slice_get_within (xs ++ x ∷ []) i y e in
    let is : i ≡ length xs = omega (arith, length-append xs (x ∷ [])) in
    (is, same_Some x y (sym (slice_get-right xs (x ∷ []) i 0 (omega arith)) ∙ e))

-- what holds of all holds of each
pub all_at : {X : Type 0} (Q : X → Type 0) (xs : List X) (i : ℕ) (x : X) → All Q xs → slice_get xs i ≡ Some x → Q x
all_at Q xs i x all is = subst Q (get_or_from_slice_get xs i x x is) (all i x (slice_get_within xs i x is))

module _ (P : Type 0) (kind : Kind P) where
  -- ---- one group

  pub group_none : (demands : Demands) (bytes : ℕ → List ℕ) → is_fenced (bytes 0) ≡ false → IsGroupRead kind demands bytes 0 [] []
  group_none demands bytes first = record {
    fences = refl;
    pieces = refl;
    first_unfenced = first;
    each = λ k fence d p q. absurd (omega (arith, slice_get_within [] k fence p));
    fit = All-nil (IsFit kind demands);
  }

  pub group_more : (demands : Demands) (bytes : ℕ → List ℕ) (k : ℕ) (g : Group) (ps : List P) (fence : Bool) (d : P) → IsGroupRead kind demands bytes k g ps → fence ≡ is_fenced (bytes k) → Spells kind (bytes k) d → IsFit kind demands d →
      IsGroupRead kind demands bytes (k + 1) (g ++ fence ∷ []) (ps ++ d ∷ [])
  group_more demands bytes k g ps fence d r is spelt fit = record {
    fences = omega (arith, length-append g (fence ∷ []), r.fences);
    pieces = omega (arith, length-append ps (d ∷ []), r.pieces);
    first_unfenced = r.first_unfenced;
    each = λ j x e p q.
        elim (cases_lt j k) [
          | inl less ↦ r.each j x e (sym (slice_get-left g (fence ∷ []) j (omega (arith, r.fences))) ∙ p) (sym (slice_get-left ps (d ∷ []) j (omega (arith, r.pieces))) ∙ q)
          | inr most ↦
              let flag = slice_get-last g fence x j (omega (arith, r.fences)) p in
              let piece = slice_get-last ps d e j (omega (arith, r.pieces)) q in
              let here : k ≡ j = omega (arith, flag.0, r.fences) in
              subst (λ (z : ℕ). (x ≡ is_fenced (bytes z)) × Spells kind (bytes z) e) here (sym flag.1 ∙ is, subst (λ (z : P). Spells kind (bytes k) z) piece.1 spelt)
        ];
    fit = All-append (IsFit kind demands) ps (d ∷ []) r.fit (All-cons (IsFit kind demands) d [] fit (All-nil (IsFit kind demands)));
  }

  -- each piece of a group that was read is sound
  pub sound_pieces : (demands : Demands) (bytes : ℕ → List ℕ) (size : ℕ) (g : Group) (ps : List P) → IsGroupRead kind demands bytes size g ps → (j : ℕ) → j < size → IsSoundPiece kind demands bytes j
  sound_pieces demands bytes size g ps r j lt =
      let (d, at) = some_at ps j (omega (arith, r.pieces)) in
      let here : slice_get ps j ≡ Some d = slice_get-get_or ps j d (omega (arith, r.pieces)) ∙ ap Some (sym at) in
      let both = r.each j (get_or g j false) d (slice_get-get_or g j false (omega (arith, r.fences))) here in
      record {
        first_unfenced = λ none. subst (λ (z : ℕ). is_fenced (bytes z) ≡ false) (sym none) r.first_unfenced;
        piece = d;
        spelt = both.1;
        fit = all_at (IsFit kind demands) ps j d r.fit here;
      }

  -- ---- all groups

  pub read_more : (demands : Demands) (es staged : List (List ℕ)) (n : ℕ) (plan : Plan) (ps : List P) (g : Group) (new : List P) → n < length es → IsRead kind demands es staged n plan ps →
      IsGroupRead kind demands (piece_bytes es staged n) (entry_size (slice_index_or es n [])) g new → IsRead kind demands es staged (n + 1) (plan ++ g ∷ []) (ps ++ new)
  read_more demands es staged n plan ps g new inside r here = record {
    groups = omega (arith, length-append plan (g ∷ []), r.groups);
    pieces = omega (arith, length-append ps new, r.pieces, here.pieces, ap (λ (p : Place). p.start) (place_before-next es n inside));
    sizes = λ number h p.
        elim (cases_lt number n) [
          | inl less ↦ r.sizes number h (sym (slice_get-left plan (g ∷ []) number (omega (arith, r.groups))) ∙ p)
          | inr most ↦
              let last = slice_get-last plan g h number (omega (arith, r.groups)) p in
              let same : n ≡ number = omega (arith, last.0, r.groups) in
              ap length (sym last.1) ∙ here.fences ∙ ap (λ (z : ℕ). entry_size (slice_index_or es z [])) same
        ];
    each = λ number h k fence d p q at.
        elim (cases_lt number n) [
          | inl less ↦
              let old : slice_get plan number ≡ Some h = sym (slice_get-left plan (g ∷ []) number (omega (arith, r.groups))) ∙ p in
              let within : k < entry_size (slice_index_or es number []) = omega (arith, slice_get_within h k fence q, r.sizes number h old) in
              let room : (place_before es number).start + entry_size (slice_index_or es number []) ≤ (place_before es n).start = start_before es number n less (omega arith) in
              r.each number h k fence d old q (sym (slice_get-left ps new ((place_before es number).start + k) (omega (arith, r.pieces))) ∙ at)
          | inr most ↦
              let last = slice_get-last plan g h number (omega (arith, r.groups)) p in
              let same : n ≡ number = omega (arith, last.0, r.groups) in
              let there : slice_get new k ≡ Some d = sym (slice_get-right ps new ((place_before es number).start + k) k (omega (arith, r.pieces, ap (λ (z : ℕ). (place_before es z).start) same))) ∙ at in
              subst (λ (z : ℕ). (fence ≡ is_fenced (piece_bytes es staged z k)) × Spells kind (piece_bytes es staged z k) d) same
              (here.each k fence d (ap (λ (z : Group). slice_get z k) last.1 ∙ q) there)
        ];
    firsts = λ number lt.
        elim (cases_lt number n) [
          | inl less ↦ r.firsts number less
          | inr most ↦ let same : n ≡ number = omega arith in subst (λ (z : ℕ). is_fenced (piece_bytes es staged z 0) ≡ false) same here.first_unfenced
        ];
    fit = All-append (IsFit kind demands) ps new r.fit here.fit;
    sound = λ number lt.
        elim (cases_lt number n) [
          | inl less ↦ r.sound number less
          | inr most ↦
              let same : n ≡ number = omega arith in
              subst (λ (z : ℕ). IsSoundGroup kind demands es staged z) same (sound_pieces demands (piece_bytes es staged n) (entry_size (slice_index_or es n [])) g new here)
        ];
  }
