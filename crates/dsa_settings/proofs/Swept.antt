-- A sweep that sees no clash leaves no conflict.
use Rattle.std.proofs.Common.{ℕ, zero, ◌≡◌, ◌≢◌, ◌+◌, ◌<◌, ◌≤◌, inl, inr, true, false, List, [], ◌∷◌}
use Rattle.std.proofs.Common.{length, get_or, map, Some, refl, sym, ap, ◌++◌, ◌∙◌, subst, slice_get, arith}
use Rattle.std.specs.List.{Contains}
use Rattle.std.specs.List.Sorted.{IsNonDecreasingBy}
use Rattle.std.proofs.lemmas.Bool.{cases_lt}
use Rattle.std.proofs.lemmas.Option.{same_Some}
use Rattle.std.proofs.lemmas.List.{length-map, get_or-map, get_or_default}
use Rattle.std.proofs.lemmas.List.Elements.{Contains-append_left, Contains-append_right, at_from_Contains}
use Rattle.dsa_descriptor.specs.declared.span.Span.{Span}
use Rattle.dsa_descriptor.specs.Spans.{InSpan, InSome}
use Rattle.dsa_ranges.specs.Ranges.{SpansConflict}
use Rattle.dsa_ranges.specs.Pieces.{PieceConflictAt}
use Rattle.dsa_settings.specs.declared.sweep.Access.{Access}
use Rattle.dsa_settings.specs.declared.sweep.Seen.{Seen}
use Rattle.dsa_settings.specs.Plan.{Group}
use Rattle.dsa_settings.specs.Legal.{IsFenced}
use Rattle.dsa_settings.specs.LegalFaults.{IsUnfencedWithin}
use Rattle.dsa_settings.specs.Sweeps.{access, first_of, Clash, HasNoClash, HasSeen, HasAccesses}

-- ---- from clashes to conflicts

span_of : (ss : List Span) (address : ℕ) → InSome ss address → (s : Span) × Contains ss s × InSpan s address
span_of [] address h = absurd h
span_of (s ∷ ss) address (inl here) = (s, (zero, omega arith, refl), here)
span_of (s ∷ ss) address (inr there) =
    let r : (t : Span) × Contains ss t × InSpan t address = span_of ss address there in
    (r.0, Contains-append_right (s ∷ []) ss r.0 r.1, r.2)

no_conflict : (accesses : List Access) (r w r' w' : List Span) (i j : ℕ) → i ≢ j →
    HasAccesses accesses r w i → HasAccesses accesses r' w' j → HasNoClash accesses → SpansConflict r w r' w' → ⊥
no_conflict accesses r w r' w' i j apart first second clear (inl (address, in_one, inl in_other)) =
    let s : (t : Span) × Contains w t × InSpan t address = span_of w address in_one in
    let t : (t : Span) × Contains r' t × InSpan t address = span_of r' address in_other in
    clear (access s.0 i true) (access t.0 j false) (first.writes s.0 s.1) (second.reads t.0 t.1)
    (record { owners = apart; written = inl refl; address = address; first = s.2; second = t.2 })
no_conflict accesses r w r' w' i j apart first second clear (inl (address, in_one, inr in_other)) =
    let s : (t : Span) × Contains w t × InSpan t address = span_of w address in_one in
    let t : (t : Span) × Contains w' t × InSpan t address = span_of w' address in_other in
    clear (access s.0 i true) (access t.0 j true) (first.writes s.0 s.1) (second.writes t.0 t.1)
    (record { owners = apart; written = inl refl; address = address; first = s.2; second = t.2 })
no_conflict accesses r w r' w' i j apart first second clear (inr (address, in_one, inl in_other)) =
    let s : (t : Span) × Contains w' t × InSpan t address = span_of w' address in_one in
    let t : (t : Span) × Contains r t × InSpan t address = span_of r address in_other in
    clear (access t.0 i false) (access s.0 j true) (first.reads t.0 t.1) (second.writes s.0 s.1)
    (record { owners = apart; written = inr refl; address = address; first = t.2; second = s.2 })
no_conflict accesses r w r' w' i j apart first second clear (inr (address, in_one, inr in_other)) =
    let s : (t : Span) × Contains w' t × InSpan t address = span_of w' address in_one in
    let t : (t : Span) × Contains w t × InSpan t address = span_of w address in_other in
    clear (access t.0 i true) (access s.0 j true) (first.writes t.0 t.1) (second.writes s.0 s.1)
    (record { owners = apart; written = inr refl; address = address; first = t.2; second = s.2 })

-- ---- the walk

pub Clash-sym : (a b : Access) → Clash a b → Clash b a
Clash-sym a b h = record {
  owners = λ e. h.owners (sym e);
  written = elim h.written [ inl w ↦ inr w | inr w ↦ inl w ];
  address = h.address;
  first = h.second;
  second = h.first;
}

pub none_from_walk : (accesses : List Access) → ((i j : ℕ) (d : Access) → i < j → j < length accesses → Clash (get_or accesses i d) (get_or accesses j d) → ⊥) → HasNoClash accesses
none_from_walk accesses h a b ca cb clash =
    let x = at_from_Contains accesses a ca in
    let y = at_from_Contains accesses b cb in
    let there : Clash (get_or accesses x.0 a) (get_or accesses y.0 a) =
    subst (λ (z : Access). Clash z (get_or accesses y.0 a)) (sym (x.2 a)) (subst (λ (z : Access). Clash a z) (sym (y.2 a)) clash) in
    elim (cases_lt x.0 y.0) [
      | inl before ↦ h x.0 y.0 a before y.1 there
      | inr after ↦ elim (cases_lt y.0 x.0) [
        | inl less ↦ h y.0 x.0 a less x.1 (Clash-sym _ _ there)
        | inr same ↦
            let e : x.0 ≡ y.0 = omega arith in
            clash.owners (ap (λ (z : Access). z.owner) (sym (x.2 a) ∙ ap (λ (k : ℕ). get_or accesses k a) e ∙ y.2 a))
      ]
    ]

pub seen_more : (P : Access → Type 0) (accesses : List Access) (k : ℕ) (e : Access) → k < length accesses → ((i : ℕ) (d : Access) → i < k → P (get_or accesses i d)) → P (get_or accesses k e) →
    (i : ℕ) (d : Access) → i < k + 1 → P (get_or accesses i d)
seen_more P accesses k e within before here i d below =
    elim (cases_lt i k) [
      | inl less ↦ before i d less
      | inr most ↦
          let same : k ≡ i = omega arith in
          subst P (get_or_default accesses k e d within ∙ ap (λ (z : ℕ). get_or accesses z d) same) here
    ]

pub walk_more : (accesses : List Access) (seen : Seen) (k : ℕ) (e : Access) → k < length accesses → IsNonDecreasingBy first_of accesses → ((i : ℕ) (d : Access) → i < k → HasSeen seen (get_or accesses i d)) →
    ((i j : ℕ) (d : Access) → i < j → j < k → Clash (get_or accesses i d) (get_or accesses j d) → ⊥) →
    ((a : Access) → HasSeen seen a → first_of a ≤ first_of (get_or accesses k e) → Clash a (get_or accesses k e) → ⊥) →
    (i j : ℕ) (d : Access) → i < j → j < k + 1 → Clash (get_or accesses i d) (get_or accesses j d) → ⊥
walk_more accesses seen k e within sorted had clear free i j d before below clash =
    elim (cases_lt j k) [
      | inl less ↦ clear i j d before less clash
      | inr most ↦
          let same : j ≡ k = omega arith in
          let one : get_or accesses j d ≡ get_or accesses k e = ap (λ (z : ℕ). get_or accesses z d) same ∙ get_or_default accesses k d e within in
          let up : first_of (get_or accesses i d) ≤ first_of (get_or accesses j d) = sorted i j d (omega arith) (omega arith) in
          free (get_or accesses i d) (had i d (omega arith)) (subst (λ (z : Access). first_of (get_or accesses i d) ≤ first_of z) one up)
          (subst (λ (z : Access). Clash (get_or accesses i d) z) one clash)
    ]

-- ---- the pieces since the latest fence

-- no piece after i and before `at` is fenced
abbrev pub IsOpen : ℕ → Group → ℕ → ℕ → Type 0
IsOpen start group i at = (k : ℕ) → i < k → k < at → IsFenced start group k → ⊥

-- all that piece i touches is there
abbrev pub Holds : {P : Type 0} → (P → List Span) → (P → List Span) → List P → List Access → ℕ → Type 0
Holds {P} reads writes ps accesses i =
    (p : P) → slice_get ps i ≡ Some p → HasAccesses accesses (reads p) (writes p) i

-- of the pieces before m, those with no fence after and before n are there, and a pair is of such pieces
pub record IsGathered {P : Type 0} (reads writes : P → List Span) (C : ℕ → ℕ → Type 0) (ps : List P)
    (start : ℕ) (group : Group) (accesses : List Access) (m n : ℕ) : Type 0 where
  pub held : (i : ℕ) → start ≤ i → i < m → IsOpen start group i n → Holds reads writes ps accesses i
  pub done : (i j : ℕ) → j < m → IsUnfencedWithin C start group i j → IsOpen start group j n

abbrev pub IsSweptTo : {P : Type 0} → (P → List Span) → (P → List Span) → (ℕ → ℕ → Type 0) → List P →
    ℕ → Group → List Access → ℕ → Type 0
IsSweptTo reads writes C ps start group accesses at = IsGathered reads writes C ps start group accesses at at

module _ (P : Type 0) (reads writes : P → List Span) (C : ℕ → ℕ → Type 0) (ps : List P)
    (start : ℕ) (group : Group) where
  pub settled : ((i j : ℕ) → C i j → PieceConflictAt reads writes ps i j) → (accesses : List Access) (at : ℕ) →
      IsSweptTo reads writes C ps start group accesses at → HasNoClash accesses →
      (i j : ℕ) → j < at → IsUnfencedWithin C start group i j → ⊥
  settled spans accesses at h clear i j before u =
      let open_j : IsOpen start group j at = h.done i j before u in
      let open_i : IsOpen start group i at =
      λ k after up_to fenced. elim (cases_lt j k) [
        | inl late ↦ open_j k late up_to fenced
        | inr early ↦ u.unfenced k after early fenced
      ] in
      let c : PieceConflictAt reads writes ps i j = spans i j u.pair.conflict in
      no_conflict accesses (reads c.0) (writes c.0) (reads c.1) (writes c.1) i j (omega (arith, u.pair.ordered))
      (h.held i u.pair.starts (omega (arith, u.pair.ordered)) open_i c.0 c.2)
      (h.held j (omega (arith, u.pair.starts, u.pair.ordered)) before open_j c.1 c.3) clear c.4

  pub past_unfenced : (accesses : List Access) (at : ℕ) → (IsFenced start group at → ⊥) →
      IsSweptTo reads writes C ps start group accesses at →
      IsGathered reads writes C ps start group accesses at (at + 1)
  past_unfenced accesses at unfenced h = record {
    held = λ i from before opened. h.held i from before (λ k after up_to. opened k after (omega arith));
    done = λ i j before u k after up_to fenced.
        elim (cases_lt k at) [
          | inl less ↦ h.done i j before u k after less fenced
          | inr most ↦ let e : k ≡ at = omega arith in unfenced (subst (λ (z : ℕ). IsFenced start group z) e fenced)
        ];
  }

  pub past_fence : (accesses : List Access) (at : ℕ) → IsFenced start group at →
      ((i j : ℕ) → j < at → IsUnfencedWithin C start group i j → ⊥) →
      IsGathered reads writes C ps start group accesses at (at + 1)
  past_fence accesses at fenced none = record {
    held = λ i from before opened. absurd (opened at before (omega arith) fenced);
    done = λ i j before u. absurd (none i j before u);
  }

  pub gathered_more : (old new : List Access) (at : ℕ) (p : P) → slice_get ps at ≡ Some p →
      ((a : Access) → Contains old a → Contains new a) →
      HasAccesses new (reads p) (writes p) at → IsGathered reads writes C ps start group old at (at + 1) →
      IsSweptTo reads writes C ps start group new (at + 1)
  gathered_more old new at p is kept more h = record {
    held = λ i from before opened q e.
        elim (cases_lt i at) [
          | inl less ↦
              let was : HasAccesses old (reads q) (writes q) i = h.held i from less opened q e in
              record { reads = λ s c. kept _ (was.reads s c); writes = λ s c. kept _ (was.writes s c) }
          | inr most ↦
              let same : at ≡ i = omega arith in
              let one : p ≡ q = same_Some p q (sym is ∙ ap (λ (z : ℕ). slice_get ps z) same ∙ e) in
              subst (λ (z : P). HasAccesses new (reads z) (writes z) i) one
              (subst (λ (z : ℕ). HasAccesses new (reads p) (writes p) z) same more)
        ];
    done = λ i j before u.
        elim (cases_lt j at) [
          | inl less ↦ h.done i j less u
          | inr most ↦ λ k after up_to. absurd (omega arith)
        ];
  }

-- ---- what a list holds

Contains-map : {X Y : Type 0} (f : X → Y) (xs : List X) (x : X) → Contains xs x → Contains (map f xs) (f x)
Contains-map f xs x (k, within, is) = (k, omega (arith, length-map xs f), get_or-map f xs k x (f x) within ∙ ap f is)

-- once what a piece reads and then what it writes is appended, all that it touches is there
pub all_pushed : (old mid new : List Access) (r w reads writes : List Span) (owner : ℕ) →
    mid ≡ old ++ map (λ span. access span owner false) r → new ≡ mid ++ map (λ span. access span owner true) w →
    r ≡ reads → w ≡ writes → HasAccesses new reads writes owner
all_pushed old mid new r w reads writes owner first then is_r is_w = record {
  reads = λ s held.
      let here : Contains mid (access s owner false) =
      subst (λ (z : List Access). Contains z (access s owner false)) (sym first)
      (Contains-append_right _ _ _
      (Contains-map (λ span. access span owner false) r s (subst (λ (z : List Span). Contains z s) (sym is_r) held))) in
      subst (λ (z : List Access). Contains z (access s owner false)) (sym then) (Contains-append_left _ _ _ here);
  writes = λ s held.
      subst (λ (z : List Access). Contains z (access s owner true)) (sym then)
      (Contains-append_right _ _ _
      (Contains-map (λ span. access span owner true) w s (subst (λ (z : List Span). Contains z s) (sym is_w) held)));
}
