-- What listing all reasons for a fence has found.
use Rattle.std.proofs.Common.{◌≡◌, ℕ, suc, ◌+◌, ◌-◌, ◌<◌, ◌≤◌, ◌++◌, ◌⊎◌, inl, inr, List, [], ◌∷◌, length, get_or, subst, arith}
use Rattle.std.specs.Prelude.{Any}
use Rattle.std.proofs.lemmas.Bool.{cases_eq, cases_lt}
use Rattle.std.proofs.lemmas.List.Elements.{All-push, All-weaker, All-nil}
use Rattle.std.proofs.lemmas.List.Quantifiers.{Any-push, all_pairs_push}
use Rattle.std.proofs.lemmas.Grind.{common_steps}
use Rattle.dsa_descriptor.specs.declared.span.Span.{Span}
use Rattle.dsa_ranges.specs.Pieces.{PieceConflictAt}
use Rattle.dsa_settings.specs.Plan.{Group}
use Rattle.dsa_settings.specs.Legal.{IsFenced}
use Rattle.dsa_reasons.specs.declared.reason.Reason.{Reason}
use Rattle.dsa_reasons.specs.Reasons.{IsHazardOf, IsReached, IsOpen, IsReason, ComesBefore, IsOfPair, AreReasonsFor, IsSoFar, IsFoundSoFar, HasReasonsSoFar}
use Rattle.dsa_reasons.proofs.Reached.{hazard_conflicts, needs_reached}

any_kept : {X : Type 0} (P : X → Type 0) (xs : List X) (y : X) → Any P xs → Any P (xs ++ y ∷ [])
any_kept P xs y h = (h.0, h.1, grind (arith, common_steps, h), grind (arith, common_steps, h), h.4)

-- none yet, at the fence
pub none_so_far : {P : Type 0} (reads writes : P → List Span) (fs : List P) (start : ℕ) (group : Group) (at : ℕ)
    → HasReasonsSoFar reads writes fs start group at at at []
none_so_far reads writes fs start group at =
    record {
      each = All-nil (IsFoundSoFar reads writes fs start group at at at);
      all = λ a b reached after so_far _.
          elim so_far [
            | inl below ↦ absurd (omega (arith, after, below))
            | inr here ↦ absurd (omega (arith, here.1, reached.before))
          ];
      order = λ i j d lt within. absurd (omega (arith, within));
    }

-- more is so far where the inner loop goes down
lower : (later i j a b : ℕ) → j ≤ i → IsSoFar later i a b → IsSoFar later j a b
lower later i j a b le (inl below) = inl below
lower later i j a b le (inr here) = inr (here.0, omega (arith, here.1, le))

found_lower : {P : Type 0} (reads writes : P → List Span) (fs : List P) (start : ℕ) (group : Group) (at later i j : ℕ) (r : Reason) → j ≤ i
    → IsFoundSoFar reads writes fs start group at later i r → IsFoundSoFar reads writes fs start group at later j r
found_lower reads writes fs start group at later i j r le f = record {
  reached = f.reached;
  after = f.after;
  so_far = lower later i j r.earlier r.later le f.so_far;
  hazard = f.hazard;
}

-- what is so far with one more earlier piece was so far, or is of that piece
one_lower : (later i a b : ℕ) → 0 < i → IsSoFar later (i - 1) a b → IsSoFar later i a b ⊎ ((a ≡ i - 1) × (b ≡ later))
one_lower later i a b lt (inl below) = inl (inl below)
one_lower later i a b lt (inr here) =
    elim (cases_eq a (i - 1)) [
      | inl same ↦ inr (same, here.0)
      | inr other ↦ inl (inr (here.0, omega (arith, other, here.1, lt)))
    ]

-- the next earlier piece does not conflict
pub none_more : {P : Type 0} (reads writes : P → List Span) (fs : List P) (start : ℕ) (group : Group) (at later i : ℕ) (rs : List Reason) → 0 < i
    → (PieceConflictAt reads writes fs (i - 1) later → ⊥) → HasReasonsSoFar reads writes fs start group at later i rs
    → HasReasonsSoFar reads writes fs start group at later (i - 1) rs
none_more reads writes fs start group at later i rs lt apart h =
    record {
      each = All-weaker (IsFoundSoFar reads writes fs start group at later i) (IsFoundSoFar reads writes fs start group at later (i - 1))
          (λ r f. found_lower reads writes fs start group at later i (i - 1) r (omega arith) f) rs h.each;
      all = λ a b reached after so_far meets.
          elim (one_lower later i a b lt so_far) [
            | inl before ↦ h.all a b reached after before meets
            | inr here ↦ absurd (apart (subst (λ (z : ℕ). PieceConflictAt reads writes fs z later) here.0
                (subst (λ (z : ℕ). PieceConflictAt reads writes fs a z) here.1 meets)))
          ];
      order = h.order;
    }

before_new : {P : Type 0} (reads writes : P → List Span) (fs : List P) (start : ℕ) (group : Group) (at later i : ℕ) (r new : Reason) → 0 < i
    → new.earlier ≡ i - 1 → new.later ≡ later → IsFoundSoFar reads writes fs start group at later i r → ComesBefore r new
before_new reads writes fs start group at later i r new lt e l f =
    elim f.so_far [
      | inl below ↦ inl (omega (arith, below, l))
      | inr here ↦ inr (omega (arith, here.0, l), omega (arith, here.1, e, lt))
    ]

-- the next earlier piece conflicts, and was added
pub one_more : {P : Type 0} (reads writes : P → List Span) (fs : List P) (start : ℕ) (group : Group) (at later i : ℕ) (rs : List Reason) (new : Reason)
    → 0 < i → at ≤ later → new.earlier ≡ i - 1 → new.later ≡ later → IsReached start group at new.earlier
    → IsHazardOf reads writes fs new.earlier new.later new.hazard → HasReasonsSoFar reads writes fs start group at later i rs
    → HasReasonsSoFar reads writes fs start group at later (i - 1) (rs ++ new ∷ [])
one_more reads writes fs start group at later i rs new lt after e l reached hazard h =
    record {
      each = All-push (IsFoundSoFar reads writes fs start group at later (i - 1)) rs new
          (All-weaker (IsFoundSoFar reads writes fs start group at later i) (IsFoundSoFar reads writes fs start group at later (i - 1))
          (λ r f. found_lower reads writes fs start group at later i (i - 1) r (omega arith) f) rs h.each)
          record { reached = reached; after = omega (arith, after, l); so_far = inr (l, omega (arith, e)); hazard = hazard };
      all = λ a b there from so_far meets.
          elim (one_lower later i a b lt so_far) [
            | inl before ↦ any_kept (IsOfPair a b) rs new (h.all a b there from before meets)
            | inr here ↦ Any-push (IsOfPair a b) rs new (omega (arith, e, here.0), omega (arith, l, here.1))
          ];
      order = all_pairs_push ComesBefore rs new h.order
          (λ k d within. before_new reads writes fs start group at later i (get_or rs k d) new lt e l (h.each k d within));
    }

later_lower : {P : Type 0} (reads writes : P → List Span) (fs : List P) (start : ℕ) (group : Group) (at later i : ℕ) (r : Reason)
    → IsFoundSoFar reads writes fs start group at later i r → IsFoundSoFar reads writes fs start group at (suc later) at r
later_lower reads writes fs start group at later i r f = record {
  reached = f.reached;
  after = f.after;
  so_far = elim f.so_far [
    | inl below ↦ inl (omega (arith, below))
    | inr here ↦ inl (omega (arith, here.0))
  ];
  hazard = f.hazard;
}

-- all such earlier pieces were looked at
pub row_done : {P : Type 0} (reads writes : P → List Span) (fs : List P) (start : ℕ) (group : Group) (at later i : ℕ) (rs : List Reason)
    → ((x : ℕ) → IsReached start group at x → i ≤ x) → HasReasonsSoFar reads writes fs start group at later i rs
    → HasReasonsSoFar reads writes fs start group at (suc later) at rs
row_done reads writes fs start group at later i rs above h =
    record {
      each = All-weaker (IsFoundSoFar reads writes fs start group at later i) (IsFoundSoFar reads writes fs start group at (suc later) at)
          (λ r f. later_lower reads writes fs start group at later i r f) rs h.each;
      all = λ a b reached after so_far meets.
          elim so_far [
            | inl below ↦ elim (cases_lt b later) [
              | inl before ↦ h.all a b reached after (inl before) meets
              | inr from ↦ h.all a b reached after (inr (omega (arith, below, from), above a reached)) meets
            ]
            | inr here ↦ absurd (omega (arith, here.1, reached.before))
          ];
      order = h.order;
    }

one_reason : {P : Type 0} (reads writes : P → List Span) (fs : List P) (start : ℕ) (group : Group) (at end : ℕ) (r : Reason)
    → end ≤ start + length group → IsOpen start group at end → IsFoundSoFar reads writes fs start group at end at r
    → IsReason reads writes fs start group at r
one_reason reads writes fs start group at end r within open_here f =
    let before : r.later < end = elim f.so_far [
      | inl below ↦ below
      | inr here ↦ absurd (omega (arith, here.1, f.reached.before))
    ] in
    record {
      needs = record {
        conflicts = record {
          starts = f.reached.begun;
          ordered = omega (arith, f.reached.before, f.after);
          ends = omega (arith, before, within);
          conflict = hazard_conflicts reads writes fs r.earlier r.later r.hazard f.hazard;
        };
        before = f.reached.before;
        after = f.after;
        alone = λ other after up_to fenced.
            elim (cases_lt other at) [
              | inl below ↦ absurd (f.reached.open_between other after below fenced)
              | inr above ↦
                  elim (cases_eq other at) [
                    | inl same ↦ same
                    | inr more ↦ absurd (open_here other (omega arith) (omega arith) fenced)
                  ]
            ];
      };
      hazard = f.hazard;
    }

-- all later pieces before the next fence were asked
pub all_found : {P : Type 0} (reads writes : P → List Span) (fs : List P) (start : ℕ) (group : Group) (at end : ℕ) (rs : List Reason) → at < end
    → end ≤ start + length group → IsOpen start group at end → (end < start + length group → IsFenced start group end)
    → HasReasonsSoFar reads writes fs start group at end at rs → AreReasonsFor reads writes fs start group at rs
all_found reads writes fs start group at end rs after within open_here closed h =
    record {
      each = All-weaker (IsFoundSoFar reads writes fs start group at end at) (IsReason reads writes fs start group at)
          (λ r f. one_reason reads writes fs start group at end r within open_here f) rs h.each;
      all = λ a b needs.
          elim (cases_lt b end) [
            | inl below ↦ h.all a b (needs_reached (PieceConflictAt reads writes fs) start group at a b needs) needs.after (inl below) needs.conflicts.conflict
            | inr above ↦
                let inside : end < start + length group = omega (arith, needs.conflicts.ends, above) in
                let same : end ≡ at = needs.alone end (omega (arith, needs.before, after)) above (closed inside) in
                absurd (omega (arith, same, after))
          ];
      order = h.order;
    }
