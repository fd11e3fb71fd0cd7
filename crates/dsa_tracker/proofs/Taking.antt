-- A slot that is taken.
use Rattle.std.proofs.Common.{◌≡◌, ◌↔◌, ℕ, ◌+◌, ◌*◌, ◌<◌, ◌≤◌, ◌⊎◌, inl, inr, Bool, true, false, List, length, set, refl, sym, ap, ◌∙◌, subst, arith}
use Rattle.std.proofs.Math.Nat.{mul-le-mul_right}
use Rattle.std.proofs.lemmas.Bool.{cases_eq}
use Rattle.std.proofs.lemmas.List.{length-set}
use Rattle.dsa_tracker.specs.declared.board.Board.{Board}
use Rattle.dsa_tracker.specs.declared.grid.Shape.{Shape}
use Rattle.dsa_tracker.specs.declared.slots.Slots.{Slots}
use Rattle.dsa_tracker.specs.Finding.{Covers, Marks, reads_store, writes_store}
use Rattle.dsa_tracker.specs.Kept.{kept}
use Rattle.dsa_tracker.specs.Rows.{Holds}
use Rattle.dsa_tracker.specs.Sets.{Has, IsEmpty}
use Rattle.dsa_tracker.specs.State.{IsShaped, IsState, waits_of}
use Rattle.dsa_tracker.specs.Table.{IsExactly}
use Rattle.dsa_tracker.proofs.Noting.{has}
use Rattle.dsa_tracker.proofs.Showing.{waits_set_here, waits_set_other}

pub stores_fit : (width len n s : ℕ) → len ≡ 2 * n * width → s < n → (2 * s + 2) * width ≤ len
stores_fit width len n s is lt = let le : (2 * s + 2) * width ≤ 2 * n * width = mul-le-mul_right width (omega (arith, lt)) in omega (arith, le, is)

-- what is awaited: what was named, and what is found among the others
pub awaited_exactly : (outstanding also named among found all : Slots) (P : ℕ → Type 0) → ((k : ℕ) → Has named k ↔ (Has also k × Has outstanding k)) → ((k : ℕ) → Has among k ↔ (Has outstanding k × (¬ Has named k))) → IsExactly found (λ k. Has among k × P k) → ((k : ℕ) → Has all k ↔ (Has named k ⊎ Has found k)) → (k : ℕ) → Has all k ↔ (Has outstanding k × (P k ⊎ Has also k))
awaited_exactly outstanding also named among found all P names rest finds union k = (
  λ h. elim ((union k).0 h) [
    | inl n ↦ let both = (names k).0 n in (both.1, inr both.0)
    | inr f ↦ let both = (finds k).0 f in (((rest k).0 both.0).0, inl both.1)
  ],
  λ h. elim (has named k) [
    | inl n ↦ (union k).1 (inl n)
    | inr not ↦ elim h.1 [
      | inl p ↦ (union k).1 (inr ((finds k).1 ((rest k).1 (h.0, not), p)))
      | inr a ↦ absurd (not ((names k).1 (a, h.0)))
    ]
  ],
)

pub taken_shaped :
    (board new : Board) (waits stores rows rows' : List ℕ) (shape : Shape) (slot : ℕ) (awaited : Slots) (is_whole : Bool) → IsShaped board waits stores rows shape → slot < length waits →
    ((s : ℕ) → Has new.outstanding s ↔ (Has board.outstanding s ⊎ (s ≡ slot))) → ((s : ℕ) → Has new.blocked s ↔ (Has board.blocked s ⊎ ((s ≡ slot) × (¬ IsEmpty awaited)))) →
    length rows' ≡ length rows → IsShaped new (set waits slot awaited.0) stores rows' shape
taken_shaped board new waits stores rows rows' shape slot awaited is_whole shaped inside outstanding blocked sized =
    let len = length-set waits slot awaited.0 in
    record {
      few = omega (arith, len, shaped.few);
      wide = shaped.wide;
      stored = subst (λ (n : ℕ). length stores ≡ 2 * n * shape.width) (sym len) shaped.stored;
      sized = sized ∙ shaped.sized;
      within = λ s h. elim ((outstanding s).0 h) [
        | inl was ↦ let lt = shaped.within s was in omega (arith, lt, len)
        | inr same ↦ omega (arith, same, inside, len)
      ];
      held = λ s h. elim ((blocked s).0 h) [ inl was ↦ (outstanding s).1 (inl (shaped.held s was)) | inr here ↦ (outstanding s).1 (inr here.0) ];
    }

module _ (board new : Board) (waits stores rows rows' : List ℕ) (shape : Shape) (slot : ℕ) (awaited : Slots) (is_whole : Bool)
    (state : IsState board waits stores rows shape) (inside : slot < length waits) (free : ¬ Has board.outstanding slot)
    (outstanding : (s : ℕ) → Has new.outstanding s ↔ (Has board.outstanding s ⊎ (s ≡ slot)))
    (blocked : (s : ℕ) → Has new.blocked s ↔ (Has board.blocked s ⊎ ((s ≡ slot) × (¬ IsEmpty awaited))))
    (wide : (s : ℕ) → Has new.wide s ↔ (Has board.wide s ⊎ ((s ≡ slot) × (is_whole ≡ true → ⊥))))
    (sized : length rows' ≡ length rows)
    (marked : is_whole ≡ true → Marks shape.grid rows' (kept (reads_store shape.width stores slot)) (kept (writes_store shape.width stores slot)) slot)
    (stays : (r k : ℕ) → k < 64 → Holds rows r k → Holds rows' r k) where
  abbrev now : List ℕ
  now = set waits slot awaited.0

  len : length now ≡ length waits
  len = length-set waits slot awaited.0

  within : (s : ℕ) → Has new.outstanding s → s < length waits
  within s h = elim ((outstanding s).0 h) [ inl was ↦ state.shaped.within s was | inr same ↦ subst (λ (n : ℕ). n < length waits) (sym same) inside ]

  here : waits_of now slot ≡ awaited
  here = waits_set_here waits slot awaited inside

  blocked_now : (s : ℕ) → Has new.blocked s ↔ (Has new.outstanding s × (¬ IsEmpty (waits_of now s)))
  blocked_now s =
      elim (cases_eq s slot) [
        | inl same ↦
            let now_is : waits_of now s ≡ awaited = ap (λ n. waits_of now n) same ∙ here in (
              λ h. elim ((blocked s).0 h) [
                | inl was ↦ absurd (free (subst (λ n. Has board.outstanding n) same ((state.blocked s).0 was).0))
                | inr waits_now ↦ ((outstanding s).1 (inr same), subst (λ (w : Slots). IsEmpty w → ⊥) (sym now_is) waits_now.1)
              ],
              λ h. (blocked s).1 (inr (same, subst (λ (w : Slots). IsEmpty w → ⊥) now_is h.1)),
            )
        | inr apart ↦
            let same_waits : waits_of now s ≡ waits_of waits s = waits_set_other waits slot s awaited.0 apart in (
              λ h. elim ((blocked s).0 h) [
                | inl was ↦ let both = (state.blocked s).0 was in ((outstanding s).1 (inl both.0), subst (λ (w : Slots). IsEmpty w → ⊥) (sym same_waits) both.1)
                | inr waits_now ↦ absurd (apart waits_now.0)
              ],
              λ h. elim ((outstanding s).0 h.0) [
                | inl was ↦ (blocked s).1 (inl ((state.blocked s).1 (was, subst (λ (w : Slots). IsEmpty w → ⊥) same_waits h.1)))
                | inr same ↦ absurd (apart same)
              ],
            )
      ]

  abbrev CoversNow : ℕ → Type 0
  CoversNow k = Covers shape.grid rows' new.wide (kept (reads_store shape.width stores k)) (kept (writes_store shape.width stores k)) k

  whole : (b : Bool) → (b ≡ true) ⊎ (b ≡ true → ⊥)
  whole true = inl refl
  whole false = inr (λ h. cc)

  slot_covered : CoversNow slot
  slot_covered = elim (whole is_whole) [ inl all ↦ inr (marked all) | inr some ↦ inl ((wide slot).1 (inr (refl, some))) ]

  covered_now : (k : ℕ) → Has new.outstanding k → CoversNow k
  covered_now k h =
      elim ((outstanding k).0 h) [
        | inl was ↦
            let lt = state.shaped.within k was in
            let low : k < 64 = omega (arith, lt, state.shaped.few) in
            elim (state.covered k was) [
              | inl is_wide ↦ inl ((wide k).1 (inl is_wide))
              | inr marks ↦ inr (
                λ a t. let m = marks.0 a t in (stays _ k low m.0, stays _ k low m.1),
                λ a t. let m = marks.1 a t in (stays _ k low m.0, stays _ k low m.1),
              )
            ]
        | inr same ↦ subst CoversNow (sym same) slot_covered
      ]

  pub taken_state : IsState new now stores rows' shape
  taken_state = record { shaped = taken_shaped board new waits stores rows rows' shape slot awaited is_whole state.shaped inside outstanding blocked sized; blocked = blocked_now; covered = covered_now }
