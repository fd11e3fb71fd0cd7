-- A slot that is given back.
use Rattle.std.proofs.Common.{◌≡◌, ◌≢◌, ◌↔◌, ℕ, ◌*◌, ◌<◌, inl, inr, List, Option, Some, length, slice_get, refl, sym, ap, ◌∙◌, subst, arith}
use Rattle.dsa_tracker.specs.declared.board.Board.{Board}
use Rattle.dsa_tracker.specs.declared.grid.Shape.{Shape}
use Rattle.dsa_tracker.specs.declared.slots.Slots.{Slots}
use Rattle.dsa_tracker.specs.Calls.{Releases}
use Rattle.dsa_tracker.specs.Rows.{Holds}
use Rattle.dsa_tracker.specs.Sets.{Has, IsEmpty}
use Rattle.dsa_tracker.specs.State.{IsShaped, IsState, all_shown, waits_of}
use Rattle.dsa_tracker.specs.Table.{IsExactly, IsReady, IsWithout, Outstanding, WaitsFor}
use Rattle.dsa_tracker.proofs.Noting.{covered_still, has}
use Rattle.dsa_tracker.proofs.Showing.{count, free_is, held_is, is_free, is_held, one_at}

pub released_shaped :
    (board new : Board) (waits waits' stores rows rows' : List ℕ) (shape : Shape) (slot : ℕ) → IsShaped board waits stores rows shape → length waits' ≡ length waits → (ready : Slots) →
    ((s : ℕ) → Has new.outstanding s ↔ (Has board.outstanding s × (s ≢ slot))) → ((s : ℕ) → Has new.blocked s ↔ (Has board.blocked s × (¬ Has ready s) × (s ≢ slot))) →
    length rows' ≡ length rows → IsShaped new waits' stores rows' shape
released_shaped board new waits waits' stores rows rows' shape slot shaped len ready outstanding blocked sized =
    record {
      few = omega (arith, len, shaped.few);
      wide = shaped.wide;
      stored = subst (λ (n : ℕ). length stores ≡ 2 * n * shape.width) (sym len) shaped.stored;
      sized = sized ∙ shaped.sized;
      within = λ s h. let lt = shaped.within s ((outstanding s).0 h).0 in omega (arith, lt, len);
      held = λ s h. let was = (blocked s).0 h in (outstanding s).1 (shaped.held s was.0, was.2);
    }

module _ (board new : Board) (waits waits' stores rows rows' : List ℕ) (shape : Shape) (slot : ℕ) (waited ready answer : Slots)
    (state : IsState board waits stores rows shape) (is_held_slot : Has board.outstanding slot)
    (waited_is : IsExactly waited (λ s. Has board.blocked s × Has (waits_of waits s) slot))
    (len : length waits' ≡ length waits)
    (forgets : (s : ℕ) → Has waited s → IsWithout (waits_of waits s) slot (waits_of waits' s))
    (keeps : (s : ℕ) → (¬ Has waited s) → waits_of waits' s ≡ waits_of waits s)
    (ready_is : IsExactly ready (λ s. Has waited s × IsEmpty (waits_of waits' s)))
    (outstanding : (s : ℕ) → Has new.outstanding s ↔ (Has board.outstanding s × (s ≢ slot)))
    (blocked : (s : ℕ) → Has new.blocked s ↔ (Has board.blocked s × (¬ Has ready s) × (s ≢ slot)))
    (wide : (s : ℕ) → Has new.wide s ↔ (Has board.wide s × (s ≢ slot)))
    (sized : length rows' ≡ length rows)
    (stays : (r k : ℕ) → k < 64 → k ≢ slot → Holds rows r k → Holds rows' r k) where
  waits_so : (s : ℕ) → Has board.outstanding s → Has (waits_of waits s) slot → Has waited s
  waits_so s out h = (waited_is s).1 ((state.blocked s).1 (out, λ none. none slot h), h)

  -- every slot is without the one that was given back
  without_it : (s : ℕ) → Has board.outstanding s → IsWithout (waits_of waits s) slot (waits_of waits' s)
  without_it s out =
      elim (has waited s) [
        | inl w ↦ forgets s w
        | inr not ↦
            subst (λ (x : Slots). IsWithout (waits_of waits s) slot x) (sym (keeps s not))
            (λ k. (λ h. (h, λ same. not (waits_so s out (subst (λ n. Has (waits_of waits s) n) same h))), λ h. h.0))
      ]

  within : (s : ℕ) → Has new.outstanding s → s < length waits'
  within s h = let lt = state.shaped.within s ((outstanding s).0 h).0 in omega (arith, lt, len)

  pub released : Releases (all_shown shape.width board waits stores) slot (all_shown shape.width new waits' stores)
  released =
      record {
        count = count shape.width new waits' stores ∙ len ∙ sym (count shape.width board waits stores);
        freed = let lt = state.shaped.within slot is_held_slot in free_is shape.width new waits' stores within slot (omega (arith, lt, len)) (λ h. ((outstanding slot).0 h).1 refl);
        others = others;
        free = λ s h.
            let was = is_free shape.width board waits stores state.shaped.within s h in
            let lt = was.0 in
            free_is shape.width new waits' stores within s (omega (arith, lt, len)) (λ now. was.1 ((outstanding s).0 now).0);
      }
    where
      others : (s : ℕ) (o : Outstanding) → s ≢ slot → slice_get (all_shown shape.width board waits stores) s ≡ Some (Some o) → (rest : Slots) × (slice_get (all_shown shape.width new waits' stores) s ≡ Some (Some (record o { waits = rest }))) × IsWithout o.waits slot rest
      others s o apart is =
          let was = is_held shape.width board waits stores state.shaped.within s o is in (
            waits_of waits' s,
            held_is shape.width new waits' stores within s ((outstanding s).1 (was.0, apart))
                ∙ ap {B = Option (Option Outstanding)} (λ (x : Outstanding). Some (Some (record x { waits = waits_of waits' s }))) (sym was.1),
            subst (λ (x : Outstanding). IsWithout x.waits slot (waits_of waits' s)) (sym was.1) (without_it s was.0),
          )

  waiting : (s : ℕ) → Has waited s ↔ WaitsFor (all_shown shape.width board waits stores) slot s
  waiting s =
      let at = one_at shape.width board waits stores state.shaped.within s (λ o. Has o.waits slot) in (
        λ h. let both = (waited_is s).0 h in at.1 (((state.blocked s).0 both.0).0, both.1),
        λ h. let both = at.0 h in waits_so s both.0 both.1,
      )

  pub waited_exactly : IsExactly waited (WaitsFor (all_shown shape.width board waits stores) slot)
  waited_exactly = waiting

  pub ready_exactly : ((s : ℕ) → Has answer s ↔ (Has ready s × (s ≢ slot))) → IsExactly answer (λ s. WaitsFor (all_shown shape.width board waits stores) slot s × IsReady (all_shown shape.width new waits' stores) s)
  ready_exactly answers s =
      let now = one_at shape.width new waits' stores within s (λ o. IsEmpty o.waits) in (
        λ h.
            let both = (answers s).0 h in
            let is_ready = (ready_is s).0 both.0 in
            let out = ((state.blocked s).0 ((waited_is s).0 is_ready.0).0).0 in
            ((waiting s).0 is_ready.0, now.1 ((outstanding s).1 (out, both.1), is_ready.1)),
        λ h. let free = now.0 h.1 in (answers s).1 ((ready_is s).1 ((waiting s).1 h.0, free.1), ((outstanding s).0 free.0).1),
      )

  blocked_now : (s : ℕ) → Has new.blocked s ↔ (Has new.outstanding s × (¬ IsEmpty (waits_of waits' s)))
  blocked_now s = (there, back)
    where
      there : Has new.blocked s → Has new.outstanding s × (¬ IsEmpty (waits_of waits' s))
      there h =
          let parts = (blocked s).0 h in
          let was = (state.blocked s).0 parts.0 in (
            (outstanding s).1 (was.0, parts.2),
            elim (has waited s) [
              | inl w ↦ λ none. parts.1 ((ready_is s).1 (w, none))
              | inr not ↦ subst (λ (x : Slots). IsEmpty x → ⊥) (sym (keeps s not)) was.1
            ],
          )

      back : Has new.outstanding s × (¬ IsEmpty (waits_of waits' s)) → Has new.blocked s
      back h =
          let out = (outstanding s).0 h.0 in
          (blocked s).1
          ((state.blocked s).1 (out.0, λ none. h.1 (λ k in_it. none k ((without_it s out.0 k).0 in_it).0)), λ is_ready. h.1 ((ready_is s).0 is_ready).1, out.1)

  pub released_state : IsState new waits' stores rows' shape
  released_state =
      record {
        shaped = released_shaped board new waits waits' stores rows rows' shape slot state.shaped len ready outstanding blocked sized;
        blocked = blocked_now;
        covered =
            covered_still shape.width stores shape.grid rows rows' board.wide new.wide board.outstanding new.outstanding state.covered
            (λ k h. ((outstanding k).0 h).0) (λ k h w. (wide k).1 (w, ((outstanding k).0 h).1))
            (λ r k h. let out = (outstanding k).0 h in let lt = state.shaped.within k out.0 in stays r k (omega (arith, lt, state.shaped.few)) out.1);
      }
