-- Two complete flights end alike.
use Rattle.std.proofs.Common.{◌≡◌, ℕ, suc, ◌<◌, ◌≤◌, ◌⊎◌, inl, inr, Bool, true, false, IsTrue, List, [], ◌∷◌, length, Option, Some, slice_get, refl, sym, ap, ◌∙◌, subst, arith}
use Rattle.std.proofs.lemmas.Bool.{cases_lt}
use Rattle.std.proofs.lemmas.Option.{same_Some}
use Rattle.dsa_image.specs.Memory.{Memory}
use Rattle.dsa_core.specs.Machine.{Machine}
use Rattle.dsa_core.specs.Order.{statuses_in_order}
use Rattle.dsa_core.specs.Run.{Setup, Progress}
use Rattle.dsa_core.specs.Run.Progress.{Finished}
use Rattle.dsa_core.specs.StopPoint.{IsStopPoint}
use Rattle.dsa_core.specs.Laws.{IsInOrderTo}
use Rattle.dsa_core.proofs.Advance.{same_count}
use Rattle.dsa_core.proofs.StopPoint.{stop_points_agree}
use Rattle.dsa_flight.specs.Flight.{lane_state}
use Rattle.dsa_flight.specs.Laws.{EndsInTurn, FlightsAgree}
use Rattle.dsa_flight.proofs.InTurn.{LaneOrderly, lane_orderly, flight_kept, flight_ends}

-- lists with the same elements are equal
same_elements : {X : Type 0} (xs ys : List X) → length xs ≡ length ys → ((i : ℕ) → i < length xs → slice_get xs i ≡ slice_get ys i) → xs ≡ ys
same_elements [] [] count same = refl
same_elements [] (y ∷ ys) count same = absurd (omega (arith, count))
same_elements (x ∷ xs) [] count same = absurd (omega (arith, count))
same_elements (x ∷ xs) (y ∷ ys) count same =
    let first : x ≡ y = same_Some x y (same 0 (omega arith)) in
    let rest : xs ≡ ys = same_elements xs ys (omega (arith, count)) (λ i lt. same (suc i) (omega (arith, lt))) in
    λ k. first k ∷ rest k

both_values : (b : Bool) → b ≡ true → b ≡ false → ⊥
both_values b t f = let wrong : true ≡ false = sym t ∙ f in cc

module _ {D P : Type 0} (machine : Machine D P) where
  -- each lane has the progress of each piece
  abbrev AreCounted : List (Setup D) → List (List (Progress P)) → Type 0
  AreCounted subs lanes =
      (x : ℕ) (a : Setup D) (qs : List (Progress P)) → slice_get subs x ≡ Some a → slice_get lanes x ≡ Some qs → length qs ≡ length a.pieces

  counted : (subs : List (Setup D)) (lanes : List (List (Progress P))) (m end : Memory) → ((x : ℕ) (a : Setup D) (qs : List (Progress P)) → slice_get subs x ≡ Some a → slice_get lanes x ≡ Some qs → LaneOrderly machine a qs) → AreCounted subs lanes
  counted subs lanes m end orderly x a qs is_sub is_lane =
      let lane = orderly x a qs is_sub is_lane in
      same_count machine a.pieces qs lane.from lane.orderly.in_step

  same_progress :
      (a : Setup D) (m n n' : Memory) (qs qs' : List (Progress P)) (k : ℕ) → length qs ≡ length a.pieces → length qs' ≡ length a.pieces →
      IsInOrderTo machine a m k (lane_state n qs) → IsInOrderTo machine a m k (lane_state n' qs') → qs ≡ qs'
  same_progress a m n n' qs qs' k count count' done done' = same_elements qs qs' (count ∙ sym count') at
    where
      below : (i : ℕ) → i < k → slice_get qs i ≡ slice_get qs' i
      below i lt =
          let one = done.below i lt in
          let two = done'.below i lt in
          let same : one.0 ≡ two.0 = same_Some one.0 two.0 (sym one.2 ∙ two.2) in
          one.1 ∙ ap {B = Option (Progress P)} (λ st. Some (Finished st)) same ∙ sym two.1

      at : (i : ℕ) → i < length qs → slice_get qs i ≡ slice_get qs' i
      at i lt =
          elim (cases_lt i k) [
            | inl low ↦ below i low
            | inr high ↦
                let le : k ≤ i = omega (arith, high) in
                let within : i < length a.pieces = omega (arith, lt, count) in
                done.beyond i le within ∙ sym (done'.beyond i le within)
          ]

  same_stop : (a : Setup D) (m : Memory) (going : Bool) (k k' : ℕ) →
      (IsTrue going × IsStopPoint a.epoch (statuses_in_order machine a.pieces m) k ⊎ (going ≡ false) × (k ≡ 0)) →
      (IsTrue going × IsStopPoint a.epoch (statuses_in_order machine a.pieces m) k' ⊎ (going ≡ false) × (k' ≡ 0)) → k ≡ k'
  same_stop a m going k k' (inl x) (inl y) = stop_points_agree a.epoch (statuses_in_order machine a.pieces m) k k' x.1 y.1
  same_stop a m going k k' (inl x) (inr y) = absurd (both_values going x.0 y.0)
  same_stop a m going k k' (inr x) (inl y) = absurd (both_values going y.0 x.0)
  same_stop a m going k k' (inr x) (inr y) = x.1 ∙ sym y.1

  turns_agree :
      (subs : List (Setup D)) (goes : ℕ → Bool) (lanes lanes' : List (List (Progress P))) (m end end' : Memory) →
      AreCounted subs lanes → AreCounted subs lanes' →
      EndsInTurn machine goes subs lanes m end → EndsInTurn machine goes subs lanes' m end' → (lanes ≡ lanes') × (end ≡ end')
  turns_agree [] goes [] [] m end end' count count' turn turn' = (refl, turn ∙ sym turn')
  turns_agree [] goes [] (qs' ∷ lanes') m end end' count count' turn turn' = absurd turn'
  turns_agree [] goes (qs ∷ lanes) lanes' m end end' count count' turn turn' = absurd turn
  turns_agree (a ∷ subs) goes [] lanes' m end end' count count' turn turn' = absurd turn
  turns_agree (a ∷ subs) goes (qs ∷ lanes) [] m end end' count count' turn turn' = absurd turn'
  turns_agree (a ∷ subs) goes (qs ∷ lanes) (qs' ∷ lanes') m end end' count count' turn turn' =
      let k_is : turn'.1 ≡ turn.1 = same_stop a m (goes 0) turn'.1 turn.1 turn'.2 turn.2 in
      let done' : IsInOrderTo machine a m turn.1 (lane_state turn'.0 qs') = subst (λ k. IsInOrderTo machine a m k (lane_state turn'.0 qs')) k_is turn'.3 in
      let mid_is : turn'.0 ≡ turn.0 = done'.memory_is ∙ sym turn.3.memory_is in
      let first : qs ≡ qs' = same_progress a m turn.0 turn'.0 qs qs' turn.1 (count 0 a qs refl refl) (count' 0 a qs' refl refl) turn.3 done' in
      let rest = turns_agree subs (λ x. goes (suc x)) lanes lanes' turn.0 end end' (λ x. count (suc x)) (λ x. count' (suc x)) turn.4
      (subst (λ n. EndsInTurn machine (λ x. goes (suc x)) subs lanes' n end') mid_is turn'.4) in
      (λ i. first i ∷ rest.0 i, rest.1)

pub flights_agree : {D P : Type 0} (machine : Machine D P) → FlightsAgree machine
flights_agree machine subs goes waits waits' m events events' s s' fits cover cover' flight flight' ended ended' =
    let kept = flight_kept machine subs goes waits m fits cover events s flight in
    let kept' = flight_kept machine subs goes waits' m fits cover' events' s' flight' in
    let count = counted machine subs s.lanes m s.memory (λ x a qs. lane_orderly machine subs s.lanes m s.memory x a qs fits kept.in_order) in
    let count' = counted machine subs s'.lanes m s'.memory (λ x a qs. lane_orderly machine subs s'.lanes m s'.memory x a qs fits kept'.in_order) in
    let turn = flight_ends machine subs goes waits m fits cover events s flight ended in
    let turn' = flight_ends machine subs goes waits' m fits cover' events' s' flight' ended' in
    let same = turns_agree machine subs goes s.lanes s'.lanes m s.memory s'.memory count count' turn turn' in
    λ i. record { memory = same.1 i; lanes = same.0 i }
