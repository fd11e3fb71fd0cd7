-- Groups one after another.
use Rattle.std.proofs.Common.{◌≡◌, ℕ, zero, suc, ◌+◌, ◌-◌, ◌*◌, ◌<◌, ◌≤◌, Bool, true, false, cond, List, [], ◌∷◌, Option, Some, drop, get_or, length, take, set, slice_get, slice_set, refl, sym, ap, ◌∙◌, subst, add-one, arith}
use Rattle.std.proofs.lemmas.List.{get_or-set_other, get_or-set_same, length-take, take_all}
use Rattle.std.proofs.lemmas.List.Sums.{sum_by-take-le}
use Rattle.std.proofs.lemmas.Option.{slice_get-get_or}
use Rattle.dsa_descriptor.specs.declared.span.Span.{Span}
use Rattle.dsa_descriptor.specs.Spans.{span}
use Rattle.dsa_emission.specs.declared.place.Place.{Place}
use Rattle.dsa_emission.specs.Emission.{batch_count, batched, batched_count, is_batch, place_after, place_of}
use Rattle.dsa_emission.proofs.Places.{IsPlacedAt, batch_yes, counts_within, group_read, placed_after, placed_at, total_is}
use Rattle.dsa_settings.specs.Plan.{Group, Plan, piece_count}
use Rattle.dsa_tracker.specs.declared.fault.TrackFault.{TrackFault}
use Rattle.dsa_tracker.specs.declared.owner.Owner.{Owner}
use Rattle.dsa_tracker.specs.declared.slots.Slots.{Slots}
use Rattle.dsa_tracker.specs.declared.submitted.Submitted.{Submitted}
use Rattle.dsa_tracker.specs.Calls.{Submits}
use Rattle.dsa_tracker.specs.Groups.{CanTakeGroups, IsGroupsFault, SubmitsInTurn, free_count, group_at, group_staging, pieces_of}
use Rattle.dsa_tracker.specs.Table.{Table}
use Rattle.dsa_tracker.proofs.Counting.{one_less}

-- all pieces come before the end
pub ends : (plan : Plan) (place : Place) (n : ℕ) → place ≡ place_of plan n → length plan ≤ n → place.start ≡ piece_count plan
ends plan place n e le = ap (λ (p : Place). p.start) e ∙ ap piece_count (take_all n plan le)

-- what comes before the end of the same groups
module _ (plan groups : Plan) (end : Place) (same : groups ≡ plan) (is : end ≡ place_of groups (length groups)) where
  pub end_is : end ≡ place_of plan (length plan)
  end_is = subst (λ (g : Plan). end ≡ place_of g (length g)) same is

  pub end_batched : end.batched ≡ batched_count plan
  end_batched = (total_is plan end end_is).0

  pub end_batches : end.batches ≡ batch_count plan
  end_batches = (total_is plan end end_is).1

  pub end_within : (pieces : ℕ) → piece_count groups ≡ pieces → (end.batched ≤ pieces) × (end.batches ≤ pieces)
  end_within pieces covers =
      let within = counts_within plan in
      let all = ap piece_count same in
      (omega (arith, within.1, end_batched, covers, all), omega (arith, within.0, end_batches, covers, all))

-- a group has at most two spans there
staging_len : (staging total : ℕ) (place : Place) (g : Group) → length (group_staging staging total place g) ≤ 2
staging_len staging total place g = two (is_batch g)
  where
    two : (b : Bool) → length (cond b (span (staging + 64 * place.batched) (64 * length g) ∷ span (staging + 64 * total + 32 * place.batches) 32 ∷ []) []) ≤ 2
    two true = omega arith
    two false = omega arith

-- a group at its place, as the code has it
module _ (plan groups : Plan) (same : groups ≡ plan) (m : ℕ) (place : Place) (g : Group) (placed : place ≡ place_of plan m) (lt : m < length groups) (g_is : g ≡ get_or groups m g) where
  pub group_lt : m < length plan
  group_lt = omega (arith, lt, ap length same)

  pub group_here : g ≡ get_or plan m g
  group_here = subst (λ (gs : Plan). g ≡ get_or gs m g) same g_is

  pub group_is : g ≡ group_at plan m
  group_is = group_read plan m g group_lt group_here

  pub group_got : slice_get plan m ≡ Some g
  group_got = slice_get-get_or plan m g group_lt ∙ ap Some (sym group_here)

  pub group_placed : IsPlacedAt plan place g
  group_placed = placed_at plan m place g placed group_lt group_here

  pub group_next : (after : Place) → after ≡ place_after place g → after ≡ place_of plan (m + 1)
  group_next after is = placed_after plan m place after g placed group_lt group_here is

  pub batch_within : 1 < length g → (place.batched + length g ≤ batched_count plan) × (place.batches + 1 ≤ batch_count plan)
  batch_within more =
      let next = group_next (place_after place g) refl in
      let is = batch_yes g more in
      let one : batched g ≡ length g = ap (λ (b : Bool). cond b (length g) 0) is in
      let pieces : place.batched + batched g ≡ batched_count (take (m + 1) plan) = ap (λ (p : Place). p.batched) next in
      let batches : place.batches + 1 ≡ batch_count (take (m + 1) plan) = ap (λ (b : Bool). place.batches + cond b 1 0) (sym is) ∙ ap (λ (p : Place). p.batches) next in
      (omega (arith, one, pieces, sum_by-take-le batched plan (m + 1)), omega (arith, batches, sum_by-take-le (λ (x : Group). cond (is_batch x) 1 0) plan (m + 1)))

  pub own_pieces : {P : Type 0} (ds : List P) → take (place.start + length g - place.start) (drop place.start ds) ≡ pieces_of plan ds m
  own_pieces ds =
      let size : place.start + length g - place.start ≡ length (group_at plan m) = omega (arith, ap length group_is) in
      ap (λ (k : ℕ). take k (drop place.start ds)) size ∙ ap (λ (p : Place). take (length (group_at plan m)) (drop p.start ds)) placed

  pub own_within : {P : Type 0} (ds : List P) → piece_count plan ≡ length ds → place.start + length g ≤ length ds
  own_within ds covers = omega (arith, group_placed.room, covers)

  pub own_room :
      {P : Type 0} (named : P → Owner) (ds : List P) (room free : ℕ) (owner : Option Owner) (staging total : ℕ) → CanTakeGroups named room free owner ds plan staging → (own : List P) (spans : List Span) →
      own ≡ take (place.start + length g - place.start) (drop place.start ds) → spans ≡ group_staging staging total place g → 3 * length own + length spans ≤ room
  own_room named ds room free owner staging total can own spans own_is spans_are =
      let few = can.spans m g group_got in
      let le : length (take (place.start + length g - place.start) (drop place.start ds)) ≤ length g = omega (arith, length-take (place.start + length g - place.start) (drop place.start ds)) in
      omega (arith, few, le, ap length own_is, ap length spans_are, staging_len staging total place g)

  pub own_staging : (staging total : ℕ) → total ≡ batched_count plan → group_staging staging total place g ≡ group_staging staging (batched_count plan) (place_of plan m) (group_at plan m)
  own_staging staging total is =
      ap (λ (n : ℕ). group_staging staging n place g) is ∙ ap (λ (p : Place). group_staging staging (batched_count plan) p g) placed
      ∙ ap (λ (h : Group). group_staging staging (batched_count plan) (place_of plan m) h) group_is

-- slots that agree so far
pub same_slots :
    (old : Table) (r w : ℕ → List Span) (also : Slots) (owner : Option Owner) (slots slots' : List ℕ) (count : ℕ) (new : Table) → ((k : ℕ) → k < count → get_or slots' k 0 ≡ get_or slots k 0) →
    SubmitsInTurn old r w also owner slots count new → SubmitsInTurn old r w also owner slots' count new
same_slots old r w also owner slots slots' zero new same h = h
same_slots old r w also owner slots slots' (suc count) new same h = (
  h.0,
  h.1,
  same_slots old r w also owner slots slots' count h.0 (λ k lt. same k (omega (arith, lt))) h.2,
  subst (λ (n : ℕ). Submits h.0 (r count) (w count) also owner (record { slot = n; waits = h.1 }) new) (sym (same count (omega arith))) h.3,
)

-- one submission more
pub one_more :
    (old mid new : Table) (r w : ℕ → List Span) (reads writes : List Span) (also : Slots) (owner expected : Option Owner) (slots : List ℕ) (m : ℕ) (submitted : Submitted) → SubmitsInTurn old r w also expected slots m mid →
    Submits mid reads writes also owner submitted new → reads ≡ r m → writes ≡ w m → owner ≡ expected → m < length slots → SubmitsInTurn old r w also expected (slice_set slots m submitted.slot) (m + 1) new
one_more old mid new r w reads writes also owner expected slots m submitted so_far call reads_are writes_are owner_is lt =
    subst (λ (n : ℕ). SubmitsInTurn old r w also expected (set slots m submitted.slot) n new) (sym (add-one m)) (
      mid,
      submitted.waits,
      same_slots old r w also expected slots (set slots m submitted.slot) m mid (λ k less. get_or-set_other slots m k submitted.slot 0 (λ e. omega (arith, e, less))) so_far,
      subst (λ (n : ℕ). Submits mid (r m) (w m) also expected (record { slot = n; waits = submitted.waits }) new) (sym (get_or-set_same slots m submitted.slot 0 lt))
          (subst (λ (o : Option Owner). Submits mid (r m) (w m) also o submitted new) owner_is
          (subst (λ (ws : List Span). Submits mid (r m) ws also owner submitted new) writes_are
          (subst (λ (rs : List Span). Submits mid rs writes also owner submitted new) reads_are call))),
    )

-- what a submission leaves of the table
module _ (mid new : Table) (reads writes : List Span) (also : Slots) (owner : Option Owner) (submitted : Submitted) (call : Submits mid reads writes also owner submitted new) where
  pub room_after : new.room ≡ mid.room
  room_after = ap (λ (t : Table). t.room) call.after

  pub fewer_free : free_count new.slots + 1 ≡ free_count mid.slots
  fewer_free = ap (λ (t : Table). free_count t.slots + 1) call.after ∙ one_less mid.slots submitted.slot call.taken call.slot.0

-- what can be taken, and what is against it, by the same measures
module _ {P : Type 0} (named : P → Owner) (room room' free free' : ℕ) (owner owner' : Option Owner) (pieces : List P) (plan : Plan) (staging : ℕ) (room_is : room ≡ room') (free_is : free ≡ free') (owner_is : owner ≡ owner') where
  pub can_same : CanTakeGroups named room free owner pieces plan staging → CanTakeGroups named room' free' owner' pieces plan staging
  can_same can = subst (λ (x : ℕ × ℕ × Option Owner). CanTakeGroups named x.0 x.1 x.2 pieces plan staging) (λ i. (room_is i, free_is i, owner_is i)) can

  pub fault_same : (fault : TrackFault) → IsGroupsFault named room free owner pieces plan staging fault → IsGroupsFault named room' free' owner' pieces plan staging fault
  fault_same fault is = subst (λ (x : ℕ × ℕ × Option Owner). IsGroupsFault named x.0 x.1 x.2 pieces plan staging fault) (λ i. (room_is i, free_is i, owner_is i)) is
