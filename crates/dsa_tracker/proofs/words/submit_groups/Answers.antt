use Rattle.std.proofs.Common.{ℕ, Option, length, refl, sym, ap, ◌∙◌}
use Rattle.std.specs.Prelude.{min}
use Rattle.dsa_emission.proofs.Places.{total_is}
use Rattle.dsa_tracker.specs.declared.owner.Owner.{Owner}
use Rattle.dsa_tracker.specs.Before.{place_by}
use Rattle.dsa_tracker.specs.Calls.{owner_with}
use Rattle.dsa_tracker.specs.Groups.{free_count}
use Rattle.dsa_tracker.specs.Words.{owner_in, room_in, shown_in}
use Rattle.dsa_tracker.proofs.Whole.{free_in}
use Rattle.dsa_tracker.proofs.Grouped.{can_same, fault_same}
use Rattle.dsa_tracker.proofs.words.submit_groups.Goals as goal

pub take_groups-requires-clause-can : goal.take_groups-requires-clause-can
take_groups-requires-clause-can g c =
    can_same g.P.Tracked.owner c.in-Some.head.room (room_in c.args.words.now) c.min-free.result (min (free_count (shown_in c.args.words.now)) (length c.args.slots.now)) c.expected_owner-owner.result (owner_with g.P.Tracked.owner (owner_in c.args.words.now) c.args.pieces.now) c.args.pieces.now c.args.plan.now c.args.staging
    (sym c.in-Some.ensures.1.room)
    (c.min-free.ensures ∙ ap (λ (n : ℕ). min n (length c.args.slots.now)) (free_in c.args.words.now c.in-Some.head c.in-Some.ensures.0 c.in-Some.ensures.1 c.free_slots.result c.free_slots.ensures))
    (c.expected_owner-owner.ensures ∙ ap (λ (o : Option Owner). owner_with g.P.Tracked.owner o c.args.pieces.now) (sym c.in-Some.ensures.1.owner))
    c.in-Ok.ensures.0

pub take_groups-requires-clause-total : goal.take_groups-requires-clause-total
take_groups-requires-clause-total g c = (total_is c.args.plan.now (place_by c.in-Ok.end) c.in-Ok.ensures.1).0

pub returns-in-Err : goal.returns-in-Err
returns-in-Err g c =
    record {
      answer = (
        (
          c.in-Some.ensures.0,
          fault_same g.P.Tracked.owner c.in-Some.head.room (room_in c.args.words.now) c.min-free.result (min (free_count (shown_in c.args.words.now)) (length c.args.slots.now)) c.expected_owner-owner.result (owner_with g.P.Tracked.owner (owner_in c.args.words.now) c.args.pieces.now) c.args.pieces.now c.args.plan.now c.args.staging
              (sym c.in-Some.ensures.1.room)
              (c.min-free.ensures ∙ ap (λ (n : ℕ). min n (length c.args.slots.now)) (free_in c.args.words.now c.in-Some.head c.in-Some.ensures.0 c.in-Some.ensures.1 c.free_slots.result c.free_slots.ensures))
              (c.expected_owner-owner.ensures ∙ ap (λ (o : Option Owner). owner_with g.P.Tracked.owner o c.args.pieces.now) (sym c.in-Some.ensures.1.owner))
              c.in-Err.fault c.in-Err.ensures,
        ),
        refl,
        refl,
      );
      rest = λ k past. refl;
    }

pub returns-in-Ok-clause-answer : goal.returns-in-Ok-clause-answer
returns-in-Ok-clause-answer g c = (
  c.in-Some.ensures.0,
  c.take_groups.ensures.shaped,
  can_same g.P.Tracked.owner c.in-Some.head.room (room_in c.args.words.now) c.min-free.result (min (free_count (shown_in c.args.words.now)) (length c.args.slots.now)) c.expected_owner-owner.result (owner_with g.P.Tracked.owner (owner_in c.args.words.now) c.args.pieces.now) c.args.pieces.now c.args.plan.now c.args.staging
      (sym c.in-Some.ensures.1.room)
      (c.min-free.ensures ∙ ap (λ (n : ℕ). min n (length c.args.slots.now)) (free_in c.args.words.now c.in-Some.head c.in-Some.ensures.0 c.in-Some.ensures.1 c.free_slots.result c.free_slots.ensures))
      (c.expected_owner-owner.ensures ∙ ap (λ (o : Option Owner). owner_with g.P.Tracked.owner o c.args.pieces.now) (sym c.in-Some.ensures.1.owner))
      c.in-Ok.ensures.0,
  c.take_groups.ensures.taken,
)
