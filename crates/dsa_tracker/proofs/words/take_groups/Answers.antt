use Rattle.std.proofs.Common.{◌≡◌, ◌++◌, ℕ, List, Option, length, sym, ap, ◌∙◌, subst, arith}
use Rattle.std.specs.Prelude.{flat_map}
use Rattle.std.proofs.lemmas.List.{length-set}
use Rattle.dsa_core.proofs.Slots.{get_set_other}
use Rattle.dsa_descriptor.specs.declared.span.Span.{Span}
use Rattle.dsa_tracker.specs.declared.owner.Owner.{Owner}
use Rattle.dsa_tracker.specs.Before.{place_by}
use Rattle.dsa_tracker.specs.Calls.{AreAddressable, owner_with}
use Rattle.dsa_tracker.specs.Groups.{SubmitsInTurn, group_reads, group_writes}
use Rattle.dsa_tracker.specs.Words.{owner_in, shown_in, table_in}
use Rattle.dsa_tracker.proofs.Counting.{not_full}
use Rattle.dsa_tracker.proofs.Grouped.{batch_within, group_next, group_placed, one_more, own_pieces, own_room, own_staging, own_within}
use Rattle.dsa_tracker.proofs.Whole.{full_in}
use Rattle.dsa_tracker.proofs.words.take_groups.Goals as goal

pub own_pieces-own-requires : goal.own_pieces-own-requires
own_pieces-own-requires g c = own_within c.args.plan.now c.groups-group-items.result.now c.groups-group-items.ensures c.loop-number.number (place_by c.loop-number.before) c.group-item.result c.loop-number.invariant.placed c.loop-number-test.true c.group-item.is c.args.pieces.now c.requires.can.covers

pub staged_spans-staged-requires-clause-within : goal.staged_spans-staged-requires-clause-within
staged_spans-staged-requires-clause-within g c = λ more.
    omega (arith, c.requires.total, (batch_within c.args.plan.now c.groups-group-items.result.now c.groups-group-items.ensures c.loop-number.number (place_by c.loop-number.before) c.group-item.result c.loop-number.invariant.placed c.loop-number-test.true c.group-item.is more).0)

pub staged_spans-staged-requires-clause-addressable : goal.staged_spans-staged-requires-clause-addressable
staged_spans-staged-requires-clause-addressable g c = λ more.
    omega (arith, c.requires.total, c.requires.can.addressable, (batch_within c.args.plan.now c.groups-group-items.result.now c.groups-group-items.ensures c.loop-number.number (place_by c.loop-number.before) c.group-item.result c.loop-number.invariant.placed c.loop-number-test.true c.group-item.is more).1)

pub take_list-submitted-requires-clause-room : goal.take_list-submitted-requires-clause-room
take_list-submitted-requires-clause-room g c =
    omega (arith, c.in-Some-read_head.ensures.1.room, c.loop-number.invariant.room, own_room c.args.plan.now c.groups-group-items.result.now c.groups-group-items.ensures c.loop-number.number (place_by c.loop-number.before) c.group-item.result c.loop-number.invariant.placed c.loop-number-test.true c.group-item.is g.P.Tracked.owner c.args.pieces.now _ _ _ c.args.staging c.args.total c.requires.can c.own_pieces-own.result.now c.as_slice.result.now c.own_pieces-own.ensures (c.as_slice.ensures.value ∙ c.staged_spans-staged.ensures.value))

pub after-before-requires-clause-batches : goal.after-before-requires-clause-batches
after-before-requires-clause-batches g c =
    (group_placed c.args.plan.now c.groups-group-items.result.now c.groups-group-items.ensures c.loop-number.number (place_by c.loop-number.before) c.group-item.result c.loop-number.invariant.placed c.loop-number-test.true c.group-item.is).batches

pub after-before-requires-clause-batched : goal.after-before-requires-clause-batched
after-before-requires-clause-batched g c =
    (group_placed c.args.plan.now c.groups-group-items.result.now c.groups-group-items.ensures c.loop-number.number (place_by c.loop-number.before) c.group-item.result c.loop-number.invariant.placed c.loop-number-test.true c.group-item.is).batched_pieces

pub returns-in_default : goal.returns-in_default
returns-in_default g c = absurd (c.in_default.ensures c.requires.shaped)

pub loop-number-preserved : goal.loop-number-preserved
loop-number-preserved g c =
    record {
      shaped = c.take_list-submitted.ensures.shaped;
      placed = group_next c.args.plan.now c.groups-group-items.result.now c.groups-group-items.ensures c.loop-number.number (place_by c.loop-number.before) c.group-item.result c.loop-number.invariant.placed c.loop-number-test.true c.group-item.is (place_by c.after-before.result) c.after-before.ensures;
      room = c.take_list-submitted.ensures.room ∙ c.loop-number.invariant.room;
      places = length-set c.loop-number.slots c.loop-number.number c.take_list-submitted.result.slot ∙ c.loop-number.invariant.places;
      free = omega (arith, c.loop-number.invariant.free, c.take_list-submitted.ensures.count);
      taken = λ tracker.
          let before = c.loop-number.invariant.taken tracker in
          let call = c.take_list-submitted.ensures.call before.0 in (
            call.0,
            one_more (table_in c.args.words.now) (table_in c.loop-number.words) (table_in c.take_list-submitted.new.words) (group_reads g.P.Touching.reads c.args.plan.now c.args.pieces.now) (group_writes g.P.Touching.writes c.args.staging c.args.plan.now c.args.pieces.now) _ _ c.args.also _ _ c.loop-number.slots c.loop-number.number c.take_list-submitted.result
                before.1 call.1
                (ap (flat_map g.P.Touching.reads) (c.own_pieces-own.ensures ∙ own_pieces c.args.plan.now c.groups-group-items.result.now c.groups-group-items.ensures c.loop-number.number (place_by c.loop-number.before) c.group-item.result c.loop-number.invariant.placed c.loop-number-test.true c.group-item.is c.args.pieces.now))
                ((λ i. (c.as_slice.ensures.value ∙ c.staged_spans-staged.ensures.value ∙ own_staging c.args.plan.now c.groups-group-items.result.now c.groups-group-items.ensures c.loop-number.number (place_by c.loop-number.before) c.group-item.result c.loop-number.invariant.placed c.loop-number-test.true c.group-item.is c.args.staging c.args.total c.requires.total) i ++ flat_map g.P.Touching.writes ((c.own_pieces-own.ensures ∙ own_pieces c.args.plan.now c.groups-group-items.result.now c.groups-group-items.ensures c.loop-number.number (place_by c.loop-number.before) c.group-item.result c.loop-number.invariant.placed c.loop-number-test.true c.group-item.is c.args.pieces.now) i)))
                (c.expected_owner-owner.ensures ∙ ap (λ (o : Option Owner). owner_with g.P.Tracked.owner o c.args.pieces.now) (sym c.in-Some.ensures.1.owner))
                (omega (arith, c.loop-number.invariant.places, c.requires.can.slots, c.loop-number-test.true, ap length c.groups-group-items.ensures)),
          );
      rest = λ k past. get_set_other c.loop-number.slots c.loop-number.number k c.take_list-submitted.result.slot (λ e. omega (arith, e, past)) ∙ c.loop-number.invariant.rest k (omega (arith, past));
    }

pub returns-in_default-first_free-clause-taken : goal.returns-in_default-first_free-clause-taken
returns-in_default-first_free-clause-taken g c =
    absurd (not_full (shown_in c.loop-number.words) (omega (arith, c.loop-number.invariant.free, c.loop-number-test.true, ap length c.groups-group-items.ensures))
    (full_in c.loop-number.words c.in-Some-read_head.head c.in-Some-read_head.ensures.0 c.in-Some-read_head.ensures.1 c.in_default-first_free.ensures))

pub returns-in_default-first_free-clause-rest : goal.returns-in_default-first_free-clause-rest
returns-in_default-first_free-clause-rest g c =
    absurd (not_full (shown_in c.loop-number.words) (omega (arith, c.loop-number.invariant.free, c.loop-number-test.true, ap length c.groups-group-items.ensures))
    (full_in c.loop-number.words c.in-Some-read_head.head c.in-Some-read_head.ensures.0 c.in-Some-read_head.ensures.1 c.in_default-first_free.ensures))

pub take_list-submitted-requires-clause-addressable : goal.take_list-submitted-requires-clause-addressable
take_list-submitted-requires-clause-addressable g c = subst (λ (spans : List Span). AreAddressable spans) (sym c.as_slice.ensures.value) c.staged_spans-staged.ensures.addressable

pub after-before-requires-clause-few : goal.after-before-requires-clause-few
after-before-requires-clause-few g c = omega (arith, c.are_few.ensures, own_within c.args.plan.now c.groups-group-items.result.now c.groups-group-items.ensures c.loop-number.number (place_by c.loop-number.before) c.group-item.result c.loop-number.invariant.placed c.loop-number-test.true c.group-item.is c.args.pieces.now c.requires.can.covers)

pub returns-clause-taken : goal.returns-clause-taken
returns-clause-taken g c = λ tracker.
    let end : c.loop-number.number ≡ length c.args.plan.now = omega (arith, c.loop-number-test.false, c.loop-number.auto.number-end, ap length c.groups-group-items.ensures) in
    let all = c.loop-number.invariant.taken tracker in
    (all.0, subst (λ (n : ℕ). SubmitsInTurn (table_in c.args.words.now) (group_reads g.P.Touching.reads c.args.plan.now c.args.pieces.now) (group_writes g.P.Touching.writes c.args.staging c.args.plan.now c.args.pieces.now) c.args.also (owner_with g.P.Tracked.owner (owner_in c.args.words.now) c.args.pieces.now) c.loop-number.slots n (table_in c.loop-number.words)) end all.1)
