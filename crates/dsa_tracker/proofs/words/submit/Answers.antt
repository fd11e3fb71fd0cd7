use Rattle.std.proofs.Common.{ℕ, Option, ap, refl, subst, sym, ◌∙◌, arith}
use Rattle.std.specs.Prelude.{flat_map}
use Rattle.dsa_flight.specs.Spans.{staged_writes}
use Rattle.dsa_tracker.specs.declared.owner.Owner.{Owner}
use Rattle.dsa_tracker.specs.Calls.{CanKeepList, IsListFault, Submits, owner_with}
use Rattle.dsa_tracker.specs.Words.{owner_in, table_in}
use Rattle.dsa_tracker.proofs.Tables.{refused_list}
use Rattle.dsa_tracker.proofs.Whole.{first_free_in, full_in}
use Rattle.dsa_tracker.proofs.words.submit.Goals as goal

pub returns-in_default-first_free : goal.returns-in_default-first_free
returns-in_default-first_free g c = ((c.in-Some.ensures.0, full_in c.args.words.now c.in-Some.head c.in-Some.ensures.0 c.in-Some.ensures.1 c.in_default-first_free.ensures), refl)

pub returns-in-Some-list_fault : goal.returns-in-Some-list_fault
returns-in-Some-list_fault g c = (
  (
    c.in-Some.ensures.0,
    refused_list g.P.Tracked.owner (table_in c.args.words.now) c.in-Some-first_free.slot (owner_with g.P.Tracked.owner (owner_in c.args.words.now) c.args.pieces.now) c.args.pieces.now c.args.staging c.in-Some-list_fault.fault
        (first_free_in c.args.words.now c.in-Some.head c.in-Some.ensures.0 c.in-Some.ensures.1 c.in-Some-first_free.slot c.in-Some-first_free.ensures.0 c.in-Some-first_free.ensures.2 c.in-Some-first_free.ensures.3)
        (subst (λ (r : ℕ). IsListFault g.P.Tracked.owner r (owner_with g.P.Tracked.owner (owner_in c.args.words.now) c.args.pieces.now) c.args.pieces.now c.args.staging c.in-Some-list_fault.fault) (sym c.in-Some.ensures.1.room)
        (subst (λ (o : Option Owner). IsListFault g.P.Tracked.owner c.in-Some.head.room o c.args.pieces.now c.args.staging c.in-Some-list_fault.fault) (c.expected_owner-owner.ensures ∙ ap (λ (o : Option Owner). owner_with g.P.Tracked.owner o c.args.pieces.now) (sym c.in-Some.ensures.1.owner)) c.in-Some-list_fault.ensures)),
  ),
  refl,
)

pub take_list-requires-clause-room : goal.take_list-requires-clause-room
take_list-requires-clause-room g c = omega (arith, c.in_default-list_fault.ensures.0)

pub returns : goal.returns
returns g c = (
  c.in-Some.ensures.0,
  c.take_list.ensures.shaped,
  subst (λ (r : ℕ). CanKeepList g.P.Tracked.owner r (owner_with g.P.Tracked.owner (owner_in c.args.words.now) c.args.pieces.now) c.args.pieces.now c.args.staging) (sym c.in-Some.ensures.1.room)
      (subst (λ (o : Option Owner). CanKeepList g.P.Tracked.owner c.in-Some.head.room o c.args.pieces.now c.args.staging) (c.expected_owner-owner.ensures ∙ ap (λ (o : Option Owner). owner_with g.P.Tracked.owner o c.args.pieces.now) (sym c.in-Some.ensures.1.owner)) c.in_default-list_fault.ensures),
  λ tracker.
      let taken = c.take_list.ensures.call tracker in (
        taken.0,
        subst (λ (o : Option Owner). Submits (table_in c.args.words.now) (flat_map g.P.Touching.reads c.args.pieces.now) (staged_writes g.P.Touching.writes c.args.staging c.args.pieces.now) c.args.also o c.take_list.result (table_in c.take_list.new.words))
            (c.expected_owner-owner.ensures ∙ ap (λ (o : Option Owner). owner_with g.P.Tracked.owner o c.args.pieces.now) (sym c.in-Some.ensures.1.owner)) taken.1,
      ),
)
