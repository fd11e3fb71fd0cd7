use Rattle.std.proofs.Common.{◌≡◌, ℕ, List, map, refl, sym, subst}
use Rattle.dsa_image.specs.Memory.{Memory}
use Rattle.dsa_settings.specs.Plan.{Plan}
use Rattle.dsa_core.specs.Accounts.{Account, IsOutcome}
use Rattle.dsa_core.specs.Outcomes.{IsOutcomeOf, room_with}
use Rattle.dsa_core.specs.Work.{Work}
use Rattle.dsa_core.specs.declared.outcome.Outcome.{Outcome}
use Rattle.dsa_engines.proofs.crew.outcome_of.Goals as goal

module _ {P D A I O : Type 0} (work : Work P D A I O) (r : Account D) (m : Memory) (plan : Plan) (pieces : List D) (engines : ℕ) (o : Outcome) where
  -- an outcome does not depend on whether the room was halted; the rest of the room is what the caller passed by reference
  of_lent : (r.start ≡ m) × (r.plan ≡ plan) × (r.pieces ≡ pieces) × (r.engines ≡ engines) → IsOutcomeOf work r o → IsOutcomeOf work (room_with m plan pieces engines o.history.items) o
  of_lent (start_is, plan_is, pieces_is, engines_is) told =
      let own : IsOutcome work (room_with r.start r.plan r.pieces r.engines r.history) o.image o.finished o.batch_records.items =
      record { over = told.outcome.over; stops = told.outcome.stops; memory = told.outcome.memory; records_are = told.outcome.records_are } in
      record {
        outcome =
            subst (λ vs. IsOutcome work (room_with m plan pieces engines vs) o.image o.finished o.batch_records.items) (sym told.history)
            (subst (λ n. IsOutcome work (room_with m plan pieces n r.history) o.image o.finished o.batch_records.items) engines_is
            (subst (λ (ds : List D). IsOutcome work (room_with m plan ds r.engines r.history) o.image o.finished o.batch_records.items) pieces_is
            (subst (λ p. IsOutcome work (room_with m p r.pieces r.engines r.history) o.image o.finished o.batch_records.items) plan_is
            (subst (λ s. IsOutcome work (room_with s r.plan r.pieces r.engines r.history) o.image o.finished o.batch_records.items) start_is own))));
        history = refl;
      }

pub returns-in-Ok-clause-outcome : goal.returns-in-Ok-clause-outcome
returns-in-Ok-clause-outcome g c =
    of_lent g.P.Workable.work c.args.room c.args.image.now c.args.plan.now (map g.P.Workable.work.shown c.args.pieces.now) c.args.engines c.in-Ok.outcome (c.is_of.ensures.0 c.if-not-is_of.false) c.in-Ok.ensures

pub returns-then-not-is_of-clause-mixed : goal.returns-then-not-is_of-clause-mixed
returns-then-not-is_of-clause-mixed g c = refl

pub returns-in-Err-clause-mixed : goal.returns-in-Err-clause-mixed
returns-in-Err-clause-mixed g c = refl
