use Rattle.std.proofs.Common.{length, refl, subst}
use Rattle.dsa_settings.specs.declared.legal.LegalFault.TheVariants.{Unfenced}
use Rattle.dsa_settings.specs.Plan.{Plan}
use Rattle.dsa_settings.specs.Barriers.{WithBarriers}
use Rattle.dsa_settings.specs.Legal.{IsLegal}
use Rattle.dsa_settings.specs.LegalFaults.{IsFirstLegalFault}
use Rattle.dsa_settings.proofs.Judged.{legal_from, legal_no_fault, legal_answer, fault_answer}
use Rattle.dsa_settings.proofs.legal.is_legal_with.Given.{Over}
use Rattle.dsa_settings.proofs.legal.is_legal_with.Goals as goal
use Rattle.dsa_settings.proofs.legal.is_legal_with.Goals.{In-Some-first_unfenced_with, In_default-first_unfenced_with}

unfenced_is_first : (g : Over) (c : In-Some-first_unfenced_with g) →
    IsFirstLegalFault (WithBarriers (g.P.Touching.conflict c.args.pieces.now) c.args.barriers.now)
    c.args.settings.now.greatest_batch (length c.args.pieces.now) c.args.plan.now
    (Unfenced c.in-Some-first_unfenced_with.i c.in-Some-first_unfenced_with.j)
unfenced_is_first g c =
    let C = WithBarriers (g.P.Touching.conflict c.args.pieces.now) c.args.barriers.now in
    let greatest_batch = c.args.settings.now.greatest_batch in
    let n = length c.args.pieces.now in
    let fault = Unfenced c.in-Some-first_unfenced_with.i c.in-Some-first_unfenced_with.j in
    subst (λ (z : Plan). IsFirstLegalFault C greatest_batch n z fault) c.groups-groups.ensures (
      c.has_piece_count.ensures.0 c.if-not-has_piece_count.false,
      c.in_default.ensures,
      c.in-Some-first_unfenced_with.ensures,
    )

pub returns-in-Some-first_unfenced_with-clause-fault : goal.returns-in-Some-first_unfenced_with-clause-fault
returns-in-Some-first_unfenced_with-clause-fault g c =
    fault_answer (WithBarriers (g.P.Touching.conflict c.args.pieces.now) c.args.barriers.now)
    c.args.settings.now.greatest_batch (length c.args.pieces.now) c.args.plan.now
    (Unfenced c.in-Some-first_unfenced_with.i c.in-Some-first_unfenced_with.j)
    (unfenced_is_first g c)

pub returns-in-Some-first_unfenced_with-clause-legal : goal.returns-in-Some-first_unfenced_with-clause-legal
returns-in-Some-first_unfenced_with-clause-legal g c = (
  λ e. absurd cc,
  λ legal. absurd (legal_no_fault (WithBarriers (g.P.Touching.conflict c.args.pieces.now) c.args.barriers.now)
      c.args.settings.now.greatest_batch (length c.args.pieces.now) c.args.plan.now
      (Unfenced c.in-Some-first_unfenced_with.i c.in-Some-first_unfenced_with.j) legal (unfenced_is_first g c)),
)

legal : (g : Over) (c : In_default-first_unfenced_with g) →
    IsLegal (WithBarriers (g.P.Touching.conflict c.args.pieces.now) c.args.barriers.now)
    c.args.settings.now.greatest_batch (length c.args.pieces.now) c.args.plan.now
legal g c =
    let C = WithBarriers (g.P.Touching.conflict c.args.pieces.now) c.args.barriers.now in
    let greatest_batch = c.args.settings.now.greatest_batch in
    let n = length c.args.pieces.now in
    subst (λ (z : Plan). IsLegal C greatest_batch n z) c.groups-groups.ensures
    (legal_from C greatest_batch n c.groups-groups.result.now
    (c.has_piece_count.ensures.0 c.if-not-has_piece_count.false)
    c.in_default.ensures c.in_default-first_unfenced_with.ensures)

pub returns-clause-legal : goal.returns-clause-legal
returns-clause-legal g c = ((λ _. legal g c), λ _. refl)

pub returns-clause-fault : goal.returns-clause-fault
returns-clause-fault g c =
    legal_answer (WithBarriers (g.P.Touching.conflict c.args.pieces.now) c.args.barriers.now)
    c.args.settings.now.greatest_batch (length c.args.pieces.now) c.args.plan.now (legal g c)
