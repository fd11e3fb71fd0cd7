use Rattle.std.proofs.Common.{◌≡◌, false, true, length, refl, sym, ap, ◌∙◌, subst, arith}
use Rattle.dsa_settings.specs.Plan.{Plan, piece_count}
use Rattle.dsa_tracker.specs.Before.{place_by}
use Rattle.dsa_tracker.specs.Groups.{HaveFewSpans}
use Rattle.dsa_tracker.proofs.Grouped.{end_batched, end_batches, end_is, end_within}
use Rattle.dsa_tracker.proofs.groups.check_groups.Goals as goal

pub overflow_mul-area : goal.overflow_mul-area
overflow_mul-area g c =
    let within = end_within c.args.plan.now c.groups-groups.result.now (place_by c.in-Some.end) c.groups-groups.ensures c.in-Some.ensures.1 (length c.args.pieces.now) c.in-Some.ensures.0 in
    omega (arith, within.0)

pub overflow_add-area : goal.overflow_add-area
overflow_add-area g c =
    let within = end_within c.args.plan.now c.groups-groups.result.now (place_by c.in-Some.end) c.groups-groups.ensures c.in-Some.ensures.1 (length c.args.pieces.now) c.in-Some.ensures.0 in
    omega (arith, within.0, within.1)

pub returns-then-not-is_addressable : goal.returns-then-not-is_addressable
returns-then-not-is_addressable g c = (
  omega (arith, ap piece_count c.groups-groups.ensures, c.in-Some.ensures.0),
  omega (arith, c.if-groups-free.false, ap length c.groups-groups.ensures),
  subst (λ (plan : Plan). HaveFewSpans c.args.room plan) c.groups-groups.ensures c.in_default-first_large.ensures,
  refl,
  λ fits.
      let batched = end_batched c.args.plan.now c.groups-groups.result.now (place_by c.in-Some.end) c.groups-groups.ensures c.in-Some.ensures.1 in
      let batches = end_batches c.args.plan.now c.groups-groups.result.now (place_by c.in-Some.end) c.groups-groups.ensures c.in-Some.ensures.1 in
      let wrong : false ≡ true = sym c.if-not-is_addressable.true ∙ c.is_addressable.ensures.1 (omega (arith, batched, batches, fits)) in
      cc,
)

pub returns : goal.returns
returns g c = (
  record {
    covers = omega (arith, ap piece_count c.groups-groups.ensures, c.in-Some.ensures.0);
    slots = omega (arith, c.if-groups-free.false, ap length c.groups-groups.ensures);
    spans = subst (λ (plan : Plan). HaveFewSpans c.args.room plan) c.groups-groups.ensures c.in_default-first_large.ensures;
    addressable =
        let batched = end_batched c.args.plan.now c.groups-groups.result.now (place_by c.in-Some.end) c.groups-groups.ensures c.in-Some.ensures.1 in
        let batches = end_batches c.args.plan.now c.groups-groups.result.now (place_by c.in-Some.end) c.groups-groups.ensures c.in-Some.ensures.1 in
        omega (arith, batched, batches, c.is_addressable.ensures.0 c.if-not-is_addressable.false);
    owners = c.in_default-first_other.ensures;
  },
  end_is c.args.plan.now c.groups-groups.result.now (place_by c.in-Some.end) c.groups-groups.ensures c.in-Some.ensures.1,
)
