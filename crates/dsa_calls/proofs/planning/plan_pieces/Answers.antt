use Rattle.std.proofs.Common.{◌≡◌, Bool, List, length, map, get_or, slice_index, sym, ap, subst, ◌∙◌, arith}
use Rattle.std.specs.Prelude.{Some, slice_get}
use Rattle.std.proofs.lemmas.Result.{IfOk-from_err}
use Rattle.std.proofs.lemmas.List.{length-map}
use Rattle.std.proofs.lemmas.Option.{slice_get-get_or, get_or_from_slice_get}
use Rattle.dsa_descriptor.specs.declared.descriptor.Descriptor.{Descriptor}
use Rattle.dsa_descriptor.specs.Descriptors.{fields}
use Rattle.dsa_ranges.specs.Ranges.{ConflictAt}
use Rattle.dsa_settings.specs.Barriers.{WithBarriers}
use Rattle.dsa_settings.specs.Plan.{plan_cost}
use Rattle.dsa_settings.specs.Settings.{tariff_of}
use Rattle.dsa_emission.specs.Emission.{portal_bytes, staging_bytes}
use Rattle.dsa_search.specs.Chosen.{IsChosen}
use Rattle.dsa_search.proofs.Choosing.{chosen_is_least}
use Rattle.dsa_calls.proofs.Submissions.{can_emit_found}
use Rattle.dsa_calls.proofs.planning.plan_pieces.Goals.{After-version}
use Rattle.dsa_calls.proofs.planning.plan_pieces.Goals as goal

pub search_with-requires : goal.search_with-requires
search_with-requires c = omega (arith, c.requires.few, ap length c.deref.ensures.value, length-map c.args.pieces.descriptors.items fields)

pub emit-requires : goal.emit-requires
emit-requires c =
    can_emit_found (WithBarriers (ConflictAt (map fields c.deref.result.now)) c.deref-2.result.now) c.args.settings.now c.args.pieces.descriptors.items c.deref.result.now c.deref-3.result.now c.in_ok-plan.field-0.plan c.requires c.deref.ensures.value c.deref-3.ensures.value c.in_ok-plan.ensures.least

pub returns-in_err-plan-clause-same : goal.returns-in_err-plan-clause-same
returns-in_err-plan-clause-same c = IfOk-from_err c.from_residual.result _ c.from_residual.ensures.0

pub returns-in_err-plan-clause-barriers : goal.returns-in_err-plan-clause-barriers
returns-in_err-plan-clause-barriers c = IfOk-from_err c.from_residual.result _ c.from_residual.ensures.0

pub returns-in_err-plan-clause-planned : goal.returns-in_err-plan-clause-planned
returns-in_err-plan-clause-planned c = IfOk-from_err c.from_residual.result _ c.from_residual.ensures.0

pub returns-in_err-emission-clause-same : goal.returns-in_err-emission-clause-same
returns-in_err-emission-clause-same c = IfOk-from_err c.from_residual-in_err-emission.result _ c.from_residual-in_err-emission.ensures.0

pub returns-in_err-emission-clause-barriers : goal.returns-in_err-emission-clause-barriers
returns-in_err-emission-clause-barriers c = IfOk-from_err c.from_residual-in_err-emission.result _ c.from_residual-in_err-emission.ensures.0

pub returns-in_err-emission-clause-planned : goal.returns-in_err-emission-clause-planned
returns-in_err-emission-clause-planned c = IfOk-from_err c.from_residual-in_err-emission.result _ c.from_residual-in_err-emission.ensures.0

-- the last price is what the plan costs
cost_is : (c : After-version) → c.index-cost.result.now ≡ plan_cost (tariff_of c.args.settings.now) c.in_ok-plan.field-0.plan
cost_is c =
    let s = c.args.settings.now in
    let C = WithBarriers (ConflictAt (map fields c.deref.result.now)) c.deref-2.result.now in
    let n = length c.deref.result.now in
    let prices = c.in_ok-plan.field-0.prices.items in
    let chosen = c.in_ok-plan.ensures.chosen in
    let is = (chosen_is_least C s.greatest_batch (tariff_of s) n prices c.in_ok-plan.field-0.pairs.items c.in_ok-plan.field-0.plan chosen).1 in
    let at : slice_get prices n ≡ Some (slice_index prices n) = slice_get-get_or prices n 0 (omega (arith, chosen.has_costs.count)) in
    let here : c.len.result ≡ n = omega (arith, c.len.ensures, ap length c.deref.ensures.value) in
    let read : c.index-cost.result.now ≡ get_or prices n c.index-cost.result.now = rw here at c.index-cost.ensures in
    read ∙ get_or_from_slice_get prices n (slice_index prices n) c.index-cost.result.now at ∙ sym is

pub returns-clause-planned : goal.returns-clause-planned
returns-clause-planned c =
    let s = c.args.settings.now in
    let plan = c.in_ok-plan.field-0.plan in
    let ds = c.args.pieces.descriptors.items in
    let shown =
    subst (λ (xs : List Descriptor). IsChosen (WithBarriers (ConflictAt (map fields xs)) c.deref-2.result.now) s.greatest_batch (tariff_of s) (length xs) c.in_ok-plan.field-0.prices.items c.in_ok-plan.field-0.pairs.items plan)
    c.deref.ensures.value c.in_ok-plan.ensures.chosen in
    record {
      chosen =
          subst (λ (marks : List Bool). IsChosen (WithBarriers (ConflictAt (map fields ds)) marks) s.greatest_batch (tariff_of s) (length ds) c.in_ok-plan.field-0.prices.items c.in_ok-plan.field-0.pairs.items plan)
          c.deref-2.ensures.value shown;
      version_is = c.version.ensures;
      cost_is = cost_is c;
      portal_is = c.in_ok-emission.ensures.portal ∙ ap (λ (ds : List Descriptor). portal_bytes s plan (map fields ds)) c.deref-3.ensures.value;
      staging_is = c.in_ok-emission.ensures.staging ∙ ap (λ (ds : List Descriptor). staging_bytes plan (map fields ds)) c.deref-3.ensures.value;
    }
