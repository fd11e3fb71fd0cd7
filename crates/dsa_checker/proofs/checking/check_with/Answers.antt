use Rattle.std.proofs.Common.{◌≡◌, ℕ, ◌+◌, refl, length, slice_index, sym, ap, ◌∙◌, subst, inl, inr, arith}
use Rattle.dsa_plan.specs.Certificate.{contents}
use Rattle.dsa_settings.specs.Barriers.{WithBarriers}
use Rattle.dsa_settings.specs.Settings.{tariff_of, version_of}
use Rattle.dsa_plan.proofs.Steps.{yes_means_least}
use Rattle.dsa_checker.specs.Steps.{PairsHold, IsFirstBadPair, StepsHold, IsFirstBadStep}
use Rattle.dsa_checker.specs.declared.fault.CheckFault.TheVariants.{Pair, Price, Total}
use Rattle.dsa_checker.specs.Checked.{IsReady, IsFirstCheckFault}
use Rattle.dsa_checker.proofs.Answered.{IsYes, any_default, pairs_forward, all_held_is_yes, yes_answer, yes_no_fault, fault_answer, fault_no_yes}
use Rattle.dsa_checker.proofs.checking.check_with.Given.{Over}
use Rattle.dsa_checker.proofs.checking.check_with.Goals as goal
use Rattle.dsa_checker.proofs.checking.check_with.Goals.{In-Some-first_bad_step, In-Some, Else-index-total}

pub first_bad_step-requires-clause-forward : goal.first_bad_step-requires-clause-forward
first_bad_step-requires-clause-forward g c =
    let C = WithBarriers (g.P.Touching.conflict c.args.pieces.now) c.args.barriers.now in
    let n = length c.args.pieces.now in
    let cert = contents c.args.certificate.now in
    let pairs_len : length cert.pairs ≡ n = omega (arith, ap length c.deref.ensures.value, c.deref.ensures.len, c.len-2.ensures, c.if-len-pieces-2.false) in
    let pairs : PairsHold C n cert.pairs = rw c.deref.ensures.value at c.in_default-first_bad_pair.ensures in
    rw c.deref-3.ensures.value (pairs_forward C n cert.pairs pairs_len pairs)

-- the fault where a pair does not hold
bad_pair : (g : Over) (c : In-Some g)
    → IsFirstCheckFault (WithBarriers (g.P.Touching.conflict c.args.pieces.now) c.args.barriers.now)
    c.args.settings.now.greatest_batch (tariff_of c.args.settings.now) (version_of c.args.settings.now)
    (length c.args.pieces.now) c.args.plan.now (contents c.args.certificate.now) (Pair c.in-Some.piece)
bad_pair g c =
    let C = WithBarriers (g.P.Touching.conflict c.args.pieces.now) c.args.barriers.now in
    let greatest_batch = c.args.settings.now.greatest_batch in
    let tariff = tariff_of c.args.settings.now in
    let n = length c.args.pieces.now in
    let cert = contents c.args.certificate.now in
    let pairs_len : length cert.pairs ≡ n = omega (arith, ap length c.deref.ensures.value, c.deref.ensures.len, c.len-2.ensures, c.if-len-pieces-2.false) in
    let prices_len : length cert.prices ≡ n + 1 = omega (arith, c.args.certificate.now.prices.ok.0, c.len.ensures, c.if-len-pieces.false) in
    let ready : IsReady C greatest_batch (version_of c.args.settings.now) n c.args.plan.now cert = record {
      legal = c.in_default.ensures.legal.0 refl;
      same_version = c.if-certificate-version.false ∙ c.version.ensures;
      lengths = record { prices = prices_len; pairs = pairs_len };
    } in
    let bad : IsFirstBadPair C n cert.pairs c.in-Some.piece = rw c.deref.ensures.value at c.in-Some.ensures in
    (ready, bad)

pub returns-in-Some-clause-fault : goal.returns-in-Some-clause-fault
returns-in-Some-clause-fault g c =
    fault_answer (WithBarriers (g.P.Touching.conflict c.args.pieces.now) c.args.barriers.now)
    c.args.settings.now.greatest_batch (tariff_of c.args.settings.now) (version_of c.args.settings.now)
    (length c.args.pieces.now) c.args.plan.now (contents c.args.certificate.now) (Pair c.in-Some.piece) (bad_pair g c)

pub returns-in-Some-clause-certificate_good : goal.returns-in-Some-clause-certificate_good
returns-in-Some-clause-certificate_good g c =
    fault_no_yes (WithBarriers (g.P.Touching.conflict c.args.pieces.now) c.args.barriers.now)
    c.args.settings.now.greatest_batch (tariff_of c.args.settings.now) (version_of c.args.settings.now)
    (length c.args.pieces.now) c.args.plan.now (contents c.args.certificate.now) (Pair c.in-Some.piece) (bad_pair g c)

-- the fault where a step does not hold
bad_step : (g : Over) (c : In-Some-first_bad_step g)
    → IsFirstCheckFault (WithBarriers (g.P.Touching.conflict c.args.pieces.now) c.args.barriers.now)
    c.args.settings.now.greatest_batch (tariff_of c.args.settings.now) (version_of c.args.settings.now)
    (length c.args.pieces.now) c.args.plan.now (contents c.args.certificate.now)
    (Price c.in-Some-first_bad_step.start c.in-Some-first_bad_step.end)
bad_step g c =
    let C = WithBarriers (g.P.Touching.conflict c.args.pieces.now) c.args.barriers.now in
    let greatest_batch = c.args.settings.now.greatest_batch in
    let tariff = tariff_of c.args.settings.now in
    let n = length c.args.pieces.now in
    let cert = contents c.args.certificate.now in
    let pairs_len : length cert.pairs ≡ n = omega (arith, ap length c.deref.ensures.value, c.deref.ensures.len, c.len-2.ensures, c.if-len-pieces-2.false) in
    let prices_len : length cert.prices ≡ n + 1 = omega (arith, ap length c.deref-2.ensures.value, c.deref-2.ensures.len, c.len.ensures, c.if-len-pieces.false) in
    let ready : IsReady C greatest_batch (version_of c.args.settings.now) n c.args.plan.now cert = record {
      legal = c.in_default.ensures.legal.0 refl;
      same_version = c.if-certificate-version.false ∙ c.version.ensures;
      lengths = record { prices = prices_len; pairs = pairs_len };
    } in
    let pairs : PairsHold C n cert.pairs = rw c.deref.ensures.value at c.in_default-first_bad_pair.ensures in
    let first : slice_index cert.prices 0 ≡ 0 = any_default cert.prices 0 0 c.index.result.now (omega arith) ∙ sym c.index.ensures ∙ c.if-index-ne0.false in
    let count : length c.deref-3.result.now ≡ n = ap length c.deref-3.ensures.value ∙ pairs_len in
    let bad : IsFirstBadStep greatest_batch tariff n cert.pairs cert.prices c.in-Some-first_bad_step.start c.in-Some-first_bad_step.end =
    subst (λ (m : ℕ). IsFirstBadStep greatest_batch tariff m cert.pairs cert.prices c.in-Some-first_bad_step.start c.in-Some-first_bad_step.end) pairs_len
    (rw (c.deref-2.ensures.value, c.deref-3.ensures.value) at c.in-Some-first_bad_step.ensures) in
    (ready, pairs, inr (first, bad))

pub returns-in-Some-first_bad_step-clause-certificate_good : goal.returns-in-Some-first_bad_step-clause-certificate_good
returns-in-Some-first_bad_step-clause-certificate_good g c =
    fault_no_yes (WithBarriers (g.P.Touching.conflict c.args.pieces.now) c.args.barriers.now)
    c.args.settings.now.greatest_batch (tariff_of c.args.settings.now) (version_of c.args.settings.now)
    (length c.args.pieces.now) c.args.plan.now (contents c.args.certificate.now)
    (Price c.in-Some-first_bad_step.start c.in-Some-first_bad_step.end) (bad_step g c)

pub returns-in-Some-first_bad_step-clause-fault : goal.returns-in-Some-first_bad_step-clause-fault
returns-in-Some-first_bad_step-clause-fault g c =
    fault_answer (WithBarriers (g.P.Touching.conflict c.args.pieces.now) c.args.barriers.now)
    c.args.settings.now.greatest_batch (tariff_of c.args.settings.now) (version_of c.args.settings.now)
    (length c.args.pieces.now) c.args.plan.now (contents c.args.certificate.now)
    (Price c.in-Some-first_bad_step.start c.in-Some-first_bad_step.end) (bad_step g c)

-- the answer where all holds
answered : (g : Over) (c : Else-index-total g)
    → IsYes (WithBarriers (g.P.Touching.conflict c.args.pieces.now) c.args.barriers.now)
    c.args.settings.now.greatest_batch (tariff_of c.args.settings.now) (version_of c.args.settings.now)
    (length c.args.pieces.now) c.args.plan.now (contents c.args.certificate.now) c.cost-total.result
answered g c =
    let C = WithBarriers (g.P.Touching.conflict c.args.pieces.now) c.args.barriers.now in
    let greatest_batch = c.args.settings.now.greatest_batch in
    let tariff = tariff_of c.args.settings.now in
    let n = length c.args.pieces.now in
    let cert = contents c.args.certificate.now in
    let pairs_len : length cert.pairs ≡ n = omega (arith, ap length c.deref.ensures.value, c.deref.ensures.len, c.len-2.ensures, c.if-len-pieces-2.false) in
    let prices_len : length cert.prices ≡ n + 1 = omega (arith, ap length c.deref-2.ensures.value, c.deref-2.ensures.len, c.len.ensures, c.if-len-pieces.false) in
    let ready : IsReady C greatest_batch (version_of c.args.settings.now) n c.args.plan.now cert = record {
      legal = c.in_default.ensures.legal.0 refl;
      same_version = c.if-certificate-version.false ∙ c.version.ensures;
      lengths = record { prices = prices_len; pairs = pairs_len };
    } in
    let pairs : PairsHold C n cert.pairs = rw c.deref.ensures.value at c.in_default-first_bad_pair.ensures in
    let first : slice_index cert.prices 0 ≡ 0 = any_default cert.prices 0 0 c.index.result.now (omega arith) ∙ sym c.index.ensures ∙ c.if-index-ne0.false in
    let steps : StepsHold greatest_batch tariff n cert.pairs cert.prices =
    subst (λ (m : ℕ). StepsHold greatest_batch tariff m cert.pairs cert.prices) pairs_len
    (rw (c.deref-2.ensures.value, c.deref-3.ensures.value) at c.in_default-first_bad_step.ensures) in
    let last : slice_index cert.prices n ≡ c.cost-total.result = any_default cert.prices n 0 c.index-2.result.now (omega arith) ∙ sym c.index-2.ensures ∙ c.if-index-total.false in
    all_held_is_yes C greatest_batch tariff (version_of c.args.settings.now) n c.args.plan.now cert c.cost-total.result ready pairs first steps last c.cost-total.ensures

pub returns-clause-certificate_good : goal.returns-clause-certificate_good
returns-clause-certificate_good g c =
    yes_answer (WithBarriers (g.P.Touching.conflict c.args.pieces.now) c.args.barriers.now)
    c.args.settings.now.greatest_batch (tariff_of c.args.settings.now) (version_of c.args.settings.now)
    (length c.args.pieces.now) c.args.plan.now (contents c.args.certificate.now) c.cost-total.result (answered g c)

pub returns-clause-least : goal.returns-clause-least
returns-clause-least g c = λ _.
    let cert = contents c.args.certificate.now in
    let answer = answered g c in
    yes_means_least (WithBarriers (g.P.Touching.conflict c.args.pieces.now) c.args.barriers.now)
    c.args.settings.now.greatest_batch (tariff_of c.args.settings.now) (length c.args.pieces.now) c.args.plan.now
    cert.prices cert.pairs c.cost-total.result answer.0 answer.2 answer.3

pub returns-clause-fault : goal.returns-clause-fault
returns-clause-fault g c =
    yes_no_fault (WithBarriers (g.P.Touching.conflict c.args.pieces.now) c.args.barriers.now)
    c.args.settings.now.greatest_batch (tariff_of c.args.settings.now) (version_of c.args.settings.now)
    (length c.args.pieces.now) c.args.plan.now (contents c.args.certificate.now) c.cost-total.result (answered g c)

pub returns-then-index-ne0-clause-fault : goal.returns-then-index-ne0-clause-fault
returns-then-index-ne0-clause-fault g c =
    let C = WithBarriers (g.P.Touching.conflict c.args.pieces.now) c.args.barriers.now in
    let greatest_batch = c.args.settings.now.greatest_batch in
    let tariff = tariff_of c.args.settings.now in
    let n = length c.args.pieces.now in
    let cert = contents c.args.certificate.now in
    let pairs_len : length cert.pairs ≡ n = omega (arith, ap length c.deref.ensures.value, c.deref.ensures.len, c.len-2.ensures, c.if-len-pieces-2.false) in
    let prices_len : length cert.prices ≡ n + 1 = omega (arith, c.args.certificate.now.prices.ok.0, c.len.ensures, c.if-len-pieces.false) in
    let ready : IsReady C greatest_batch (version_of c.args.settings.now) n c.args.plan.now cert = record {
      legal = c.in_default.ensures.legal.0 refl;
      same_version = c.if-certificate-version.false ∙ c.version.ensures;
      lengths = record { prices = prices_len; pairs = pairs_len };
    } in
    let pairs : PairsHold C n cert.pairs = rw c.deref.ensures.value at c.in_default-first_bad_pair.ensures in
    fault_answer C greatest_batch tariff (version_of c.args.settings.now) n c.args.plan.now cert (Price 0 0)
    (ready, pairs, inl ((λ e. c.if-index-ne0.true (sym (any_default cert.prices 0 0 c.index.result.now (omega arith) ∙ sym c.index.ensures) ∙ e)), refl, refl))

pub returns-then-index-total-clause-fault : goal.returns-then-index-total-clause-fault
returns-then-index-total-clause-fault g c =
    let C = WithBarriers (g.P.Touching.conflict c.args.pieces.now) c.args.barriers.now in
    let greatest_batch = c.args.settings.now.greatest_batch in
    let tariff = tariff_of c.args.settings.now in
    let n = length c.args.pieces.now in
    let cert = contents c.args.certificate.now in
    let pairs_len : length cert.pairs ≡ n = omega (arith, ap length c.deref.ensures.value, c.deref.ensures.len, c.len-2.ensures, c.if-len-pieces-2.false) in
    let prices_len : length cert.prices ≡ n + 1 = omega (arith, ap length c.deref-2.ensures.value, c.deref-2.ensures.len, c.len.ensures, c.if-len-pieces.false) in
    let ready : IsReady C greatest_batch (version_of c.args.settings.now) n c.args.plan.now cert = record {
      legal = c.in_default.ensures.legal.0 refl;
      same_version = c.if-certificate-version.false ∙ c.version.ensures;
      lengths = record { prices = prices_len; pairs = pairs_len };
    } in
    let pairs : PairsHold C n cert.pairs = rw c.deref.ensures.value at c.in_default-first_bad_pair.ensures in
    let first : slice_index cert.prices 0 ≡ 0 = any_default cert.prices 0 0 c.index.result.now (omega arith) ∙ sym c.index.ensures ∙ c.if-index-ne0.false in
    let steps : StepsHold greatest_batch tariff n cert.pairs cert.prices =
    subst (λ (m : ℕ). StepsHold greatest_batch tariff m cert.pairs cert.prices) pairs_len
    (rw (c.deref-2.ensures.value, c.deref-3.ensures.value) at c.in_default-first_bad_step.ensures) in
    fault_answer C greatest_batch tariff (version_of c.args.settings.now) n c.args.plan.now cert Total
    (ready, pairs, first, steps, (λ e. c.if-index-total.true (sym (any_default cert.prices n 0 c.index-2.result.now (omega arith) ∙ sym c.index-2.ensures) ∙ e ∙ sym c.cost-total.ensures)))
