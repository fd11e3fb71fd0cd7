use Rattle.std.proofs.Common.{◌≡◌, ◌∷◌, [], ◌+◌, true, drop, subst, sym, ap, ◌∙◌, arith}
use Rattle.dsa_recording.specs.Pairs.{has_key}
use Rattle.dsa_recording.specs.Reports.{reported_by}
use Rattle.dsa_recording.specs.Uses.{ExcusesSome}
use Rattle.dsa_recording.proofs.Using.{LeftKeys, drop_next, drop_past, finding_next, left_none}
use Rattle.dsa_recording.proofs.uses.use_findings.Goals as goal

pub loop-number-preserved : goal.loop-number-preserved
loop-number-preserved c key =
    let options = c.args.options in
    let es = c.args.all.now in
    let r = reported_by c.args.report.now in
    let fs = c.args.report.now.findings.items in
    let k = c.loop-number.number in
    let f = c.index.result.now in
    let one : drop k fs ≡ f ∷ drop (k + 1) fs = drop_next fs k f (omega (arith, c.loop-number-test.true, c.len-number-end.ensures)) ∙ ap (λ z. z ∷ drop (k + 1) fs) (sym c.index.ensures) in
    let next = finding_next options es r f (drop (k + 1) fs) c.loop-number.used c.use_finding.new.used c.in_ok-use_finding.ensures key in
    let here = c.loop-number.invariant key in (
      λ left. here.0 (subst (λ l. LeftKeys (λ q. (has_key options.accepted.now q ≡ true) × ExcusesSome options es r l q) c.loop-number.used key) (sym one) (next.0 left)),
      λ all. next.1 (subst (λ l. LeftKeys (λ q. (has_key options.accepted.now q ≡ true) × ExcusesSome options es r l q) c.loop-number.used key) one (here.1 all)),
    )

pub returns : goal.returns
returns c =
    let options = c.args.options in
    let es = c.args.all.now in
    let r = reported_by c.args.report.now in
    let fs = c.args.report.now.findings.items in
    let k = c.loop-number.number in
    let none : drop k fs ≡ [] = drop_past fs k (omega (arith, c.loop-number-test.false, c.len-number-end.ensures)) in
    left_none (λ q. (has_key options.accepted.now q ≡ true) × ExcusesSome options es r (drop k fs) q) (λ q. (has_key options.accepted.now q ≡ true) × ExcusesSome options es r fs q)
    c.args.used.now c.loop-number.used (λ q p. subst (λ l. ExcusesSome options es r l q) none p.1) c.loop-number.invariant
