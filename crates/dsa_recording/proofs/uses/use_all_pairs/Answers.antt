use Rattle.std.proofs.Common.{◌≡◌, ◌∷◌, [], ◌+◌, true, drop, subst, sym, ap, ◌∙◌, arith}
use Rattle.dsa_recording.specs.Pairs.{has_key}
use Rattle.dsa_recording.specs.Uses.{TakesSomeOut}
use Rattle.dsa_recording.proofs.Reaudited.{as_many, audited_there}
use Rattle.dsa_recording.proofs.Using.{LeftKeys, drop_next, drop_past, left_none, submission_next}
use Rattle.dsa_recording.proofs.Within.{has_operands}
use Rattle.dsa_recording.proofs.uses.use_all_pairs.Goals as goal

pub index-requires : goal.index-requires
index-requires c =
    let count = as_many c.requires.audited.0 c.args.all.now c.args.report.now.submissions.items c.args.report.now.audits.items c.requires.audited.1 in
    omega (arith, count, c.loop-number-test.true, c.len-number-end.ensures)

pub use_submission-requires-clause-corrected :
    goal.use_submission-requires-clause-corrected
use_submission-requires-clause-corrected c =
    (audited_there c.requires.audited.0 c.args.all.now c.args.report.now.submissions.items c.args.report.now.audits.items c.loop-number.number c.index-submission.result.now c.index.result.now
    c.requires.audited.1 (omega (arith, c.loop-number-test.true, c.len-number-end.ensures)) c.index-submission.ensures c.index.ensures).audit.unaccepted

pub use_submission-requires-clause-known :
    goal.use_submission-requires-clause-known
use_submission-requires-clause-known c =
    let own = audited_there c.requires.audited.0 c.args.all.now c.args.report.now.submissions.items c.args.report.now.audits.items c.loop-number.number c.index-submission.result.now c.index.result.now
    c.requires.audited.1 (omega (arith, c.loop-number-test.true, c.len-number-end.ensures)) c.index-submission.ensures c.index.ensures in
    has_operands c.requires.audited.0 c.args.all.now c.index-submission.result.now c.index.result.now own

pub loop-number-preserved : goal.loop-number-preserved
loop-number-preserved c key =
    let es = c.args.all.now in
    let accepted = c.args.accepted.now in
    let ss = c.args.report.now.submissions.items in
    let audits = c.args.report.now.audits.items in
    let k = c.loop-number.number in
    let s = c.index-submission.result.now in
    let a = c.index.result.now in
    let used = c.loop-number.used in
    let count = as_many c.requires.audited.0 es ss audits c.requires.audited.1 in
    let one : drop k ss ≡ s ∷ drop (k + 1) ss = drop_next ss k s (omega (arith, c.loop-number-test.true, c.len-number-end.ensures)) ∙ ap (λ z. z ∷ drop (k + 1) ss) (sym c.index-submission.ensures) in
    let other : drop k audits ≡ a ∷ drop (k + 1) audits =
    drop_next audits k a (omega (arith, count, c.loop-number-test.true, c.len-number-end.ensures)) ∙ ap (λ z. z ∷ drop (k + 1) audits) (sym c.index.ensures) in
    let next = submission_next accepted es s (drop (k + 1) ss) a (drop (k + 1) audits) used c.use_submission.new.used c.in_ok-use_submission.ensures key in
    let here = c.loop-number.invariant key in (
      λ left. here.0 (subst (λ xs. LeftKeys (λ q. (has_key accepted q ≡ true) × TakesSomeOut es xs (drop k audits) q) used key) (sym one)
          (subst (λ ys. LeftKeys (λ q. (has_key accepted q ≡ true) × TakesSomeOut es (s ∷ drop (k + 1) ss) ys q) used key) (sym other) (next.0 left))),
      λ all. next.1 (subst (λ ys. LeftKeys (λ q. (has_key accepted q ≡ true) × TakesSomeOut es (s ∷ drop (k + 1) ss) ys q) used key) other
          (subst (λ xs. LeftKeys (λ q. (has_key accepted q ≡ true) × TakesSomeOut es xs (drop k audits) q) used key) one (here.1 all))),
    )

pub returns : goal.returns
returns c =
    let es = c.args.all.now in
    let accepted = c.args.accepted.now in
    let ss = c.args.report.now.submissions.items in
    let audits = c.args.report.now.audits.items in
    let k = c.loop-number.number in
    let none : drop k ss ≡ [] = drop_past ss k (omega (arith, c.loop-number-test.false, c.len-number-end.ensures)) in
    left_none (λ q. (has_key accepted q ≡ true) × TakesSomeOut es (drop k ss) (drop k audits) q) (λ q. (has_key accepted q ≡ true) × TakesSomeOut es ss audits q) c.args.used.now c.loop-number.used
    (λ q p. subst (λ xs. TakesSomeOut es xs (drop k audits) q) none p.1) c.loop-number.invariant
