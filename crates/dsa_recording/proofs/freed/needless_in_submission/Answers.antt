use Rattle.std.proofs.Common.{◌≡◌, Bool, sym, ap, ◌∙◌}
use Rattle.std.specs.List.{count_by}
use Rattle.dsa_recording.specs.Freed.{needless_of}
use Rattle.dsa_recording.proofs.Reaudited.{reaudited, unfenced}
use Rattle.dsa_recording.proofs.freed.needless_in_submission.Goals as goal

pub returns-then-fences_in-eq0-2 : goal.returns-then-fences_in-eq0-2
returns-then-fences_in-eq0-2 c accepted has =
    let before : count_by (λ (b : Bool). b) c.args.audited.now.audit.unaccepted.fences.items ≡ 0
    = ap (count_by (λ (b : Bool). b)) (sym c.deref.ensures.value) ∙ (sym c.fences_in.ensures ∙ c.if-fences_in-eq0.true) in
    let none : count_by (λ (b : Bool). b) c.args.audited.now.audit.corrected.fences.items ≡ 0
    = ap (count_by (λ (b : Bool). b)) (sym c.deref-then-fences_in-eq0.ensures.value) ∙ (sym c.fences_in-then-fences_in-eq0.ensures ∙ c.if-fences_in-eq0-2.true) in
    unfenced accepted has.0 c.args.assumptions c.args.all.now c.args.submission c.args.audited.now has.1 before none

pub returns : goal.returns
returns c accepted has =
    reaudited accepted has.0 c.args.assumptions c.args.all.now c.args.submission c.args.audited.now c.in_ok-reduced.reduced c.needless_by.result has.1 c.in_ok-reduced.ensures
    (c.needless_by.ensures ∙ ap (needless_of c.args.audited.now.is_batch) c.deref-2.ensures.value)
