use Rattle.std.proofs.Common.{◌≡◌, ap, subst, ◌∙◌, arith}
use Rattle.dsa_recording.specs.EntryKeys.{fence_front}
use Rattle.dsa_recording.specs.Pairs.{NamesAfter, hazards_by}
use Rattle.dsa_recording.proofs.Fronts.{named_all, named_next}
use Rattle.dsa_recording.proofs.pairs.named_with.Goals as goal

pub loop-number-preserved : goal.loop-number-preserved
loop-number-preserved c =
    let accepted = c.args.accepted.now in
    let es = c.args.entries.now in
    let front : c.deref.result.now ≡ fence_front es c.args.later (hazards_by c.loop-number.number) = c.deref.ensures ∙ (c.in_ok-front.ensures ∙ ap (fence_front es c.args.later) c.hazards_by.ensures) in
    named_next accepted es c.args.later c.loop-number.number c.loop-number.members.items c.push_numbers.new.numbers.items c.loop-number.invariant
    (subst (λ l. NamesAfter accepted l c.loop-number.members.items c.push_numbers.new.numbers.items) front c.in_ok-push_numbers.ensures)

pub returns : goal.returns
returns c =
    named_all c.args.accepted.now c.args.entries.now c.args.later c.loop-number.number c.loop-number.members.items (omega (arith, c.loop-number-test.false)) c.loop-number.invariant
