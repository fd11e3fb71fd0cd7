use Rattle.std.proofs.Common.{◌≡◌, ℕ, length, sym, ap, subst, ◌∙◌, arith}
use Rattle.dsa_waits.specs.RecordedSteps.{HasEntries, entries_before}
use Rattle.dsa_waits.proofs.Placed.{placed, placed_all}
use Rattle.dsa_waits.proofs.Entered.{entries_next}
use Rattle.dsa_waits.proofs.recorded.entries_of.Goals as goal
use Rattle.dsa_waits.specs.Recorded.{no_submission}

pub add_entries-requires-clause-entries : goal.add_entries-requires-clause-entries
add_entries-requires-clause-entries c =
    let at = placed c.args.all.now 0 (length c.args.all.now) c.args.submissions.now c.loop-number.number no_submission c.requires c.loop-number-test.true in
    c.loop-number.invariant.count ∙ sym at.0.head

pub add_entries-requires-clause-members : goal.add_entries-requires-clause-members
add_entries-requires-clause-members c =
    let at = placed c.args.all.now 0 (length c.args.all.now) c.args.submissions.now c.loop-number.number no_submission c.requires c.loop-number-test.true in
    c.loop-number.invariant.count_members ∙ sym at.0.head

pub add_entries-requires-clause-begun : goal.add_entries-requires-clause-begun
add_entries-requires-clause-begun c =
    let at = placed c.args.all.now 0 (length c.args.all.now) c.args.submissions.now c.loop-number.number no_submission c.requires c.loop-number-test.true in
    omega (arith, at.0.head, at.0.some)

pub add_entries-requires-clause-within : goal.add_entries-requires-clause-within
add_entries-requires-clause-within c =
    let at = placed c.args.all.now 0 (length c.args.all.now) c.args.submissions.now c.loop-number.number no_submission c.requires c.loop-number-test.true in
    at.0.ends

pub loop-number-preserved : goal.loop-number-preserved
loop-number-preserved c =
    entries_next c.args.all.now c.args.submissions.now c.loop-number.number c.loop-number.entries.items c.add_entries.new.entries.items
    c.loop-number.members.items c.add_entries.new.members.items no_submission c.requires c.loop-number-test.true c.loop-number.invariant
    c.in_ok-add_entries.ensures

pub returns : goal.returns
returns c =
    let end : c.loop-number.number ≡ length c.args.submissions.now = omega (arith, c.loop-number-test.false, c.loop-number.auto.number-end) in
    subst (λ (n : ℕ). HasEntries c.args.all.now c.args.submissions.now n c.loop-number.entries.items c.loop-number.members.items)
    (ap (entries_before 0 c.args.submissions.now) end ∙ placed_all c.args.all.now 0 (length c.args.all.now) c.args.submissions.now c.requires)
    c.loop-number.invariant
