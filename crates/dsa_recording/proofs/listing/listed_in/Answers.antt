use Rattle.std.proofs.Common.{◌≡◌, ℕ, ◌+◌, ◌<◌, ◌≤◌, List, [], length, get_or, take, refl, ap, ◌∙◌, add-one, arith}
use Rattle.std.specs.List.{sum_by}
use Rattle.std.proofs.lemmas.List.{take_all}
use Rattle.dsa_recording.specs.declared.stream.Submission.{Submission}
use Rattle.dsa_recording.specs.declared.submission.Audited.{Audited}
use Rattle.dsa_recording.specs.Listings.{AreEntries, listed_operations, member_operations}
use Rattle.dsa_recording.specs.Totals.{member_count}
use Rattle.dsa_recording.proofs.ListingLines.{same_count, within_found, listed_more, members_more}
use Rattle.dsa_recording.proofs.listing.listed_in.Goals as goal

none : (es : List (List ℕ)) → 0 ≡ length (listed_operations es [] [])
unfolding listed_operations
none es = refl

pub loop-number-init : goal.loop-number-init
loop-number-init c = (none c.args.all.now, omega arith)

pub index-requires : goal.index-requires
index-requires c =
    let count = same_count c.args.all.now c.args.report.now.submissions.items c.args.report.now.audits.items c.requires.entries in
    omega (arith, count, c.loop-number-test.true, c.len-number-end.ensures)

pub listed_of-listed-requires-clause-within : goal.listed_of-listed-requires-clause-within
listed_of-listed-requires-clause-within c =
    within_found c.args.all.now c.args.report.now.submissions.items c.args.report.now.audits.items c.loop-number.number c.index.result.now c.index-in-loop-number.result.now (length c.deref.result.now)
    c.requires.entries (omega (arith, c.loop-number-test.true, c.len-number-end.ensures)) c.index.ensures c.index-in-loop-number.ensures (ap length c.deref.ensures.value)

more : (es : List (List ℕ)) (ss : List Submission) (audits : List Audited) (k : ℕ) (s : Submission) (a : Audited) (listed here : ℕ) → AreEntries es ss audits → k < length audits
    → s ≡ get_or ss k s → a ≡ get_or audits k a
    → (listed ≡ length (listed_operations es (take k ss) (take k audits))) × (listed ≤ sum_by member_count (take k audits))
    → here ≡ length (member_operations es s.first a.members.items) → here ≤ length a.members.items
    → (listed + here ≡ length (listed_operations es (take (k + 1) ss) (take (k + 1) audits))) × (listed + here ≤ sum_by member_count (take (k + 1) audits))
more es ss audits k s a listed here entries lt first second so_far one few =
    let next = listed_more es ss audits k s a entries lt in
    let place = ap (λ (n : ℕ). length (listed_operations es (take n ss) (take n audits))) (add-one k) in
    let found = one ∙ (λ i. length (member_operations es (first i).first (second i).members.items)) in
    let sum = so_far.0 in
    let members = members_more audits k a lt in
    let at = ap (λ (n : ℕ). sum_by member_count (take n audits)) (add-one k) in
    let some = ap member_count second in
    let least = so_far.1 in
    (omega (arith, next, place, sum, found), omega (arith, members, at, some, least, few))

pub loop-number-preserved : goal.loop-number-preserved
loop-number-preserved c =
    let same = c.deref.ensures.value in
    more c.args.all.now c.args.report.now.submissions.items c.args.report.now.audits.items c.loop-number.number c.index.result.now c.index-in-loop-number.result.now
    c.loop-number.listed c.listed_of-listed.result c.requires.entries (omega (arith, c.loop-number-test.true, c.len-number-end.ensures))
    c.index.ensures c.index-in-loop-number.ensures c.loop-number.invariant
    (c.listed_of-listed.ensures.value ∙ ap (λ ms. length (member_operations c.args.all.now c.index.result.now.first ms)) same)
    (let few = c.listed_of-listed.ensures.few in let count = ap length same in omega (arith, few, count))

pub returns-clause-value : goal.returns-clause-value
returns-clause-value c =
    let count = same_count c.args.all.now c.args.report.now.submissions.items c.args.report.now.audits.items c.requires.entries in
    c.loop-number.invariant.0
    ∙ (λ i. length (listed_operations c.args.all.now
    (take_all c.loop-number.number c.args.report.now.submissions.items (omega (arith, count, c.loop-number-test.false, c.len-number-end.ensures)) i)
    (take_all c.loop-number.number c.args.report.now.audits.items (omega (arith, c.loop-number-test.false, c.len-number-end.ensures)) i)))
