use Rattle.std.proofs.Common.{◌≡◌, ℕ, ◌+◌, ◌<◌, List, [], ◌++◌, length, take, get_or, refl, sym, ap, ◌∙◌, add-one, append_assoc, arith}
use Rattle.std.specs.Prelude.{string_bytes}
use Rattle.std.proofs.lemmas.List.{append-nil, take_all}
use Rattle.dsa_recording.specs.declared.stream.Submission.{Submission}
use Rattle.dsa_recording.specs.declared.submission.Audited.{Audited}
use Rattle.dsa_recording.specs.Listings.{AreEntries, member_lines, submission_lines}
use Rattle.dsa_recording.proofs.ListingLines.{same_count, within_found, listing_more}
use Rattle.dsa_recording.proofs.listing.push_submissions.Goals as goal

none : (es : List (List ℕ)) → submission_lines es [] [] ≡ []
unfolding submission_lines
none es = refl

pub loop-number-init : goal.loop-number-init
loop-number-init c =
    sym (append-nil (string_bytes c.args.text.now))
    ∙ ap (λ (t : List ℕ). string_bytes c.args.text.now ++ t) (sym (none c.args.all.now))

pub index-requires : goal.index-requires
index-requires c =
    let count = same_count c.args.all.now c.args.report.now.submissions.items c.args.report.now.audits.items c.requires.entries in
    omega (arith, count, c.loop-number-test.true, c.len-number-end.ensures)

pub push_members-requires-clause-within : goal.push_members-requires-clause-within
push_members-requires-clause-within c =
    within_found c.args.all.now c.args.report.now.submissions.items c.args.report.now.audits.items c.loop-number.number c.index.result.now c.index-audited.result.now (length c.deref.result.now)
    c.requires.entries (omega (arith, c.loop-number-test.true, c.len-number-end.ensures)) c.index.ensures c.index-audited.ensures (ap length c.deref.ensures.value)

more : (es : List (List ℕ)) (ss : List Submission) (audits : List Audited) (k : ℕ) (s : Submission) (a : Audited) (front old new : List ℕ) → AreEntries es ss audits → k < length audits
    → s ≡ get_or ss k s → a ≡ get_or audits k a → old ≡ front ++ submission_lines es (take k ss) (take k audits) → new ≡ old ++ member_lines es s.first a.members.items a.audit.reduced.uses.items
    → new ≡ front ++ submission_lines es (take (k + 1) ss) (take (k + 1) audits)
more es ss audits k s a front old new entries lt one other so_far here =
    here ∙ (λ i. so_far i ++ member_lines es (one i).first (other i).members.items (other i).audit.reduced.uses.items)
    ∙ append_assoc front (submission_lines es (take k ss) (take k audits)) (member_lines es (get_or ss k s).first (get_or audits k a).members.items (get_or audits k a).audit.reduced.uses.items)
    ∙ ap (λ (t : List ℕ). front ++ t) (sym (listing_more es ss audits k s a entries lt))
    ∙ ap (λ (n : ℕ). front ++ submission_lines es (take n ss) (take n audits)) (sym (add-one k))

pub loop-number-preserved : goal.loop-number-preserved
loop-number-preserved c =
    more c.args.all.now c.args.report.now.submissions.items c.args.report.now.audits.items c.loop-number.number c.index.result.now c.index-audited.result.now
    (string_bytes c.args.text.now) (string_bytes c.loop-number.text) (string_bytes c.push_members.new.text) c.requires.entries (omega (arith, c.loop-number-test.true, c.len-number-end.ensures))
    c.index.ensures c.index-audited.ensures c.loop-number.invariant
    (c.in_ok-push_members.ensures
    ∙ (λ i. string_bytes c.loop-number.text ++ member_lines c.args.all.now c.index.result.now.first (c.deref.ensures.value i) (c.deref-in-loop-number.ensures.value i)))

pub returns : goal.returns
returns c =
    let count = same_count c.args.all.now c.args.report.now.submissions.items c.args.report.now.audits.items c.requires.entries in
    c.loop-number.invariant
    ∙ (λ i. string_bytes c.args.text.now ++
    submission_lines c.args.all.now (take_all c.loop-number.number c.args.report.now.submissions.items (omega (arith, count, c.loop-number-test.false, c.len-number-end.ensures)) i)
    (take_all c.loop-number.number c.args.report.now.audits.items (omega (arith, c.loop-number-test.false, c.len-number-end.ensures)) i))
