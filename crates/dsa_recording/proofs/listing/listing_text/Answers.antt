use Rattle.std.proofs.Common.{◌-◌, ◌++◌, ap, ◌∙◌}
use Rattle.std.specs.List.{sum_by}
use Rattle.dsa_recording.specs.Listings.{left_line, submission_lines}
use Rattle.dsa_recording.specs.Totals.{member_count}
use Rattle.dsa_recording.proofs.listing.listing_text.Goals as goal

pub returns : goal.returns
returns c =
    let total = c.members_in-total.ensures ∙ ap (sum_by member_count) c.deref.ensures.value in
    c.in_ok-push_submissions.ensures
    ∙ (λ i. c.in_ok-text.ensures i ++ submission_lines c.args.all.now c.args.report.now.submissions.items c.args.report.now.audits.items)
    ∙ (λ i. left_line (total i - c.listed_in.ensures.value i) (total i) ++ submission_lines c.args.all.now c.args.report.now.submissions.items c.args.report.now.audits.items)
