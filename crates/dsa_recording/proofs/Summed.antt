-- The sums of a report are at most its entries.
use Rattle.std.proofs.Common.{◌≡◌, ℕ, ◌+◌, ◌-◌, ◌/◌, ◌<◌, ◌≤◌, ◌^◌, Bool, true, false, List, [], ◌∷◌, length, drop, min, refl, sym, ap, subst, ◌∙◌, arith}
use Rattle.std.specs.Prelude.{if◌then◌else◌, ◌==◌, slice_index_or}
use Rattle.std.specs.List.{sum_by}
use Rattle.std.proofs.lemmas.List.{length-take, length-map}
use Rattle.std.proofs.lemmas.List.Sums.{count_by-le-length, sum_by-append}
use Rattle.dsa_descriptor.specs.Lists.{entries}
use Rattle.dsa_descriptor.proofs.Entries.{length-chunks}
use Rattle.dsa_descriptor.specs.Places.{u32_at, code_at}
use Rattle.dsa_recording.specs.Pairs.{Terms}
use Rattle.dsa_recording.specs.declared.stream.Submission.{Submission}
use Rattle.dsa_recording.specs.declared.submission.Audited.{Audited}
use Rattle.dsa_recording.specs.declared.report.Report.{Report}
use Rattle.dsa_recording.specs.Streams.{submission_at, end_of, ReadsUpTo}
use Rattle.dsa_descriptor.specs.Fences.{is_fenced}
use Rattle.dsa_recording.specs.Submissions.{members_in, IsAudited, AreAudited}
use Rattle.dsa_recording.specs.Reports.{IsReport, reported_by}
use Rattle.dsa_recording.specs.Totals.{member_count, set_count, HasSums}

-- ---- of one submission

abbrev begin_of : Submission → ℕ
begin_of s = s.first

first_by : (b : Bool) (n at : ℕ) → at ≤ begin_of (if b then record { first = at + 1; size = n; is_batch = true } else record { first = at; size = 1; is_batch = false })
first_by true n at = omega arith
first_by false n at = omega arith

begins_after : (es : List (List ℕ)) (from : ℕ) (s : Submission) → s ≡ submission_at es from → from ≤ s.first
unfolding submission_at
begins_after es from s is =
    let here : from ≤ begin_of (submission_at es from) = first_by (code_at (slice_index_or es from []) == 1) (u32_at 32 (slice_index_or es from [])) from in
    subst (λ (x : Submission). from ≤ begin_of x) (sym is) here

within_size : (es : List (List ℕ)) (s : Submission) → length (members_in es s) ≤ s.size
within_size es s =
    let size : length (members_in es s) ≡ min (end_of s - s.first) (length (drop s.first es)) = length-take (end_of s - s.first) (drop s.first es) in
    omega (arith, size)

few_members : (assumed : Terms) (es : List (List ℕ)) (s : Submission) (a : Audited) → IsAudited assumed es s a → member_count a ≤ s.size
few_members assumed es s a is =
    let count : length a.members.items ≡ length (members_in es s) = is.members.count in
    let size = within_size es s in
    omega (arith, count, size)

few_fences : (assumed : Terms) (es : List (List ℕ)) (s : Submission) (a : Audited) → IsAudited assumed es s a → set_count a ≤ s.size
few_fences assumed es s a is =
    let fences : length a.fences.items ≡ length (members_in es s) = ap length is.fences ∙ length-map (members_in es s) is_fenced in
    let size = within_size es s in
    let set : set_count a ≤ length a.fences.items = count_by-le-length (λ b. b) a.fences.items in
    omega (arith, fences, size, set)

-- ---- of all, counted by any measure that is within the size of each

sum_within : (assumed : Terms) (f : Audited → ℕ) (es : List (List ℕ)) (few : (s : Submission) (a : Audited) → IsAudited assumed es s a → f a ≤ s.size) (from to : ℕ) (ss : List Submission) (audits : List Audited)
    → ReadsUpTo es from ss to → AreAudited assumed es ss audits → from + sum_by f audits ≤ to
sum_within assumed f es few from to [] [] reads all =
    let none : sum_by f [] ≡ 0 = refl in
    omega (arith, reads, none)
sum_within assumed f es few from to (s ∷ ss) (a ∷ audits) (lt, is, le, reads) (first, all) =
    let begun = begins_after es from s is in
    let here = few s a first in
    let rest : end_of s + sum_by f audits ≤ to = sum_within assumed f es few (end_of s) to ss audits reads all in
    let one : sum_by f (a ∷ []) ≡ 0 + f a = refl in
    let step : sum_by f (a ∷ audits) ≡ sum_by f (a ∷ []) + sum_by f audits = sum_by-append f (a ∷ []) audits in
    omega (arith, begun, here, rest, one, step)
sum_within assumed f es few from to [] (a ∷ audits) reads all = absurd all
sum_within assumed f es few from to (s ∷ ss) [] reads all = absurd all

pub has_sums : (assumed : Terms) (bytes : List ℕ) (r : Report) → IsReport assumed bytes (reported_by r) → length bytes < 2 ^ 64 → HasSums r
has_sums assumed bytes r is small =
    let es : List (List ℕ) = entries bytes in
    let count : length es ≡ length bytes / 64 = length-chunks (length bytes / 64) bytes in
    let members = sum_within assumed member_count es (few_members assumed es) 0 (length es) r.submissions.items r.audits.items is.submissions.all is.audits in
    let fences = sum_within assumed set_count es (few_fences assumed es) 0 (length es) r.submissions.items r.audits.items is.submissions.all is.audits in
    record { members = omega (arith, members, count, small); fences = omega (arith, fences, count, small) }
