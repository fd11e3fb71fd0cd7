-- The lines of submissions, one after another.
use Rattle.std.proofs.Common.{◌≡◌, ℕ, zero, suc, ◌+◌, ◌<◌, ◌≤◌, List, [], ◌∷◌, ◌++◌, length, get_or, drop, take, refl, sym, ap, subst, ◌∙◌, arith}
use Rattle.std.proofs.lemmas.List.{append_assoc, append-nil, length-append}
use Rattle.std.proofs.lemmas.List.Sums.{sum_by-cons}
use Rattle.std.specs.List.{AllByRecursion, sum_by}
use Rattle.dsa_descriptor.specs.Lists.{entries}
use Rattle.dsa_recording.specs.Pairs.{Terms}
use Rattle.dsa_recording.specs.declared.stream.Submission.{Submission}
use Rattle.dsa_recording.specs.declared.submission.Audited.{Audited}
use Rattle.dsa_recording.specs.declared.report.Report.{Report}
use Rattle.dsa_recording.specs.Submissions.{IsWithin, IsAudited, AreAudited}
use Rattle.dsa_recording.specs.Reports.{IsReport, reported_by}
use Rattle.std.specs.Prelude.{slice_index_or}
use Rattle.dsa_operations.specs.OperationFields.{OperationFields}
use Rattle.dsa_audit.specs.declared.member.Member.{Member}
use Rattle.dsa_audit.specs.declared.needless.FenceUse.{FenceUse}
use Rattle.dsa_audit.specs.declared.needless.FenceUse.TheVariants.{NoFence}
use Rattle.dsa_recording.specs.Listings.{fence_line, member_line, member_lines, submission_lines, member_operation, member_operations, listed_operations, AreEntries}
use Rattle.dsa_recording.specs.Totals.{member_count}
use Rattle.dsa_recording.proofs.Within.{each_within}
use Rattle.dsa_recording.proofs.Found.{entry_within}

-- ---- lines

dropped : (uses : List FenceUse) (k : ℕ) → get_or (drop 1 uses) k NoFence ≡ get_or uses (suc k) NoFence
dropped [] k = refl
dropped (u ∷ us) k = refl

-- the lines of one member
abbrev pub one_member : List (List ℕ) → ℕ → Member → FenceUse → List ℕ
one_member es at m u = fence_line at u ++ (member_line (length es) at (slice_index_or es at []) m ++ 10 ∷ [])

-- the lines of one member more
pub lines_more : (es : List (List ℕ)) (first : ℕ) (ms : List Member) (uses : List FenceUse) (k : ℕ) (m : Member) → k < length ms
    → member_lines es first (take (suc k) ms) uses
    ≡ member_lines es first (take k ms) uses ++ one_member es (first + k) (get_or ms k m) (get_or uses k NoFence)
unfolding member_lines
lines_more es first [] uses k m lt = absurd (omega (arith, lt))
lines_more es first (x ∷ ms) uses zero m lt =
    let at : first + 0 ≡ first = omega arith in
    ap (λ (l : List ℕ). fence_line first (get_or uses 0 NoFence) ++ l) (append-nil (member_line (length es) first (slice_index_or es first []) x ++ 10 ∷ []))
    ∙ ap (λ (n : ℕ). one_member es n x (get_or uses 0 NoFence)) (sym at)
lines_more es first (x ∷ ms) uses (suc k) m lt =
    let fence : List ℕ = fence_line first (get_or uses 0 NoFence) in
    let here : List ℕ = member_line (length es) first (slice_index_or es first []) x ++ 10 ∷ [] in
    let rest : List ℕ = member_lines es (suc first) (take k ms) (drop 1 uses) in
    let next : List ℕ = one_member es (suc first + k) (get_or ms k m) (get_or (drop 1 uses) k NoFence) in
    let at : suc first + k ≡ first + suc k = omega arith in
    ap (λ (l : List ℕ). fence ++ (here ++ l)) (lines_more es (suc first) ms (drop 1 uses) k m (omega (arith, lt)))
    ∙ ap (λ (l : List ℕ). fence ++ l) (sym (append_assoc here rest next))
    ∙ sym (append_assoc fence (here ++ rest) next)
    ∙ (λ i. (fence ++ (here ++ rest)) ++ one_member es (at i) (get_or ms k m) (dropped uses k i))

-- there are as many submissions as audits
pub same_count : (es : List (List ℕ)) (ss : List Submission) (audits : List Audited) → AreEntries es ss audits → length ss ≡ length audits
same_count es [] [] all = refl
same_count es (s ∷ ss) (a ∷ audits) all = ap suc (same_count es ss audits all.1)
same_count es [] (a ∷ audits) all = absurd all
same_count es (s ∷ ss) [] all = absurd all

-- the members of submission k are entries
pub within_at : (es : List (List ℕ)) (ss : List Submission) (audits : List Audited) (k : ℕ) (s : Submission) (a : Audited) → AreEntries es ss audits
    → k < length audits → (get_or ss k s).first + length (get_or audits k a).members.items ≤ length es
within_at es [] [] k s a all lt = absurd (omega (arith, lt))
within_at es (t ∷ ss) (b ∷ audits) zero s a all lt = all.0
within_at es (t ∷ ss) (b ∷ audits) (suc k) s a all lt = within_at es ss audits k s a all.1 (omega (arith, lt))
within_at es [] (b ∷ audits) k s a all lt = absurd all
within_at es (t ∷ ss) [] k s a all lt = absurd all

-- so with what was found at a place of both
pub within_found : (es : List (List ℕ)) (ss : List Submission) (audits : List Audited) (k : ℕ) (s : Submission) (a : Audited) (n : ℕ) → AreEntries es ss audits
    → k < length audits → s ≡ get_or ss k s → a ≡ get_or audits k a → n ≡ length a.members.items → s.first + n ≤ length es
within_found es ss audits k s a n all lt one other count =
    let within = within_at es ss audits k s a all lt in
    let first : s.first ≡ (get_or ss k s).first = ap (λ (t : Submission). t.first) one in
    let members : length a.members.items ≡ length (get_or audits k a).members.items = ap (λ (b : Audited). length b.members.items) other in
    omega (arith, first, members, count, within)

-- the lines of one submission more
pub listing_more : (es : List (List ℕ)) (ss : List Submission) (audits : List Audited) (k : ℕ) (s : Submission) (a : Audited) → AreEntries es ss audits
    → k < length audits
    → submission_lines es (take (suc k) ss) (take (suc k) audits)
    ≡ submission_lines es (take k ss) (take k audits) ++ member_lines es (get_or ss k s).first (get_or audits k a).members.items (get_or audits k a).audit.reduced.uses.items
unfolding submission_lines
listing_more es [] [] k s a all lt = absurd (omega (arith, lt))
listing_more es (t ∷ ss) (b ∷ audits) zero s a all lt = append-nil (member_lines es t.first b.members.items b.audit.reduced.uses.items)
listing_more es (t ∷ ss) (b ∷ audits) (suc k) s a all lt =
    ap (λ (l : List ℕ). member_lines es t.first b.members.items b.audit.reduced.uses.items ++ l) (listing_more es ss audits k s a all.1 (omega (arith, lt)))
    ∙ sym (append_assoc (member_lines es t.first b.members.items b.audit.reduced.uses.items) (submission_lines es (take k ss) (take k audits)) (member_lines es (get_or ss k s).first (get_or audits k a).members.items (get_or audits k a).audit.reduced.uses.items))
listing_more es [] (b ∷ audits) k s a all lt = absurd all
listing_more es (t ∷ ss) [] k s a all lt = absurd all

-- ---- how many operations there are

-- those of one member more
pub operations_more : (es : List (List ℕ)) (first : ℕ) (ms : List Member) (k : ℕ) (m : Member) → k < length ms
    → length (member_operations es first (take (suc k) ms))
    ≡ length (member_operations es first (take k ms)) + length (member_operation (length es) (first + k) (slice_index_or es (first + k) []) (get_or ms k m))
unfolding member_operations
operations_more es first [] k m lt = absurd (omega (arith, lt))
operations_more es first (x ∷ ms) zero m lt =
    let at : first + 0 ≡ first = omega arith in
    let here : List OperationFields = member_operation (length es) first (slice_index_or es first []) x in
    let one : length (here ++ []) ≡ length here = ap length (append-nil here) in
    let same : length here ≡ length (member_operation (length es) (first + 0) (slice_index_or es (first + 0) []) x) =
    ap (λ (n : ℕ). length (member_operation (length es) n (slice_index_or es n []) x)) (sym at) in
    omega (arith, one, same)
operations_more es first (x ∷ ms) (suc k) m lt =
    let here : List OperationFields = member_operation (length es) first (slice_index_or es first []) x in
    let less : List OperationFields = member_operations es (suc first) (take k ms) in
    let more : List OperationFields = member_operations es (suc first) (take (suc k) ms) in
    let at : suc first + k ≡ first + suc k = omega arith in
    let next : ℕ → ℕ = λ n. length (member_operation (length es) n (slice_index_or es n []) (get_or ms k m)) in
    let rest : length more ≡ length less + next (suc first + k) = operations_more es (suc first) ms k m (omega (arith, lt)) in
    let same : next (suc first + k) ≡ next (first + suc k) = ap next at in
    let whole : length (here ++ more) ≡ length here + length more = length-append here more in
    let part : length (here ++ less) ≡ length here + length less = length-append here less in
    omega (arith, rest, same, whole, part)

-- those of one submission more
pub listed_more : (es : List (List ℕ)) (ss : List Submission) (audits : List Audited) (k : ℕ) (s : Submission) (a : Audited) → AreEntries es ss audits
    → k < length audits
    → length (listed_operations es (take (suc k) ss) (take (suc k) audits))
    ≡ length (listed_operations es (take k ss) (take k audits)) + length (member_operations es (get_or ss k s).first (get_or audits k a).members.items)
unfolding listed_operations
listed_more es [] [] k s a all lt = absurd (omega (arith, lt))
listed_more es (t ∷ ss) (b ∷ audits) zero s a all lt =
    let one = ap length (append-nil (member_operations es t.first b.members.items)) in
    omega (arith, one)
listed_more es (t ∷ ss) (b ∷ audits) (suc k) s a all lt =
    let here : List OperationFields = member_operations es t.first b.members.items in
    let less : List OperationFields = listed_operations es (take k ss) (take k audits) in
    let more : List OperationFields = listed_operations es (take (suc k) ss) (take (suc k) audits) in
    let next : ℕ = length (member_operations es (get_or ss k s).first (get_or audits k a).members.items) in
    let rest : length more ≡ length less + next = listed_more es ss audits k s a all.1 (omega (arith, lt)) in
    let whole : length (here ++ more) ≡ length here + length more = length-append here more in
    let part : length (here ++ less) ≡ length here + length less = length-append here less in
    omega (arith, rest, whole, part)
listed_more es [] (b ∷ audits) k s a all lt = absurd all
listed_more es (t ∷ ss) [] k s a all lt = absurd all

-- the members of one submission more
pub members_more : (audits : List Audited) (k : ℕ) (a : Audited) → k < length audits
    → sum_by member_count (take (suc k) audits) ≡ sum_by member_count (take k audits) + member_count (get_or audits k a)
members_more [] k a lt = absurd (omega (arith, lt))
members_more (b ∷ audits) zero a lt = let one = sum_by-cons member_count b [] in omega (arith, one)
members_more (b ∷ audits) (suc k) a lt =
    let rest = members_more audits k a (omega (arith, lt)) in
    let more = sum_by-cons member_count b (take (suc k) audits) in
    let less = sum_by-cons member_count b (take k audits) in
    omega (arith, rest, more, less)

-- ---- of a report

inside : (assumed : Terms) (es : List (List ℕ)) (s : Submission) (a : Audited) → IsWithin es s → IsAudited assumed es s a → (n : ℕ) → length a.members.items ≡ n → s.first + n ≤ length es
inside assumed es s a within is zero count =
    let ends : s.first + s.size ≤ length es = within.members in
    omega (arith, ends)
inside assumed es s a within is (suc n) count =
    let last = entry_within assumed es s a n within is (omega (arith, count)) in
    omega (arith, last.1)

each_inside : (assumed : Terms) (es : List (List ℕ)) (ss : List Submission) (audits : List Audited) → AllByRecursion (IsWithin es) ss → AreAudited assumed es ss audits → AreEntries es ss audits
each_inside assumed es [] [] within all = tt
each_inside assumed es (s ∷ ss) (a ∷ audits) (first, within) (is, all) =
    (inside assumed es s a first is (length a.members.items) refl, each_inside assumed es ss audits within all)
each_inside assumed es [] (a ∷ audits) within all = absurd all
each_inside assumed es (s ∷ ss) [] within all = absurd all

pub report_entries : (assumed : Terms) (bytes : List ℕ) (es : List (List ℕ)) (r : Report) → es ≡ entries bytes → IsReport assumed bytes (reported_by r) → AreEntries es r.submissions.items r.audits.items
report_entries assumed bytes es r same is =
    let within = each_within (entries bytes) 0 (length (entries bytes)) r.submissions.items is.submissions.all in
    subst (λ (z : List (List ℕ)). AreEntries z r.submissions.items r.audits.items) (sym same)
    (each_inside assumed (entries bytes) r.submissions.items r.audits.items within is.audits)
