-- How many more fences would be needless if more were assumed (this project's choice).
use Rattle.std.specs.Prelude.{ℕ, ◌≡◌, ◌-◌, Bool, true, false, List, [], if◌then◌else◌, slice_index_or}
use Rattle.std.specs.List.{count_by}
use Rattle.dsa_audit.specs.declared.needless.FenceUse.{FenceUse}
use Rattle.dsa_audit.specs.declared.needless.FenceUse.TheVariants as fence_use
use Rattle.dsa_audit.specs.declared.needless.Reduced.{Reduced}
use Rattle.dsa_audit.specs.Laws.{IsReducedAccepting}
use Rattle.dsa_recording.specs.declared.accepted.Accepted.{Accepted}
use Rattle.dsa_recording.specs.declared.assumptions.Assumptions.{Assumptions}
use Rattle.dsa_recording.specs.declared.findings.Finding.{Finding}
use Rattle.dsa_recording.specs.declared.freed.Freed.{Freed}
use Rattle.dsa_recording.specs.declared.report.Report.{Report}
use Rattle.dsa_recording.specs.declared.stream.Submission.{Submission}
use Rattle.dsa_recording.specs.declared.submission.Audited.{Audited}
use Rattle.dsa_recording.specs.Failures.{AreFallible}
use Rattle.dsa_recording.specs.Findings.{recording_findings}
use Rattle.dsa_recording.specs.Pairs.{Terms, terms}
use Rattle.dsa_recording.specs.Showing.{AreVisible}
use Rattle.dsa_recording.specs.Submissions.{AreAudited, IsAudited, head_at, members_in}
use Rattle.dsa_recording.specs.Totals.{is_needless}

-- how many needless fences there are
abbrev pub needless_count : List Finding → ℕ
needless_count findings = count_by (λ f. is_needless f.kind) findings

-- so many fences are needless in an audit of the submissions on these terms
abbrev pub AreNeedless : Terms → List (List ℕ) → List Submission → ℕ → Type 0
AreNeedless t es ss n =
    (audits : List Audited) × AreAudited t es ss audits × (n ≡ needless_count (recording_findings 0 audits))

-- under its assumptions there are so many more than the report has
abbrev pub IsFreed : Accepted → List (List ℕ) → Report → Freed → Type 0
IsFreed accepted es r f =
    (n : ℕ) × AreNeedless (terms accepted f.assumptions) es r.submissions.items n × (f.fences ≡ n - needless_count r.findings.items)

-- ---- for private clauses

-- a fence that may go
abbrev pub is_needless_use : FenceUse → Bool
is_needless_use fence_use.NoFence = false
is_needless_use fence_use.Needless = true
is_needless_use (fence_use.Guarding earlier) = false
is_needless_use (fence_use.Signalling awaited) = false
is_needless_use (fence_use.GuardingAndSignalling earlier awaited) = false
is_needless_use fence_use.Held = false
is_needless_use (fence_use.Needed earlier later) = false

-- how many needless fences a submission has, by what its fences are for; a lone descriptor has none
abbrev pub needless_of : Bool → List FenceUse → ℕ
needless_of is_batch uses = if is_batch then count_by is_needless_use uses else 0

-- it is an audit of the submission, on some terms
abbrev pub IsSomeAudit : List (List ℕ) → Submission → Audited → Type 0
IsSomeAudit es s a = (t : Terms) × IsAudited t es s a

-- it is one that accepts these keys, under some assumptions
abbrev pub IsAuditAccepting : Accepted → List (List ℕ) → Submission → Audited → Type 0
IsAuditAccepting accepted es s a = (assumed : Assumptions) × IsAudited (terms accepted assumed) es s a

-- the report has an audit of each of its submissions, on some terms
abbrev pub HasAudits : List (List ℕ) → Report → Type 0
HasAudits es r = (t : Terms) × AreAudited t es r.submissions.items r.audits.items

-- it has those that accept these keys, under some assumptions
abbrev pub HasAuditsAccepting : Accepted → List (List ℕ) → Report → Type 0
HasAuditsAccepting accepted es r = (assumed : Assumptions) × AreAudited (terms accepted assumed) es r.submissions.items r.audits.items

-- the fences of the audited submission are reduced by what can fail and what shows under these assumptions
pub record IsReducedUnder (assumed : Assumptions) (es : List (List ℕ)) (s : Submission) (a : Audited) (r : Reduced) : Type 0 where
  pub fallible : List Bool
  pub visible : List Bool
  pub are_fallible : AreFallible assumed a.members.items (members_in es s) fallible
  pub are_visible : AreVisible assumed (slice_index_or es (head_at s) []) a.members.items (members_in es s) visible
  pub reduced :
      IsReducedAccepting a.members.items fallible visible a.fences.items a.audit.unaccepted.fences.items
      a.audit.corrected.fences.items r.uses.items r.fences.items

-- an audit of the submission on these terms has so many needless fences
abbrev pub HasNeedless : Terms → List (List ℕ) → Submission → ℕ → Type 0
HasNeedless t es s n =
    (a : Audited) × IsAudited t es s a × (n ≡ needless_of a.is_batch a.audit.reduced.uses.items)
