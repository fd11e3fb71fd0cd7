-- What a report comes to, in numbers (this project's choice).
use Rattle.std.specs.Prelude.{ℕ, ◌≡◌, ◌<◌, ◌^◌, Bool, true, false, not, List, length}
use Rattle.std.specs.List.{count_by, sum_by}
use Rattle.dsa_recording.specs.declared.submission.Audited.{Audited}
use Rattle.dsa_recording.specs.declared.findings.Finding.{Finding}
use Rattle.dsa_recording.specs.declared.findings.FindingKind.{FindingKind}
use Rattle.dsa_recording.specs.declared.findings.FindingKind.TheVariants.{NotSeen, MissingFence, GuardingFence, SignallingFence, GuardingAndSignallingFence, NeedlessFence, Repeated, Flawed}
use Rattle.dsa_recording.specs.declared.report.Report.{Report}
use Rattle.dsa_recording.specs.declared.totals.Counts.{Counts}
use Rattle.dsa_recording.specs.declared.totals.Totals.{Totals}

-- ---- of a submission

-- how many members it has
abbrev pub member_count : Audited → ℕ
member_count a = length a.members.items

-- how many fences are set
abbrev pub set_count : Audited → ℕ
set_count a = count_by (λ b. b) a.fences.items

-- ---- of a finding

-- a member that is not looked at
abbrev pub is_unseen : FindingKind ℕ → Bool
is_unseen (NotSeen why) = true
is_unseen (MissingFence earlier) = false
is_unseen (GuardingFence earlier) = false
is_unseen (SignallingFence awaited) = false
is_unseen (GuardingAndSignallingFence earlier awaited) = false
is_unseen NeedlessFence = false
is_unseen (Repeated earlier) = false
is_unseen (Flawed flaw) = false

-- a missing fence
abbrev pub is_missing : FindingKind ℕ → Bool
is_missing (NotSeen why) = false
is_missing (MissingFence earlier) = true
is_missing (GuardingFence earlier) = false
is_missing (SignallingFence awaited) = false
is_missing (GuardingAndSignallingFence earlier awaited) = false
is_missing NeedlessFence = false
is_missing (Repeated earlier) = false
is_missing (Flawed flaw) = false

-- a needless fence
abbrev pub is_needless : {E : Type 0} → FindingKind E → Bool
is_needless (NotSeen why) = false
is_needless (MissingFence conflict) = false
is_needless (GuardingFence earlier) = false
is_needless (SignallingFence awaited) = false
is_needless (GuardingAndSignallingFence earlier awaited) = false
is_needless NeedlessFence = true
is_needless (Repeated earlier) = false
is_needless (Flawed flaw) = false

-- a fence that guards, or does both
abbrev pub is_guarding : FindingKind ℕ → Bool
is_guarding (NotSeen why) = false
is_guarding (MissingFence earlier) = false
is_guarding (GuardingFence earlier) = true
is_guarding (SignallingFence awaited) = false
is_guarding (GuardingAndSignallingFence earlier awaited) = true
is_guarding NeedlessFence = false
is_guarding (Repeated earlier) = false
is_guarding (Flawed flaw) = false

-- a fence that signals, or does both
abbrev pub is_signalling : FindingKind ℕ → Bool
is_signalling (NotSeen why) = false
is_signalling (MissingFence earlier) = false
is_signalling (GuardingFence earlier) = false
is_signalling (SignallingFence awaited) = true
is_signalling (GuardingAndSignallingFence earlier awaited) = true
is_signalling NeedlessFence = false
is_signalling (Repeated earlier) = false
is_signalling (Flawed flaw) = false

-- something wrong beside fences
abbrev pub is_flaw : FindingKind ℕ → Bool
is_flaw (NotSeen why) = false
is_flaw (MissingFence earlier) = false
is_flaw (GuardingFence earlier) = false
is_flaw (SignallingFence awaited) = false
is_flaw (GuardingAndSignallingFence earlier awaited) = false
is_flaw NeedlessFence = false
is_flaw (Repeated earlier) = false
is_flaw (Flawed flaw) = true

-- ---- of a report

-- how many submissions are batches and how many are not, how many members and fences all of them have, and how many
-- findings of each kind but repeated operations there are; a fence that guards and signals counts as both
pub record IsTotals (r : Report) (t : Totals) : Type 0 where
  pub batches : t.batches ≡ count_by (λ s. s.is_batch) r.submissions.items
  pub lone : t.lone ≡ count_by (λ s. not s.is_batch) r.submissions.items
  pub descriptors : t.descriptors ≡ sum_by member_count r.audits.items
  pub fences : t.fences ≡ sum_by set_count r.audits.items
  pub unseen : t.unseen ≡ count_by (λ f. is_unseen f.kind) r.findings.items
  pub missing : t.missing ≡ count_by (λ f. is_missing f.kind) r.findings.items
  pub needless : t.needless ≡ count_by (λ f. is_needless f.kind) r.findings.items
  pub guarding : t.guarding ≡ count_by (λ f. is_guarding f.kind) r.findings.items
  pub signalling : t.signalling ≡ count_by (λ f. is_signalling f.kind) r.findings.items
  pub flaws : t.flaws ≡ count_by (λ f. is_flaw f.kind) r.findings.items

-- ---- for private clauses

-- how many of the findings are of each kind but repeated operations
pub record AreCounts (findings : List Finding) (c : Counts) : Type 0 where
  pub unseen : c.unseen ≡ count_by (λ f. is_unseen f.kind) findings
  pub missing : c.missing ≡ count_by (λ f. is_missing f.kind) findings
  pub needless : c.needless ≡ count_by (λ f. is_needless f.kind) findings
  pub guarding : c.guarding ≡ count_by (λ f. is_guarding f.kind) findings
  pub signalling : c.signalling ≡ count_by (λ f. is_signalling f.kind) findings
  pub flaws : c.flaws ≡ count_by (λ f. is_flaw f.kind) findings

-- the sums of members and of fences are numbers of 64 bits
pub record HasSums (r : Report) : Type 0 where
  pub members : sum_by member_count r.audits.items < 2 ^ 64
  pub fences : sum_by set_count r.audits.items < 2 ^ 64
