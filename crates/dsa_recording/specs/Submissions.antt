-- The audit of a recorded submission.
use Rattle.std.specs.Prelude.{Bool, ℕ, ◌≡◌, ◌⊎◌, ◌↔◌, IsTrue, ◌-◌, ◌<◌, ◌≤◌, List, [], ◌∷◌, Option, length, map, get_or, slice_index_or, slice_range, if◌then◌else◌}
use Rattle.dsa_descriptor.specs.Fences.{is_fenced}
use Rattle.dsa_audit.specs.declared.member.Member.{Member}
use Rattle.dsa_audit.specs.declared.member.Member.TheVariants.{Unknown}
use Rattle.dsa_audit.specs.declared.member.Unseen.TheVariants.{Operation}
use Rattle.dsa_audit.specs.Laws.{IsAudit}
use Rattle.dsa_recording.specs.declared.member.Aspect.{Aspect}
use Rattle.dsa_recording.specs.declared.member.Aspect.TheVariants as aspects
use Rattle.dsa_recording.specs.declared.stream.Submission.{Submission}
use Rattle.dsa_recording.specs.declared.submission.Audited.{Audited}
use Rattle.dsa_recording.specs.Streams.{end_of}
use Rattle.dsa_audit.specs.Members.{KnownConflict}
use Rattle.dsa_audit.specs.Steps.{AreLasts}
use Rattle.dsa_recording.specs.Entries.{IsMember, action_of}
use Rattle.dsa_recording.specs.Flaws.{AreAllFlaws, HasMisalignedRecord}
use Rattle.dsa_recording.specs.Failures.{AreFallible}
use Rattle.dsa_recording.specs.Showing.{AreVisible}
use Rattle.dsa_recording.specs.Pairs.{IsListedPair, Terms}

-- the entry of a submission's descriptor: before the members of a batch, else the only one
abbrev pub head_at : Submission → ℕ
head_at s = if s.is_batch then (s.first - 1) else s.first

-- the submission's descriptor and its members are entries
pub record IsWithin (es : List (List ℕ)) (s : Submission) : Type 0 where
  pub head : head_at s < length es
  pub members : end_of s ≤ length es

-- the entries of a submission's members
abbrev pub members_in : List (List ℕ) → Submission → List (List ℕ)
members_in es s = slice_range es s.first (end_of s)

-- there is a member for each entry, and it is what is known of that in this respect
pub record AreMembers (aspect : Aspect) (head : List ℕ) (es : List (List ℕ)) (ms : List Member) : Type 0 where
  pub count : length ms ≡ length es
  pub each : (k : ℕ) → k < length es → IsMember aspect head (get_or es k []) (get_or ms k (Unknown Operation))

-- for each entry, the last one before it with which it shares a record: the record of one meets the record of the other, or
-- data that it writes; or one reads a record of the other that is a status alone
pub record AreShared (head : List ℕ) (es : List (List ℕ)) (shared : List (Option ℕ)) : Type 0 where
  pub records : List Member
  pub statuses : List Member
  pub are : AreMembers aspects.Record head es records
  pub are_statuses : AreMembers aspects.Status head es statuses
  pub count : length shared ≡ length es
  pub lasts : AreLasts (λ a b. KnownConflict records a b ⊎ KnownConflict statuses a b) shared

-- whether it is a batch, the fences of the submission's entries, what is known of them, what they do and with which data, which share
-- records, what else is wrong with each, which can fail and which show, and an audit of these, on these terms
pub record IsAudited (terms : Terms) (es : List (List ℕ)) (s : Submission) (a : Audited) : Type 0 where
  pub is_batch : a.is_batch ≡ s.is_batch
  pub is_head_fenced : a.is_head_fenced ≡ is_fenced (slice_index_or es (head_at s) [])
  pub is_head_misaligned : IsTrue a.is_head_misaligned ↔ HasMisalignedRecord (slice_index_or es (head_at s) [])
  pub fences : a.fences.items ≡ map is_fenced (members_in es s)
  pub members : AreMembers aspects.Whole (slice_index_or es (head_at s) []) (members_in es s) a.members.items
  pub fallible : List Bool
  pub visible : List Bool
  pub are_fallible : AreFallible terms.assumptions a.members.items (members_in es s) fallible
  pub are_visible : AreVisible terms.assumptions (slice_index_or es (head_at s) []) a.members.items (members_in es s) visible
  pub actions : a.actions.items ≡ map action_of (members_in es s)
  pub operands : AreMembers aspects.Data (slice_index_or es (head_at s) []) (members_in es s) a.operands.items
  pub shared : AreShared (slice_index_or es (head_at s) []) (members_in es s) a.shared.items
  pub flaws : AreAllFlaws s.is_batch (slice_index_or es (head_at s) []) (members_in es s) a.flaws.items
  pub audit :
      IsAudit (IsListedPair terms.accepted (members_in es s) a.operands.items) a.actions.items a.operands.items a.members.items
      fallible visible a.fences.items a.audit

-- each submission is audited, in order
abbrev pub AreAudited : Terms → List (List ℕ) → List Submission → List Audited → Type 0
AreAudited terms es [] [] = Unit
AreAudited terms es (s ∷ ss) (a ∷ audits) = IsAudited terms es s a × AreAudited terms es ss audits
AreAudited terms es [] (a ∷ audits) = ⊥
AreAudited terms es (s ∷ ss) [] = ⊥
