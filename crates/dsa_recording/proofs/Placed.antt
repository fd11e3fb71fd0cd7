-- The detail of a finding, from that within its submission.
use Rattle.std.proofs.Common.{◌≡◌, ℕ, ◌+◌, arith, List, Option, Some, None, slice_get, sym, ap, subst, ◌∙◌}
use Rattle.std.specs.Prelude.{MatchOption}
use Rattle.dsa_audit.specs.declared.member.Member.{Member}
use Rattle.dsa_recording.specs.declared.stream.Submission.{Submission}
use Rattle.dsa_recording.specs.declared.submission.Audited.{Audited}
use Rattle.dsa_recording.specs.declared.findings.Finding.{Finding}
use Rattle.dsa_recording.specs.declared.detail.Detail.{Detail}
use Rattle.dsa_recording.specs.Reports.{Reported}
use Rattle.dsa_recording.specs.declared.detail.Conflict.{Conflict}
use Rattle.dsa_recording.specs.declared.findings.FindingKind.{FindingKind}
use Rattle.dsa_recording.specs.declared.findings.FindingKind.TheVariants.{NotSeen, MissingFence, GuardingFence, SignallingFence, GuardingAndSignallingFence, NeedlessFence, Repeated, Flawed}
use Rattle.dsa_recording.specs.Details.{IsAfter, HasEntry, Describes, IsPlaced, IsDetail}

pub placed : (es : List (List ℕ)) (r : Reported) (f : Finding) (s : Submission) (a : Audited) (ms : List Member) (o : Option Detail)
    → slice_get r.submissions f.submission ≡ Some s → slice_get r.audits f.submission ≡ Some a → a.operands.items ≡ ms
    → MatchOption o (¬ HasEntry es s ms f) (Describes es s ms f) → MatchOption o (¬ IsPlaced es r f) (IsDetail es r f)
placed es r f s a ms (Some d) i j e says = (s, ms, record { submission = i; audited = a; audited_is = j; members = e }, says)
placed es r f s a ms None i j e none = λ (t, ns, there, has).
    let first = there.submission in
    let second = there.audited_is in
    let one : t ≡ s = cc in
    let other : there.audited ≡ a = cc in
    let same : ns ≡ ms = sym there.members ∙ (ap (λ (z : Audited). z.operands.items) other ∙ e) in
    none (subst (λ (z : Submission). HasEntry es z ms f) one (subst (λ (z : List Member). HasEntry es t z f) same has))

-- of entries what holds of members
pub after_entry : (first member entry : ℕ) (c : FindingKind Conflict) → entry ≡ first + member → IsAfter 0 member c → IsAfter first entry c
after_entry first member entry (MissingFence conflict) e lt = omega (arith, e, lt)
after_entry first member entry (NotSeen why) e lt = tt
after_entry first member entry (GuardingFence earlier) e lt = tt
after_entry first member entry (SignallingFence awaited) e lt = tt
after_entry first member entry (GuardingAndSignallingFence earlier awaited) e lt = tt
after_entry first member entry NeedlessFence e lt = tt
after_entry first member entry (Repeated earlier) e lt = tt
after_entry first member entry (Flawed flaw) e lt = tt
