use Rattle.std.proofs.Common.{ℕ, inl, inr, List, refl, subst, sym}
use Rattle.dsa_descriptor.specs.Lists.{entries}
use Rattle.dsa_recording.specs.declared.accepted.Accepted.{Accepted}
use Rattle.dsa_recording.specs.declared.answer.AuditFormat.{AuditFormat}
use Rattle.dsa_recording.specs.declared.answer.AuditFormat.TheVariants.{Text, Json, Picture, List as Listed, Keys}
use Rattle.dsa_recording.specs.declared.stream.Submission.{Submission}
use Rattle.dsa_waits.specs.declared.fitting.Found.{Found}
use Rattle.dsa_waits.specs.Fitting.{AreWaits}
use Rattle.dsa_waits.specs.Answered.{HasFault, IsStatusIn, IsStatusOf, status_in}
use Rattle.dsa_waits.proofs.answer.answer_waits.Goals as goal

status_by : (format : AuditFormat) (accepted : Accepted) (es : List (List ℕ)) (ss : List Submission) (found : Found) (status : ℕ) → IsStatusOf accepted es ss found status
    → IsStatusIn format accepted es ss found (status_in format status)
status_by Text accepted es ss found status is = is
status_by Json accepted es ss found status is = is
status_by Picture accepted es ss found status is = is
status_by Listed accepted es ss found status is = is
status_by Keys accepted es ss found status is = refl

pub returns-in-Ok-find_waits : goal.returns-in-Ok-find_waits
returns-in-Ok-find_waits c =
    let here : AreWaits c.args.accepted.now c.as_chunks.result.0.now c.deref.result.now c.args.text.now c.in-Ok-find_waits.found = c.in-Ok-find_waits.ensures.ok in
    let listed : AreWaits c.args.accepted.now c.as_chunks.result.0.now c.in-Ok.submissions.items c.args.text.now c.in-Ok-find_waits.found =
    subst (λ (ss : List Submission). AreWaits c.args.accepted.now c.as_chunks.result.0.now ss c.args.text.now c.in-Ok-find_waits.found) c.deref.ensures.value here in
    let are : AreWaits c.args.accepted.now (entries c.args.bytes.now) c.in-Ok.submissions.items c.args.text.now c.in-Ok-find_waits.found =
    subst (λ (es : List (List ℕ)). AreWaits c.args.accepted.now es c.in-Ok.submissions.items c.args.text.now c.in-Ok-find_waits.found) c.as_chunks.ensures.front listed in
    let status : IsStatusIn c.args.format c.args.accepted.now (entries c.args.bytes.now) c.in-Ok.submissions.items c.in-Ok-find_waits.found
    (status_in c.args.format c.status_of.result) =
    status_by c.args.format c.args.accepted.now (entries c.args.bytes.now) c.in-Ok.submissions.items c.in-Ok-find_waits.found c.status_of.result
    (c.status_of.ensures c.args.accepted.now (entries c.args.bytes.now) c.in-Ok.submissions.items c.args.text.now are) in
    inl (
      c.in-Ok.submissions.items,
      c.in-Ok.ensures.answer,
      inl (
        c.in-Ok-find_waits.found,
        are,
        subst (λ (s : ℕ). IsStatusIn c.args.format c.args.accepted.now (entries c.args.bytes.now) c.in-Ok.submissions.items c.in-Ok-find_waits.found s) (sym c.status_in-status.ensures) status,
        are.used,
      ),
    )

pub returns : goal.returns
returns c =
    let here : HasFault c.as_chunks.result.0.now c.deref.result.now c.args.text.now = (c.in-Err.fault, c.in_ok-text-in-Err.ensures, c.in-Err.ensures.err) in
    let listed : HasFault c.as_chunks.result.0.now c.in-Ok.submissions.items c.args.text.now =
    subst (λ (ss : List Submission). HasFault c.as_chunks.result.0.now ss c.args.text.now) c.deref.ensures.value here in
    let has : HasFault (entries c.args.bytes.now) c.in-Ok.submissions.items c.args.text.now =
    subst (λ (es : List (List ℕ)). HasFault es c.in-Ok.submissions.items c.args.text.now) c.as_chunks.ensures.front listed in
    inl (c.in-Ok.submissions.items, c.in-Ok.ensures.answer, inr (c.refusal-in-Err.ensures, has))
