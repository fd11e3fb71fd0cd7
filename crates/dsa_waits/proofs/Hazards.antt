-- The key of a missing wait.
use Rattle.std.proofs.Common.{◌≡◌, ℕ, true, List, sym, ap, ◌∙◌}
use Rattle.dsa_recording.specs.declared.stream.Submission.{Submission}
use Rattle.dsa_recording.specs.declared.accepted.Accepted.{Accepted}
use Rattle.dsa_recording.specs.Pairs.{has_key}
use Rattle.dsa_recording.proofs.Keyed.{one_hazards}
use Rattle.dsa_waits.specs.declared.course.Course.{Course}
use Rattle.dsa_waits.specs.Keys.{IsWaitAccepted, IsWaitKey, wait_key}
use Rattle.dsa_waits.specs.Waits.{submission_of}
use Rattle.dsa_waits.specs.Recorded.{submission_at}

-- a missing wait has one key
pub one_key : (es : List (List ℕ)) (ss : List Submission) (c : Course) (earlier later : ℕ) (key other : List ℕ) → IsWaitKey es ss c earlier later key → IsWaitKey es ss c earlier later other → key ≡ other
one_key es ss c earlier later key other (lt, conflict, (hs, first, is)) (lt', conflict', (gs, second, are)) =
    let hazards : hs ≡ gs = one_hazards c.members.items earlier later hs gs first second in
    is ∙ (ap (wait_key es (submission_at ss (submission_of c earlier)) (submission_at ss (submission_of c later)) earlier later) hazards ∙ sym are)

-- it is accepted if that is
pub accepted_by : (accepted : Accepted) (es : List (List ℕ)) (ss : List Submission) (c : Course) (earlier later : ℕ) (key : List ℕ) → IsWaitKey es ss c earlier later key → IsWaitAccepted accepted es ss c earlier later
    → has_key accepted key ≡ true
accepted_by accepted es ss c earlier later key is (other, are, has) = ap (has_key accepted) (one_key es ss c earlier later key other is are) ∙ has
