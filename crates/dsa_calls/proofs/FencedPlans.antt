-- Planning with fences has one outcome, whose plan is least.
use Rattle.std.proofs.Common.{◌≡◌, ◌⊎◌, inl, inr, ℕ, Bool, List, length, map, Result, Ok, Err, sym, ap, subst, ◌∙◌}
use Rattle.std.specs.Prelude.{IfOk}
use Rattle.dsa_descriptor.specs.declared.descriptor.Descriptor.{Descriptor}
use Rattle.dsa_descriptor.specs.declared.fault.ListFault.{ListFault}
use Rattle.dsa_descriptor.specs.Fields.{Fields}
use Rattle.dsa_descriptor.specs.Descriptors.{fields}
use Rattle.dsa_descriptor.specs.Lists.{IsFirstListFault}
use Rattle.dsa_ranges.specs.Ranges.{ConflictAt}
use Rattle.dsa_settings.specs.Barriers.{WithBarriers}
use Rattle.dsa_settings.specs.Settings.{Limits, tariff_of}
use Rattle.dsa_plan.specs.Certificate.{IsGood}
use Rattle.dsa_splitter.specs.declared.fault.SplitFault.{SplitFault}
use Rattle.dsa_splitter.specs.Rules.{IsFirstSplitFault}
use Rattle.dsa_splitter.proofs.OneFault.{split_no_fault}
use Rattle.dsa_search.proofs.Choosing.{chosen_is_good, chosen_is_least}
use Rattle.dsa_calls.specs.declared.fault.PlanFault.{PlanFault}
use Rattle.dsa_calls.specs.declared.fault.PlanFault.TheVariants.{Memory as NoMemory}
use Rattle.dsa_calls.specs.declared.planning.Planned.{Planned}
use Rattle.dsa_calls.specs.Fault.{list_cause, split_cause}
use Rattle.dsa_calls.specs.Lists.{IsListOf, OrMemory, IsOrMemory}
use Rattle.dsa_calls.specs.Planned.{Submission, IsSubmissionOfPiecesBy, submission_of}
use Rattle.dsa_descriptor.specs.Fences.{barriers_of, unfenced_list}
use Rattle.dsa_calls.specs.Fenced.{AreFencedPieces, PiecesConflict, IsSubmissionWith, PlansWith, PlansFenced, IsFencedLeast, OneFencedPlan, FencedPlanIsLeast}
use Rattle.dsa_calls.proofs.Over.{list_refused, one_over_list, only_outcome}
use Rattle.dsa_calls.proofs.Submissions.{one_of_pieces, one_operations, operations_refused}

-- ---- one outcome

one_submission : (barriers : List Bool) (s : Limits) (fs : List Fields) (p q : Submission) → IsSubmissionWith barriers s fs p → IsSubmissionWith barriers s fs q → p ≡ q
one_submission barriers s fs p q h k =
    one_of_pieces (λ es. PiecesConflict s fs barriers es) s p q (h.pieces_are ∙ sym k.pieces_are) h.of_pieces k.of_pieces

one_with : (barriers : List Bool) (s : Limits) (fs : List Fields) (o p : Result Submission PlanFault) → PlansWith barriers s fs o → PlansWith barriers s fs p → o ≡ p
one_with barriers s fs (Ok p) (Ok q) h k = ap Ok (one_submission barriers s fs p q h k)
one_with barriers s fs (Ok p) (Err fault) h (cause, other, first, is) = absurd (other (split_no_fault s.greatest_transfer s.staging fs cause h.split first))
one_with barriers s fs (Err fault) (Ok q) (cause, other, first, is) k = absurd (other (split_no_fault s.greatest_transfer s.staging fs cause k.split first))
one_with barriers s fs (Err fault) (Err fault') h k = one_operations s fs (Err fault) (Err fault') h k

pub one_fenced_plan : OneFencedPlan
one_fenced_plan bytes s = one_over_list (λ fs o. PlansWith (barriers_of bytes) s fs o) (λ fs o p. one_with (barriers_of bytes) s fs o p) (unfenced_list bytes)

-- ---- least

pub fenced_plan_is_least : FencedPlanIsLeast
fenced_plan_is_least bytes s p (inl (fault, other, first, is)) = cc
fenced_plan_is_least bytes s p (inr (ds, list, sub)) =
    let C = PiecesConflict s (map fields ds) (barriers_of bytes) (map fields p.pieces) in
    let chosen = sub.of_pieces.chosen in
    let least = chosen_is_least C s.greatest_batch (tariff_of s) (length p.pieces) p.certificate.prices p.certificate.pairs p.plan chosen in
    let good = chosen_is_good C s.greatest_batch (tariff_of s) (length p.pieces) p.certificate.prices p.certificate.pairs chosen.has_costs chosen.has_pairs in
    record {
      operations = ds;
      listed = list;
      least = least.0;
      good = subst (λ (w : ℕ). IsGood C s.greatest_batch (tariff_of s) (length p.pieces) p.certificate.prices p.certificate.pairs w) (sym least.1 ∙ sym sub.of_pieces.cost_is) good;
    }

-- ---- what the call answers

-- the bytes without their fences were refused
pub refused_list : (bytes : List ℕ) (s : Limits) (cause : ListFault) (fault : PlanFault) → fault ≡ list_cause cause → IsFirstListFault (unfenced_list bytes) cause
    → OrMemory submission_of (PlansFenced bytes s) (Err fault)
refused_list bytes s cause fault is first = list_refused submission_of (λ fs o. PlansWith (barriers_of bytes) s fs o) (unfenced_list bytes) cause fault is first

-- splitting the operations was refused
pub split_refused_list : (bytes : List ℕ) (s : Limits) (ds : List Descriptor) (cause : SplitFault) (fault : PlanFault) → IsListOf (unfenced_list bytes) ds → fault ≡ split_cause cause
    → IsFirstSplitFault s.greatest_transfer s.staging (map fields ds) cause → (fault ≡ NoMemory) ⊎ PlansFenced bytes s (Err fault)
split_refused_list bytes s ds cause fault listed is first =
    elim (operations_refused s (map fields ds) cause fault is first) [
      | inl memory ↦ inl memory
      | inr refused ↦ inr (inr (ds, listed, refused))
    ]

-- the pieces and their barriers were planned
pub pieces_planned : (bytes : List ℕ) (s : Limits) (p : Submission) (barriers : List Bool) → AreFencedPieces bytes s p.pieces barriers
    → IsSubmissionOfPiecesBy (WithBarriers (ConflictAt (map fields p.pieces)) barriers) s p → PlansFenced bytes s (Ok p)
pieces_planned bytes s p barriers are sub =
    inr (
      are.operations,
      are.listed,
      record {
        split = are.split;
        pieces_are = are.pieces_are;
        of_pieces = subst (λ (marks : List Bool). IsSubmissionOfPiecesBy (WithBarriers (ConflictAt (map fields p.pieces)) marks) s p) are.barriers_are sub;
      },
    )

pub only_answer : (bytes : List ℕ) (s : Limits) (r : Result Planned PlanFault) → OrMemory submission_of (PlansFenced bytes s) r → (o : Result Submission PlanFault) → PlansFenced bytes s o
    → IsOrMemory submission_of o r
only_answer bytes s r told = only_outcome submission_of (PlansFenced bytes s) (one_fenced_plan bytes s) r told

pub least_answer : (bytes : List ℕ) (s : Limits) (r : Result Planned PlanFault) → OrMemory submission_of (PlansFenced bytes s) r → IfOk r (λ p. IsFencedLeast bytes s (submission_of p))
least_answer bytes s (Ok p) told = fenced_plan_is_least bytes s (submission_of p) told
least_answer bytes s (Err fault) told = tt
