-- What planning into buffers promises.
use Rattle.std.specs.Prelude.{◌≡◌, ◌⊎◌, ℕ, ◌+◌, ◌<◌, ◌≤◌, Bool, List, length, map, Ok, Err}
use Rattle.dsa_c.specs.Marks.{marks_of}
use Rattle.dsa_lists.specs.AnyLists.{ChecksAnyList, IsAnyPlan, IsLeastOfAnyList, PlansAnyList}
use Rattle.dsa_lists.specs.Submissions.{OperationSubmission}
use Rattle.dsa_operations.specs.declared.operation.Operation.{Operation}
use Rattle.dsa_settings.specs.Plan.{Plan}
use Rattle.dsa_c.specs.declared.settings.RawSettings.{RawSettings}
use Rattle.dsa_c.specs.declared.refusal.RawRefusal.{RawRefusal}
use Rattle.dsa_c.specs.declared.planning.RawPlanned.{RawPlanned}
use Rattle.dsa_c.specs.declared.certificate.RawPair.{RawPair}
use Rattle.dsa_c.specs.Raw.{limits_of, AreSettings, RefusesUnder, written, refusal_of, no_room, no_room_for_certificate}
use Rattle.dsa_c.specs.Certificates.{raw_pair_of}
use Rattle.dsa_c.specs.Preparing.{refusal_at}

-- why a list is not planned
abbrev pub RefusesToPlan : RawSettings → List ℕ → List ℕ → RawRefusal → Type 0
RefusesToPlan s table list r = RefusesUnder refusal_of (λ l fault. PlansAnyList list l (Err fault)) s table r

-- this is what planning the bytes answers, whose fences are barriers: the plan is legal with them, no such plan costs less,
-- the certificate is good for its cost, and checking the bytes that submit it for the list, with the certificate, answers
-- the cost
pub record IsPlannedList (s : RawSettings) (table list : List ℕ) (p : OperationSubmission) : Type 0 where
  pub settings : AreSettings s table
  pub planned : PlansAnyList list (limits_of s table) (Ok p)
  pub least : IsLeastOfAnyList list (limits_of s table) p
  pub checks : ChecksAnyList list p.portal p.staging (limits_of s table) p.certificate (Ok p.cost)

-- the cost, the number of pieces, and how many bytes are written
abbrev pub summary_of : OperationSubmission → RawPlanned
summary_of p = record { cost = p.cost; pieces = p.pieces; portal_len = length p.portal; staging_len = length p.staging }

-- what is written fits in buffers of these lengths
abbrev pub FitsIn : OperationSubmission → ℕ → ℕ → Type 0
FitsIn p portal staging = (length p.portal ≤ portal) × (length p.staging ≤ staging)

-- the emission of the planned list is at the front of the two buffers, whose rest is unchanged, and this is its summary
pub record IsWritten (s : RawSettings) (table list portal new_portal staging new_staging : List ℕ) (summary : RawPlanned) : Type 0 where
  pub submission : OperationSubmission
  pub planned : IsPlannedList s table list submission
  pub fits : FitsIn submission (length portal) (length staging)
  pub portal_is : new_portal ≡ written submission.portal portal
  pub staging_is : new_staging ≡ written submission.staging staging
  pub summary_is : summary ≡ summary_of submission

-- why nothing is written: the list is not planned; or the bytes of what it answers don't fit, and this is what they need
abbrev pub Refuses : RawSettings → List ℕ → List ℕ → ℕ → ℕ → RawRefusal → Type 0
Refuses s table list portal staging r =
    RefusesToPlan s table list r
    ⊎ ((p : OperationSubmission) × IsPlannedList s table list p × (¬ FitsIn p portal staging) × (r ≡ no_room (length p.portal) (length p.staging)))

-- the certificate and the marks of the pieces fit in arrays of these lengths: n + 1 prices, n pairs and n marks of n pieces
abbrev pub CertificateFitsIn : OperationSubmission → ℕ → ℕ → ℕ → Type 0
CertificateFitsIn p prices pairs marks = (p.pieces + 1 ≤ prices) × (p.pieces ≤ pairs) × (p.pieces ≤ marks)

-- the same as IsWritten, with the certificate and the marks of the groups and fences at the front of their arrays
pub record IsCertifiedWritten (s : RawSettings) (table list portal new_portal staging new_staging prices new_prices : List ℕ) (pairs new_pairs : List RawPair) (marks new_marks : List ℕ) (summary : RawPlanned) : Type 0 where
  pub submission : OperationSubmission
  pub planned : IsPlannedList s table list submission
  pub fits : FitsIn submission (length portal) (length staging)
  pub certificate_fits : CertificateFitsIn submission (length prices) (length pairs) (length marks)
  pub portal_is : new_portal ≡ written submission.portal portal
  pub staging_is : new_staging ≡ written submission.staging staging
  pub prices_is : new_prices ≡ written submission.certificate.prices prices
  pub pairs_is : new_pairs ≡ written (map raw_pair_of submission.certificate.pairs) pairs
  pub marks_is : new_marks ≡ written (marks_of submission.plan) marks
  pub summary_is : summary ≡ summary_of submission

-- why nothing is written: as for planning without them; or the bytes fit, but not the certificate or the marks, and this is
-- how many pieces there are
abbrev pub RefusesCertified : RawSettings → List ℕ → List ℕ → ℕ → ℕ → ℕ → ℕ → ℕ → RawRefusal → Type 0
RefusesCertified s table list portal staging prices pairs marks r =
    Refuses s table list portal staging r
    ⊎ ((p : OperationSubmission) × IsPlannedList s table list p × FitsIn p portal staging × (¬ CertificateFitsIn p prices pairs marks)
    × (r ≡ no_room_for_certificate p.pieces))

-- ---- what is said of a plan, item by item, into an array

-- what is said of pieces, their barriers and their plan, item by item
abbrev pub About : Type 0 → Type 1
About X = List Operation → List Bool → Plan → List X → Type 0

-- the items are those of the plan that planning the list answers, with its pieces, all as operations, and their barriers
pub record AreOfPlan {X : Type 0} (Are : About X) (s : RawSettings) (table list : List ℕ) (items : List X) : Type 0 where
  pub pieces : List Operation
  pub barriers : List Bool
  pub plan : Plan
  pub of_list : IsAnyPlan list (limits_of s table) pieces barriers plan
  pub planned : IsPlannedList s table list of_list.submission
  pub are : Are pieces barriers plan items

-- they are at the front of the array, whose rest is unchanged, and there are so many
pub record AreOfPlanInto {X : Type 0} (Are : About X) (s : RawSettings) (table list : List ℕ) (array new_array : List X) (count : ℕ) : Type 0 where
  pub items : List X
  pub of_plan : AreOfPlan Are s table list items
  pub fits : length items ≤ length array
  pub array_is : new_array ≡ written items array
  pub count_is : count ≡ length items

-- why nothing is written: the list is not planned; or the items do not fit, and the refusal of this number says how many
-- there are
abbrev pub RefusesOfPlan : {X : Type 0} → About X → ℕ → RawSettings → List ℕ → List ℕ → ℕ → RawRefusal → Type 0
RefusesOfPlan {X} Are number s table list room r =
    RefusesToPlan s table list r
    ⊎ ((items : List X) × AreOfPlan Are s table list items × (room < length items) × (r ≡ refusal_at number (length items) 0))
