-- What doing the rest of a list leaves, of pieces of any kind.
use Rattle.std.specs.Prelude.{◌≡◌, ◌⊎◌, ℕ, ◌<◌, ◌≤◌, Bool, true, All, List, [], ◌∷◌, ◌++◌, Option, Some, None, map, drop, length, take, slice_get}
use Rattle.dsa_descriptor.specs.declared.descriptor.Descriptor.{Descriptor}
use Rattle.dsa_descriptor.specs.Descriptors.{fields}
use Rattle.dsa_descriptor.specs.Spans.{InSome}
use Rattle.dsa_image.specs.Memory.{Memory, SameAddresses, byte_at}
use Rattle.dsa_image.specs.Effects.{fold_done}
use Rattle.dsa_settings.specs.Barriers.{WithBarriers}
use Rattle.dsa_settings.specs.Plan.{Plan}
use Rattle.dsa_settings.specs.Legal.{IsLegal}
use Rattle.dsa_settings.specs.Epochs.{epoch_of}
use Rattle.dsa_settings.specs.Settings.{Limits}
use Rattle.dsa_resume.specs.declared.left.LeftOrder.{LeftOrder}
use Rattle.dsa_resume.specs.declared.left.LeftOrder.TheVariants.{AsListed, FailedFirst}
use Rattle.dsa_resume.specs.declared.rest.LeftOut.{LeftOut}
use Rattle.dsa_resume.specs.declared.status.Ended.{Ended}
use Rattle.dsa_resume.specs.Barriers.{HasEnded, IsReached, NonePassed}
use Rattle.dsa_resume.specs.Ended.{has_finished, is_left, has_failed, is_kept, is_open, is_waiting, has_begun}
use Rattle.dsa_resume.specs.Left.{those, left_of}
use Rattle.dsa_resume.specs.Rest.{IsLeftOver, Remainder}
use Rattle.dsa_resume.specs.Resumed.{CanBeListedAgain, CanBePlannedAgain}
use Rattle.dsa_resume.specs.Work.{HoldsWork, Work, descriptor_work, in_order}

-- no piece that has ended the second way conflicts with a later piece that has ended the first way: so the latter may be
-- done before the former; `C` says which pieces conflict
abbrev pub MayComeFirst : (Ended → Bool) → (Ended → Bool) → (ℕ → ℕ → Type 0) → List Ended → Type 0
MayComeFirst first second C ends = (i j : ℕ) → i < j → HasEnded second ends i → HasEnded first ends j → ¬ C i j

-- the finished pieces may come first, and in the order in which the failed ones come first, these may come before those that
-- wait
abbrev pub MayBeDone : LeftOrder → (ℕ → ℕ → Type 0) → List Ended → Type 0
MayBeDone AsListed C ends = MayComeFirst has_finished is_left C ends
MayBeDone FailedFirst C ends = MayComeFirst has_finished is_left C ends × MayComeFirst has_failed is_waiting C ends

-- it is known of each piece how it has ended, and the memory has each address that the pieces read or write
pub record AreRecorded {P : Type 0} (work : Work P) (pieces : List P) (ends : List Ended) (m : Memory) : Type 0 where
  pub count : length ends ≡ length pieces
  pub holds : All (HoldsWork work m) pieces

-- one of these pieces, done in order, overwrites the address, and neither it nor one before it reads it
abbrev pub IsRewritten : {P : Type 0} → Work P → List P → Memory → ℕ → Type 0
IsRewritten work [] m a = ⊥
IsRewritten work (p ∷ ps) m a = ¬ InSome (work.reads p) a × (work.overwrites p m a ⊎ IsRewritten work ps (work.done p m) a)

-- The device has left this memory: that of the finished pieces, but for bytes that failed pieces may have written, which
-- what is left rewrites before it reads them. A piece that is given up has changed its record at least, and nothing rewrites
-- that: so of the memory before the run this never holds then. But the laws are of any memory: take the one before the run
-- with the bytes that such pieces have changed as the device left them. Memory then ends as if they had stopped before all
-- others.
pub record HasLeft {P : Type 0} (work : Work P) (rest : List P) (finished left : Memory) : Type 0 where
  pub addresses : SameAddresses finished left
  pub bytes : (a : ℕ) → (byte_at finished a ≡ byte_at left a) ⊎ IsRewritten work rest finished a

-- then doing what is left leaves what all pieces but those that are given up leave in order, if what is left may be done
-- after what has finished
abbrev pub ResumesInOrder : {P : Type 0} → Work P → Type 0
ResumesInOrder {P} work =
    (order : LeftOrder) (ps : List P) (ends : List Ended) (m n : Memory) → AreRecorded work ps ends m → MayBeDone order (work.conflict ps) ends
    → HasLeft work (left_of order ps ends) (in_order work (those has_finished ps ends) m) n
    → in_order work (left_of order ps ends) n ≡ in_order work (those is_kept ps ends) m

-- if none is given up, these are all
abbrev pub NoneGivenUp : Type 0 → Type 0
NoneGivenUp P =
    (pieces : List P) (ends : List Ended) → length ends ≡ length pieces
    → ((i : ℕ) (e : Ended) → slice_get ends i ≡ Some e → is_kept e ≡ true)
    → those is_kept pieces ends ≡ pieces

-- what executing the pieces one by one does, if those that are left succeed: the pieces before the front but the ones that
-- are given up, and all that follow, unless they are left out
abbrev pub executed_pieces : {P : Type 0} → List P → List Ended → ℕ → Option LeftOut → List P
executed_pieces pieces ends front None = those is_kept (take front pieces) (take front ends) ++ drop front pieces
executed_pieces pieces ends front (Some out) = those is_kept (take front pieces) (take front ends)

-- doing what is left of a list with barriers leaves what that leaves
abbrev pub RestLeavesWhole : {P : Type 0} → Work P → Type 0
RestLeavesWhole {P} work =
    (order : LeftOrder) (ps : List P) (barriers : List Bool) (ends : List Ended) (rest : Remainder P) (m n : Memory)
    → (left : IsLeftOver order ps barriers ends rest) → AreRecorded work ps ends m → MayBeDone order (work.conflict ps) ends
    → HasLeft work rest.pieces (in_order work (those has_finished ps ends) m) n
    → in_order work rest.pieces n ≡ in_order work (executed_pieces ps ends left.front rest.left_out) m

-- descriptors in order leave what the definitions of whole descriptors say
abbrev pub DescriptorsInOrder : Type 0
DescriptorsInOrder = (ds : List Descriptor) (m : Memory) → in_order descriptor_work ds m ≡ fold_done (map fields ds) m

-- each piece that may be done is one of the list, has failed or waits, and executing the list one by one comes to it if
-- those that are left succeed
abbrev pub LeftIsReached : Type 0 → Type 0
LeftIsReached P =
    (order : LeftOrder) (ps : List P) (barriers : List Bool) (ends : List Ended) (rest : Remainder P) (t : ℕ) (p : P)
    → IsLeftOver order ps barriers ends rest → length ends ≡ length ps → slice_get rest.pieces t ≡ Some p
    → (j : ℕ) × (slice_get ps j ≡ Some p) × HasEnded is_left ends j × IsReached barriers ends j

-- What is left in the listed order is what is left with the failed pieces first, too, if none that waits conflicts with a
-- later one that failed.
abbrev pub FailedFirstHasLeft : {P : Type 0} → Work P → Type 0
FailedFirstHasLeft {P} work =
    (ps : List P) (ends : List Ended) (m n : Memory) → AreRecorded work ps ends m → MayComeFirst has_failed is_waiting (work.conflict ps) ends
    → HasLeft work (left_of AsListed ps ends) (in_order work (those has_finished ps ends) m) n
    → HasLeft work (left_of FailedFirst ps ends) (in_order work (those has_finished ps ends) m) n

-- If a piece has begun, all pieces of earlier epochs have succeeded (specification 341204, batch and fence; of groups, that
-- the next one is submitted after success): so it is in the epoch of each earlier piece that has ended otherwise.
abbrev pub StopsAtAnEpoch : (Ended → Bool) → Plan → List Ended → Type 0
StopsAtAnEpoch otherwise plan ends =
    (i j : ℕ) → i < j → HasEnded otherwise ends i → HasEnded has_begun ends j → epoch_of plan i ≡ epoch_of plan j

-- then under a legal plan the finished pieces may come first, and of those that are left the failed ones
abbrev pub LegalPlansResume : {P : Type 0} → (List P → ℕ → ℕ → Type 0) → Type 0
LegalPlansResume {P} conflict =
    (greatest_batch : ℕ) (ps : List P) (plan : Plan) (ends : List Ended) → IsLegal (conflict ps) greatest_batch (length ps) plan
    → StopsAtAnEpoch is_left plan ends
    → MayComeFirst has_finished is_left (conflict ps) ends × MayComeFirst has_failed is_waiting (conflict ps) ends

-- and under one that is legal with barriers no piece has begun though a barrier before it holds
abbrev pub BarriersHold : {P : Type 0} → (List P → ℕ → ℕ → Type 0) → Type 0
BarriersHold {P} conflict =
    (greatest_batch : ℕ) (ps : List P) (barriers : List Bool) (plan : Plan) (ends : List Ended)
    → IsLegal (WithBarriers (conflict ps) barriers) greatest_batch (length ps) plan → length ends ≡ length ps
    → StopsAtAnEpoch is_open plan ends
    → NonePassed barriers ends × MayBeDone FailedFirst (conflict ps) ends

-- what is left has no more pieces than the list
abbrev pub LeftIsShort : Type 0 → Type 0
LeftIsShort P =
    (order : LeftOrder) (ps : List P) (barriers : List Bool) (ends : List Ended) (rest : Remainder P)
    → IsLeftOver order ps barriers ends rest → length rest.pieces ≤ length ps

-- what can be planned again can be written as a list and planned
abbrev pub RestCanBeListed : Type 0
RestCanBeListed = (s : Limits) (rest : Remainder Descriptor) → CanBePlannedAgain s rest → CanBeListedAgain s rest
