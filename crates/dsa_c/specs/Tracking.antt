-- What the calls of a tracker in an array of words promise.
use Rattle.std.specs.Prelude.{◌≡◌, ◌≢◌, ◌⊎◌, ℕ, ◌≤◌, ◌==◌, Bool, List, flat_map, length, min, nat_lt, slice_get, slice_index_or, if◌then◌else◌}
use Rattle.dsa_descriptor.specs.declared.descriptor.Descriptor.{Descriptor}
use Rattle.dsa_descriptor.specs.declared.span.Span.{Span}
use Rattle.dsa_descriptor.specs.Causes.{index_list}
use Rattle.dsa_flight.specs.Spans.{staged_writes}
use Rattle.dsa_ranges.specs.Pieces as kinds
use Rattle.dsa_emission.specs.EmissionFaults.{IsEmissionAs, IsFirstEmissionFaultAs}
use Rattle.dsa_settings.specs.Plan.{Plan}
use Rattle.dsa_emission.specs.declared.emission_fault.EmissionFault.{EmissionFault}
use Rattle.dsa_emission.specs.declared.emission_fault.EmissionFault.TheVariants.{Memory as EmissionMemory}
use Rattle.dsa_calls.specs.declared.fault.PlanFault.TheVariants.{Emission as InEmission, Memory}
use Rattle.dsa_calls.specs.Fenced.{AreFencedPieces}
use Rattle.dsa_tracker.specs.declared.fault.WordsFault.{WordsFault}
use Rattle.dsa_tracker.specs.declared.fault.WordsFault.TheVariants.{NotATracker}
use Rattle.dsa_tracker.specs.declared.slots.Slots.{Slots}
use Rattle.dsa_tracker.specs.declared.submitted.Retired.{Retired}
use Rattle.dsa_tracker.specs.declared.submitted.Submitted.{Submitted}
use Rattle.dsa_tracker.specs.Calls.{CanKeep, CanKeepList, IsCompleteFault, IsListFault, IsRefused, IsSpanFault, IsWithdrawFault, Retires, Submits, owner_with}
use Rattle.dsa_tracker.specs.Calls as trackers
use Rattle.dsa_tracker.specs.declared.owner.Owner.{Owner}
use Rattle.dsa_operations.specs.declared.operation.Operation.{Operation}
use Rattle.dsa_lists.specs.AnyLists.{ArePiecesOfList, OfAnyList}
use Rattle.dsa_operations.specs.Operations as operations
use Rattle.dsa_lists.specs.Submissions.{AreReady}
use Rattle.dsa_lists.specs.declared.pieces.AnyPieces.{AnyPieces}
use Rattle.dsa_tracker.specs.Causes.{words_indices, words_number}
use Rattle.dsa_tracker.specs.Groups.{CanTakeGroups, IsGroupsFault, SubmitsInTurn, free_count, group_reads, group_writes}
use Rattle.dsa_tracker.specs.Table.{ConflictsWith, IsExactly, IsHeld, IsReady, WaitsFor}
use Rattle.dsa_tracker.specs.Words.{AreMeasures, IsShapedIn, IsTracker, RefusesIn, owner_in, room_in, shown_in, table_in, words_needed}
use Rattle.dsa_c.specs.declared.refusal.RawRefusal.{RawRefusal}
use Rattle.dsa_c.specs.declared.settings.RawSettings.{RawSettings}
use Rattle.dsa_c.specs.Planning.{RefusesToPlan}
use Rattle.dsa_c.specs.Preparing.{refusal_at}
use Rattle.dsa_c.specs.Raw.{AreSettings, RefusesSettings, limits_of, refusal_of, staged_at}

-- the slots that the bits of a word say
abbrev pub slots_of : ℕ → Slots
slots_of word = record { 0 = word }

-- what the words of a slot and of its waits say
abbrev pub submitted_of : ℕ → ℕ → Submitted
submitted_of slot waits = record { slot = slot; waits = slots_of waits }

-- what the words of two sets say
abbrev pub retired_of : ℕ → ℕ → Retired
retired_of waited ready = record { waited = slots_of waited; ready = slots_of ready }

-- the refusal of a cause why a call over words changes nothing
abbrev pub track_refusal_of : WordsFault → RawRefusal
track_refusal_of fault =
    refusal_at (words_number fault) (slice_index_or (index_list (words_indices fault)) 0 0) (slice_index_or (index_list (words_indices fault)) 1 0)

-- a tracker of these sizes fits into so many words
abbrev pub CanBegin : ℕ → ℕ → ℕ → ℕ → ℕ → Type 0
CanBegin slots spans log2_rows log2_unit len = AreMeasures slots spans log2_rows log2_unit × (words_needed slots spans log2_rows ≤ len)

-- Which measure of a new tracker is outside its limits, by its place in the call: the slots, log2_rows or log2_unit, of
-- several the first; 5 if none is, for then the words are too few (this project's choice).
abbrev pub measure_at_fault : ℕ → ℕ → ℕ → ℕ
measure_at_fault slots log2_rows log2_unit =
    if nat_lt 64 slots then 1 else
    if log2_rows == 0 then 3 else
    if nat_lt 32 log2_rows then 3 else
    if log2_unit == 0 then 4 else
    if nat_lt 63 log2_unit then 4 else
    5

-- the refusal of words that can't begin a tracker of these measures
abbrev pub begin_refusal : ℕ → ℕ → ℕ → RawRefusal
begin_refusal slots log2_rows log2_unit = refusal_at (words_number NotATracker) (measure_at_fault slots log2_rows log2_unit) 0

-- ---- what each call leaves: words of the form of a tracker, which are its next state

-- a submission that reads and writes these spans is taken
abbrev pub TakesSpans : List ℕ → List Span → List Span → Slots → Submitted → List ℕ → Type 0
TakesSpans words reads writes also submitted new =
    IsShapedIn words × IsShapedIn new × CanKeep (room_in words) reads writes
    × (IsTracker words → IsTracker new × Submits (table_in words) reads writes also (owner_in words) submitted (table_in new))

-- under these settings, these are the pieces of the operations that the bytes spell, without their fences
abbrev pub ArePiecesUnder : RawSettings → List ℕ → List ℕ → AnyPieces → Type 0
ArePiecesUnder s table list pieces = AreSettings s table × ArePiecesOfList list (limits_of s table) pieces

-- a submission of pieces of a kind is taken; the functions say whose each piece is, and what it reads and writes
abbrev pub TakesPieces : {P : Type 0} → (P → Owner) → (P → List Span) → (P → List Span) → List ℕ → List P → Span → Slots → Submitted → List ℕ → Type 0
TakesPieces owner reads writes words pieces staging also submitted new =
    IsShapedIn words × IsShapedIn new × CanKeepList owner (room_in words) (owner_with owner (owner_in words) pieces) pieces staging
    × (IsTracker words →
    IsTracker new
    × Submits (table_in words) (flat_map reads pieces) (staged_writes writes staging pieces) also (owner_with owner (owner_in words) pieces)
    submitted (table_in new))

-- A submission of the pieces of the operations that these bytes spell, without their fences, is taken. They are split as
-- planning splits them under the settings with the address of the staging area that is given here.
abbrev pub TakesList : RawSettings → List ℕ → List ℕ → List ℕ → Span → Slots → Submitted → List ℕ → Type 0
TakesList s table words list staging also submitted new =
    AreSettings (staged_at s staging.first) table × OfAnyList list
    ((pieces : List Descriptor) × (barriers : List Bool) × AreFencedPieces list (limits_of (staged_at s staging.first) table) pieces barriers
    × TakesPieces trackers.owner_of kinds.reads_of kinds.writes_of words pieces staging also submitted new)
    ((pieces : List Operation) × AreReady list (limits_of (staged_at s staging.first) table) pieces
    × TakesPieces trackers.operation_owner operations.reads_of operations.writes_of words pieces staging also submitted new)

-- the groups of a plan of these pieces are taken one after another, and each gets the slot at its number; the other places
-- of the array stay
abbrev pub TakesPlan : List ℕ → List Operation → Plan → ℕ → Slots → List ℕ → List ℕ → List ℕ → Type 0
TakesPlan words pieces plan staging also places slots new =
    IsShapedIn words × IsShapedIn new
    × CanTakeGroups trackers.operation_owner (room_in words) (min (free_count (shown_in words)) (length places)) (owner_with trackers.operation_owner (owner_in words) pieces) pieces plan
    staging
    × (IsTracker words →
    IsTracker new
    × SubmitsInTurn (table_in words) (group_reads operations.reads_of plan pieces) (group_writes operations.writes_of staging plan pieces) also
    (owner_with trackers.operation_owner (owner_in words) pieces) slots (length plan) (table_in new))
    × ((k : ℕ) → length plan ≤ k → slice_get slots k ≡ slice_get places k)

-- the groups of the plan that these bytes submit are taken
abbrev pub TakesGroups : RawSettings → List ℕ → List ℕ → List ℕ → List ℕ → Slots → List ℕ → List ℕ → List ℕ → Type 0
TakesGroups s table words portal staging also places slots new =
    (plan : Plan) × (list : List Operation) × AreSettings s table × IsEmissionAs operations.operation_kind (limits_of s table) portal staging plan list
    × TakesPlan words list plan s.staging also places slots new

-- the submission of a slot is taken off; it was ready
abbrev pub Completes : List ℕ → ℕ → Retired → List ℕ → Type 0
Completes words slot retired new =
    IsShapedIn words × IsShapedIn new × IsReady (table_in words).slots slot × (IsTracker words → IsTracker new × Retires (table_in words) slot retired (table_in new))

-- or a submission that was not rung is taken off
abbrev pub Withdraws : List ℕ → ℕ → Retired → List ℕ → Type 0
Withdraws words slot retired new =
    IsShapedIn words × IsShapedIn new × IsHeld (table_in words).slots slot × (IsTracker words → IsTracker new × Retires (table_in words) slot retired (table_in new))

-- ---- what calls answer that change nothing

-- these are the outstanding submissions that conflict with accesses to these spans, if the words are a tracker
abbrev pub Asks : List ℕ → List Span → List Span → Slots → Type 0
Asks words reads writes set = IsShapedIn words × (IsTracker words → IsExactly set (ConflictsWith (table_in words).slots reads writes))

-- the slot has an outstanding submission, and it waits for these
abbrev pub Awaits : List ℕ → ℕ → Slots → Type 0
Awaits words slot set = IsShapedIn words × IsHeld (table_in words).slots slot × IsExactly set (λ s. WaitsFor (table_in words).slots s slot)

-- ---- why a call refuses

-- the tracker refuses the spans
abbrev pub RefusesSpans : List ℕ → List Span → List Span → RawRefusal → Type 0
RefusesSpans words reads writes r =
    (fault : WordsFault) × RefusesIn words fault (λ f. IsRefused (table_in words) f (IsSpanFault (room_in words) reads writes f)) × (r ≡ track_refusal_of fault)

-- the tracker refuses these pieces
abbrev pub RefusesAsTracked : {P : Type 0} → (P → Owner) → List ℕ → List P → Span → RawRefusal → Type 0
RefusesAsTracked owner words pieces staging r =
    (fault : WordsFault) × (r ≡ track_refusal_of fault)
    × RefusesIn words fault (λ f. IsRefused (table_in words) f (IsListFault owner (room_in words) (owner_with owner (owner_in words) pieces) pieces staging f))

-- planning refuses the list, so it has no pieces, or the tracker refuses them
abbrev pub RefusesList : RawSettings → List ℕ → List ℕ → List ℕ → Span → RawRefusal → Type 0
RefusesList s table words list staging r =
    RefusesToPlan (staged_at s staging.first) table list r
    ⊎ (AreSettings (staged_at s staging.first) table × OfAnyList list
    ((pieces : List Descriptor) × (barriers : List Bool) × AreFencedPieces list (limits_of (staged_at s staging.first) table) pieces barriers
    × RefusesAsTracked trackers.owner_of words pieces staging r)
    ((pieces : List Operation) × AreReady list (limits_of (staged_at s staging.first) table) pieces
    × RefusesAsTracked trackers.operation_owner words pieces staging r))

-- the tracker refuses the groups of a plan of these pieces
abbrev pub RefusesPlan : List ℕ → List Operation → Plan → ℕ → ℕ → WordsFault → Type 0
RefusesPlan words pieces plan staging places fault =
    RefusesIn words fault
    (IsGroupsFault trackers.operation_owner (room_in words) (min (free_count (shown_in words)) places) (owner_with trackers.operation_owner (owner_in words) pieces) pieces plan staging)

-- the numbers are no settings, an allocation failed, the bytes are no emission, with their first fault, or the tracker
-- refuses the groups that they submit
abbrev pub RefusesGroups : RawSettings → List ℕ → List ℕ → List ℕ → List ℕ → ℕ → RawRefusal → Type 0
RefusesGroups s table words portal staging places r =
    RefusesSettings s table r
    ⊎ ((r ≡ refusal_of Memory) × AreSettings s table)
    ⊎ ((fault : EmissionFault) × (fault ≢ EmissionMemory) × AreSettings s table × IsFirstEmissionFaultAs operations.operation_kind (limits_of s table) portal staging fault
    × (r ≡ refusal_of (InEmission fault)))
    ⊎ ((plan : Plan) × (list : List Operation) × (fault : WordsFault) × AreSettings s table
    × IsEmissionAs operations.operation_kind (limits_of s table) portal staging plan list × RefusesPlan words list plan s.staging places fault × (r ≡ track_refusal_of fault))

-- the words do not have the form of a tracker
abbrev pub RefusesAsk : List ℕ → RawRefusal → Type 0
RefusesAsk words r = (r ≡ track_refusal_of NotATracker) × (¬ IsShapedIn words)

-- the tracker refuses to complete the slot's submission
abbrev pub RefusesComplete : List ℕ → ℕ → RawRefusal → Type 0
RefusesComplete words slot r = (fault : WordsFault) × RefusesIn words fault (IsCompleteFault (table_in words) slot) × (r ≡ track_refusal_of fault)

-- or the slot has none
abbrev pub RefusesSlot : List ℕ → ℕ → RawRefusal → Type 0
RefusesSlot words slot r = (fault : WordsFault) × RefusesIn words fault (IsWithdrawFault (table_in words) slot) × (r ≡ track_refusal_of fault)
