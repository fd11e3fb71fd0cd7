-- What the bytes of an emission say, and why bytes are no emission.
use Rattle.std.specs.Prelude.{ℕ, ◌≡◌, ◌≢◌, ◌+◌, ◌*◌, ◌%◌, ◌<◌, ◌≤◌, Bool, true, false, List, [], ◌∷◌, Some, All, length, take, drop, map, count_by, sum_by, slice_get, slice_index, slice_index_or, ◌==◌, if◌then◌else◌}
use Rattle.dsa_descriptor.specs.declared.descriptor.Descriptor.{Descriptor}
use Rattle.dsa_descriptor.specs.Descriptors.{fields}
use Rattle.dsa_descriptor.specs.Faults.{AreZero, IsFirstBreach}
use Rattle.dsa_descriptor.specs.Fences.{is_fenced, unfenced}
use Rattle.dsa_descriptor.specs.Lists.{entries, AgreeOnOwner}
use Rattle.dsa_descriptor.specs.Places.{u32_at}
use Rattle.dsa_descriptor.specs.Spans.{InSpan}
use Rattle.dsa_descriptor.specs.Pieces.{most_pieces}
use Rattle.dsa_ranges.specs.Pieces.{Kind, TouchesAt, descriptors}
use Rattle.dsa_emission.specs.declared.place.Place.{Place}
use Rattle.dsa_emission.specs.declared.demands.Demands.{Demands}
use Rattle.dsa_emission.specs.declared.emission_fault.EntryFault.{EntryFault}
use Rattle.dsa_emission.specs.declared.emission_fault.EntryFault.TheVariants.{Field, OverTransfer, MixedPasid, StagingMeets}
use Rattle.dsa_emission.specs.declared.emission_fault.EmissionFault.{EmissionFault}
use Rattle.dsa_emission.specs.declared.emission_fault.EmissionFault.TheVariants.{PortalLength, StagingLength, BatchFields, EntryFence, Entry, RecordBytes, Memory}
use Rattle.dsa_settings.specs.Plan.{Group, Plan}
use Rattle.dsa_settings.specs.Settings.{Limits}
use Rattle.dsa_settings.specs.Staging.{staging_area}
use Rattle.dsa_emission.specs.Emission.{batch_spelling, portal_of, staging_of, portal_bytes, staging_bytes, CanBeEmitted, CanBeEmittedAs}

-- ---- what entries say

-- an entry of the portal is that of a batch if its operation code is 0x01 (linux/idxd.h)
abbrev pub is_batch_entry : List ℕ → Bool
is_batch_entry entry = slice_index entry 7 == 1

-- how many pieces the entry submits
abbrev pub entry_size : List ℕ → ℕ
entry_size entry = if is_batch_entry entry then u32_at 32 entry else 1

-- how many pieces the entry submits in a batch
abbrev pub entry_batched : List ℕ → ℕ
entry_batched entry = if is_batch_entry entry then u32_at 32 entry else 0

-- by the entries of the portal, what comes before the entry of that number
abbrev pub place_before : List (List ℕ) → ℕ → Place
place_before es number =
    record {
      start = sum_by entry_size (take number es);
      batches = count_by is_batch_entry (take number es);
      batched = sum_by entry_batched (take number es);
    }

-- what comes before the entry after this one
abbrev pub after_entry : Place → List ℕ → Place
after_entry place entry =
    record {
      start = place.start + entry_size entry;
      batches = place.batches + (if is_batch_entry entry then 1 else 0);
      batched = place.batched + entry_batched entry;
    }

-- what all entries have
abbrev pub place_at_end : List (List ℕ) → Place
place_at_end es = place_before es (length es)

-- piece k of the group with this entry: in the staging area after those of earlier batches, or the entry itself
abbrev pub bytes_at : List (List ℕ) → Place → List ℕ → ℕ → List ℕ
bytes_at staged place entry k = if is_batch_entry entry then slice_index_or staged (place.batched + k) [] else entry

-- piece k of the group of that number
abbrev pub piece_bytes : List (List ℕ) → List (List ℕ) → ℕ → ℕ → List ℕ
piece_bytes es staged number k = bytes_at staged (place_before es number) (slice_index_or es number []) k

-- bytes 0 to 3 have the PASID and the privilege
abbrev pub owner_at : List ℕ → List ℕ
owner_at bytes = slice_index bytes 0 ∷ slice_index bytes 1 ∷ slice_index bytes 2 ∷ slice_index bytes 3 ∷ []

-- what each piece has to meet: the owner of the first, the greatest size, and the staging area of all
abbrev pub demands_of : Limits → List (List ℕ) → List (List ℕ) → Demands
demands_of s es staged =
    record {
      owner = owner_at (piece_bytes es staged 0 0);
      area = staging_area s.staging (place_at_end es).start;
      greatest = s.greatest_transfer;
    }

-- ---- one piece of a kind

-- without the fence, the bytes are those of the piece
abbrev pub Spells : {P : Type 0} → Kind P → List ℕ → P → Type 0
Spells kind bytes p = unfenced bytes ≡ kind.spelling p

-- the PASID and the privilege are those of the owner
abbrev pub IsOwned : {P : Type 0} → Kind P → Demands → P → Type 0
IsOwned kind demands p = AgreeOnOwner demands.owner (kind.spelling p)

-- no piece is too long, of another owner, or touches the staging area
pub record IsFit {P : Type 0} (kind : Kind P) (demands : Demands) (p : P) : Type 0 where
  pub short : kind.size p ≤ demands.greatest
  pub owned : IsOwned kind demands p
  pub clear : (address : ℕ) → InSpan demands.area address → ¬ TouchesAt kind p address

-- the first fault of the bytes of a piece: of its fields, then its size, its owner, and the staging area
abbrev pub IsFirstEntryFault : {P : Type 0} → Kind P → Demands → List ℕ → EntryFault → Type 0
IsFirstEntryFault {P} kind demands bytes (Field fault) = IsFirstBreach kind.keeps (unfenced bytes) fault
IsFirstEntryFault {P} kind demands bytes OverTransfer = (p : P) × Spells kind bytes p × (demands.greatest < kind.size p)
IsFirstEntryFault {P} kind demands bytes MixedPasid =
    (p : P) × Spells kind bytes p × (kind.size p ≤ demands.greatest) × ¬ IsOwned kind demands p
IsFirstEntryFault {P} kind demands bytes StagingMeets =
    (p : P) × Spells kind bytes p × (kind.size p ≤ demands.greatest) × IsOwned kind demands p ×
    ((address : ℕ) × InSpan demands.area address × TouchesAt kind p address)

-- ---- one group, by the bytes of its pieces

-- piece k is spelt and fit, and it is not fenced if it is the first
pub record IsSoundPiece {P : Type 0} (kind : Kind P) (demands : Demands) (bytes : ℕ → List ℕ) (k : ℕ) : Type 0 where
  pub first_unfenced : k ≡ 0 → is_fenced (bytes k) ≡ false
  pub piece : P
  pub spelt : Spells kind (bytes k) piece
  pub fit : IsFit kind demands piece

-- piece k is the first that is not sound, with its fault; a fence on the first piece is another fault
pub record IsFirstPieceFault {P : Type 0} (kind : Kind P) (demands : Demands) (bytes : ℕ → List ℕ) (k : ℕ)
    (fault : EntryFault) : Type 0 where
  pub before : (j : ℕ) → j < k → IsSoundPiece kind demands bytes j
  pub first_unfenced : k ≡ 0 → is_fenced (bytes k) ≡ false
  pub stands : IsFirstEntryFault kind demands (bytes k) fault

-- the fault is the first in the group of that number, which begins with piece `start`
abbrev pub IsFirstGroupFault : {P : Type 0} → Kind P → Demands → (ℕ → List ℕ) → ℕ → ℕ → ℕ → EmissionFault → Type 0
IsFirstGroupFault kind demands bytes number start size (EntryFence g) =
    (g ≡ number) × (0 < size) × (is_fenced (bytes 0) ≡ true)
IsFirstGroupFault kind demands bytes number start size (Entry q fault) =
    (k : ℕ) × (q ≡ start + k) × (k < size) × IsFirstPieceFault kind demands bytes k fault
IsFirstGroupFault kind demands bytes number start size PortalLength = ⊥
IsFirstGroupFault kind demands bytes number start size StagingLength = ⊥
IsFirstGroupFault kind demands bytes number start size (BatchFields group) = ⊥
IsFirstGroupFault kind demands bytes number start size (RecordBytes batch) = ⊥
IsFirstGroupFault kind demands bytes number start size Memory = ⊥

-- ---- the whole

-- the staging area has 64 bytes for each piece in a batch and 32 for each batch, and there are at most 65,536 pieces
pub record HasStagingLength (es : List (List ℕ)) (staging : List ℕ) : Type 0 where
  pub long : length staging ≡ 64 * (place_at_end es).batched + 32 * (place_at_end es).batches
  pub few : (place_at_end es).start ≤ most_pieces

-- a batch entry with from 2 pieces to as many as a batch may have, and the bytes of its place
pub record IsBatchAt (s : Limits) (owner : List ℕ) (total : ℕ) (place : Place) (entry : List ℕ) : Type 0 where
  pub least : 2 ≤ u32_at 32 entry
  pub most : u32_at 32 entry ≤ s.greatest_batch
  pub bytes : entry ≡ batch_spelling owner (s.staging + 64 * total + 32 * place.batches) (s.staging + 64 * place.batched) (u32_at 32 entry)

-- the entry of that number is right, if it is that of a batch
abbrev pub IsRightAt : Limits → List (List ℕ) → List ℕ → ℕ → Type 0
IsRightAt s es owner number =
    is_batch_entry (slice_index_or es number []) ≡ true →
    IsBatchAt s owner (place_at_end es).batched (place_before es number) (slice_index_or es number [])

-- the lengths are right
pub record HasLengths (portal staging : List ℕ) : Type 0 where
  pub whole : length portal % 64 ≡ 0
  pub staged : HasStagingLength (entries portal) staging

-- the first wrong length: that of the portal, then that of the staging area
abbrev pub IsFirstLengthFault : List ℕ → List ℕ → EmissionFault → Type 0
IsFirstLengthFault portal staging PortalLength = length portal % 64 ≢ 0
IsFirstLengthFault portal staging StagingLength = (length portal % 64 ≡ 0) × ¬ HasStagingLength (entries portal) staging
IsFirstLengthFault portal staging (BatchFields group) = ⊥
IsFirstLengthFault portal staging (EntryFence group) = ⊥
IsFirstLengthFault portal staging (Entry index cause) = ⊥
IsFirstLengthFault portal staging (RecordBytes batch) = ⊥
IsFirstLengthFault portal staging Memory = ⊥

-- the bytes of PASID and privilege of the first piece
abbrev pub owner_of : List ℕ → List ℕ → List ℕ
owner_of portal staging = owner_at (piece_bytes (entries portal) (entries staging) 0 0)

-- the lengths and the entries of all batches are right
pub record HasBatches (s : Limits) (portal staging : List ℕ) : Type 0 where
  pub lengths : HasLengths portal staging
  pub right : (number : ℕ) → number < length (entries portal) → IsRightAt s (entries portal) (owner_of portal staging) number

-- each piece of that group is sound
abbrev pub IsSoundGroup : {P : Type 0} → Kind P → Demands → List (List ℕ) → List (List ℕ) → ℕ → Type 0
IsSoundGroup kind demands es staged number =
    (k : ℕ) → k < entry_size (slice_index_or es number []) → IsSoundPiece kind demands (piece_bytes es staged number) k

-- each piece of the groups before one is sound, and this is the first fault of that group
pub record IsFirstPortalFault {P : Type 0} (kind : Kind P) (demands : Demands) (es staged : List (List ℕ))
    (fault : EmissionFault) : Type 0 where
  pub number : ℕ
  pub inside : number < length es
  pub before : (g : ℕ) → g < number → IsSoundGroup kind demands es staged g
  pub stands :
      IsFirstGroupFault kind demands (piece_bytes es staged number) number (place_before es number).start
      (entry_size (slice_index_or es number [])) fault

-- the batches are right, and so is each piece
pub record HasPieces {P : Type 0} (kind : Kind P) (s : Limits) (portal staging : List ℕ) : Type 0 where
  pub batches : HasBatches s portal staging
  pub sound :
      (g : ℕ) → g < length (entries portal) →
      IsSoundGroup kind (demands_of s (entries portal) (entries staging)) (entries portal) (entries staging) g

-- the 32 record bytes of that batch, after the descriptors of the staging area, are zero
abbrev pub HasZeroRecord : List ℕ → ℕ → Type 0
HasZeroRecord records batch = AreZero (take 32 (drop (32 * batch) records))

-- the bytes after the descriptors of the staging area, those of the batches' records
abbrev pub records_of : List ℕ → List ℕ → List ℕ
records_of portal staging = drop (64 * (place_at_end (entries portal)).batched) staging

-- the first fault of the bytes as an emission of pieces of a kind, in this order: the length of the portal and that of
-- the staging area, the entries of batches, the pieces in order, the records of batches. Out of memory is reported once
-- the entries of batches are right (this project's choice)
abbrev pub IsFirstEmissionFaultAs : {P : Type 0} → Kind P → Limits → List ℕ → List ℕ → EmissionFault → Type 0
IsFirstEmissionFaultAs kind s portal staging PortalLength = IsFirstLengthFault portal staging PortalLength
IsFirstEmissionFaultAs kind s portal staging StagingLength = IsFirstLengthFault portal staging StagingLength
IsFirstEmissionFaultAs kind s portal staging (BatchFields number) =
    HasLengths portal staging × (number < length (entries portal)) ×
    ((g : ℕ) → g < number → IsRightAt s (entries portal) (owner_of portal staging) g) ×
    ¬ IsRightAt s (entries portal) (owner_of portal staging) number
IsFirstEmissionFaultAs kind s portal staging (EntryFence number) =
    HasBatches s portal staging ×
    IsFirstPortalFault kind (demands_of s (entries portal) (entries staging)) (entries portal) (entries staging)
    (EntryFence number)
IsFirstEmissionFaultAs kind s portal staging (Entry q fault) =
    HasBatches s portal staging ×
    IsFirstPortalFault kind (demands_of s (entries portal) (entries staging)) (entries portal) (entries staging)
    (Entry q fault)
IsFirstEmissionFaultAs kind s portal staging (RecordBytes batch) =
    HasPieces kind s portal staging × (batch < (place_at_end (entries portal)).batches) ×
    ((b : ℕ) → b < batch → HasZeroRecord (records_of portal staging) b) ×
    ¬ HasZeroRecord (records_of portal staging) batch
IsFirstEmissionFaultAs kind s portal staging Memory = HasBatches s portal staging

-- the first fault of the bytes as an emission of descriptors
abbrev pub IsFirstEmissionFault : Limits → List ℕ → List ℕ → EmissionFault → Type 0
IsFirstEmissionFault s portal staging fault = IsFirstEmissionFaultAs descriptors s portal staging fault

-- the bytes are the emission of a plan and its pieces of a kind, which can be emitted
pub record IsEmissionAs {P : Type 0} (kind : Kind P) (s : Limits) (portal staging : List ℕ) (plan : Plan)
    (ps : List P) : Type 0 where
  pub can_be : CanBeEmittedAs kind s plan ps
  pub portal_is : portal ≡ portal_of kind.spelling s plan ps
  pub staging_is : staging ≡ staging_of kind.spelling plan ps

-- the bytes are the emission of a plan and its descriptors, which can be emitted
pub record IsEmission (s : Limits) (portal staging : List ℕ) (plan : Plan) (ds : List Descriptor) : Type 0 where
  pub can_be : CanBeEmitted s plan (map fields ds)
  pub portal_is : portal ≡ portal_bytes s plan (map fields ds)
  pub staging_is : staging ≡ staging_bytes plan (map fields ds)

-- ---- what was read

-- a group and its pieces so far are what these bytes say: each fence, and each piece, which is fit
pub record IsGroupRead {P : Type 0} (kind : Kind P) (demands : Demands) (bytes : ℕ → List ℕ) (size : ℕ)
    (group : Group) (ps : List P) : Type 0 where
  pub fences : length group ≡ size
  pub pieces : length ps ≡ size
  pub first_unfenced : is_fenced (bytes 0) ≡ false
  pub each :
      (k : ℕ) (fence : Bool) (p : P) → slice_get group k ≡ Some fence → slice_get ps k ≡ Some p →
      (fence ≡ is_fenced (bytes k)) × Spells kind (bytes k) p
  pub fit : All (IsFit kind demands) ps

-- a plan and its pieces are what that many entries say
pub record IsRead {P : Type 0} (kind : Kind P) (demands : Demands) (es staged : List (List ℕ)) (count : ℕ)
    (plan : Plan) (ps : List P) : Type 0 where
  pub groups : length plan ≡ count
  pub pieces : length ps ≡ (place_before es count).start
  pub sizes :
      (number : ℕ) (group : Group) → slice_get plan number ≡ Some group →
      length group ≡ entry_size (slice_index_or es number [])
  pub each :
      (number : ℕ) (group : Group) (k : ℕ) (fence : Bool) (p : P) → slice_get plan number ≡ Some group →
      slice_get group k ≡ Some fence → slice_get ps ((place_before es number).start + k) ≡ Some p →
      (fence ≡ is_fenced (piece_bytes es staged number k)) × Spells kind (piece_bytes es staged number k) p
  pub firsts : (number : ℕ) → number < count → is_fenced (piece_bytes es staged number 0) ≡ false
  pub fit : All (IsFit kind demands) ps
  pub sound : (number : ℕ) → number < count → IsSoundGroup kind demands es staged number
