-- The groups of a plan as submissions, each of its own. (That each entry of a portal may be tracked by itself is this
-- project's choice.)
use Rattle.std.specs.Prelude.{◌≡◌, ◌≢◌, ℕ, zero, suc, ◌+◌, ◌*◌, ◌<◌, ◌≤◌, Bool, true, false, List, [], ◌∷◌, ◌++◌, Option, Some, None, count_by, drop, flat_map, length, map, slice_get, slice_index, slice_index_or, take, if◌then◌else◌}
use Rattle.dsa_descriptor.specs.declared.descriptor.Descriptor.{Descriptor}
use Rattle.dsa_descriptor.specs.declared.span.Span.{Span}
use Rattle.dsa_descriptor.specs.Descriptors.{fields}
use Rattle.dsa_descriptor.specs.Places.{u32_at, u64_at}
use Rattle.dsa_descriptor.specs.Spans.{IsAddressable, span}
use Rattle.dsa_emission.specs.declared.place.Place.{Place}
use Rattle.dsa_emission.specs.Emission.{CanBeEmitted, batch_count, batched_count, is_batch, place_of, portal_entry, staging_span}
use Rattle.dsa_emission.specs.EmissionFaults.{is_batch_entry}
use Rattle.dsa_settings.specs.Plan.{Group, Plan, piece_count}
use Rattle.dsa_settings.specs.Settings.{Limits}
use Rattle.dsa_tracker.specs.declared.fault.TrackFault.{TrackFault}
use Rattle.dsa_tracker.specs.declared.fault.TrackFault.TheVariants.{NoSlot, TooManySpans, NotOutstanding, Held, Wrap, OtherOwner, OtherPlan, FewSlots}
use Rattle.dsa_tracker.specs.declared.owner.Owner.{Owner}
use Rattle.dsa_tracker.specs.declared.slots.Slots.{Slots}
use Rattle.dsa_tracker.specs.Calls.{HaveOwner, IsFirstOther, Submits}
use Rattle.dsa_tracker.specs.Table.{Outstanding, Table}

-- ---- what a group reads and writes

-- the group of this number
abbrev pub group_at : Plan → ℕ → Group
group_at plan number = slice_index_or plan number []

-- its pieces
abbrev pub pieces_of : {P : Type 0} → Plan → List P → ℕ → List P
pieces_of plan pieces number = take (length (group_at plan number)) (drop (place_of plan number).start pieces)

-- its part of a staging area at this address: of a batch its descriptors and its completion record; of a lone descriptor
-- nothing (specification 341204, batch descriptor; the places are those of portal_entry, if `total` pieces are in batches)
abbrev pub group_staging : ℕ → ℕ → Place → Group → List Span
group_staging staging total place group =
    if is_batch group
    then span (staging + 64 * place.batched) (64 * length group) ∷ span (staging + 64 * total + 32 * place.batches) 32 ∷ []
    else []

-- what the group of this number reads
abbrev pub group_reads : {P : Type 0} → (P → List Span) → Plan → List P → ℕ → List Span
group_reads reads plan pieces number = flat_map reads (pieces_of plan pieces number)

-- and what it writes: its part of the staging area counts as written, since the host fills it
abbrev pub group_writes : {P : Type 0} → (P → List Span) → ℕ → Plan → List P → ℕ → List Span
group_writes writes staging plan pieces number =
    group_staging staging (batched_count plan) (place_of plan number) (group_at plan number) ++ flat_map writes (pieces_of plan pieces number)

-- the staging bytes that an entry of a portal names: the descriptors of a batch, 64 bytes for each, at the address in bytes
-- 16 to 23 and as many as bytes 32 to 35 say, and the 32 bytes of its completion record, at the address in bytes 8 to 15;
-- another entry names none (specification 341204, batch descriptor; places of linux/idxd.h)
abbrev pub named_spans : List ℕ → List Span
named_spans entry =
    if is_batch_entry entry
    then span (u64_at 16 entry) (64 * u32_at 32 entry) ∷ span (u64_at 8 entry) 32 ∷ []
    else []

-- the part of a group is just what its entry names
abbrev pub GroupsStageWhatEntriesName : Type 0
GroupsStageWhatEntriesName =
    (s : Limits) (plan : Plan) (list : List Descriptor) (number : ℕ) → CanBeEmitted s plan (map fields list) → number < length plan →
    IsAddressable (staging_span s (map fields list)) →
    named_spans (portal_entry s (batched_count plan) (place_of plan number) (group_at plan number) (map fields list))
    ≡ group_staging s.staging (batched_count plan) (place_of plan number) (group_at plan number)

-- ---- the submissions

-- one submission after another, as many as `count`: that of each number reads and writes what the functions say, and gets
-- the slot at its number
abbrev pub SubmitsInTurn : Table → (ℕ → List Span) → (ℕ → List Span) → Slots → Option Owner → List ℕ → ℕ → Table → Type 0
SubmitsInTurn old reads writes also owner slots zero new = new ≡ old
SubmitsInTurn old reads writes also owner slots (suc count) new =
    (mid : Table) × (waits : Slots) × SubmitsInTurn old reads writes also owner slots count mid
    × Submits mid (reads count) (writes count) also owner (record { slot = slice_index slots count; waits = waits }) new

-- ---- when they are refused

-- the slot is free
abbrev pub is_free : Option Outstanding → Bool
is_free None = true
is_free (Some o) = false

-- how many slots are free
abbrev pub free_count : List (Option Outstanding) → ℕ
free_count slots = count_by is_free slots

-- how many spans a group of so many pieces may read or write: three for each piece, and two of the staging area
abbrev pub most_group_spans : ℕ → ℕ
most_group_spans pieces = 3 * pieces + 2

-- each group has no more than may be kept
abbrev pub HaveFewSpans : ℕ → Plan → Type 0
HaveFewSpans room plan = (number : ℕ) (group : Group) → slice_get plan number ≡ Some group → most_group_spans (length group) ≤ room

-- the first group that has more may have this many
abbrev pub IsFirstLarge : ℕ → Plan → ℕ → Type 0
IsFirstLarge room plan count =
    (number : ℕ) × (group : Group) × (slice_get plan number ≡ Some group) × (count ≡ most_group_spans (length group)) × (room < count)
    × ((k : ℕ) (g : Group) → k < number → slice_get plan k ≡ Some g → most_group_spans (length g) ≤ room)

-- the staging bytes of a plan at this address
abbrev pub staged_area : ℕ → Plan → Span
staged_area staging plan = span staging (64 * batched_count plan + 32 * batch_count plan)

-- the groups of a plan can be taken, if so many slots are free
pub record CanTakeGroups {P : Type 0} (named : P → Owner) (room free : ℕ) (owner : Option Owner) (pieces : List P) (plan : Plan) (staging : ℕ) : Type 0 where
  pub covers : piece_count plan ≡ length pieces
  pub slots : length plan ≤ free
  pub spans : HaveFewSpans room plan
  pub addressable : IsAddressable (staged_area staging plan)
  pub owners : HaveOwner named owner pieces

-- the first reason why they cannot
abbrev pub IsGroupsFault : {P : Type 0} → (P → Owner) → ℕ → ℕ → Option Owner → List P → Plan → ℕ → TrackFault → Type 0
IsGroupsFault named room free owner pieces plan staging NoSlot = ⊥
IsGroupsFault named room free owner pieces plan staging (TooManySpans count) =
    (piece_count plan ≡ length pieces) × (length plan ≤ free) × IsFirstLarge room plan count
IsGroupsFault named room free owner pieces plan staging (NotOutstanding slot) = ⊥
IsGroupsFault named room free owner pieces plan staging (Held slot) = ⊥
IsGroupsFault named room free owner pieces plan staging (Wrap span) =
    (piece_count plan ≡ length pieces) × (length plan ≤ free) × HaveFewSpans room plan × (span ≡ 0) × (¬ IsAddressable (staged_area staging plan))
IsGroupsFault named room free owner pieces plan staging (OtherOwner piece) =
    (piece_count plan ≡ length pieces) × (length plan ≤ free) × HaveFewSpans room plan × IsAddressable (staged_area staging plan)
    × IsFirstOther named owner pieces piece
IsGroupsFault named room free owner pieces plan staging OtherPlan = piece_count plan ≢ length pieces
IsGroupsFault named room free owner pieces plan staging (FewSlots count) =
    (piece_count plan ≡ length pieces) × (count ≡ length plan) × (free < count)
