-- The bytes that submit a plan: entries for the portal, and a staging area that the batch descriptors point to.
use Rattle.std.specs.Prelude.{ℕ, zero, suc, ◌≡◌, ◌+◌, ◌*◌, ◌≤◌, Bool, List, [], ◌++◌, All, length, take, drop, replicate, count_by, sum_by, nat_lt, slice_index_or, if◌then◌else◌}
use Rattle.std.specs.Int.{w32, w64, to_le_bytes}
use Rattle.std.specs.List.{flat_map, zip}
use Rattle.dsa_descriptor.specs.declared.span.Span.{Span}
use Rattle.dsa_descriptor.specs.Fences.{fenced}
use Rattle.dsa_descriptor.specs.Fields.{Fields}
use Rattle.dsa_descriptor.specs.Lists.{AreOfOneOwner, HaveOneOwner}
use Rattle.dsa_descriptor.specs.Spans.{InSpan}
use Rattle.dsa_descriptor.specs.Spelling.{spelling}
use Rattle.dsa_descriptor.specs.Pieces.{most_pieces}
use Rattle.dsa_ranges.specs.Pieces.{Kind, TouchesAt}
use Rattle.dsa_ranges.specs.Ranges.{Touches}
use Rattle.dsa_emission.specs.declared.place.Place.{Place}
use Rattle.dsa_settings.specs.Plan.{Group, Plan, piece_count, start_of}
use Rattle.dsa_settings.specs.Shapes.{HasGroupShapes}
use Rattle.dsa_settings.specs.Settings.{Limits}
use Rattle.dsa_settings.specs.Staging.{staging_area}

-- a group of more than one piece is submitted as a batch
abbrev pub is_batch : Group → Bool
is_batch group = nat_lt 1 (length group)

-- how many of its pieces are in a batch
abbrev pub batched : Group → ℕ
batched group = if is_batch group then length group else 0

-- the number of a plan's batches
abbrev pub batch_count : Plan → ℕ
batch_count plan = count_by is_batch plan

-- how many pieces of a plan are in its batches
abbrev pub batched_count : Plan → ℕ
batched_count plan = sum_by batched plan

-- what comes before the group of that number: pieces, batches, and pieces in batches
abbrev pub place_of : Plan → ℕ → Place
place_of plan number =
    record {
      start = start_of plan number;
      batches = batch_count (take number plan);
      batched = batched_count (take number plan);
    }

-- what comes before the group after that one
abbrev pub place_after : Place → Group → Place
place_after place group =
    record {
      start = place.start + length group;
      batches = place.batches + (if is_batch group then 1 else 0);
      batched = place.batched + batched group;
    }

-- the 64 bytes of a batch descriptor: the PASID and privilege, the flags 0x00000c and the operation code 0x01, the
-- address of its completion record, that of its descriptors, and how many they are (specification 341204, batch
-- descriptor; places and codes of linux/idxd.h)
unfoldable pub batch_spelling : List ℕ → ℕ → ℕ → ℕ → List ℕ
batch_spelling owner record_at list_at count =
    owner ++ to_le_bytes w32 0x0100000c ++ to_le_bytes w64 record_at ++ to_le_bytes w64 list_at ++ replicate 8 0 ++ to_le_bytes w32 count ++ replicate 28 0

-- ---- pieces of any kind, by the bytes that spell each

-- the entry of a group: its piece, or a batch descriptor whose pieces and record are in the staging area, where the
-- records come after all `total` pieces in batches
abbrev pub group_entry : {P : Type 0} → (P → List ℕ) → Limits → ℕ → Place → Group → List P → List ℕ
group_entry spell s total place group pieces =
    if is_batch group
    then batch_spelling (take 4 (flat_map spell pieces)) (s.staging + 64 * total + 32 * place.batches) (s.staging + 64 * place.batched) (length group)
    else flat_map spell (take (length group) (drop place.start pieces))

-- the bytes of the pieces of a batch, each fenced if the group says so
abbrev pub fenced_pieces : {P : Type 0} → (P → List ℕ) → Group → List P → List ℕ
fenced_pieces spell group pieces = flat_map (λ p. fenced p.0 (spell p.1)) (zip group pieces)

-- what a group has in the staging area
abbrev pub group_staged : {P : Type 0} → (P → List ℕ) → Place → Group → List P → List ℕ
group_staged spell place group pieces = if is_batch group then fenced_pieces spell group (drop place.start pieces) else []

-- the parts of the numbers below n, one after another
abbrev pub joined : (ℕ → List ℕ) → ℕ → List ℕ
joined part zero = []
joined part (suc n) = joined part n ++ part n

-- one entry for each group (specification 341204, batch descriptor; linux/idxd.h)
abbrev pub portal_of : {P : Type 0} → (P → List ℕ) → Limits → Plan → List P → List ℕ
portal_of spell s plan pieces =
    joined (λ number. group_entry spell s (batched_count plan) (place_of plan number) (slice_index_or plan number []) pieces) (length plan)

-- the pieces of each batch, and then 32 zero bytes for the completion record of each (this project's choice)
abbrev pub staging_of : {P : Type 0} → (P → List ℕ) → Plan → List P → List ℕ
staging_of spell plan pieces =
    joined (λ number. group_staged spell (place_of plan number) (slice_index_or plan number []) pieces) (length plan)
    ++ replicate (32 * batch_count plan) 0

-- ---- pieces that are descriptors

-- the entry of a group of descriptors
abbrev pub portal_entry : Limits → ℕ → Place → Group → List Fields → List ℕ
portal_entry s total place group pieces = group_entry spelling s total place group pieces

-- the descriptors of a batch, each fenced if the group says so
abbrev pub fenced_spelling : Group → List Fields → List ℕ
fenced_spelling group pieces = fenced_pieces spelling group pieces

-- what a group of descriptors has in the staging area
abbrev pub staged : Place → Group → List Fields → List ℕ
staged place group pieces = group_staged spelling place group pieces

-- one entry for each group of descriptors
abbrev pub portal_bytes : Limits → Plan → List Fields → List ℕ
portal_bytes s plan pieces = portal_of spelling s plan pieces

-- the descriptors of each batch, and room for its completion record
abbrev pub staging_bytes : Plan → List Fields → List ℕ
staging_bytes plan pieces = staging_of spelling plan pieces

-- the staging area of these pieces
abbrev pub staging_span : Limits → List Fields → Span
staging_span s pieces = staging_area s.staging (length pieces)

-- what a plan and its pieces need to be emitted: shapes of groups, one owner, no piece longer than it may be, and none
-- that reads or writes the staging area
pub record CanBeEmitted (s : Limits) (plan : Plan) (pieces : List Fields) : Type 0 where
  pub covers : piece_count plan ≡ length pieces
  pub few : length pieces ≤ most_pieces
  pub shapes : HasGroupShapes s.greatest_batch plan
  pub one_owner : HaveOneOwner pieces
  pub short : All (λ d. d.size ≤ s.greatest_transfer) pieces
  pub clear : All (λ d. (address : ℕ) → InSpan (staging_span s pieces) address → ¬ Touches d address) pieces

-- what a plan and its pieces of a kind need to be emitted: the same, by the bytes that spell each, by its size, and by
-- what it reads and writes
pub record CanBeEmittedAs {P : Type 0} (kind : Kind P) (s : Limits) (plan : Plan) (pieces : List P) : Type 0 where
  pub covers : piece_count plan ≡ length pieces
  pub few : length pieces ≤ most_pieces
  pub shapes : HasGroupShapes s.greatest_batch plan
  pub one_owner : AreOfOneOwner kind.spelling pieces
  pub short : All (λ p. kind.size p ≤ s.greatest_transfer) pieces
  pub clear :
      All
      (λ p. (address : ℕ) → InSpan (staging_area s.staging (length pieces)) address → ¬ TouchesAt kind p address)
      pieces
