-- When a prepared submission can be filled for new bases, and why it is refused.
use Rattle.std.specs.Prelude.{◌≡◌, ℕ, ◌+◌, ◌*◌, ◌%◌, ◌^◌, ◌<◌, ◌≤◌, List, ◌++◌, drop, length, map, slice_index, slice_index_or}
use Rattle.dsa_descriptor.specs.declared.descriptor.Descriptor.{Descriptor}
use Rattle.dsa_descriptor.specs.declared.span.Span.{Span}
use Rattle.dsa_descriptor.specs.Descriptors.{fields}
use Rattle.dsa_descriptor.specs.Spans.{span, Apart, IsAddressable}
use Rattle.dsa_settings.specs.Settings.{Limits}
use Rattle.dsa_settings.specs.declared.setting.Setting.TheVariants.{Staging as Area}
use Rattle.dsa_settings.specs.Outside.{Allows}
use Rattle.dsa_settings.specs.Staging.{staging_area}
use Rattle.dsa_calls.specs.Planned.{Submission}
use Rattle.dsa_operations.specs.declared.operation.Operation.{Operation}
use Rattle.dsa_lists.specs.Submissions.{OperationSubmission}
use Rattle.dsa_prepared.specs.Relocated.{relocated_fields}
use Rattle.dsa_prepared.specs.Listed.{PlansRelocatedAny, PlansWithFencesOf}
use Rattle.dsa_prepared.specs.Regions.{relocated}
use Rattle.dsa_prepared.specs.Submissions.{staged_at}
use Rattle.dsa_prepared.specs.declared.fault.FillFault.{FillFault}
use Rattle.dsa_prepared.specs.declared.fault.FillFault.TheVariants.{Bases, Room, RegionWrap, Misaligned, DualcastBits, RegionsMeet, StagingMeets, Staging}
use Rattle.dsa_prepared.specs.declared.tie.Tie.{Tie}
use Rattle.dsa_prepared.specs.Templates.{Template}
use Rattle.dsa_prepared.specs.Preparing.{region_at, relocation}

-- ---- first of several

-- this holds of each number below n
abbrev pub AllBelow : ℕ → (ℕ → Type 0) → Type 0
AllBelow n Is = (i : ℕ) → i < n → Is i

-- this is the first number below n of which it does not hold
abbrev pub IsFirstNot : ℕ → (ℕ → Type 0) → ℕ → Type 0
IsFirstNot n Is i = (i < n) × AllBelow i Is × ¬ Is i

-- ---- what new bases have to meet

-- the region at its new base
abbrev pub new_region : List Span → List ℕ → ℕ → Span
new_region rs bases i = span (slice_index bases i) (region_at rs i).len

-- there is a base for each region
abbrev pub HasBases : Template → List ℕ → Type 0
HasBases t bases = length bases ≡ length t.regions

-- the bytes fit in buffers of these lengths
abbrev pub HasRoom : Template → ℕ → ℕ → Type 0
HasRoom t portal staging = (64 * length t.portal ≤ portal) × (64 * length t.staging + 32 * t.batches ≤ staging)

-- the region does not go past 2^64
abbrev pub FitsAt : List Span → List ℕ → ℕ → Type 0
FitsAt rs bases i = IsAddressable (new_region rs bases i)

-- its new base is congruent to its old one modulo its unit
abbrev pub IsAlignedBase : List Span → List ℕ → List ℕ → ℕ → Type 0
IsAlignedBase rs units bases i = slice_index bases i % slice_index units i ≡ (region_at rs i).first % slice_index units i

-- the two addresses agree in their low 12 bits
abbrev pub IsTied : List ℕ → Tie → Type 0
IsTied bases tie =
    (slice_index bases tie.region + tie.offset) % 2 ^ 12 ≡ (slice_index bases tie.other + tie.other_offset) % 2 ^ 12

-- the tie of that number
abbrev pub tie_at : List Tie → ℕ → Tie
tie_at ties k = slice_index_or ties k (record { region = 0; offset = 0; other = 0; other_offset = 0 })

-- the tie of that number holds
abbrev pub IsTiedAt : List Tie → List ℕ → ℕ → Type 0
IsTiedAt ties bases k = IsTied bases (tie_at ties k)

-- two regions have no address in common
abbrev pub AreApartAt : List Span → List ℕ → ℕ → ℕ → Type 0
AreApartAt rs bases i j = Apart (new_region rs bases i) (new_region rs bases j)

-- no earlier region has an address in common with this one
abbrev pub IsApartFromEarlier : List Span → List ℕ → ℕ → Type 0
IsApartFromEarlier rs bases i = AllBelow i (AreApartAt rs bases i)

-- the region has no address in the staging area
abbrev pub IsClearAt : List Span → List ℕ → Span → ℕ → Type 0
IsClearAt rs bases area i = Apart area (new_region rs bases i)

-- the staging area may begin here, as by the settings
abbrev pub IsStaging : ℕ → Type 0
IsStaging staging = Allows Area staging

-- at its new base the region lies from the first of these addresses to before the second (only private clauses cite this)
abbrev pub LiesBetween : List Span → List ℕ → ℕ → ℕ → ℕ → Type 0
LiesBetween rs bases bottom top i =
    (bottom ≤ (new_region rs bases i).first) × ((new_region rs bases i).first + (new_region rs bases i).len ≤ top)

-- the first `count` of these are numbers of regions, each of which ends before the next one begins (the same)
pub record AreRising (rs : List Span) (bases : List ℕ) (order : List ℕ) (count : ℕ) : Type 0 where
  pub inside : (p : ℕ) → p < count → slice_index order p < length rs
  pub rise :
      (p q : ℕ) → p < q → q < count →
      (new_region rs bases (slice_index order p)).first + (new_region rs bases (slice_index order p)).len
      ≤ (new_region rs bases (slice_index order q)).first

-- ---- refusals, in their order

-- there is a base for each region, and the buffers have room
abbrev pub HasBuffers : Template → List ℕ → ℕ → ℕ → Type 0
HasBuffers t bases portal staging = HasBases t bases × HasRoom t portal staging

-- no region goes past 2^64
abbrev pub AllFit : Template → List ℕ → Type 0
AllFit t bases = AllBelow (length t.regions) (FitsAt t.regions bases)

-- each base keeps its region's unit
abbrev pub AllAligned : Template → List ℕ → Type 0
AllAligned t bases = AllBelow (length t.regions) (IsAlignedBase t.regions t.units bases)

-- each tie holds
abbrev pub AllTied : Template → List ℕ → Type 0
AllTied t bases = AllBelow (length t.ties) (IsTiedAt t.ties bases)

-- no two regions have an address in common
abbrev pub AllApart : Template → List ℕ → Type 0
AllApart t bases = AllBelow (length t.regions) (IsApartFromEarlier t.regions bases)

-- no region has an address in the staging area
abbrev pub AllClear : Template → List ℕ → ℕ → Type 0
AllClear t bases staging = AllBelow (length t.regions) (IsClearAt t.regions bases (staging_area staging t.pieces))

-- new bases and a staging address for which the submission can be filled
pub record CanFill (t : Template) (bases : List ℕ) (staging : ℕ) : Type 0 where
  pub fit : AllFit t bases
  pub aligned : AllAligned t bases
  pub tied : AllTied t bases
  pub apart : AllApart t bases
  pub clear : AllClear t bases staging
  pub address : IsStaging staging

-- The first cause why nothing is filled, in this order: not as many bases as regions; buffers that are too small; the
-- least region that goes past 2^64; the least that is misaligned; the first two addresses that have to agree in their low
-- 12 bits and do not, by their regions; the least region that meets an earlier one, and the least one that it meets; the
-- least that meets the staging area; an address at which no staging area may begin.
abbrev pub IsFirstFillFault : Template → List ℕ → ℕ → ℕ → ℕ → FillFault → Type 0
IsFirstFillFault t bases staging portal_len staging_len Bases = ¬ HasBases t bases
IsFirstFillFault t bases staging portal_len staging_len Room = HasBases t bases × ¬ HasRoom t portal_len staging_len
IsFirstFillFault t bases staging portal_len staging_len (RegionWrap i) =
    HasBuffers t bases portal_len staging_len × IsFirstNot (length t.regions) (FitsAt t.regions bases) i
IsFirstFillFault t bases staging portal_len staging_len (Misaligned i) =
    HasBuffers t bases portal_len staging_len × AllFit t bases × IsFirstNot (length t.regions) (IsAlignedBase t.regions t.units bases) i
IsFirstFillFault t bases staging portal_len staging_len (DualcastBits i j) =
    HasBuffers t bases portal_len staging_len × AllFit t bases × AllAligned t bases
    × ((k : ℕ) × IsFirstNot (length t.ties) (IsTiedAt t.ties bases) k × (i ≡ (tie_at t.ties k).region) × (j ≡ (tie_at t.ties k).other))
IsFirstFillFault t bases staging portal_len staging_len (RegionsMeet i j) =
    HasBuffers t bases portal_len staging_len × AllFit t bases × AllAligned t bases × AllTied t bases
    × IsFirstNot (length t.regions) (IsApartFromEarlier t.regions bases) i × IsFirstNot i (AreApartAt t.regions bases i) j
IsFirstFillFault t bases staging portal_len staging_len (StagingMeets i) =
    HasBuffers t bases portal_len staging_len × AllFit t bases × AllAligned t bases × AllTied t bases × AllApart t bases
    × IsFirstNot (length t.regions) (IsClearAt t.regions bases (staging_area staging t.pieces)) i
IsFirstFillFault t bases staging portal_len staging_len Staging =
    HasBuffers t bases portal_len staging_len × AllFit t bases × AllAligned t bases × AllTied t bases × AllApart t bases × AllClear t bases staging
    × ¬ IsStaging staging

-- ---- what is written

-- a buffer after bytes were written at its front
abbrev pub written : List ℕ → List ℕ → List ℕ
written bytes old = bytes ++ drop (length bytes) old

-- planning the operations of the list on the new buffers, with the fences of the list, answers this
abbrev pub IsPlannedAnew : List Span → List ℕ → ℕ → Limits → List ℕ → List Descriptor → Submission → Type 0
IsPlannedAnew rs bases staging s list ds p =
    PlansWithFencesOf list (staged_at staging s) (map (relocated_fields (relocated (relocation rs bases))) (map fields ds)) p

-- the same of a list that may have checksums
abbrev pub IsAnyPlannedAnew : List Span → List ℕ → ℕ → Limits → List ℕ → List Operation → OperationSubmission → Type 0
IsAnyPlannedAnew rs bases staging s list operations p =
    PlansRelocatedAny list (relocated (relocation rs bases)) operations (staged_at staging s) p

-- the buffers have at their front what planning the list on the new buffers answers, and their rest is unchanged
pub record IsPlannedInto (rs : List Span) (bases : List ℕ) (staging : ℕ) (s : Limits) (list : List ℕ) (ds : List Descriptor) (portal new_portal area new_area : List ℕ) : Type 0 where
  pub submission : Submission
  pub planned : IsPlannedAnew rs bases staging s list ds submission
  pub portal_is : new_portal ≡ written submission.portal portal
  pub staging_is : new_area ≡ written submission.staging area

-- the same of a list that may have checksums
pub record IsAnyPlannedInto (rs : List Span) (bases : List ℕ) (staging : ℕ) (s : Limits) (list : List ℕ) (operations : List Operation) (portal new_portal area new_area : List ℕ) : Type 0 where
  pub submission : OperationSubmission
  pub planned : IsAnyPlannedAnew rs bases staging s list operations submission
  pub portal_is : new_portal ≡ written submission.portal portal
  pub staging_is : new_area ≡ written submission.staging area
