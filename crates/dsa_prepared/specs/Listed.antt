-- When a relocated descriptor is one that a list may hold.
use Rattle.std.specs.Prelude.{ℕ, ◌≡◌, ◌%◌, ◌<◌, ⊤, List, map, Ok}
use Rattle.std.specs.List.{AllByRecursion, flat_map}
use Rattle.dsa_descriptor.specs.declared.descriptor.Descriptor.{Descriptor}
use Rattle.dsa_descriptor.specs.declared.op.Op.{Op}
use Rattle.dsa_descriptor.specs.declared.op.Op.TheVariants.{Move, Fill, Compare, ComparePattern, ApplyDelta, Dualcast}
use Rattle.dsa_descriptor.specs.Descriptors.{fields}
use Rattle.dsa_descriptor.specs.Fences.{barriers_of, fences_of, unfenced_list}
use Rattle.dsa_descriptor.specs.Fields.{Fields}
use Rattle.dsa_descriptor.specs.Lists.{list_spelling}
use Rattle.dsa_descriptor.specs.Profile.{HasEqualLowBits, IsListed}
use Rattle.dsa_descriptor.specs.Spans.{IsAddressable}
use Rattle.dsa_settings.specs.Settings.{Limits}
use Rattle.dsa_calls.specs.Lists.{IsListOf}
use Rattle.dsa_calls.specs.Fenced.{HasNoBarriers, IsSubmissionWith, PlansFenced}
use Rattle.dsa_calls.specs.Planned.{Submission, Plans}
use Rattle.dsa_operations.specs.declared.operation.Operation.{Operation}
use Rattle.dsa_operations.specs.declared.operation.Operation.TheVariants as operation
use Rattle.dsa_lists.specs.AnyLists.{PlansAnyList}
use Rattle.dsa_lists.specs.Submissions.{OperationSubmission}
use Rattle.dsa_prepared.specs.Relocated.{relocated_op, relocated_fields, relocated_spelling}
use Rattle.dsa_prepared.specs.Regions.{Region, base_span, new_span, relocated, AreDisjoint, LieInOne}
use Rattle.dsa_prepared.specs.Submissions.{staged_at, with_pieces, MayRelocate}

-- a delta's destination goes to a multiple of 8
abbrev pub HasAlignedDelta : (ℕ → ℕ) → Op → Type 0
HasAlignedDelta to (Move src dst) = ⊤
HasAlignedDelta to (Fill pattern dst) = ⊤
HasAlignedDelta to (Compare src src2 expected) = ⊤
HasAlignedDelta to (ComparePattern src pattern expected) = ⊤
HasAlignedDelta to (ApplyDelta delta dst record_size) = to dst % 8 ≡ 0
HasAlignedDelta to (Dualcast src dst dst2) = ⊤

-- at its relocated addresses, a descriptor's record, a delta's destination and a dualcast's two destinations are aligned as
-- the profile asks
pub record IsAlignedAt (to : ℕ → ℕ) (f : Fields) : Type 0 where
  pub record_aligned : to f.record_at % 32 ≡ 0
  pub delta_aligned : HasAlignedDelta to f.op
  pub low_bits : HasEqualLowBits (relocated_op to f.op)

-- the same of an operation; a checksum's record alone has to be aligned
abbrev pub IsAlignedThere : (ℕ → ℕ) → Operation → Type 0
IsAlignedThere to (operation.Descriptor d) = IsAlignedAt to (fields d)
IsAlignedThere to (operation.Checksum c) = to c.record_at % 32 ≡ 0

-- a listed descriptor whose spans each lie in one region is listed after relocation, if it is aligned there
abbrev pub ListedRelocates : Type 0
ListedRelocates =
    (rs : List Region) (f : Fields) → AreDisjoint rs → AllByRecursion (λ r. IsAddressable (new_span r)) rs →
    IsListed f → LieInOne (map base_span rs) f → IsAlignedAt (relocated rs) f → IsListed (relocated_fields (relocated rs) f)

-- these bytes spell these operations with the fences of this list
pub record SpellWithFencesOf (list : List ℕ) (fs : List Fields) (bytes : List ℕ) : Type 0 where
  pub operations : unfenced_list bytes ≡ list_spelling fs
  pub fences : fences_of bytes ≡ fences_of list

-- planning these operations with the fences of this list answers this submission; if none of the fences is a barrier, so
-- does planning the operations as a list without fences
pub record PlansWithFencesOf (list : List ℕ) (s : Limits) (fs : List Fields) (p : Submission) : Type 0 where
  pub fenced : (bytes : List ℕ) → SpellWithFencesOf list fs bytes → PlansFenced bytes s (Ok p)
  pub plain : HasNoBarriers list → Plans (list_spelling fs) s (Ok p)

-- these bytes spell the operations at their relocated addresses, with the fences of this list
pub record SpellRelocated (list : List ℕ) (to : ℕ → ℕ) (operations : List Operation) (bytes : List ℕ) : Type 0 where
  pub spelt : unfenced_list bytes ≡ flat_map (relocated_spelling to) operations
  pub fences : fences_of bytes ≡ fences_of list

-- planning such bytes answers this submission
abbrev pub PlansRelocatedAny : List ℕ → (ℕ → ℕ) → List Operation → Limits → OperationSubmission → Type 0
PlansRelocatedAny list to operations s p = (bytes : List ℕ) → SpellRelocated list to operations bytes → PlansAnyList bytes s (Ok p)

-- planning the relocated list answers the relocated submission
abbrev pub PlansRelocate : Type 0
PlansRelocate =
    (rs : List Region) (staging : ℕ) (s : Limits) (list : List ℕ) (ds ds' pieces : List Descriptor) (p : Submission) →
    0 < s.greatest_transfer → MayRelocate rs staging s (map fields ds) →
    IsListOf (unfenced_list list) ds → IsSubmissionWith (barriers_of list) s (map fields ds) p →
    map fields ds' ≡ map (relocated_fields (relocated rs)) (map fields ds) →
    map fields pieces ≡ map (relocated_fields (relocated rs)) (map fields p.pieces) →
    PlansWithFencesOf list (staged_at staging s) (map fields ds') (with_pieces (staged_at staging s) pieces p)
