-- The laws of emissions.
use Rattle.std.specs.Prelude.{ℕ, Bool, ◌≡◌, ◌+◌, ◌*◌, ◌<◌, ◌↔◌, List, Some, drop, length, map, replicate, slice_get, take}
use Rattle.dsa_descriptor.specs.declared.descriptor.Descriptor.{Descriptor}
use Rattle.dsa_descriptor.specs.Descriptors.{fields}
use Rattle.dsa_descriptor.specs.Lists.{entry}
use Rattle.dsa_descriptor.specs.Spelling.{spelling}
use Rattle.dsa_settings.specs.Plan.{Group, Plan, start_of}
use Rattle.dsa_settings.specs.Settings.{Limits}
use Rattle.dsa_descriptor.specs.Fences.{with_fence}
use Rattle.dsa_emission.specs.Emission.{batch_count, batched_count, place_of, portal_entry, portal_bytes, staging_bytes, CanBeEmitted}

-- two plans and lists of pieces with the same portal and the same staging area are equal
abbrev pub OneEmission : Type 0
OneEmission =
    (s : Limits) (plan plan' : Plan) (ds ds' : List Descriptor) →
    CanBeEmitted s plan (map fields ds) → CanBeEmitted s plan' (map fields ds') →
    portal_bytes s plan (map fields ds) ≡ portal_bytes s plan' (map fields ds') →
    staging_bytes plan (map fields ds) ≡ staging_bytes plan' (map fields ds') →
    (plan ≡ plan') × (ds ≡ ds')

-- what is at each place of the portal and the staging area of a plan and its pieces
pub record StandsAtPlaces (s : Limits) (plan : Plan) (ds : List Descriptor) (portal staging : List ℕ) : Type 0 where
  pub portal_length : length portal ≡ 64 * length plan
  pub staging_length : length staging ≡ 64 * batched_count plan + 32 * batch_count plan
  -- entry `number` of the portal is that of this group
  pub entries :
      (number : ℕ) (group : Group) → slice_get plan number ≡ Some group →
      entry portal number ≡ portal_entry s (batched_count plan) (place_of plan number) group (map fields ds)
  -- piece k of a batch is in the staging area, k entries after the pieces of the batches before it
  pub descriptors :
      (number : ℕ) (group : Group) (k : ℕ) (fence : Bool) (d : Descriptor) → slice_get plan number ≡ Some group → 1 < length group →
      slice_get group k ≡ Some fence → slice_get ds (start_of plan number + k) ≡ Some d →
      entry staging (batched_count (take number plan) + k) ≡ spelling (with_fence fence (fields d))
  pub records : drop (64 * batched_count plan) staging ≡ replicate (32 * batch_count plan) 0

-- bytes are the emission of a plan and its pieces exactly if each entry is that of its place
abbrev pub EmissionStandsAtPlaces : Type 0
EmissionStandsAtPlaces =
    (s : Limits) (plan : Plan) (ds : List Descriptor) (portal staging : List ℕ) → CanBeEmitted s plan (map fields ds) →
    ((portal ≡ portal_bytes s plan (map fields ds)) × (staging ≡ staging_bytes plan (map fields ds)) ↔ StandsAtPlaces s plan ds portal staging)
