-- What is known of descriptors, of the same as operations.
use Rattle.std.proofs.Common.{◌≡◌, ℕ, List, [], ◌∷◌, ◌++◌, map, refl, sym, ap, ◌∙◌}
use Rattle.std.specs.Prelude.{All}
use Rattle.std.specs.List.{AllByRecursion, flat_map}
use Rattle.std.proofs.lemmas.List.Elements.{All-map}
use Rattle.dsa_descriptor.specs.declared.descriptor.Descriptor.{Descriptor}
use Rattle.dsa_descriptor.specs.declared.span.Span.{Span}
use Rattle.dsa_descriptor.specs.Descriptors.{fields}
use Rattle.dsa_descriptor.specs.Fields.{Fields}
use Rattle.dsa_descriptor.specs.Spelling.{spelling}
use Rattle.dsa_emission.specs.Emission.{portal_of, staging_of, portal_bytes, staging_bytes}
use Rattle.dsa_emission.proofs.Places.{portal_map, staging_map}
use Rattle.dsa_operations.specs.declared.operation.Operation.TheVariants as operation
use Rattle.dsa_settings.specs.Plan.{Plan}
use Rattle.dsa_settings.specs.Settings.{Limits}
use Rattle.dsa_splitter.specs.Operations.{IsSplittable}
use Rattle.dsa_prepared.specs.Relocated.{relocated_fields, relocated_spelling}
use Rattle.dsa_prepared.specs.Regions.{AllLieInOne, AllPiecesLie, IsOneOrSplittable, LiesWhole, OperationLies}
use Rattle.dsa_prepared.specs.Listed.{IsAlignedAt, IsAlignedThere}

-- ---- where they lie

pub pieces_of : (rs : List Span) (ds : List Descriptor) → AllLieInOne rs (map fields ds) → AllPiecesLie rs (map operation.Descriptor ds)
pieces_of rs [] lie = tt
pieces_of rs (d ∷ ds) lie = (lie.0, pieces_of rs ds lie.1)

pub whole_of : (rs : List Span) (g : ℕ) (ds : List Descriptor) → AllByRecursion (OperationLies rs g) (map operation.Descriptor ds) → AllByRecursion (LiesWhole rs g) (map fields ds)
whole_of rs g [] lie = tt
whole_of rs g (d ∷ ds) lie = (lie.0, whole_of rs g ds lie.1)

pub aligned_of : (to : ℕ → ℕ) (ds : List Descriptor) → AllByRecursion (IsAlignedThere to) (map operation.Descriptor ds) → AllByRecursion (IsAlignedAt to) (map fields ds)
aligned_of to [] all = tt
aligned_of to (d ∷ ds) all = (all.0, aligned_of to ds all.1)

-- ---- whether they can be split

pub splittable_of : (g : ℕ) (ds : List Descriptor) → All (λ d. IsSplittable d.op d.size g) ds → All (IsOneOrSplittable g) (map operation.Descriptor ds)
splittable_of g ds all = All-map (IsOneOrSplittable g) operation.Descriptor ds all

-- ---- their bytes

abbrev spelt_there : (ℕ → ℕ) → Descriptor → List ℕ
spelt_there to d = spelling (relocated_fields to (fields d))

moved_fields : (to : ℕ → ℕ) (ds : List Descriptor) → map (λ d. relocated_fields to (fields d)) ds ≡ map (relocated_fields to) (map fields ds)
moved_fields to [] = refl
moved_fields to (d ∷ ds) = ap (λ (fs : List Fields). relocated_fields to (fields d) ∷ fs) (moved_fields to ds)

pub portal_alike : (to : ℕ → ℕ) (s : Limits) (plan : Plan) (ds : List Descriptor) →
    portal_of (relocated_spelling to) s plan (map operation.Descriptor ds) ≡ portal_bytes s plan (map (relocated_fields to) (map fields ds))
portal_alike to s plan ds =
    sym (portal_map _ _ (relocated_spelling to) operation.Descriptor s plan ds) ∙ portal_map _ _ spelling (λ (d : Descriptor). relocated_fields to (fields d)) s plan ds
    ∙ ap (λ (fs : List Fields). portal_of spelling s plan fs) (moved_fields to ds)

pub staging_alike : (to : ℕ → ℕ) (plan : Plan) (ds : List Descriptor) →
    staging_of (relocated_spelling to) plan (map operation.Descriptor ds) ≡ staging_bytes plan (map (relocated_fields to) (map fields ds))
staging_alike to plan ds =
    sym (staging_map _ _ (relocated_spelling to) operation.Descriptor plan ds) ∙ staging_map _ _ spelling (λ (d : Descriptor). relocated_fields to (fields d)) plan ds
    ∙ ap (λ (fs : List Fields). staging_of spelling plan fs) (moved_fields to ds)

pub spelt_alike_there : (to : ℕ → ℕ) (ds : List Descriptor) → flat_map (relocated_spelling to) (map operation.Descriptor ds) ≡ flat_map spelling (map (relocated_fields to) (map fields ds))
spelt_alike_there to [] = refl
spelt_alike_there to (d ∷ ds) = ap (λ (bytes : List ℕ). spelt_there to d ++ bytes) (spelt_alike_there to ds)
