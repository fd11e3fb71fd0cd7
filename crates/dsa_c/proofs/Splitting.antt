-- The pieces of a list for a tracker.
use Rattle.std.proofs.Common.{◌≡◌, ◌⊎◌, inl, inr, ℕ, ◌<◌, Bool, List, Result, Ok, Err, subst}
use Rattle.std.specs.Prelude.{MatchResult}
use Rattle.dsa_descriptor.specs.declared.descriptor.Descriptor.{Descriptor}
use Rattle.dsa_descriptor.specs.declared.span.Span.{Span}
use Rattle.dsa_ranges.specs.Pieces as kinds
use Rattle.dsa_settings.specs.Settings.{AreBatchPrices}
use Rattle.dsa_settings.specs.Outside.{IsFirstOutside}
use Rattle.dsa_settings.specs.declared.setting.Setting.TheVariants.{Batch}
use Rattle.dsa_calls.specs.Fenced.{AreFencedPieces}
use Rattle.dsa_tracker.specs.Calls as trackers
use Rattle.dsa_tracker.specs.declared.owner.Owner.{Owner}
use Rattle.dsa_tracker.specs.declared.slots.Slots.{Slots}
use Rattle.dsa_tracker.specs.declared.submitted.Submitted.{Submitted}
use Rattle.dsa_lists.specs.AnyLists.{IsOfDescriptors}
use Rattle.dsa_operations.specs.declared.operation.Operation.{Operation}
use Rattle.dsa_operations.specs.Operations as operations
use Rattle.dsa_lists.specs.Submissions.{AreReady}
use Rattle.dsa_c.specs.declared.refusal.RawRefusal.{RawRefusal}
use Rattle.dsa_c.specs.declared.settings.RawSettings.{RawSettings}
use Rattle.dsa_c.specs.Raw.{limits_of, prices_in, staged_at, AreSettings, HaveLimits}
use Rattle.dsa_c.specs.Tracking.{RefusesAsTracked, RefusesList, TakesList, TakesPieces}

-- ---- settings

-- numbers within their limits are settings if the prices of batches are, too
pub settings_from : (r : RawSettings) (table : List ℕ) → (r.version ≡ 1) ⊎ (r.version ≡ 2) → HaveLimits r → AreBatchPrices r.greatest_batch (prices_in r table) → AreSettings r table
settings_from r table known have prices = (
  known,
  record {
    least_batch = have.least_batch;
    most_batch = have.most_batch;
    least_transfer = have.least_transfer;
    most_transfer = have.most_transfer;
    transfer_by_eights = have.transfer_by_eights;
    most_lone = have.most_lone;
    batch_prices = prices;
    most_fence = have.most_fence;
    most_staging = have.most_staging;
    staging_by_lines = have.staging_by_lines;
  },
)

-- else the prices of batches are the first that are outside
pub outside_prices : (r : RawSettings) (table : List ℕ) → (r.version ≡ 1) ⊎ (r.version ≡ 2) → HaveLimits r → (AreSettings r table → ⊥)
    → IsFirstOutside Batch (limits_of r table)
outside_prices r table known have none = (
  (
    (have.least_batch, have.most_batch),
    (have.least_transfer, have.most_transfer, have.transfer_by_eights),
    have.most_lone,
    have.most_fence,
    (have.most_staging, have.staging_by_lines),
  ),
  λ prices. none (settings_from r table known have prices),
)

-- ---- the pieces of a list were handed to a tracker

module _ (s : RawSettings) (table words list : List ℕ) (staging : Span) (also : Slots) (new : List ℕ) (staged : RawSettings) (is : staged ≡ staged_at s staging.first) where
  -- what a call answers
  abbrev pub Answers : Result Submitted RawRefusal → Type 0
  Answers r =
      MatchResult r (λ taken. TakesList s table words list staging also taken new)
      (λ cause. (0 < cause.number) × RefusesList s table words list staging cause × (new ≡ words))

  abbrev pub Tracked : {P : Type 0} → (P → Owner) → (P → List Span) → (P → List Span) → List P → Result Submitted RawRefusal → Type 0
  Tracked owner reads writes pieces r =
      MatchResult r (λ taken. TakesPieces owner reads writes words pieces staging also taken new)
      (λ cause. (0 < cause.number) × RefusesAsTracked owner words pieces staging cause × (new ≡ words))

  -- those of a list of descriptors
  pub descriptors_taken : (pieces : List Descriptor) (barriers : List Bool) → AreSettings staged table → AreFencedPieces list (limits_of staged table) pieces barriers
      → (r : Result Submitted RawRefusal) → Tracked trackers.owner_of kinds.reads_of kinds.writes_of pieces r → Answers r
  descriptors_taken pieces barriers are found (Ok taken) told =
      let settings = subst (λ (x : RawSettings). AreSettings x table) is are in
      let split = subst (λ (x : RawSettings). AreFencedPieces list (limits_of x table) pieces barriers) is found in
      (settings, inl ((found.operations, found.listed), (pieces, barriers, split, told)))
  descriptors_taken pieces barriers are found (Err cause) told =
      let settings = subst (λ (x : RawSettings). AreSettings x table) is are in
      let split = subst (λ (x : RawSettings). AreFencedPieces list (limits_of x table) pieces barriers) is found in
      (told.0, inr (settings, inl ((found.operations, found.listed), (pieces, barriers, split, told.1))), told.2)

  -- those of any other list
  pub operations_taken : (pieces : List Operation) → AreSettings staged table → ¬ IsOfDescriptors list → AreReady list (limits_of staged table) pieces
      → (r : Result Submitted RawRefusal) → Tracked trackers.operation_owner operations.reads_of operations.writes_of pieces r → Answers r
  operations_taken pieces are none ready (Ok taken) told =
      let settings = subst (λ (x : RawSettings). AreSettings x table) is are in
      let found = subst (λ (x : RawSettings). AreReady list (limits_of x table) pieces) is ready in
      (settings, inr (none, (pieces, found, told)))
  operations_taken pieces are none ready (Err cause) told =
      let settings = subst (λ (x : RawSettings). AreSettings x table) is are in
      let found = subst (λ (x : RawSettings). AreReady list (limits_of x table) pieces) is ready in
      (told.0, inr (settings, inr (none, (pieces, found, told.1))), told.2)
