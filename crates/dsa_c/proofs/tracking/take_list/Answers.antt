use Rattle.std.proofs.Common.{inl, refl, sym, List, subst}
use Rattle.dsa_descriptor.specs.declared.descriptor.Descriptor.{Descriptor}
use Rattle.dsa_calls.specs.Fenced.{AreFencedPieces}
use Rattle.dsa_operations.specs.declared.operation.Operation.{Operation}
use Rattle.dsa_lists.specs.Submissions.{AreReady}
use Rattle.dsa_c.specs.declared.settings.RawSettings.{RawSettings}
use Rattle.dsa_c.specs.Planning.{RefusesToPlan}
use Rattle.dsa_c.specs.Raw.{limits_of}
use Rattle.dsa_c.proofs.Splitting.{descriptors_taken, operations_taken}
use Rattle.dsa_c.proofs.tracking.take_list.Goals as goal

pub returns-in-Err : goal.returns-in-Err
returns-in-Err c = (
  c.in-Err.ensures.0,
  inl (subst (λ (s : RawSettings). RefusesToPlan s c.args.table.now c.args.list.now c.in-Err.cause) c.staged_at-staged.ensures c.in-Err.ensures.1),
  refl,
)

pub returns-in-Ok-Descriptors : goal.returns-in-Ok-Descriptors
returns-in-Ok-Descriptors c =
    let staged = c.staged_at-staged.result in
    let under = rw c.in-Ok-Descriptors.field-0-is at c.in-Ok-Descriptors.ensures in
    let found = subst (λ (ds : List Descriptor). AreFencedPieces c.args.list.now (limits_of staged c.args.table.now) ds under.1.0) (sym c.deref.ensures.value) under.1.1 in
    descriptors_taken c.args.settings.now c.args.table.now c.args.words.now c.args.list.now c.args.staging c.args.also c.submit_pieces.new.words staged c.staged_at-staged.ensures
    c.deref.result.now under.1.0 under.0 found c.submit_pieces.result c.submit_pieces.ensures

pub returns-in-Ok-Operations : goal.returns-in-Ok-Operations
returns-in-Ok-Operations c =
    let staged = c.staged_at-staged.result in
    let under = rw c.in-Ok-Operations.field-0-is at c.in-Ok-Operations.ensures in
    let ready = subst (λ (es : List Operation). AreReady c.args.list.now (limits_of staged c.args.table.now) es) (sym c.deref-in-Ok-Operations.ensures.value) under.1.1 in
    operations_taken c.args.settings.now c.args.table.now c.args.words.now c.args.list.now c.args.staging c.args.also c.submit_pieces-in-Ok-Operations.new.words staged c.staged_at-staged.ensures
    c.deref-in-Ok-Operations.result.now under.0 under.1.0 ready c.submit_pieces-in-Ok-Operations.result c.submit_pieces-in-Ok-Operations.ensures
