use Rattle.std.proofs.Common.{◌≡◌, length, map, refl, sym, subst}
use Rattle.std.specs.List.{All}
use Rattle.std.proofs.lemmas.List.{map-id}
use Rattle.dsa_operations.specs.declared.operation.Operation.{Operation}
use Rattle.dsa_settings.specs.Legal.{IsLegal}
use Rattle.dsa_core.specs.Accounts.{most_members}
use Rattle.dsa_core.specs.Epochs.{PiecesConflictAt}
use Rattle.dsa_core.specs.Machine.{HoldsPiece}
use Rattle.dsa_core.specs.Operations.{operation_machine}
use Rattle.dsa_tests.proofs.given.can_run_operations.Goals as goal

pub returns : goal.returns
returns c = λ t.
    let pieces = c.args.pieces.now in
    let same : map (λ (o : Operation). o) pieces ≡ pieces = map-id pieces in
    record {
      few = c.if-not-is_ready.ensures.few refl;
      legal = subst (λ ps. IsLegal (PiecesConflictAt operation_machine ps) most_members (length pieces) c.args.plan.now) (sym same) (c.if-not-is_ready.ensures.legal refl);
      in_image = subst (λ ps. All (HoldsPiece operation_machine c.args.image.now) ps) (sym same) (c.holds_operations.ensures.0 t);
      some_engine = c.if-not-is_ready.ensures.some_engine refl;
      few_engines = c.if-not-is_ready.ensures.few_engines refl;
    }
