use Rattle.std.proofs.Common.{List, ℕ, refl, sym, subst, ◌∙◌}
use Rattle.std.proofs.lemmas.Result.{IfOk-weaker}
use Rattle.dsa_emission.proofs.Spelt.{refenced_by}
use Rattle.dsa_operations.specs.declared.operation.Operation.{Operation}
use Rattle.dsa_operations.specs.Faults.{IsFirstOperationFault}
use Rattle.dsa_operations.specs.Operations.{operation_kind}
use Rattle.dsa_operations.proofs.Answered.{are_operations}
use Rattle.dsa_lines.specs.Stagings.StagedEntry.{Piece, Other}
use Rattle.dsa_lines.proofs.staging.entry_text.Goals as goal

pub returns-in-Ok : goal.returns-in-Ok
returns-in-Ok c =
    IfOk-weaker c.piece_text.result _ _ (λ line is. (
      Piece (record { fence = c.is_fenced.result; piece = c.in-Ok.operation }),
      refenced_by Operation operation_kind are_operations c.args.entry.now c.is_fenced.result c.in-Ok.operation c.is_fenced.ensures (sym c.unfenced.ensures ∙ c.in-Ok.ensures.found),
      is,
    )) c.piece_text.ensures

pub returns-in-Err : goal.returns-in-Err
returns-in-Err c =
    IfOk-weaker c.other_text.result _ _ (λ line is. (
      Other c.args.entry.now c.in-Err.fault,
      (
        refl,
        record {
          fault_is = subst (λ (b : List ℕ). IsFirstOperationFault b c.in-Err.fault) c.unfenced.ensures ((c.in-Err.ensures.fault c.in-Err.fault).0 refl);
          whole = c.told-entry;
          are_bytes = c.fits-entry;
        },
      ),
      is,
    )) c.other_text.ensures
