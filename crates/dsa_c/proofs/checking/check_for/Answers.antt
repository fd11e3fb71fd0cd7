use Rattle.std.proofs.Common.{Err, refl}
use Rattle.dsa_calls.specs.declared.fault.PlanFault.TheVariants.{Memory}
use Rattle.dsa_calls.specs.Checked.{ChecksSubmitted}
use Rattle.dsa_operations.specs.Operations.{OperationConflictAt, operation_kind}
use Rattle.dsa_c.specs.Certificates.{contents_of}
use Rattle.dsa_c.specs.Raw.{refusal_of}
use Rattle.dsa_c.proofs.Refusing.{refuses}
use Rattle.dsa_c.proofs.checking.check_for.Goals as goal

pub returns : goal.returns
returns c =
    let given = c.args.given.now in
    let told = c.in-Err.ensures.answer in (
      c.refusal-in-Err.ensures.some,
      refuses refusal_of (λ l fault. ChecksSubmitted operation_kind OperationConflictAt c.args.portal.now c.args.staging.now l (contents_of given.version given.prices.now given.pairs.now) (Err fault)) Memory
          c.args.settings.now c.args.table.now c.in-Some.checked c.in-Err.fault c.refusal-in-Err.result refl c.in-Some.ensures.0 c.in-Some.ensures.1 (rw c.in-Ok.ensures at told) c.refusal-in-Err.ensures.value,
    )
