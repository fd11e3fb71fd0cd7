use Rattle.std.proofs.Common.{map}
use Rattle.dsa_descriptor.specs.Descriptors.{fields}
use Rattle.dsa_calls.specs.Runs.{RunsPieces}
use Rattle.dsa_calls.proofs.Histories.{never_shut}
use Rattle.dsa_calls.proofs.running.run_bytes.Goals as goal

pub returns-clause-answer : goal.returns-clause-answer
returns-clause-answer g c =
    never_shut (λ p o. RunsPieces c.args.image.now c.args.engines p.plan (map fields p.pieces) o) c.args.list.now c.args.settings.now c.args.image.now
    c.args.engines c.run_gated.result c.run_gated.ensures.answer
