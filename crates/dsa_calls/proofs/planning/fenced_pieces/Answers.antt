use Rattle.std.proofs.Common.{Bool, List, map, ap, ◌∙◌}
use Rattle.std.proofs.lemmas.Result.{err_from_is_err_and}
use Rattle.dsa_descriptor.specs.Descriptors.{fields}
use Rattle.dsa_descriptor.specs.Fences.{unfenced_list}
use Rattle.dsa_splitter.specs.Pieces.{piece_barriers}
use Rattle.dsa_calls.specs.Lists.{IsListOf}
use Rattle.dsa_calls.proofs.FencedPlans.{refused_list, split_refused_list}
use Rattle.dsa_calls.proofs.Submissions.{pieces_can}
use Rattle.dsa_calls.proofs.planning.fenced_pieces.Goals as goal

pub returns-in_err-operations-clause-fault : goal.returns-in_err-operations-clause-fault
returns-in_err-operations-clause-fault c =
    let p = err_from_is_err_and c.from_residual.result c.from_residual.ensures.1 in
    rw p.1 (refused_list c.args.list.now c.args.settings.now c.in_err-operations.field-0.0 p.0 p.2 c.in_err-operations.ensures.fault)

pub returns-in_err-found-clause-fault : goal.returns-in_err-found-clause-fault
returns-in_err-found-clause-fault c =
    let p = err_from_is_err_and c.from_residual-in_err-found.result c.from_residual-in_err-found.ensures.1 in
    let read = c.in_ok-operations.ensures.found in
    let listed : IsListOf (unfenced_list c.args.list.now) c.in_ok-operations.operations.descriptors.items = record { spelled = read.0; owner = read.1 } in
    rw p.1 (split_refused_list c.args.list.now c.args.settings.now c.in_ok-operations.operations.descriptors.items c.in_err-found.field-0.0 p.0 listed p.2 c.in_err-found.ensures.fault)

pub returns-clause-found : goal.returns-clause-found
returns-clause-found c =
    let found = c.in_ok-found.ensures.found in
    let read = c.in_ok-operations.ensures.found in
    let ds = c.in_ok-operations.operations.descriptors.items in
    record {
      operations = ds;
      listed = record { spelled = read.0; owner = read.1 };
      split = found.0;
      pieces_are = found.1;
      barriers_are = c.in_ok-found.ensures.barriers
          ∙ ap (λ (marks : List Bool). piece_barriers c.args.settings.now.greatest_transfer (map fields ds) marks) c.in_ok-operations.ensures.barriers;
    }

pub returns-clause-can : goal.returns-clause-can
returns-clause-can c =
    let found = c.in_ok-found.ensures.found in
    pieces_can c.args.settings.now (map fields c.in_ok-operations.operations.descriptors.items) (map fields c.in_ok-found.found.descriptors.items) c.in_ok-operations.ensures.found.1 found.0 found.1
