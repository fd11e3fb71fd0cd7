use Rattle.std.proofs.lemmas.Result.{err_from_is_err_and}
use Rattle.dsa_lists.proofs.AnyLists.{none_planned, refused_of_operations}
use Rattle.dsa_lists.proofs.pieces.any_pieces.Goals as goal

pub returns-in_err-operations-in-Err-clause-fault : goal.returns-in_err-operations-in-Err-clause-fault
returns-in_err-operations-in-Err-clause-fault c =
    let p = err_from_is_err_and c.from_residual.result c.from_residual.ensures.1 in
    rw (p.1, p.2) (refused_of_operations c.args.list.now c.args.settings.now (none_planned c.args.list.now c.args.settings.now c.in-Err.fault (c.is_of_bytes.ensures.0 c.if-not-is_of_bytes.false) c.in-Err.ensures.fault) c.in_err-operations-in-Err.field-0.0 c.in_err-operations-in-Err.ensures.fault)

pub returns-in_ok-operations-in-Err-clause-found : goal.returns-in_ok-operations-in-Err-clause-found
returns-in_ok-operations-in-Err-clause-found c = (none_planned c.args.list.now c.args.settings.now c.in-Err.fault (c.is_of_bytes.ensures.0 c.if-not-is_of_bytes.false) c.in-Err.ensures.fault, c.in_ok-operations-in-Err.ensures.ready)

pub returns-in-Ok-clause-found : goal.returns-in-Ok-clause-found
returns-in-Ok-clause-found c = (c.in-Ok.found.barriers.items, c.in-Ok.ensures.found)
