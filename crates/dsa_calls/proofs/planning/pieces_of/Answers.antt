use Rattle.std.proofs.Common.{◌≡◌, Bool, List, map, ap, subst, ◌∙◌}
use Rattle.std.proofs.lemmas.Result.{IfOk-from_err, err_from_is_err_and}
use Rattle.dsa_descriptor.specs.declared.descriptor.Descriptor.{Descriptor}
use Rattle.dsa_descriptor.specs.Descriptors.{fields}
use Rattle.dsa_splitter.specs.Pieces.{all_pieces, piece_barriers}
use Rattle.dsa_splitter.specs.Rules.{IsFirstSplitFault, IsSplit}
use Rattle.dsa_calls.specs.Planned.{PlansOperations, submission_of}
use Rattle.dsa_calls.proofs.Over.{list_refused}
use Rattle.dsa_calls.proofs.Submissions.{pieces_can, split_refused}
use Rattle.dsa_calls.proofs.planning.pieces_of.Goals as goal
use Rattle.dsa_calls.proofs.planning.pieces_of.Goals.{In_ok-pieces}

pub returns-in_err-read-clause-split : goal.returns-in_err-read-clause-split
returns-in_err-read-clause-split c =
    let p = err_from_is_err_and c.from_residual.result c.from_residual.ensures.1 in
    rw p.1 (list_refused submission_of (λ fs o. PlansOperations c.args.settings.now fs o) c.args.list.now c.in_err-read.field-0.0 p.0 p.2 c.in_err-read.ensures.fault)

pub returns-in_err-pieces-clause-split : goal.returns-in_err-pieces-clause-split
returns-in_err-pieces-clause-split c =
    let p = err_from_is_err_and c.from_residual-in_err-pieces.result c.from_residual-in_err-pieces.ensures.1 in
    let s = c.args.settings.now in
    let listed = c.in_ok-read.ensures.found in
    let fault = subst (λ (ds : List Descriptor). IsFirstSplitFault s.greatest_transfer s.staging (map fields ds) c.in_err-pieces.field-0.0) c.without_barriers-operations.ensures.same c.in_err-pieces.ensures.fault in
    rw p.1 (split_refused c.args.list.now s c.in_ok-read.read.items c.in_err-pieces.field-0.0 p.0 (record { spelled = listed.0; owner = listed.1 }) p.2 fault)

pub returns-in_err-read-clause-can : goal.returns-in_err-read-clause-can
returns-in_err-read-clause-can c = IfOk-from_err c.from_residual.result _ c.from_residual.ensures.0

pub returns-in_err-read-clause-none : goal.returns-in_err-read-clause-none
returns-in_err-read-clause-none c = IfOk-from_err c.from_residual.result _ c.from_residual.ensures.0

pub returns-in_err-pieces-clause-can : goal.returns-in_err-pieces-clause-can
returns-in_err-pieces-clause-can c = IfOk-from_err c.from_residual-in_err-pieces.result _ c.from_residual-in_err-pieces.ensures.0

pub returns-in_err-pieces-clause-none : goal.returns-in_err-pieces-clause-none
returns-in_err-pieces-clause-none c = IfOk-from_err c.from_residual-in_err-pieces.result _ c.from_residual-in_err-pieces.ensures.0

split : (c : In_ok-pieces) → IsSplit c.args.settings.now.greatest_transfer c.args.settings.now.staging (map fields c.in_ok-read.read.items)
    × (map fields c.in_ok-pieces.pieces.descriptors.items ≡ all_pieces (map fields c.in_ok-read.read.items) c.args.settings.now.greatest_transfer)
split c =
    let s = c.args.settings.now in
    subst (λ (ds : List Descriptor). IsSplit s.greatest_transfer s.staging (map fields ds) × (map fields c.in_ok-pieces.pieces.descriptors.items ≡ all_pieces (map fields ds) s.greatest_transfer))
    c.without_barriers-operations.ensures.same c.in_ok-pieces.ensures.found

pub returns-clause-split : goal.returns-clause-split
returns-clause-split c =
    let found = split c in
    let listed = c.in_ok-read.ensures.found in
    record {
      operations = c.in_ok-read.read.items;
      listed = record { spelled = listed.0; owner = listed.1 };
      split = found.0;
      pieces_are = found.1;
    }

pub returns-clause-can : goal.returns-clause-can
returns-clause-can c =
    let found = split c in
    pieces_can c.args.settings.now (map fields c.in_ok-read.read.items) (map fields c.in_ok-pieces.pieces.descriptors.items) c.in_ok-read.ensures.found.1 found.0 found.1

pub returns-clause-none : goal.returns-clause-none
returns-clause-none c =
    c.in_ok-pieces.ensures.barriers
    ∙ ap (λ (marks : List Bool). piece_barriers c.args.settings.now.greatest_transfer (map fields c.without_barriers-operations.result.descriptors.items) marks) c.without_barriers-operations.ensures.none
