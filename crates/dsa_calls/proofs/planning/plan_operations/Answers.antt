use Rattle.std.proofs.Common.{Bool, List, length, map, sym, ap, subst, ◌∙◌}
use Rattle.std.proofs.lemmas.Result.{err_from_is_err_and}
use Rattle.dsa_descriptor.specs.declared.descriptor.Descriptor.{Descriptor}
use Rattle.dsa_descriptor.specs.Descriptors.{fields}
use Rattle.dsa_ranges.specs.Ranges.{ConflictAt}
use Rattle.dsa_settings.specs.Barriers.{WithBarriers}
use Rattle.dsa_calls.specs.Planned.{IsSubmissionOfPiecesBy, submission_of}
use Rattle.dsa_calls.proofs.Submissions.{pieces_can, operations_refused}
use Rattle.dsa_calls.proofs.planning.plan_operations.Goals as goal

pub plan_pieces-requires : goal.plan_pieces-requires
plan_pieces-requires c =
    let found = c.in_ok-pieces.ensures.found in
    let operations = c.args.operations.now in
    pieces_can c.args.settings.now (map fields operations.descriptors.items) (map fields c.in_ok-pieces.pieces.descriptors.items) operations.one_owner found.0 found.1

pub returns-in_err-pieces-clause-answer : goal.returns-in_err-pieces-clause-answer
returns-in_err-pieces-clause-answer c =
    let p = err_from_is_err_and c.from_residual.result c.from_residual.ensures.1 in
    rw p.1 (operations_refused c.args.settings.now (map fields c.args.operations.now.descriptors.items) c.in_err-pieces.field-0.0 p.0 p.2 c.in_err-pieces.ensures.fault)

pub returns-clause-answer : goal.returns-clause-answer
returns-clause-answer c =
    let found = c.in_ok-pieces.ensures.found in
    let p = submission_of c.in_ok-submission.submission in
    record {
      split = found.0;
      pieces_are = ap (λ (ds : List Descriptor). map fields ds) c.in_ok-submission.ensures.same ∙ found.1;
      of_pieces = subst (λ (marks : List Bool). IsSubmissionOfPiecesBy (WithBarriers (ConflictAt (map fields p.pieces)) marks) c.args.settings.now p) c.in_ok-pieces.ensures.barriers c.in_ok-submission.ensures.planned;
    }

pub returns-clause-barriers : goal.returns-clause-barriers
returns-clause-barriers c = c.in_ok-submission.ensures.barriers ∙ c.in_ok-pieces.ensures.barriers

pub returns-clause-marked : goal.returns-clause-marked
returns-clause-marked c = λ any.
    let made = c.in_ok-submission.ensures in
    ap length made.barriers ∙ c.in_ok-pieces.pieces.marked (λ none. any (made.barriers ∙ none)) ∙ sym (ap length made.same)
