use Rattle.std.proofs.Common.{◌≡◌, ◌%◌, length, sym, ◌∙◌}
use Rattle.std.proofs.lemmas.Bool.{eqb-true}
use Rattle.dsa_recording.proofs.Outcomes.{only, refused}
use Rattle.dsa_recording.proofs.stream.read_stream.Goals as goal

pub returns-clause-only : goal.returns-clause-only
returns-clause-only c =
    only c.submissions_of.result (λ list. list.items) c.args.bytes.now c.as_chunks.result.0.now c.as_chunks.ensures.front c.submissions_of.ensures.ok
    c.submissions_of.ensures.err

pub returns-clause-refused : goal.returns-clause-refused
returns-clause-refused c =
    let whole : length c.args.bytes.now % 64 ≡ 0 = sym c.as_chunks.ensures.back_len ∙ eqb-true _ _ (sym c.is_empty.ensures ∙ c.if-not-is_empty.false) in
    refused c.submissions_of.result (λ list. list.items) c.args.bytes.now c.as_chunks.result.0.now c.as_chunks.ensures.front whole c.submissions_of.ensures.ok
    c.submissions_of.ensures.err
