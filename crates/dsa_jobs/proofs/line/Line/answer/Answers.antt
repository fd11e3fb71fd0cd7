use Rattle.std.proofs.Common.{◌≡◌, ◌∙◌, List, ℕ, rules}
use Rattle.dsa_calls.specs.Fault.{refusal_line}
use Rattle.dsa_jobs.proofs.Answers.{refused_whole, refused_part, served_whole, kept_part}
use Rattle.dsa_jobs.proofs.line.Line.answer.Goals as goal

pub returns-in-Some-clause-whole : goal.returns-in-Some-clause-whole
returns-in-Some-clause-whole g c =
    let same : c.as_bytes.result.now ≡ refusal_line c.in-Some.fault = cc in
    refused_whole c.args.self.now c.in-Some.fault c.as_bytes.result.now _ _ c.write_line.result c.in-Some.is same c.write_line.ensures.whole

pub returns-in-Some-clause-prefix : goal.returns-in-Some-clause-prefix
returns-in-Some-clause-prefix g c =
    let same : c.as_bytes.result.now ≡ refusal_line c.in-Some.fault = cc in
    refused_part c.args.self.now c.in-Some.fault c.as_bytes.result.now _ _ c.write_line.result c.in-Some.is same c.write_line.ensures.prefix

pub returns-in-Answered-clause-whole : goal.returns-in-Answered-clause-whole
returns-in-Answered-clause-whole g c =
    served_whole c.args.self.now c.as_slice.result.now _ _ c.serve_text.result c.in-None.is c.as_slice.ensures.value c.in-Answered.is c.serve_text.ensures.answered c.serve_text.ensures.refused

pub returns-in-ReadFault-clause-prefix : goal.returns-in-ReadFault-clause-prefix
returns-in-ReadFault-clause-prefix g c =
    kept_part c.args.self.now c.as_slice.result.now _ _ c.in-None.is c.as_slice.ensures.value (c.serve_text.ensures.write_fault (search rules))
