use Rattle.std.proofs.Common.{Bool, List, ap, ◌∙◌}
use Rattle.std.specs.Prelude.{map}
use Rattle.dsa_descriptor.specs.Fences.{after_first, set_marks}
use Rattle.dsa_operations.specs.OperationFields.{operation_fields}
use Rattle.dsa_lines.specs.Texts.{all_fields, lines_of}
use Rattle.dsa_lines.proofs.AnswerLemmas.{first_listed, first_stop, memory_reported, same_fields, stops_memory}
use Rattle.dsa_lines.proofs.Gathering.{listed_names}
use Rattle.dsa_lines.proofs.Marks.{marks_count}
use Rattle.dsa_lines.proofs.OneText.{spelled_is, spelled_now}
use Rattle.dsa_lines.proofs.text_list.parse_text.Goals as goal

pub invariant_of-list : goal.invariant_of-list
invariant_of-list c =
    let all = c.in-Ok.ensures in
    let read = c.in-Ok-read_plain.read in
    let spelled = spelled_now (lines_of c.args.text.now) c.as_slice.result.now all.operations read.entries.items all.spelled (c.as_slice.ensures.value ∙ all.bytes) c.in-Ok-read_plain.ensures.found in
    let barriers = c.kept_marks.ensures ∙ ap (λ (marks : List Bool). set_marks (after_first marks)) all.marks in
    record {
      one_owner = read.one_owner;
      marked = marks_count c.args.keep_fences c.args.text.now read.entries.items c.kept_marks.result.items spelled barriers;
    }

pub returns-clause-spelled : goal.returns-clause-spelled
returns-clause-spelled c =
    let all = c.in-Ok.ensures in
    spelled_now (lines_of c.args.text.now) c.as_slice.result.now all.operations c.in-Ok-read_plain.read.entries.items all.spelled (c.as_slice.ensures.value ∙ all.bytes) c.in-Ok-read_plain.ensures.found

pub returns-clause-only : goal.returns-clause-only
returns-clause-only c os spelled one =
    let all = c.in-Ok.ensures in
    let same = same_fields all.operations (map operation_fields os) (all_fields (lines_of c.args.text.now)) c.as_slice.result.now all.spelled spelled (c.as_slice.ensures.value ∙ all.bytes) in
    c.in-Ok-read_plain.ensures.only os (same ∙ spelled_is os) one

pub returns-in-Err-clause-only : goal.returns-in-Err-clause-only
returns-in-Err-clause-only c os spelled one =
    stops_memory (lines_of c.args.text.now) (map operation_fields os) c.in-Err.fault spelled c.in-Err.ensures

pub returns-in-Err-clause-fault : goal.returns-in-Err-clause-fault
returns-in-Err-clause-fault c = first_stop (lines_of c.args.text.now) c.in-Err.fault c.in-Err.ensures

pub returns-in-Err-read_plain-clause-only : goal.returns-in-Err-read_plain-clause-only
returns-in-Err-read_plain-clause-only c os spelled one =
    let all = c.in-Ok.ensures in
    let same = same_fields all.operations (map operation_fields os) (all_fields (lines_of c.args.text.now)) c.as_slice.result.now all.spelled spelled (c.as_slice.ensures.value ∙ all.bytes) in
    memory_reported c.in-Err-read_plain.fault c.text_fault.result (c.in-Err-read_plain.ensures.only os (same ∙ spelled_is os) one) c.text_fault.ensures.fault

pub returns-in-Err-read_plain-clause-fault : goal.returns-in-Err-read_plain-clause-fault
returns-in-Err-read_plain-clause-fault c =
    let all = c.in-Ok.ensures in
    first_listed (lines_of c.args.text.now) all.operations c.as_slice.result.now c.in-Err-read_plain.fault c.text_fault.result all.spelled (c.as_slice.ensures.value ∙ all.bytes)
    c.in-Err-read_plain.ensures.fault c.text_fault.ensures.fault (listed_names _ _ _ c.text_fault.result c.deref.ensures.value all.numbers c.text_fault.ensures.place)
