use Rattle.std.proofs.Common.{◌∷◌, option_map, Vec, Global, Option}
use Rattle.json.specs.Reads.{token_of}
use Rattle.dsa_core.specs.declared.event.Event.{Event}
use Rattle.dsa_tokens.specs.Said.{IsArray}
use Rattle.dsa_tokens.proofs.Read.{answers_as}
use Rattle.dsa_report.specs.Fields.{SaysTrace}
use Rattle.dsa_report.specs.Trace.{ReadsEvent}
use Rattle.dsa_report.proofs.Events.{trace_read}
use Rattle.dsa_report.proofs.trace.TraceEventsKind.read.Goals as goal

pub returns : goal.returns
returns c =
    answers_as {A = Option (Vec Event Global)} (λ d found. IsArray ReadsEvent d (option_map (λ v. v.items) found)) SaysTrace c.args.depth (token_of c.args.first ∷ c.args.reader.now) c.list_of.new.reader c.list_of.result
    (λ d found said. trace_read d (option_map (λ v. v.items) found) said) c.list_of.ensures
