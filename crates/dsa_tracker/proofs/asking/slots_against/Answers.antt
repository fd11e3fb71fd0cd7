use Rattle.std.proofs.Common.{◌↔◌, List, subst}
use Rattle.std.proofs.lemmas.List.{take_all}
use Rattle.dsa_descriptor.specs.Spans.{span}
use Rattle.dsa_descriptor.specs.declared.span.Span.{Span}
use Rattle.dsa_tracker.specs.Finding.{ConflictsWithSpans}
use Rattle.dsa_tracker.specs.Sets.{Has}
use Rattle.dsa_tracker.proofs.Asked.{asked_more, asked_none}
use Rattle.dsa_tracker.proofs.asking.slots_against.Goals as goal

pub loop-span-init : goal.loop-span-init
loop-span-init c = λ covered k. asked_none c.args.shape.width c.args.stores.now c.args.others.among c.args.is_written k

pub loop-span-preserved : goal.loop-span-preserved
loop-span-preserved c = λ covered k.
    asked_more c.args.shape.width c.args.stores.now c.args.others.among c.loop-span.found c.slots_against_one-here.result c.union-found.result c.args.is_written c.args.spans.now c.loop-span.span-index (span 0 0) k
    c.loop-span-test.true (c.loop-span.invariant covered k) (c.slots_against_one-here.ensures covered k) (c.union-found.ensures k)

pub returns : goal.returns
returns c = λ covered k.
    subst (λ (xs : List Span). Has c.loop-span.found k ↔ (Has c.args.others.among k × ConflictsWithSpans c.args.shape.width c.args.stores.now c.args.is_written xs k))
    (take_all c.loop-span.span-index c.args.spans.now c.loop-span-test.false) (c.loop-span.invariant covered k)
