use Rattle.std.proofs.Common.{ℕ, refl, subst, sym}
use Rattle.dsa_tracker.specs.Calls.{CanKeep, IsSpanFault}
use Rattle.dsa_tracker.specs.Words.{owner_in, table_in}
use Rattle.dsa_tracker.proofs.Tables.{refused_spans}
use Rattle.dsa_tracker.proofs.Parted.{state_of, tracker_of}
use Rattle.dsa_tracker.proofs.Whole.{first_free_in, full_in, submits_in}
use Rattle.dsa_tracker.proofs.words.submit_spans.Goals as goal

pub returns-in_default-first_free : goal.returns-in_default-first_free
returns-in_default-first_free c = ((c.in-Some.ensures.0, full_in c.args.words.now c.in-Some.head c.in-Some.ensures.0 c.in-Some.ensures.1 c.in_default-first_free.ensures), refl)

pub returns-in-Some-span_fault : goal.returns-in-Some-span_fault
returns-in-Some-span_fault c = (
  (
    c.in-Some.ensures.0,
    refused_spans (table_in c.args.words.now) c.in-Some-first_free.slot c.args.reads.now c.args.writes.now c.in-Some-span_fault.fault
        (first_free_in c.args.words.now c.in-Some.head c.in-Some.ensures.0 c.in-Some.ensures.1 c.in-Some-first_free.slot c.in-Some-first_free.ensures.0 c.in-Some-first_free.ensures.2 c.in-Some-first_free.ensures.3)
        (subst (λ (r : ℕ). IsSpanFault r c.args.reads.now c.args.writes.now c.in-Some-span_fault.fault) (sym c.in-Some.ensures.1.room) c.in-Some-span_fault.ensures),
  ),
  refl,
)

pub returns : goal.returns
returns c = (
  c.in-Some.ensures.0,
  c.take_in-waits.ensures.shaped,
  subst (λ (r : ℕ). CanKeep r c.args.reads.now c.args.writes.now) (sym c.in-Some.ensures.1.room) c.in_default-span_fault.ensures,
  λ tracker.
      let state = c.keep_spans_in.ensures.state (state_of c.args.words.now c.in-Some.head c.in-Some.ensures.1 tracker) in (
        tracker_of c.take_in-waits.new.words _ c.take_in-waits.ensures.head c.take_in-waits.ensures.shaped (c.take_in-waits.ensures.state state),
        submits_in c.args.words.now c.in-Some.head c.in-Some.ensures.0 c.in-Some.ensures.1 c.keep_spans_in.new.words c.take_in-waits.new.words c.in-Some-first_free.slot c.args.reads.now c.args.writes.now c.args.also c.take_in-waits.result c.in-Some.head.owner (owner_in c.args.words.now)
            c.in-Some-first_free.ensures.0 c.in-Some-first_free.ensures.2 c.in-Some-first_free.ensures.3 c.keep_spans_in.ensures.shown c.keep_spans_in.ensures.reads c.keep_spans_in.ensures.writes (c.take_in-waits.ensures.waits state)
            c.take_in-waits.ensures.stores c.take_in-waits.ensures.slots c.take_in-waits.ensures.here c.take_in-waits.ensures.head (sym c.in-Some.ensures.1.owner),
      ),
)
