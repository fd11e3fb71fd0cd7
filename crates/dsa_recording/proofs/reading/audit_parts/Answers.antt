use Rattle.std.proofs.Common.{[], append-nil, refl, sym, ◌∙◌}
use Rattle.std.proofs.lemmas.Bool.{true≢false}
use Rattle.std.proofs.lemmas.List.{take_rest}
use Rattle.std.proofs.KnownBytes.{Consumes-nil, Consumes-trans}
use Rattle.dsa_recording.proofs.Streamed.{answered, read_on, some_entry}
use Rattle.dsa_recording.proofs.reading.audit_parts.Goals as goal

pub loop-init : goal.loop-init
loop-init g c = record {
  read = ([], [], Consumes-nil _, append-nil c.args.first.items, c.new-parts.ensures c.args.options);
  end = λ no. absurd (true≢false (sym no));
}

pub returns-then-ended : goal.returns-then-ended
returns-then-ended g c =
    let read = c.loop.invariant.read in (
      read.1,
      read.2,
      c.loop.invariant.end c.if-ended.true,
      answered c.args.options c.args.first.items read.0 read.1 c.loop.buffer.items c.deref.result.now c.in_ok-answer_with.field-0 c.requires.bytes read.3 c.deref.ensures.value
          (c.in_ok-answer_with.ensures read.0
          (some_entry c.args.first.items read.0 read.1 c.loop.buffer.items c.deref.result.now c.requires.some read.3 c.deref.ensures.value) read.4),
    )

pub loop-preserved : goal.loop-preserved
loop-preserved g c =
    let read = c.loop.invariant.read in
    let filled = c.in_ok-ended.ensures in
    record {
      read = (
        _,
        _,
        Consumes-trans _ _ _ _ _ read.2 filled.1,
        read_on c.args.first.items read.1 read.0 c.loop.buffer.items filled.0 _ c.in_ok-buffer.buffer.items c.deref-in-loop-2.result.now c.deref-in-loop-3.result.now c.fill.new.buffer.items c.whole_bytes-whole.result
            read.3 c.deref-in-loop-2.ensures.value c.deref-in-loop-3.ensures.value refl (c.in_ok-buffer.ensures.items ∙ take_rest c.deref-in-loop-3.result.now c.whole_bytes-whole.result) filled.2,
        c.in_ok-add.ensures read.0 read.4,
      );
      end = filled.3;
    }
