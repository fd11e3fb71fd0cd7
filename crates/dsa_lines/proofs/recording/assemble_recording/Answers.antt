use Rattle.std.proofs.Common.{◌≡◌, ℕ, ◌+◌, ◌<◌, List, [], ◌∷◌, ◌++◌, None, length, refl, sym, ap, ◌∙◌, append_assoc, length-append, arith}
use Rattle.std.proofs.lemmas.Result.{err_from_is_err_and}
use Rattle.dsa_lines.specs.Words.{words_of}
use Rattle.dsa_lines.specs.Texts.{lines_of, lines_after}
use Rattle.dsa_lines.specs.Recordings.{LeavesRecordingAt, all_recorded, line_recorded, recording_bytes}
use Rattle.dsa_lines.proofs.RecordingLemmas.{at_last, no_recorded, recorded_more, stops_there}
use Rattle.dsa_lines.proofs.TextLemmas.{first_line, last_line, more_lines, next_shorter}
use Rattle.dsa_lines.proofs.recording.assemble_recording.Goals as goal

pub lines-init : goal.lines-init
lines-init c =
    record {
      before = [];
      said = [];
      bytes = λ rs. ap (λ (b : List ℕ). b ++ recording_bytes rs) c.new-bytes.ensures.items;
      spelled = no_recorded;
      lines = refl;
      number = refl;
      room = omega arith;
    }

pub lines-preserved : goal.lines-preserved
lines-preserved c =
    let i = c.lines.invariant in
    let h = c.in_ok-pending.ensures in
    let line = c.split_at.result.0.now in
    let back = c.split_at.result.1.now in
    let lines = more_lines c.lines.rest.now line back c.before-in-lines.result c.before-in-lines.ensures.value c.split_at.ensures.front c.split_at.ensures.back c.in-len1-up.len_at_least in
    let one : length (i.before ++ line ∷ []) ≡ length i.before + 1 = length-append i.before (line ∷ []) in
    record {
      before = i.before ++ line ∷ [];
      said = i.said ++ h.0;
      bytes = h.2 i.said i.bytes;
      spelled = recorded_more i.before line i.said h.0 i.spelled h.1;
      lines = i.lines ∙ ap (λ (ls : List (List ℕ)). i.before ++ ls) lines ∙ sym (append_assoc i.before (line ∷ []) _);
      number = omega (arith, one, i.number);
      room = omega (arith, one, i.room, next_shorter c.lines.rest.now back c.before-in-lines.result c.split_at.ensures.back c.in-len1-up.len_at_least);
    }

pub returns-in_default : goal.returns-in_default
returns-in_default c =
    let i = c.lines.invariant in
    let h = c.in_ok-pending.ensures in
    let line = c.split_at.result.0.now in
    let back = c.split_at.result.1.now in
    let none : length back < 1 = omega arith in
    let lines = last_line c.lines.rest.now line back c.before-in-lines.result c.before-in-lines.ensures.value c.split_at.ensures.front c.split_at.ensures.back none in (
      i.said ++ h.0,
      ap all_recorded (i.lines ∙ ap (λ (ls : List (List ℕ)). i.before ++ ls) lines) ∙ recorded_more i.before line i.said h.0 i.spelled h.1,
      at_last c.push_recorded.new.bytes.items c.push_pending.new.bytes.items c.in_ok-pending.pending (i.said ++ h.0) c.in_ok-push_pending.ensures (h.2 i.said i.bytes),
    )

pub returns-in_err-pending : goal.returns-in_err-pending
returns-in_err-pending c =
    let i = c.lines.invariant in
    let p = err_from_is_err_and c.from_residual.result c.from_residual.ensures.1 in
    let line = c.split_at.result.0.now in
    let back = c.split_at.result.1.now in
    let lines = first_line c.lines.rest.now line back c.before-in-lines.result c.before-in-lines.ensures.value c.split_at.ensures.front c.split_at.ensures.back in
    let leaves : line_recorded (words_of line) ≡ None → LeavesRecordingAt (lines_of c.args.text.now) c.lines.number =
    λ e. record {
      before = i.before;
      line = line;
      after = lines_after back;
      lines_are = i.lines ∙ ap (λ (ls : List (List ℕ)). i.before ++ ls) lines;
      number_is = i.number;
      said = (i.said, i.spelled);
      outside = e;
    } in
    rw (p.1, p.2) (stops_there c.lines.number (line_recorded (words_of line)) (lines_of c.args.text.now) c.in_err-pending.field-0.0 leaves c.in_err-pending.ensures)
