use Rattle.std.proofs.Common.{◌<◌, length, arith}
use Rattle.std.proofs.lemmas.Result.{err_from_is_err_and}
use Rattle.dsa_lines.specs.Texts.{lines_of, lines_after}
use Rattle.dsa_lines.proofs.Gathering.{all_gathered, more, nothing_yet, stopped}
use Rattle.dsa_lines.proofs.TextLemmas.{first_line, last_line, more_lines, next_shorter}
use Rattle.dsa_lines.proofs.text_list.gather.Goals as goal

pub lines-init : goal.lines-init
lines-init c = (nothing_yet c.args.keep_fences (lines_of c.args.text.now) _ c.new.ensures.items c.new-2.ensures.items c.new-3.ensures.items, omega arith)

pub lines-preserved : goal.lines-preserved
lines-preserved c =
    let line = c.split_at.result.0.now in
    let back = c.split_at.result.1.now in
    let lines = more_lines c.lines.rest.now line back c.before-in-lines.result c.before-in-lines.ensures.value c.split_at.ensures.front c.split_at.ensures.back c.in-len1-up.len_at_least in (
      more c.args.keep_fences _ _ (lines_of c.args.text.now) (lines_of c.lines.rest.now) _ line c.lines.number _ _ c.lines.invariant.0 lines c.in_ok-pending.ensures,
      omega (arith, c.lines.invariant.1, next_shorter c.lines.rest.now back c.before-in-lines.result c.split_at.ensures.back c.in-len1-up.len_at_least),
    )

pub returns-in_default : goal.returns-in_default
returns-in_default c =
    let line = c.split_at.result.0.now in
    let back = c.split_at.result.1.now in
    let none : length back < 1 = omega arith in
    let lines = last_line c.lines.rest.now line back c.before-in-lines.result c.before-in-lines.ensures.value c.split_at.ensures.front c.split_at.ensures.back none in
    all_gathered c.args.keep_fences _ (lines_of c.args.text.now) _ _
    (more c.args.keep_fences _ _ (lines_of c.args.text.now) (lines_of c.lines.rest.now) _ line c.lines.number _ _ c.lines.invariant.0 lines c.in_ok-pending.ensures)

pub returns-in_err-pending : goal.returns-in_err-pending
returns-in_err-pending c =
    let p = err_from_is_err_and c.from_residual.result c.from_residual.ensures.1 in
    let line = c.split_at.result.0.now in
    let back = c.split_at.result.1.now in
    let lines = first_line c.lines.rest.now line back c.before-in-lines.result c.before-in-lines.ensures.value c.split_at.ensures.front c.split_at.ensures.back in
    rw (p.1, p.2) (stopped c.args.keep_fences _ (lines_of c.args.text.now) (lines_of c.lines.rest.now) (lines_after back) line c.lines.number _ c.in_err-pending.field-0.0 c.lines.invariant.0 lines c.in_err-pending.ensures)
