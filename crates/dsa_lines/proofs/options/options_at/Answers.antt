use Rattle.std.proofs.Common.{◌≡◌, ◌-◌, ◌<◌, sym, ap, ◌∙◌, arith}
use Rattle.std.proofs.lemmas.Bool.{true≢false}
use Rattle.std.proofs.lemmas.Result.{err_from_is_err_and}
use Rattle.dsa_lines.specs.declared.options.Options.{Options}
use Rattle.dsa_lines.specs.Words.{words_of}
use Rattle.dsa_lines.specs.Grammar.{options_at}
use Rattle.dsa_lines.proofs.RoundTrip.{over, no_after, no_next, next_turn, too_many}
use Rattle.dsa_lines.proofs.options.options_at.Goals as goal

pub loop-turn-init : goal.loop-turn-init
loop-turn-init c = ap (λ (o : Options). options_at 5 o (words_of c.args.text.now)) c.none-options.ensures

pub returns-then-is_over : goal.returns-then-is_over
returns-then-is_over c =
    sym c.loop-turn.invariant
    ∙ ap (options_at (5 - c.loop-turn._turn) c.loop-turn.options) (c.is_over.ensures.0 c.if-is_over.true)
    ∙ over (5 - c.loop-turn._turn) c.loop-turn.options

pub returns-in_err-later : goal.returns-in_err-later
returns-in_err-later c =
    let lt : c.loop-turn._turn < 5 = omega arith in
    let p = err_from_is_err_and c.from_residual.result c.from_residual.ensures.1 in
    rw p.1 (
    sym c.loop-turn.invariant
    ∙ no_after c.loop-turn._turn c.loop-turn.options (words_of c.loop-turn.rest.now) lt
    (λ e. absurd (true≢false (sym (c.is_over.ensures.1 e) ∙ c.if-is_over.false))) c.in_err-later.ensures
    )

pub returns-in_err-next : goal.returns-in_err-next
returns-in_err-next c =
    let lt : c.loop-turn._turn < 5 = omega arith in
    let p = err_from_is_err_and c.from_residual-in_err-next.result c.from_residual-in_err-next.ensures.1 in
    rw p.1 (
    sym c.loop-turn.invariant
    ∙ no_next c.loop-turn._turn c.loop-turn.options (words_of c.loop-turn.rest.now) _ lt c.in_ok-later.ensures c.in_err-next.ensures
    )

pub loop-turn-preserved : goal.loop-turn-preserved
loop-turn-preserved c =
    let lt : c.loop-turn._turn < 5 = omega arith in
    sym (next_turn c.loop-turn._turn c.loop-turn.options (words_of c.loop-turn.rest.now) _ _ lt c.in_ok-later.ensures c.in_ok-next.ensures)
    ∙ c.loop-turn.invariant

pub returns-then-is_over-2 : goal.returns-then-is_over-2
returns-then-is_over-2 c =
    sym c.loop-turn.invariant
    ∙ ap (options_at (5 - c.loop-turn._turn) c.loop-turn.options) (c.is_over-2.ensures.0 c.if-is_over-2.true)
    ∙ over (5 - c.loop-turn._turn) c.loop-turn.options

pub returns-else-is_over-2 : goal.returns-else-is_over-2
returns-else-is_over-2 c =
    let none : 5 - c.loop-turn._turn ≡ 0 = omega arith in
    sym c.loop-turn.invariant
    ∙ rw none (too_many c.loop-turn.options (words_of c.loop-turn.rest.now) (λ e. absurd (true≢false (sym (c.is_over-2.ensures.1 e) ∙ c.if-is_over-2.false))))
