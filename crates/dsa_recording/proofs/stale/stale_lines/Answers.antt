use Rattle.std.proofs.Common.{◌≡◌, ◌∷◌, ◌++◌, [], ℕ, ◌+◌, List, drop, sym, ap, ◌∙◌, arith, append-nil, append_assoc}
use Rattle.dsa_recording.specs.Uses.{stale_from, stale_line}
use Rattle.dsa_recording.proofs.Using.{drop_next, drop_past}
use Rattle.dsa_recording.proofs.stale.stale_lines.Goals as goal

pub loop-at-preserved : goal.loop-at-preserved
loop-at-preserved c =
    let used = c.args.used.now in
    let ev = c.args.with_events in
    let lines = c.args.accepted.now.lines.items in
    let k = c.loop-at.at in
    let line = c.index.result.now in
    let numbers = c.loop-at.numbers.items in
    let rest : List ℕ = stale_from (k + 1 + 1) ev used (drop (k + 1) lines) in
    let one : drop k lines ≡ line ∷ drop (k + 1) lines = drop_next lines k line (omega (arith, c.loop-at-test.true, c.len-at-end.ensures)) ∙ ap (λ z. z ∷ drop (k + 1) lines) (sym c.index.ensures) in
    ap (λ (l : List ℕ). l ++ rest) c.in_ok-push_stale.ensures
    ∙ (append_assoc numbers (stale_line (k + 1) ev used c.deref.result.now) rest
    ∙ (ap (λ (l : List ℕ). numbers ++ l) (ap (λ (w : List ℕ). stale_line (k + 1) ev used w ++ rest) c.deref.ensures ∙ sym (ap (stale_from (k + 1) ev used) one)) ∙ c.loop-at.invariant))

pub returns : goal.returns
returns c =
    let used = c.args.used.now in
    let ev = c.args.with_events in
    let lines = c.args.accepted.now.lines.items in
    let k = c.loop-at.at in
    let numbers = c.loop-at.numbers.items in
    let none : drop k lines ≡ [] = drop_past lines k (omega (arith, c.loop-at-test.false, c.len-at-end.ensures)) in
    sym (append-nil numbers) ∙ (ap (λ l. numbers ++ stale_from (k + 1) ev used l) (sym none) ∙ c.loop-at.invariant)
