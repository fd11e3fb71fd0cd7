use Rattle.std.proofs.Common.{◌≡◌, ◌++◌, string_bytes, sym, ap, subst, ◌∙◌}
use Rattle.std.specs.Ordering.{is_gt}
use Rattle.dsa_recording.specs.Pairs.{IsUpTo, has_key}
use Rattle.dsa_recording.proofs.Fronts.{first_text, range_first, range_none, same_front}
use Rattle.dsa_recording.proofs.pairs.first_after.Goals as goal

pub returns-in-Some : goal.returns-in-Some
returns-in-Some c =
    let accepted = c.args.accepted.now in
    let start = c.args.front.now ++ c.args.rest.now in
    let first = range_first accepted c.in_ok-from.from start c.range.result c.in-Some.key.now c.next.new.self c.in_ok-from.ensures.ok (c.range.ensures.in_range tt) c.in-Some.ensures.steps in
    let text : c.deref.result.now ≡ string_bytes c.in-Some.key.now = c.deref.ensures in
    first_text accepted c.args.front.now c.args.rest.now c.deref.result.now c.strip_prefix.result c.strip_prefix.ensures.cases
    (ap (has_key accepted) text ∙ first.0) (subst (IsUpTo start) (sym text) first.1)
    (λ q has le. subst (λ l. IsUpTo l q) (sym text) (first.2 q has le))

pub returns-in-None : goal.returns-in-None
returns-in-None c other has le =
    let accepted = c.args.accepted.now in
    let start = c.args.front.now ++ c.args.rest.now in
    range_none accepted c.in_ok-from.from start c.range.result c.in_ok-from.ensures.ok (c.range.ensures.in_range tt) c.in-None.ensures.steps.0 (c.args.front.now ++ other) has
    (ap is_gt (same_front c.args.front.now c.args.rest.now other) ∙ le)
