use Rattle.std.proofs.Common.{Bool, subst, sym, ap, ◌∙◌}
use Rattle.dsa_recording.specs.Pairs.{has_key}
use Rattle.dsa_waits.specs.Steps.{Remembers}
use Rattle.dsa_waits.proofs.known.look_up.Goals as goal

pub returns-then-not-is_accepted-clause-key : goal.returns-then-not-is_accepted-clause-key
returns-then-not-is_accepted-clause-key c =
    let accepted = c.args.keyed.accepted.now in
    sym (c.has-is_accepted.ensures ∙ ap (has_key accepted) (c.deref.ensures ∙ c.in_ok-key.ensures)) ∙ c.if-not-is_accepted.true

pub returns-then-not-is_accepted-clause-known : goal.returns-then-not-is_accepted-clause-known
returns-then-not-is_accepted-clause-known c =
    let accepted = c.args.keyed.accepted.now in
    subst (λ (b : Bool). Remembers (record { earlier = c.args.earlier; hazards = c.args.hazards; is_accepted = b }) c.args.known.now.items c.remember.new.known.items)
    (c.has-is_accepted.ensures ∙ ap (has_key accepted) (c.deref.ensures ∙ c.in_ok-key.ensures)) c.in_ok-remember.ensures

pub returns-clause-key : goal.returns-clause-key
returns-clause-key c =
    let accepted = c.args.keyed.accepted.now in
    (sym (c.has-is_accepted.ensures ∙ ap (has_key accepted) (c.deref.ensures ∙ c.in_ok-key.ensures)) ∙ c.if-not-is_accepted.false, c.in_ok-key.ensures)

pub returns-clause-known : goal.returns-clause-known
returns-clause-known c =
    let accepted = c.args.keyed.accepted.now in
    subst (λ (b : Bool). Remembers (record { earlier = c.args.earlier; hazards = c.args.hazards; is_accepted = b }) c.args.known.now.items c.remember.new.known.items)
    (c.has-is_accepted.ensures ∙ ap (has_key accepted) (c.deref.ensures ∙ c.in_ok-key.ensures)) c.in_ok-remember.ensures
