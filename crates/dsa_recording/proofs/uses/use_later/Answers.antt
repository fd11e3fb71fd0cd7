use Rattle.std.proofs.Common.{◌≡◌, true, false, length, sym, subst, ◌∙◌}
use Rattle.dsa_recording.specs.Uses.{AddsKeys, TakesFirstOut}
use Rattle.dsa_recording.proofs.Taking.{later_named, later_without}
use Rattle.dsa_recording.proofs.Using.{on_ok}
use Rattle.dsa_recording.proofs.uses.use_later.Goals as goal

pub returns-then-not-is_within : goal.returns-then-not-is_within
returns-then-not-is_within c =
    later_without c.args.judged.accepted.now c.args.judged.entries.now c.args.judged.audited.now c.args.later c.args.epoch c.args.last c.args.used.now c.requires.epoch c.requires.last
    (c.is_within.ensures (λ yes. let end : true ≡ false = sym yes ∙ c.if-not-is_within.true in cc))

pub returns : goal.returns
returns c =
    let accepted = c.args.judged.accepted.now in
    let es = c.args.judged.entries.now in
    let a = c.args.judged.audited.now in
    on_ok c.use_members.result _ _
    (λ adds. later_named accepted es a c.in_ok-members.members.items c.args.later c.args.used.now c.use_members.new.used c.in_ok-members.ensures
    (subst (λ l. AddsKeys (TakesFirstOut accepted es a l (length l) c.args.later) c.args.used.now c.use_members.new.used) c.deref.ensures.value adds)) c.use_members.ensures
