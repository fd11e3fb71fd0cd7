use Rattle.std.proofs.Common.{ℕ, ◌-◌, ap, ◌∙◌}
use Rattle.dsa_recording.proofs.freed.freed_under.Goals as goal

pub returns : goal.returns
returns c accepted has =
    (c.in_ok-then.then, c.in_ok-then.ensures accepted has, c.saturating_sub.ensures ∙ ap (λ (n : ℕ). c.in_ok-then.then - n) c.requires.now)
