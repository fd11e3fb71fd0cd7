use Rattle.std.proofs.Common.{◌≡◌, false, true}
use Rattle.dsa_tracker.proofs.Whole.{is_ready_in, not_ready_in, ready_in}
use Rattle.dsa_tracker.proofs.words.is_ready.Goals as goal

pub returns-in-Some-waits_at_in : goal.returns-in-Some-waits_at_in
returns-in-Some-waits_at_in c = (
  c.in-Some.ensures.0,
  (
    λ h. ready_in c.args.words.now c.in-Some.head c.in-Some.ensures.0 c.in-Some.ensures.1 c.args.slot c.in-Some-waits_at_in.waits c.in-Some-waits_at_in.ensures (c.is_empty.ensures.0 h),
    λ h. c.is_empty.ensures.1 (is_ready_in c.args.words.now c.in-Some.head c.in-Some.ensures.0 c.in-Some.ensures.1 c.args.slot c.in-Some-waits_at_in.waits c.in-Some-waits_at_in.ensures.1 h),
  ),
)

pub returns-in-None : goal.returns-in-None
returns-in-None c = (c.in-Some.ensures.0, (λ (h : false ≡ true). absurd cc, λ h. absurd (not_ready_in c.args.words.now c.in-Some.head c.in-Some.ensures.0 c.in-Some.ensures.1 c.args.slot c.in-None.ensures h)))
