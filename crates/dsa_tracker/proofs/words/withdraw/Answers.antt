use Rattle.std.proofs.Common.{refl}
use Rattle.dsa_tracker.proofs.Parted.{state_of, tracker_of}
use Rattle.dsa_tracker.proofs.Whole.{held_in, not_held_in, retires_in}
use Rattle.dsa_tracker.proofs.words.withdraw.Goals as goal

pub returns-in_default-waits_at_in : goal.returns-in_default-waits_at_in
returns-in_default-waits_at_in c = ((c.in-Some.ensures.0, (refl, not_held_in c.args.words.now c.in-Some.head c.in-Some.ensures.0 c.in-Some.ensures.1 c.args.slot c.in_default-waits_at_in.ensures)), refl)

pub returns : goal.returns
returns c = (
  c.in-Some.ensures.0,
  c.release_in.ensures.shaped,
  held_in c.args.words.now c.in-Some.head c.in-Some.ensures.0 c.in-Some.ensures.1 c.args.slot c.in-Some-waits_at_in.ensures.0,
  λ tracker.
      let state = state_of c.args.words.now c.in-Some.head c.in-Some.ensures.1 tracker in (
        tracker_of c.release_in.new.words _ c.release_in.ensures.head c.release_in.ensures.shaped (c.release_in.ensures.state state),
        retires_in c.args.words.now c.in-Some.head c.in-Some.ensures.0 c.in-Some.ensures.1 c.release_in.new.words c.args.slot c.release_in.result c.release_in.ensures.head (c.release_in.ensures.released state) (c.release_in.ensures.waited state) (c.release_in.ensures.ready state),
      ),
)
