use Rattle.std.proofs.Common.{◌+◌, ◌++◌, List, Option, ap, refl, slice_get, sym, ◌∙◌}
use Rattle.std.specs.Prelude.{flat_map}
use Rattle.dsa_tracker.specs.Groups.{free_count}
use Rattle.dsa_tracker.specs.State.{kept_at}
use Rattle.dsa_tracker.specs.Table.{Outstanding}
use Rattle.dsa_tracker.specs.Words.{shown_in, stores_in, waits_in}
use Rattle.dsa_tracker.proofs.Counting.{one_less}
use Rattle.dsa_tracker.proofs.Parted.{state_of, tracker_of}
use Rattle.dsa_tracker.proofs.Whole.{first_free_in, submits_in}
use Rattle.dsa_tracker.proofs.words.take_list.Goals as goal

pub returns-clause-count : goal.returns-clause-count
returns-clause-count g c =
    ap (λ (xs : List (Option Outstanding)). free_count xs + 1) c.take_in-waits.ensures.slots
    ∙ one_less (shown_in c.keep_list_in.new.words) c.args.slot (kept_at c.args.head.shape.width (waits_in c.take_in-waits.new.words) (stores_in c.take_in-waits.new.words) c.args.slot)
    (ap (λ (xs : List (Option Outstanding)). slice_get xs c.args.slot) c.keep_list_in.ensures.shown ∙ (first_free_in c.args.words.now c.args.head c.requires.shaped c.requires.head c.args.slot c.requires.within c.requires.free c.requires.before).0)
    ∙ ap free_count c.keep_list_in.ensures.shown

pub returns-clause-room : goal.returns-clause-room
returns-clause-room g c = c.take_in-waits.ensures.head.room ∙ sym c.requires.head.room

pub returns-clause-call : goal.returns-clause-call
returns-clause-call g c = λ tracker.
    let state = c.keep_list_in.ensures.state (state_of c.args.words.now c.args.head c.requires.head tracker) in (
      tracker_of c.take_in-waits.new.words _ c.take_in-waits.ensures.head c.take_in-waits.ensures.shaped (c.take_in-waits.ensures.state state),
      submits_in c.args.words.now c.args.head c.requires.shaped c.requires.head c.keep_list_in.new.words c.take_in-waits.new.words c.args.slot (flat_map g.P.Touching.reads c.args.pieces.now) (c.args.staged.now ++ flat_map g.P.Touching.writes c.args.pieces.now) c.args.also c.take_in-waits.result c.args.owner c.args.owner
          c.requires.within c.requires.free c.requires.before c.keep_list_in.ensures.shown c.keep_list_in.ensures.reads c.keep_list_in.ensures.writes (c.take_in-waits.ensures.waits state)
          c.take_in-waits.ensures.stores c.take_in-waits.ensures.slots c.take_in-waits.ensures.here c.take_in-waits.ensures.head refl,
    )
