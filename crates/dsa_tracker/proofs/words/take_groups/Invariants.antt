use Rattle.std.proofs.Common.{◌≡◌, ◌+◌, ◌≤◌, ℕ, length, slice_get}
use Rattle.dsa_emission.specs.Emission.{place_of}
use Rattle.dsa_tracker.specs.Before.{place_by}
use Rattle.dsa_tracker.specs.Calls.{owner_with}
use Rattle.dsa_tracker.specs.Groups.{SubmitsInTurn, free_count, group_reads, group_writes}
use Rattle.dsa_tracker.specs.Words.{IsShapedIn, IsTracker, owner_in, room_in, shown_in, table_in}
use Rattle.dsa_tracker.proofs.words.take_groups.Given as goal

-- the groups so far were taken, and there are slots for the others
abbrev pub invariant-loop-number : goal.invariant-loop-number
invariant-loop-number g l =
    record {
      shaped : IsShapedIn l.words;
      placed : place_by l.before ≡ place_of l.plan l.number;
      room : room_in l.words ≡ room_in l.fn.words;
      places : length l.slots ≡ length l.fn.slots;
      free : length l.plan ≤ free_count (shown_in l.words) + l.number;
      taken : IsTracker l.fn.words → IsTracker l.words × SubmitsInTurn (table_in l.fn.words) (group_reads g.P.Touching.reads l.plan l.pieces) (group_writes g.P.Touching.writes l.staging l.plan l.pieces) l.also (owner_with g.P.Tracked.owner (owner_in l.fn.words) l.pieces) l.slots l.number (table_in l.words);
      rest : (k : ℕ) → l.number ≤ k → slice_get l.slots k ≡ slice_get l.fn.slots k;
    }
