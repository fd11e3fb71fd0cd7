-- What completion records say of their pieces.
use Rattle.std.specs.Prelude.{ℕ, Bool, true, false, ◌==◌, List, [], ◌∷◌, slice_index, if◌then◌else◌}
use Rattle.dsa_resume.specs.declared.status.Ended.{Ended}
use Rattle.dsa_resume.specs.declared.status.Ended.TheVariants.{Waiting, Finished, Unexpected, Failed, GivenUp}

-- by the status, byte 0: 0 is what the caller has set before; 1 is success, and 2 success of a compare whose result is not
-- the expected one; all others are failures (specification 341204, completion record), which the caller gives up by a mark
-- other than 0 (this project's choice)
abbrev pub ended_by : ℕ → ℕ → Ended
ended_by status mark =
    if status == 0 then Waiting else if status == 1 then Finished else if status == 2 then Unexpected else if mark == 0 then Failed else GivenUp

-- the piece with this completion record and this mark
abbrev pub ended_of : List ℕ → ℕ → Ended
ended_of completion mark = ended_by (slice_index completion 0) mark

-- the pieces with these records and marks; a piece without a mark is not given up
abbrev pub ends_of : List (List ℕ) → List ℕ → List Ended
ends_of [] marks = []
ends_of (r ∷ rs) [] = ended_of r 0 ∷ ends_of rs []
ends_of (r ∷ rs) (mark ∷ marks) = ended_of r mark ∷ ends_of rs marks

-- those that have finished
abbrev pub has_finished : Ended → Bool
has_finished Waiting = false
has_finished Finished = true
has_finished Unexpected = true
has_finished Failed = false
has_finished GivenUp = false

-- those that are left to do
abbrev pub is_left : Ended → Bool
is_left Waiting = true
is_left Finished = false
is_left Unexpected = false
is_left Failed = true
is_left GivenUp = false

-- of these the ones that failed
abbrev pub has_failed : Ended → Bool
has_failed Waiting = false
has_failed Finished = false
has_failed Unexpected = false
has_failed Failed = true
has_failed GivenUp = false

-- and the ones that wait
abbrev pub is_waiting : Ended → Bool
is_waiting Waiting = true
is_waiting Finished = false
is_waiting Unexpected = false
is_waiting Failed = false
is_waiting GivenUp = false

-- those that have finished or are left to do: all but those that are given up
abbrev pub is_kept : Ended → Bool
is_kept Waiting = true
is_kept Finished = true
is_kept Unexpected = true
is_kept Failed = true
is_kept GivenUp = false

-- those that have begun
abbrev pub has_begun : Ended → Bool
has_begun Waiting = false
has_begun Finished = true
has_begun Unexpected = true
has_begun Failed = true
has_begun GivenUp = true

-- those that have not succeeded: status 1 alone is success for what comes after a fence or a group (specification 341204,
-- fence)
abbrev pub is_open : Ended → Bool
is_open Waiting = true
is_open Finished = false
is_open Unexpected = true
is_open Failed = true
is_open GivenUp = true

-- of these the ones that will not succeed by being done again
abbrev pub stops : Ended → Bool
stops Waiting = false
stops Finished = false
stops Unexpected = true
stops Failed = false
stops GivenUp = true
