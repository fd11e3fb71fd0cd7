-- Which earlier groups each group of a plan waits for, if a tracker whose slots are all free takes one after another, and
-- none ends meanwhile; and what that saves. (That explanations say this, and their words, is this project's choice.)
use Rattle.std.specs.Prelude.{◌≡◌, ◌==◌, ℕ, zero, suc, ◌+◌, ◌-◌, Bool, List, [], ◌∷◌, ◌++◌, Some, None, codes, decimal, length, max, min, replicate, slice_get, slice_index, slice_index_or, if◌then◌else◌}
use Rattle.std.specs.Int.{bit_at}
use Rattle.dsa_operations.specs.declared.operation.Operation.{Operation}
use Rattle.dsa_settings.specs.Plan.{Plan}
use Rattle.dsa_operations.specs.Operations.{reads_of, writes_of}
use Rattle.dsa_tracker.specs.declared.slots.Slots.{Slots}
use Rattle.dsa_tracker.specs.Calls.{operation_owner, owner_with}
use Rattle.dsa_tracker.specs.Groups.{IsGroupsFault, SubmitsInTurn, free_count, group_reads, group_writes}
use Rattle.dsa_tracker.specs.Table.{IsExactly, Table, WaitsFor}
use Rattle.dsa_explain.specs.declared.waits.WaitsFault.{WaitsFault}
use Rattle.dsa_explain.specs.declared.waits.WaitsFault.TheVariants.{Memory, Track}
use Rattle.dsa_explain.specs.Words.{plural}

-- a tracker whose 64 slots are free, and which keeps as many spans as a group of 1,024 pieces may have
abbrev pub free_table : Table
free_table = record { slots = replicate 64 None; room = 3074; owner = None }

-- the sets are the slots that the submissions of these slots wait for
pub record AreSets (tracked : Table) (slots : List ℕ) (sets : List Slots) : Type 0 where
  pub count : length sets ≡ length slots
  pub each : (k : ℕ) (set : Slots) → slice_get sets k ≡ Some set → IsExactly set (λ s. WaitsFor tracked.slots s (slice_index slots k))

-- the groups were taken with these slots, and the sets are what each waits for
pub record AreWaits (staging : ℕ) (plan : Plan) (pieces : List Operation) (slots : List ℕ) (sets : List Slots) : Type 0 where
  pub tracked : Table
  pub taken :
      SubmitsInTurn free_table (group_reads reads_of plan pieces) (group_writes writes_of staging plan pieces) (record { 0 = 0 })
      (owner_with operation_owner None pieces) slots (length plan) tracked
  pub count : length slots ≡ length plan
  pub told : AreSets tracked slots sets

-- why there are none: such a tracker refuses the groups, or an allocation failed
abbrev pub RefusesWaits : ℕ → Plan → List Operation → WaitsFault → Type 0
RefusesWaits staging plan pieces Memory = Unit {0}
RefusesWaits staging plan pieces (Track fault) =
    IsGroupsFault operation_owner free_table.room (min (free_count free_table.slots) (length plan)) (owner_with operation_owner None pieces) pieces plan staging fault

-- ---- the longest chain of groups, each of which waits for the one before

-- the set has the slot of the group of this number
abbrev pub has_group : List ℕ → Slots → ℕ → Bool
has_group slots set number = bit_at set.0 (slice_index slots number) == 1

-- the set of the group of this number
abbrev pub set_at : List Slots → ℕ → Slots
set_at sets number = slice_index_or sets number (record { 0 = 0 })

-- the longest of the chains that end in those of the first `count` groups that are in the set
abbrev pub longest_in : List ℕ → Slots → List ℕ → ℕ → ℕ
longest_in slots set chains zero = 0
longest_in slots set chains (suc count) = max (longest_in slots set chains count) (if has_group slots set count then slice_index chains count else 0)

-- for each of the first groups the longest chain that ends in it
abbrev pub chains_of : List ℕ → List Slots → ℕ → List ℕ
chains_of slots sets zero = []
chains_of slots sets (suc count) =
    chains_of slots sets count ++ (longest_in slots (set_at sets count) (chains_of slots sets count) count + 1) ∷ []

-- the longest of the first chains
abbrev pub longest : List ℕ → ℕ → ℕ
longest chains zero = 0
longest chains (suc count) = max (longest chains count) (slice_index chains count)

-- ---- words

-- the numbers of the first groups that are in the set
abbrev pub awaited_words : List ℕ → Slots → ℕ → List ℕ
awaited_words slots set zero = []
awaited_words slots set (suc count) = awaited_words slots set count ++ (if has_group slots set count then (codes " " ++ decimal count) else [])

-- what a group waits for
abbrev pub set_words : List ℕ → Slots → ℕ → List ℕ
set_words slots set number = if set.0 == 0 then codes " none" else awaited_words slots set number

-- the line of a group
abbrev pub waits_line : List ℕ → Slots → ℕ → List ℕ
waits_line slots set number = codes "group " ++ (decimal number ++ (codes " waits for" ++ (set_words slots set number ++ codes "\n")))

-- the lines of the first groups
abbrev pub waits_lines : List ℕ → List Slots → ℕ → List ℕ
waits_lines slots sets zero = []
waits_lines slots sets (suc count) = waits_lines slots sets count ++ waits_line slots (set_at sets count) count

-- how many of the groups have to be awaited one after another, and how many fewer these are
unfoldable pub saved_words : ℕ → ℕ → List ℕ
saved_words groups chain =
    codes "longest chain of waits: " ++ (decimal chain ++ (codes " of " ++ (decimal groups ++ (codes " group" ++ (plural groups ++ (codes ", "
    ++ (decimal (groups - chain) ++ (codes " round trip" ++ (plural (groups - chain) ++ codes " saved")))))))))

-- all lines
abbrev pub waits_words : List ℕ → List Slots → List ℕ
waits_words slots sets =
    waits_lines slots sets (length sets) ++ (saved_words (length sets) (longest (chains_of slots sets (length sets)) (length sets)) ++ codes "\n")
