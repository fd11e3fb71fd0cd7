-- A plan as one byte for each piece, its mark. Bit 0 says that the piece begins a group, bit 1 that it is fenced (this
-- project's choice).
use Rattle.std.specs.Prelude.{ℕ, ◌+◌, ◌/◌, ◌%◌, ◌==◌, ◌++◌, ◌&&◌, not, Bool, true, false, List, [], ◌∷◌, map, flat_map, if◌then◌else◌}
use Rattle.std.specs.List.{fold}
use Rattle.dsa_settings.specs.Plan.{Group, Plan}

-- 1 for a piece that begins a group, and 2 more for one that is fenced
abbrev pub mark : Bool → Bool → ℕ
mark begins fenced = (if begins then 1 else 0) + (if fenced then 2 else 0)

-- the marks of a group
abbrev pub group_marks : Group → List ℕ
group_marks [] = []
group_marks (first ∷ rest) = mark true first ∷ map (mark false) rest

-- the marks of all pieces
abbrev pub marks_of : Plan → List ℕ
marks_of plan = flat_map group_marks plan

-- bit 0 of a mark: its piece begins a group
abbrev pub begins_group : ℕ → Bool
begins_group mark = mark % 2 == 1

-- bit 1 of a mark: its piece is fenced
abbrev pub is_fenced : ℕ → Bool
is_fenced mark = mark / 2 % 2 == 1

-- a group has no piece
abbrev pub is_empty : Group → Bool
is_empty [] = true
is_empty (_ ∷ _) = false

-- the groups that are complete, and the group that is not yet
abbrev pub State : Type 0
State = Plan × Group

-- the state after one more mark
abbrev pub next : State → ℕ → State
next s mark =
    if begins_group mark && not (is_empty s.1)
    then (s.0 ++ (s.1 ∷ []), is_fenced mark ∷ [])
    else (s.0, s.1 ++ (is_fenced mark ∷ []))

-- the plan after all marks
abbrev pub closed : State → Plan
closed s = if is_empty s.1 then s.0 else (s.0 ++ (s.1 ∷ []))

-- the plan that the marks spell
abbrev pub plan_of : List ℕ → Plan
plan_of marks = closed (fold next ([], []) marks)
