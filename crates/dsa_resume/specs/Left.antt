-- What is left of pieces, by how they have ended.
use Rattle.std.specs.Prelude.{Bool, List, [], ◌∷◌, ◌++◌, if◌then◌else◌}
use Rattle.dsa_resume.specs.declared.status.Ended.{Ended}
use Rattle.dsa_resume.specs.declared.left.LeftOrder.{LeftOrder}
use Rattle.dsa_resume.specs.declared.left.LeftOrder.TheVariants.{AsListed, FailedFirst}
use Rattle.dsa_resume.specs.declared.left.Part.{Part}
use Rattle.dsa_resume.specs.declared.left.Part.TheVariants.{Unfinished, Failed, Waiting}
use Rattle.dsa_resume.specs.Ended.{is_left, has_failed, is_waiting}

-- the pieces that have ended so, in their order
abbrev pub those : {X : Type 0} → (Ended → Bool) → List X → List Ended → List X
those wanted [] ends = []
those wanted (x ∷ xs) [] = []
those wanted (x ∷ xs) (e ∷ es) = if wanted e then x ∷ those wanted xs es else those wanted xs es

-- what is left: the pieces that are to be done, as they are listed, or those that failed before those that wait
abbrev pub left_of : {X : Type 0} → LeftOrder → List X → List Ended → List X
left_of AsListed pieces ends = those is_left pieces ends
left_of FailedFirst pieces ends = those has_failed pieces ends ++ those is_waiting pieces ends

-- ---- for private clauses

-- whether a piece that has ended so is of the part
abbrev pub is_in : Part → Ended → Bool
is_in Unfinished e = is_left e
is_in Failed e = has_failed e
is_in Waiting e = is_waiting e
