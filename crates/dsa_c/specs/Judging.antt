-- What judging promises.
use Rattle.std.specs.Prelude.{ℕ, List, Ok, Err}
use Rattle.dsa_c.specs.Marks.{plan_of}
use Rattle.dsa_lists.specs.AnyLists.{JudgesAnyList}
use Rattle.dsa_c.specs.declared.settings.RawSettings.{RawSettings}
use Rattle.dsa_c.specs.declared.refusal.RawRefusal.{RawRefusal}
use Rattle.dsa_c.specs.Raw.{limits_of, AreSettings, RefusesUnder, refusal_of}

-- the plan that the marks spell is legal for the list and keeps its barriers, and costs this
abbrev pub IsJudgedCost : RawSettings → List ℕ → List ℕ → List ℕ → ℕ → Type 0
IsJudgedCost s table list marks cost = AreSettings s table × JudgesAnyList list (plan_of marks) (limits_of s table) (Ok cost)

-- why it is refused
abbrev pub RefusesJudge : RawSettings → List ℕ → List ℕ → List ℕ → RawRefusal → Type 0
RefusesJudge s table list marks r = RefusesUnder refusal_of (λ l fault. JudgesAnyList list (plan_of marks) l (Err fault)) s table r
