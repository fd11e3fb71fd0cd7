-- Messages that name a cause.
use Rattle.std.proofs.Common.{◌≡◌, ℕ, List, [], ◌++◌, ap, ◌∙◌, append_assoc, codes}
use Rattle.dsa_calls.specs.declared.fault.PlanFault.{PlanFault}
use Rattle.dsa_advice.specs.Refusals.{NamesCause, cause_words}

-- what was written last is at the end
pub names_last : (fault : PlanFault) (front message : List ℕ) → message ≡ front ++ (codes " [" ++ (cause_words fault ++ codes "]\n")) → NamesCause fault message
names_last fault front message e = (front, [], e)

-- more may come after it
pub names_more : (fault : PlanFault) (message more whole : List ℕ) → NamesCause fault message → whole ≡ message ++ more → NamesCause fault whole
names_more fault message more whole (front, after, e) w =
    (front, after ++ more, w ∙ ap (λ (m : List ℕ). m ++ more) e ∙ simp append_assoc)
