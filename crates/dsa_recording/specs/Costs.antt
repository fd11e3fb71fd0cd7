-- What recorded submissions cost (this project's choice).
use Rattle.std.specs.Prelude.{ℕ, ◌≡◌, ◌&&◌, ◌==◌, nat_le, min, Bool, true, false, not, List, [], ◌∷◌, length, if◌then◌else◌}
use Rattle.std.specs.List.{count_by}
use Rattle.dsa_settings.specs.Plan.{Group, Plan, group_cost, plan_cost}
use Rattle.dsa_settings.specs.Settings.{Limits, tariff_of}
use Rattle.dsa_recording.specs.declared.costs.Costs.{Costs}
use Rattle.dsa_recording.specs.declared.costs.FenceSet.{FenceSet}
use Rattle.dsa_recording.specs.declared.costs.FenceSet.TheVariants.{Recorded, Corrected, Reduced}
use Rattle.dsa_recording.specs.declared.report.Report.{Report}
use Rattle.dsa_recording.specs.declared.submission.Audited.{Audited}

-- a submission has a price: a batch of 2 members up to the greatest number, or a lone descriptor
abbrev pub has_price : ℕ → Bool → Group → Bool
has_price greatest_batch true group = nat_le 2 (length group) && nat_le (length group) greatest_batch
has_price greatest_batch false group = length group == 1

-- the fences of a submission: as recorded, with the missing ones, and of these without the needless ones
abbrev pub fences_of : FenceSet → Audited → Group
fences_of Recorded a = a.fences.items
fences_of Corrected a = a.audit.corrected.fences.items
fences_of Reduced a = a.audit.reduced.fences.items

-- the plan that is made of submissions, with these fences: a group for each that has a price
unfoldable pub plan_of : ℕ → FenceSet → List Audited → Plan
plan_of greatest_batch set [] = []
plan_of greatest_batch set (a ∷ audits) =
    if has_price greatest_batch a.is_batch (fences_of set a)
    then fences_of set a ∷ plan_of greatest_batch set audits
    else plan_of greatest_batch set audits

-- what that plan costs, cut off at the greatest number of 64 bits
abbrev pub cost_with : Limits → FenceSet → Report → ℕ
cost_with s set r = min (plan_cost (tariff_of s) (plan_of s.greatest_batch set r.audits.items)) 18446744073709551615

-- the costs with each set of fences, and how many submissions have no price
pub record AreCosts (s : Limits) (r : Report) (c : Costs) : Type 0 where
  pub recorded : c.recorded ≡ cost_with s Recorded r
  pub corrected : c.corrected ≡ cost_with s Corrected r
  pub reduced : c.reduced ≡ cost_with s Reduced r
  pub unpriced : c.unpriced ≡ count_by (λ a. not (has_price s.greatest_batch a.is_batch a.fences.items)) r.audits.items

-- ---- for private clauses

-- what a submission costs with these fences; nothing where it has no price
abbrev pub submission_cost : Limits → Bool → Group → ℕ
submission_cost s is_batch group =
    if has_price s.greatest_batch is_batch group then group_cost (tariff_of s) group else 0
