use Rattle.dsa_execution.proofs.laws.machine_has_operations_ranges.Goals as goal

pub returns : goal.returns
returns c = record { conflict_at = λ operations i j. (λ h. h, λ h. h); holds = λ m o. (λ h. h, λ h. h) }
