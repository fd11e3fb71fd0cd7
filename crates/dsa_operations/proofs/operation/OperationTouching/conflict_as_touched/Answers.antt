use Rattle.dsa_operations.proofs.operation.OperationTouching.conflict_as_touched.Goals as goal

pub returns : goal.returns
returns c ps i j = (λ h. h, λ h. h)
