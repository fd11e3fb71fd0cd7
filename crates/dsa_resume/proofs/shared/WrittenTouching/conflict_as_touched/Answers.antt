use Rattle.dsa_resume.proofs.shared.WrittenTouching.conflict_as_touched.Goals as goal

pub returns : goal.returns
returns c ps i j = (λ h. h, λ h. h)
