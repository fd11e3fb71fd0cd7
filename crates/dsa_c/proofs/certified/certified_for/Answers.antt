use Rattle.std.proofs.Common.{inl, inr}
use Rattle.dsa_lists.specs.Submissions.{operation_submission_of}
use Rattle.dsa_c.proofs.certified.certified_for.Goals as goal

pub returns-in-Err-certified_of : goal.returns-in-Err-certified_of
returns-in-Err-certified_of c =
    let found = c.in-Ok.ensures in
    let short = c.in-Err-certified_of.ensures in (
      short.0,
      elim short.1 [ inl memory ↦ inl (inl (inr (inl (memory, found.0.settings)))) | inr lacks ↦ inr (operation_submission_of c.in-Ok.planned, found.0, found.1, lacks.0, lacks.1) ],
    )
