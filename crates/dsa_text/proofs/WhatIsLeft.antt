-- The refusal of what is said of the pieces.
use Rattle.std.proofs.Common.{◌≡◌, ◌⊎◌, inl, inr, ℕ}
use Rattle.std.specs.Prelude.{string_bytes}
use Rattle.dsa_advice.specs.declared.answer.Answer.{Answer}
use Rattle.dsa_resume.specs.declared.fault.ResumeFault.{ResumeFault}
use Rattle.dsa_resume.specs.declared.fault.ResumeFault.TheVariants.{Plan, NotFailed, PassedBarrier, Records, SharedRecord}
use Rattle.dsa_text.specs.Resumed.{IsResumeRefusal, NamesResume}

pub named_refusal : (fault : ResumeFault) (a : Answer) → a.status ≡ 1 → NamesResume fault (string_bytes a.text)
    → (fault ≡ Records) ⊎ ((i : ℕ) × (j : ℕ) × (fault ≡ SharedRecord i j)) ⊎ ((i : ℕ) × (fault ≡ NotFailed i)) ⊎ ((i : ℕ) × (j : ℕ) × (fault ≡ PassedBarrier i j)) → IsResumeRefusal fault a
named_refusal Records a status names other = (status, names)
named_refusal (SharedRecord i j) a status names other = (status, names)
named_refusal (NotFailed i) a status names other = (status, names)
named_refusal (PassedBarrier i j) a status names other = (status, names)
named_refusal (Plan fault) a status names (inl is) = absurd cc
named_refusal (Plan fault) a status names (inr (inl (i, j, is))) = absurd cc
named_refusal (Plan fault) a status names (inr (inr (inl (i, is)))) = absurd cc
named_refusal (Plan fault) a status names (inr (inr (inr (i, j, is)))) = absurd cc
