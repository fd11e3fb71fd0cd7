-- What is written for a line that is held.
use Rattle.std.proofs.Common.{◌≡◌, ◌⊎◌, inl, inr, ℕ, ◌<◌, Bool, true, false, List, length, take, Option, Some, None, Err, refl, ap, subst, ◌∙◌}
use Rattle.std.specs.Bool.{OnTrue, OnFalse}
use Rattle.std.specs.Io.KnownBytes.{Appends}
use Rattle.dsa_calls.specs.declared.fault.PlanFault.{PlanFault}
use Rattle.dsa_calls.specs.Fault.{refusal_line}
use Rattle.dsa_report.specs.declared.serving.Served.{Served}
use Rattle.dsa_report.specs.declared.serving.Served.TheVariants.{Answered, Refused}
use Rattle.dsa_report.specs.Answer.{IsJobOutcome, out_of_memory, is_too_long}
use Rattle.dsa_report.specs.Gives.{WritesAnswer, WritesPrefix}
use Rattle.dsa_jobs.specs.declared.line.Line.{Line}
use Rattle.dsa_jobs.specs.Held.{IsRefused, Keeps, Holds}

outcome_refused : (fault : PlanFault) (text : List ℕ) → IsRefused fault text → IsJobOutcome text (Err fault)
outcome_refused fault text (some, inl is) = out_of_memory (ap Err is)
outcome_refused fault text (some, inr (is, long)) = is_too_long long (ap Err is)

refused_text : (held : Line) (fault : PlanFault) (text : List ℕ) → held.refused ≡ Some fault → Holds held text → IsRefused fault text
refused_text held fault text is holds = subst (λ (r : Option PlanFault). Keeps r held.bytes.items text) is holds

kept_text : (held : Line) (text : List ℕ) → held.refused ≡ None → Holds held text → held.bytes.items ≡ text
kept_text held text is holds = (subst (λ (r : Option PlanFault). Keeps r held.bytes.items text) is holds).0

-- the refusal was written
pub refused_whole : (held : Line) (fault : PlanFault) (line : List ℕ) (old new : Option (List ℕ)) (b : Bool) → held.refused ≡ Some fault → line ≡ refusal_line fault
    → OnTrue b (Appends old new line) → OnTrue b ((text : List ℕ) → Holds held text → (status : ℕ) × WritesAnswer text status old new)
refused_whole held fault line old new true refused is grown =
    λ text holds. (1, (line, (Err fault, outcome_refused fault text (refused_text held fault text refused holds), is, refl), grown))
refused_whole held fault line old new false refused is grown = tt

-- a part of it was
pub refused_part : (held : Line) (fault : PlanFault) (line : List ℕ) (old new : Option (List ℕ)) (b : Bool) → held.refused ≡ Some fault → line ≡ refusal_line fault
    → OnFalse b ((n : ℕ) × (n < length line) × Appends old new (take n line)) → OnFalse b ((text : List ℕ) → Holds held text → WritesPrefix text old new)
refused_part held fault line old new false refused is (n, short, grown) =
    λ text holds. (line, 1, n, (Err fault, outcome_refused fault text (refused_text held fault text refused holds), is, refl), short, grown)
refused_part held fault line old new true refused is grown = tt

-- the answer of the bytes that are held was written
kept_whole : (held : Line) (bytes : List ℕ) (old new : Option (List ℕ)) (status : ℕ) → held.refused ≡ None → bytes ≡ held.bytes.items → WritesAnswer bytes status old new
    → (text : List ℕ) → Holds held text → (status : ℕ) × WritesAnswer text status old new
kept_whole held bytes old new status none same wrote text holds =
    (status, subst (λ (t : List ℕ). WritesAnswer t status old new) (same ∙ kept_text held text none holds) wrote)

pub served_whole : (held : Line) (bytes : List ℕ) (old new : Option (List ℕ)) (served : Served) → held.refused ≡ None → bytes ≡ held.bytes.items → (served ≡ Answered) ⊎ (served ≡ Refused)
    → (served ≡ Answered → WritesAnswer bytes 0 old new) → (served ≡ Refused → WritesAnswer bytes 1 old new)
    → (text : List ℕ) → Holds held text → (status : ℕ) × WritesAnswer text status old new
served_whole held bytes old new served none same (inl is) answered refused = kept_whole held bytes old new 0 none same (answered is)
served_whole held bytes old new served none same (inr is) answered refused = kept_whole held bytes old new 1 none same (refused is)

-- a part of it was
pub kept_part : (held : Line) (bytes : List ℕ) (old new : Option (List ℕ)) → held.refused ≡ None → bytes ≡ held.bytes.items → WritesPrefix bytes old new
    → (text : List ℕ) → Holds held text → WritesPrefix text old new
kept_part held bytes old new none same wrote text holds = subst (λ (t : List ℕ). WritesPrefix t old new) (same ∙ kept_text held text none holds) wrote
