-- What resuming a list of C answers, from its parts.
use Rattle.std.proofs.Common.{◌≡◌, inr, ℕ, ◌<◌, List, length, Ok, ap, subst, ◌∙◌}
use Rattle.dsa_settings.specs.Settings.{Limits}
use Rattle.dsa_resume.specs.declared.left.LeftOrder.{LeftOrder}
use Rattle.dsa_resume.specs.Rest.{Remainder}
use Rattle.dsa_operations.specs.declared.operation.Operation.{Operation}
use Rattle.dsa_lists.specs.Resuming.{IsListAgain, ResumesAnyList, rest_bytes}
use Rattle.dsa_c.specs.declared.settings.RawSettings.{RawSettings}
use Rattle.dsa_c.specs.declared.refusal.RawRefusal.{RawRefusal}
use Rattle.dsa_c.specs.Preparing.{refusal_at}
use Rattle.dsa_c.specs.Raw.{limits_of, AreSettings}
use Rattle.dsa_c.specs.Resuming.{order_of, IsLeftOf, RefusesResume}

module _ (s : RawSettings) (table list records given_up : List ℕ) (failed_first : ℕ) (l : Limits) (order : LeftOrder) (is : l ≡ limits_of s table) (are : AreSettings s table)
    (same : order ≡ order_of failed_first) where
  -- what is left under the settings that the numbers are
  pub left_of_settings : (rest : Remainder Operation) → ResumesAnyList l list records given_up order (Ok rest) → IsListAgain l rest → IsLeftOf s table list records given_up failed_first rest
  left_of_settings rest resumes again = record {
    settings = are;
    resumed =
        subst (λ (o : LeftOrder). ResumesAnyList (limits_of s table) list records given_up o (Ok rest)) same
        (subst (λ (x : Limits). ResumesAnyList x list records given_up order (Ok rest)) is resumes);
    again = subst (λ (x : Limits). IsListAgain x rest) is again;
  }

-- the buffer is too small
pub refuses_room : (s : RawSettings) (table list records given_up : List ℕ) (failed_first room : ℕ) (rest : Remainder Operation) (bytes : List ℕ) (r : RawRefusal) (count : ℕ)
    → IsLeftOf s table list records given_up failed_first rest → bytes ≡ rest_bytes rest → room < length bytes → r ≡ refusal_at 93 count 0 → count ≡ length bytes
    → RefusesResume s table list records given_up failed_first room r
refuses_room s table list records given_up failed_first room rest bytes r count left same short value is =
    inr (rest, left, subst (λ (bs : List ℕ). room < length bs) same short, value ∙ ap (λ (n : ℕ). refusal_at 93 n 0) (is ∙ ap length same))
