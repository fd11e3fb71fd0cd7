-- What is proved of each job by a case of its own.
use Rattle.std.proofs.Common.{◌≡◌, ◌≢◌, ◌<◌, ◌≤◌, ◌⊎◌, inl, inr, ℕ, Bool, ◌&&◌, List, [], ◌∷◌, map, get_or, true, true≢false, Result, Err, refl, sym, ap, ◌∙◌, arith}
use Rattle.std.specs.Ordering.{is_lt, nat_cmp}
use Rattle.std.specs.Cmp.Lexicographic.{slice_cmp}
use Rattle.std.proofs.lemmas.Slice.Eq.{bytes_eq-Decides}
use Rattle.serde_json.specs.Data.{Data}
use Rattle.dsa_calls.specs.declared.fault.PlanFault.{PlanFault}
use Rattle.dsa_calls.specs.Laws.{HasBegun, HasBrokenOff}
use Rattle.dsa_calls.specs.Judge.{Judges}
use Rattle.dsa_calls.specs.Planned.{Plans}
use Rattle.dsa_calls.specs.Checked.{Checks}
use Rattle.dsa_calls.specs.Runs.{Left, Replays}
use Rattle.dsa_calls.proofs.JudgedOnce.{one_judged}
use Rattle.dsa_calls.proofs.Submissions.{one_planned}
use Rattle.dsa_calls.proofs.BytesChecked.{one_checked}
use Rattle.dsa_calls.proofs.Histories.{one_replayed, one_run}
use Rattle.dsa_cert.proofs.Objects.{are_apart}
use Rattle.dsa_report.specs.declared.jobs.JobName.{JobName}
use Rattle.dsa_report.specs.declared.jobs.JobName.TheVariants.{Judge, Plan, Check, Replay, Run}
use Rattle.dsa_report.specs.Job.{Member, the_name, the_settings, members_of, member_name, is_among, name_text}
use Rattle.dsa_report.specs.Calls.{Call, JobOutcome, JobOutcomeOf, job_outcome_of, cost_value, planned_value, left_value, AnswersCall}
use Rattle.dsa_report.specs.Laws.{CutsShort}

-- ---- one row

-- a name is spelled in one way
pub same_name : (name other : JobName) → name_text name ≡ name_text other → name ≡ other
same_name Judge Judge e = refl
same_name Judge _ e = absurd (true≢false (sym ((bytes_eq-Decides _ _).1 e)))
same_name Plan Plan e = refl
same_name Plan _ e = absurd (true≢false (sym ((bytes_eq-Decides _ _).1 e)))
same_name Check Check e = refl
same_name Check _ e = absurd (true≢false (sym ((bytes_eq-Decides _ _).1 e)))
same_name Replay Replay e = refl
same_name Replay _ e = absurd (true≢false (sym ((bytes_eq-Decides _ _).1 e)))
same_name Run Run e = refl
same_name Run _ e = absurd (true≢false (sym ((bytes_eq-Decides _ _).1 e)))

-- each name is less than the next, byte by byte, as an object lists them
abbrev pub are_ascending : List (List ℕ) → Bool
are_ascending [] = true
are_ascending (name ∷ []) = true
are_ascending (name ∷ next ∷ names) = is_lt (slice_cmp nat_cmp name next) && are_ascending (next ∷ names)

-- the members are a row: they have the name and the settings, no member twice, and their names ascend (as in every object:
-- with any other order each value would be refused)
pub record IsRow (members : List Member) : Type 0 where
  pub named : is_among the_name members ≡ true
  pub set : is_among the_settings members ≡ true
  pub apart : are_apart (map member_name members) ≡ true
  pub ordered : are_ascending (map member_name members) ≡ true

pub row : (name : JobName) → IsRow (members_of name)
row Judge = record { named = refl; set = refl; apart = refl; ordered = refl }
row Plan = record { named = refl; set = refl; apart = refl; ordered = refl }
row Check = record { named = refl; set = refl; apart = refl; ordered = refl }
row Replay = record { named = refl; set = refl; apart = refl; ordered = refl }
row Run = record { named = refl; set = refl; apart = refl; ordered = refl }

-- ---- the name of a job

-- the jobs in the order in which a name is looked for
abbrev pub in_order : List JobName
in_order = Judge ∷ Plan ∷ Check ∷ Replay ∷ Run ∷ []

-- where none of them goes by the name, no job does
pub none_named : (text : List ℕ) (n : ℕ) → 5 ≤ n → ((k : ℕ) → k < n → name_text (get_or in_order k Judge) ≢ text) → (name : JobName) → name_text name ≢ text
none_named text n le before Judge = before 0 (omega arith)
none_named text n le before Plan = before 1 (omega arith)
none_named text n le before Check = before 2 (omega arith)
none_named text n le before Replay = before 3 (omega arith)
none_named text n le before Run = before 4 (omega arith)

-- ---- one outcome

-- no allocation failed and no run broke off
abbrev pub IsWhole : JobOutcome → Type 0
IsWhole outcome = (fault : PlanFault) → CutsShort fault → outcome ≢ Err fault

-- the outcome of a run that broke off is not whole
not_broken : (outcome : JobOutcome) (found : Result Left PlanFault) → outcome ≡ job_outcome_of left_value found → HasBrokenOff found → IsWhole outcome → ⊥
not_broken outcome found is (fault, broke, breaks) whole =
    whole fault (inr breaks) (is ∙ ap (λ (o : Result Left PlanFault). job_outcome_of left_value o) broke)

-- where a call finds one thing, it has one outcome
one_found : {X : Type 0} (value : X → Data) (Finds : Result X PlanFault → Type 0) → ((o p : Result X PlanFault) → Finds o → Finds p → o ≡ p)
    → (outcome other : JobOutcome) → JobOutcomeOf value Finds outcome → JobOutcomeOf value Finds other → outcome ≡ other
one_found {X} value Finds one outcome other (found, finds, is) (found', finds', is') =
    is ∙ ap (λ (o : Result X PlanFault). job_outcome_of value o) (one found found' finds finds') ∙ sym is'

-- a call has one outcome, unless it is cut short
pub one_outcome_of_call : (call : Call) (outcome other : JobOutcome) → AnswersCall call outcome → AnswersCall call other → IsWhole outcome → IsWhole other → outcome ≡ other
one_outcome_of_call (Judge, a) outcome other says says' _ _ =
    one_found cost_value (λ o. Judges a.list a.plan a.settings o) (λ o p. one_judged a.list a.plan a.settings o p) outcome other says says'
one_outcome_of_call (Plan, a) outcome other says says' _ _ =
    one_found planned_value (λ o. Plans a.list a.settings o) (λ o p. one_planned a.list a.settings o p) outcome other says says'
one_outcome_of_call (Check, a) outcome other says says' _ _ =
    one_found cost_value (λ o. Checks a.portal a.staging a.settings a.certificate o) (λ o p. one_checked a.portal a.staging a.settings a.certificate o p)
    outcome other says says'
one_outcome_of_call (Replay, a) outcome other says says' _ _ =
    one_found left_value (λ o. Replays a.list a.settings a.image a.engines a.trace o) (λ o p. one_replayed a.list a.settings a.image a.engines a.trace o p)
    outcome other says says'
one_outcome_of_call (Run, a) outcome other (found, runs, is) (found', runs', is') whole whole' =
    go (one_run a.list a.settings a.image a.engines found found' runs runs')
  where
    go : (found ≡ found') ⊎ (HasBegun found × HasBegun found' × (HasBrokenOff found ⊎ HasBrokenOff found')) → outcome ≡ other
    go (inl same) = is ∙ ap (λ (o : Result Left PlanFault). job_outcome_of left_value o) same ∙ sym is'
    go (inr (_, _, inl broken)) = absurd (not_broken outcome found is broken whole)
    go (inr (_, _, inr broken)) = absurd (not_broken other found' is' broken whole')
