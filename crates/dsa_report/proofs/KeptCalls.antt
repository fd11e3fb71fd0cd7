-- A call is answered as what is kept of it.
use Rattle.std.proofs.Common.{◌≡◌, inl, inr, ℕ, ◌+◌, ◌≤◌, List, length, map, Result, Ok, Err, refl, sym, subst, ◌∙◌, arith}
use Rattle.std.proofs.lemmas.List.{take_all}
use Rattle.dsa_descriptor.specs.Descriptors.{fields}
use Rattle.dsa_descriptor.specs.Fields.{Fields}
use Rattle.dsa_ranges.specs.Pieces.{DescriptorConflictAt}
use Rattle.dsa_ranges.specs.Ranges.{ConflictAt}
use Rattle.dsa_plan.specs.Certificate.{Contents}
use Rattle.dsa_settings.specs.Plan.{Plan, Tariff}
use Rattle.dsa_settings.specs.Settings.{Limits, tariff_of, version_of}
use Rattle.dsa_checker.specs.Checked.{HasLengths, IsFirstCheckFault}
use Rattle.dsa_checker.specs.declared.fault.CheckFault.{CheckFault}
use Rattle.dsa_checker.specs.declared.fault.CheckFault.TheVariants.{Plan as BadPlan, Version, Lengths, Pair, Price, Total}
use Rattle.dsa_calls.specs.declared.fault.PlanFault.{PlanFault}
use Rattle.dsa_calls.specs.Checked.{Checks, ChecksPlanBy}
use Rattle.dsa_calls.specs.Judge.{Judges, JudgesPieces, sizes_of}
use Rattle.dsa_cert.specs.Document.{kept_contents, most_pairs, most_prices}
use Rattle.dsa_report.specs.declared.jobs.JobName.TheVariants.{Judge, Plan as PlanList, Check, Replay, Run}
use Rattle.dsa_report.specs.Laws.{KeptIsAnsweredAlike}
use Rattle.dsa_report.specs.Plan.{kept_plan, most_groups}
use Rattle.dsa_report.proofs.KeptPlans.{AreAlike, alike_kept, alike_other, fault_same, legal_same}
use Rattle.dsa_report.proofs.SettingsRead.{take_short}

-- ---- plans

module _ (p q : Plan) (alike : AreAlike most_groups p q) (settings : Limits) where
  pieces_alike : (pieces : List Fields) (outcome : Result ℕ PlanFault) → JudgesPieces pieces p settings outcome → JudgesPieces pieces q settings outcome
  pieces_alike pieces (Ok cost) (few, fit, legal, is) =
      let same = legal_same (ConflictAt pieces) settings.greatest_batch most_groups (length (sizes_of pieces)) (omega (arith, few)) p q alike legal in
      subst (λ (x : Plan). JudgesPieces pieces x settings (Ok cost)) same (few, fit, legal, is)
  pieces_alike pieces (Err cause) (inl many) = inl many
  pieces_alike pieces (Err cause) (inr (inl over)) = inr (inl over)
  pieces_alike pieces (Err cause) (inr (inr (fault, is, few, fit, first))) =
      inr (inr (fault, is, few, fit, fault_same (ConflictAt pieces) settings.greatest_batch most_groups (length (sizes_of pieces)) (omega (arith, few)) p q alike fault first))

  judged_alike : (bytes : List ℕ) (outcome : Result ℕ PlanFault) → Judges bytes p settings outcome → Judges bytes q settings outcome
  judged_alike bytes outcome (inl no_list) = inl no_list
  judged_alike bytes outcome (inr (ds, list, says)) = inr (ds, list, pieces_alike (map fields ds) outcome says)

-- ---- certificates

-- of a certificate and what is kept of it, if either has the lengths for so many pieces they are one
record AreOne (n : ℕ) (c d : Contents) : Type 0 where
  version : c.version ≡ d.version
  same : HasLengths n c → c ≡ d
  same_other : HasLengths n d → d ≡ c

one_kept : (n : ℕ) (c : Contents) → n ≤ 65536 → AreOne n c (kept_contents c)
one_kept n c few = record { version = refl; same = whole; same_other = kept }
  where
    whole : HasLengths n c → c ≡ kept_contents c
    whole lengths =
        let prices = sym (take_all most_prices c.prices (omega (arith, lengths.prices, few))) in
        let pairs = sym (take_all most_pairs c.pairs (omega (arith, lengths.pairs, few))) in
        λ i. record { version = c.version; prices = prices i; pairs = pairs i }

    kept : HasLengths n (kept_contents c) → kept_contents c ≡ c
    kept lengths =
        let prices = take_short most_prices (n + 1) c.prices lengths.prices (omega (arith, few)) in
        let pairs = take_short most_pairs n c.pairs lengths.pairs (omega (arith, few)) in
        λ i. record { version = c.version; prices = prices i; pairs = pairs i }

one_other : (n : ℕ) (c d : Contents) → AreOne n c d → AreOne n d c
one_other n c d one = record { version = sym one.version; same = one.same_other; same_other = one.same }

module _ (C : ℕ → ℕ → Type 0) (greatest_batch : ℕ) (tariff : Tariff) (version n : ℕ) (plan : Plan) (c d : Contents) (one : AreOne n c d) where
  check_alike : (fault : CheckFault) → IsFirstCheckFault C greatest_batch tariff version n plan c fault → IsFirstCheckFault C greatest_batch tariff version n plan d fault
  check_alike (BadPlan fault) first = first
  check_alike Version (legal, other) = (legal, λ e. other (one.version ∙ e))
  check_alike Lengths (legal, same, none) = (legal, sym one.version ∙ same, λ lengths. none (subst (HasLengths n) (one.same_other lengths) lengths))
  check_alike (Pair i) first = subst (λ (x : Contents). IsFirstCheckFault C greatest_batch tariff version n plan x (Pair i)) (one.same first.0.lengths) first
  check_alike (Price i j) first = subst (λ (x : Contents). IsFirstCheckFault C greatest_batch tariff version n plan x (Price i j)) (one.same first.0.lengths) first
  check_alike Total first = subst (λ (x : Contents). IsFirstCheckFault C greatest_batch tariff version n plan x Total) (one.same first.0.lengths) first

plan_alike : (C : ℕ → ℕ → Type 0) (s : Limits) (n : ℕ) (plan : Plan) (c d : Contents) → AreOne n c d → (outcome : Result ℕ PlanFault) → ChecksPlanBy C s n plan c outcome → ChecksPlanBy C s n plan d outcome
plan_alike C s n plan c d one (Ok cost) shown =
    let same = one.same (record { prices = shown.good.price_count; pairs = shown.good.pair_count }) in
    subst (λ (x : Contents). ChecksPlanBy C s n plan x (Ok cost)) same shown
plan_alike C s n plan c d one (Err cause) (fault, is, first) = (fault, is, check_alike C s.greatest_batch (tariff_of s) (version_of s) n plan c d one fault first)

checked_alike : (portal staging : List ℕ) (s : Limits) (c d : Contents) → ((n : ℕ) → n ≤ 65536 → AreOne n c d) → (outcome : Result ℕ PlanFault) → Checks portal staging s c outcome → Checks portal staging s d outcome
checked_alike portal staging s c d one outcome (inl no_emission) = inl no_emission
checked_alike portal staging s c d one outcome (inr (plan, ds, emission, says)) =
    inr (plan, ds, emission, plan_alike (DescriptorConflictAt ds) s (length ds) plan c d (one (length ds) emission.can_be.few) outcome says)

-- ---- calls

pub kept_is_answered_alike : KeptIsAnsweredAlike
kept_is_answered_alike (Judge, a) outcome =
    let alike = alike_kept most_groups a.plan in (
      λ says. (says.0, judged_alike a.plan (kept_plan a.plan) alike a.settings a.list says.0 says.1, says.2),
      λ says. (says.0, judged_alike (kept_plan a.plan) a.plan (alike_other most_groups a.plan (kept_plan a.plan) alike) a.settings a.list says.0 says.1, says.2),
    )
kept_is_answered_alike (PlanList, a) outcome = (λ says. says, λ says. says)
kept_is_answered_alike (Check, a) outcome = (
  λ says. (says.0, checked_alike a.portal a.staging a.settings a.certificate (kept_contents a.certificate) (λ n few. one_kept n a.certificate few) says.0 says.1, says.2),
  λ says. (says.0, checked_alike a.portal a.staging a.settings (kept_contents a.certificate) a.certificate (λ n few. one_other n a.certificate (kept_contents a.certificate) (one_kept n a.certificate few)) says.0 says.1, says.2),
)
kept_is_answered_alike (Replay, a) outcome = (λ says. says, λ says. says)
kept_is_answered_alike (Run, a) outcome = (λ says. says, λ says. says)
