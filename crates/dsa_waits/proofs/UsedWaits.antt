-- The accepted keys of missing waits.
use Rattle.std.proofs.Common.{◌≡◌, ℕ, ◌+◌, ◌<◌, ◌≤◌, ◌↔◌, ◌⊎◌, inl, inr, true, false, List, length, get_or, sym, subst, ◌∙◌, arith}
use Rattle.std.specs.List.{Contains}
use Rattle.std.proofs.lemmas.Bool.{cases_eq, cases_lt}
use Rattle.std.proofs.lemmas.List.{get_or_default}
use Rattle.std.proofs.lemmas.List.Elements.{Contains-get_or}
use Rattle.std.proofs.lemmas.Option.{slice_get_within}
use Rattle.dsa_audit.specs.Members.{KnownConflict}
use Rattle.dsa_recording.specs.declared.accepted.Accepted.{Accepted}
use Rattle.dsa_recording.specs.declared.stream.Submission.{Submission}
use Rattle.dsa_recording.specs.Pairs.{has_key}
use Rattle.dsa_recording.specs.Uses.{AddsKeys}
use Rattle.dsa_recording.proofs.Using.{adds_both, adds_none}
use Rattle.dsa_waits.specs.declared.course.Course.{Course}
use Rattle.dsa_waits.specs.Keys.{AreUsedKeys, IsWaitKey}
use Rattle.dsa_waits.specs.Steps.{AreOutstanding, HasSubmission, IsUsedPair, UsesBelow, UsesBetween, UsesFirst}
use Rattle.dsa_waits.specs.Waits.{IsCourse, IsMissingWait, IsOutstanding, submission_of}

-- ---- two entries

module _ (accepted : Accepted) (es : List (List ℕ)) (ss : List Submission) (c : Course) where
  -- no key is added, if they have none
  pub pair_without : (earlier later : ℕ) (used : Accepted) → ((key : List ℕ) → ¬ IsWaitKey es ss c earlier later key)
      → AddsKeys (IsUsedPair accepted es ss c earlier later) used used
  pair_without earlier later used none = adds_none (IsUsedPair accepted es ss c earlier later) used (λ key pair. none key pair.1)

  -- ---- one more

  pub first_none : (xs : List ℕ) (later : ℕ) (used : Accepted) → AddsKeys (UsesFirst accepted es ss c xs 0 later) used used
  first_none xs later used = adds_none (UsesFirst accepted es ss c xs 0 later) used (λ key uses. omega (arith, uses.1))

  first_cases : (xs : List ℕ) (n later : ℕ) (key : List ℕ) → UsesFirst accepted es ss c xs (n + 1) later key
      → UsesFirst accepted es ss c xs n later key ⊎ IsUsedPair accepted es ss c (get_or xs n 0) later key
  first_cases xs n later key (i, lt, pair) =
      elim (cases_eq i n) [
        | inl same ↦ inr (subst (λ (k : ℕ). IsUsedPair accepted es ss c (get_or xs k 0) later key) same pair)
        | inr unlike ↦ inl (i, omega (arith, lt, unlike), pair)
      ]

  first_wider : (xs : List ℕ) (n later : ℕ) (key : List ℕ) → UsesFirst accepted es ss c xs n later key → UsesFirst accepted es ss c xs (n + 1) later key
  first_wider xs n later key (i, lt, pair) = (i, omega (arith, lt), pair)

  pub first_more : (xs : List ℕ) (n later : ℕ) (old middle new : Accepted) → AddsKeys (UsesFirst accepted es ss c xs n later) old middle
      → AddsKeys (IsUsedPair accepted es ss c (get_or xs n 0) later) middle new → AddsKeys (UsesFirst accepted es ss c xs (n + 1) later) old new
  first_more xs n later old middle new first second =
      adds_both (UsesFirst accepted es ss c xs n later) (IsUsedPair accepted es ss c (get_or xs n 0) later) (UsesFirst accepted es ss c xs (n + 1) later) old middle new first second
      (λ key. (
        first_cases xs n later key,
        λ either. elim either [
          | inl before ↦ first_wider xs n later key before
          | inr here ↦ (n, omega arith, here)
        ],
      ))

  pub between_none : (xs : List ℕ) (from : ℕ) (used : Accepted) → AddsKeys (UsesBetween accepted es ss c xs from from) used used
  between_none xs from used = adds_none (UsesBetween accepted es ss c xs from from) used (λ key uses. omega (arith, uses.1, uses.2))

  -- nothing is used if nothing is accepted
  pub between_unaccepted : (xs : List ℕ) (from to : ℕ) (used : Accepted) → ((key : List ℕ) → has_key accepted key ≡ false)
      → AddsKeys (UsesBetween accepted es ss c xs from to) used used
  between_unaccepted xs from to used nothing = adds_none (UsesBetween accepted es ss c xs from to) used never where
    never : (key : List ℕ) → ¬ UsesBetween accepted es ss c xs from to key
    never key (later, le, lt, (i, within, (has, is))) = let end : true ≡ false = sym has ∙ nothing key in absurd cc

  between_cases : (xs : List ℕ) (from to : ℕ) (key : List ℕ) → UsesBetween accepted es ss c xs from (to + 1) key
      → UsesBetween accepted es ss c xs from to key ⊎ UsesFirst accepted es ss c xs (length xs) to key
  between_cases xs from to key (later, le, lt, uses) =
      elim (cases_eq later to) [
        | inl same ↦ inr (subst (λ (k : ℕ). UsesFirst accepted es ss c xs (length xs) k key) same uses)
        | inr unlike ↦ inl (later, le, omega (arith, lt, unlike), uses)
      ]

  between_wider : (xs : List ℕ) (from to : ℕ) (key : List ℕ) → UsesBetween accepted es ss c xs from to key → UsesBetween accepted es ss c xs from (to + 1) key
  between_wider xs from to key (later, le, lt, uses) = (later, le, omega (arith, lt), uses)

  pub between_more : (xs : List ℕ) (from to : ℕ) (old middle new : Accepted) → from ≤ to → AddsKeys (UsesBetween accepted es ss c xs from to) old middle
      → AddsKeys (UsesFirst accepted es ss c xs (length xs) to) middle new → AddsKeys (UsesBetween accepted es ss c xs from (to + 1)) old new
  between_more xs from to old middle new le first second =
      adds_both (UsesBetween accepted es ss c xs from to) (UsesFirst accepted es ss c xs (length xs) to) (UsesBetween accepted es ss c xs from (to + 1)) old middle new first second
      (λ key. (
        between_cases xs from to key,
        λ either. elim either [
          | inl before ↦ between_wider xs from to key before
          | inr here ↦ (to, le, omega arith, here)
        ],
      ))

  -- ---- a submission

  missing_of : (n : ℕ) (xs : List ℕ) (later i : ℕ) → AreOutstanding c n xs → submission_of c later ≡ n → i < length xs → KnownConflict c.members.items (get_or xs i 0) later
      → IsMissingWait c (get_or xs i 0) later
  missing_of n xs later i are own lt conflict =
      let x : ℕ = get_or xs i 0 in
      let there : Contains xs x = Contains-get_or xs i 0 lt in
      record {
        inside = are.inside x there;
        before = omega (arith, own, are.before x there);
        in_flight = subst (λ (m : ℕ). IsOutstanding c x m) (sym own) (are.are x there);
        conflict = conflict;
      }

  place_of : (xs : List ℕ) (x : ℕ) → Contains xs x → (i : ℕ) × (i < length xs) × (get_or xs i 0 ≡ x)
  place_of xs x (k, lt, is) = (k, lt, get_or_default xs k 0 x lt ∙ is)

  below_new : (n from end : ℕ) (xs : List ℕ) (key : List ℕ) → AreOutstanding c n xs → HasSubmission c n from end
      → UsesBetween accepted es ss c xs from end key → UsesBelow accepted es ss c end key
  below_new n from end xs key are own (later, le, lt, (i, within, (has, is))) =
      (has, (get_or xs i 0, later, lt, missing_of n xs later i are (own later le lt) within is.1, is))

  below_old : (from end : ℕ) (key : List ℕ) → from ≤ end → UsesBelow accepted es ss c from key → UsesBelow accepted es ss c end key
  below_old from end key le (has, (earlier, later, lt, wait, is)) = (has, (earlier, later, omega (arith, lt, le), wait, is))

  below_cases : (n from end : ℕ) (xs : List ℕ) (key : List ℕ) → AreOutstanding c n xs → HasSubmission c n from end
      → UsesBelow accepted es ss c end key → UsesBelow accepted es ss c from key ⊎ UsesBetween accepted es ss c xs from end key
  below_cases n from end xs key are own (has, (earlier, later, lt, wait, is)) =
      elim (cases_lt later from) [
        | inl low ↦ inl (has, (earlier, later, low, wait, is))
        | inr high ↦
            let same : submission_of c later ≡ n = own later high lt in
            let place = place_of xs earlier
            (are.all earlier wait.inside (omega (arith, same, wait.before)) (subst (λ (m : ℕ). IsOutstanding c earlier m) same wait.in_flight)) in
            inr (later, high, lt, (place.0, place.1, (has, subst (λ (x : ℕ). IsWaitKey es ss c x later key) (sym place.2) is)))
      ]

  -- with the keys of its entries, those that are used are of all entries up to its end
  pub below_more : (n from end : ℕ) (xs : List ℕ) (old new : Accepted) → AreOutstanding c n xs → HasSubmission c n from end → from ≤ end
      → AddsKeys (UsesBetween accepted es ss c xs from end) old new → ((key : List ℕ) → (has_key old key ≡ true) ↔ UsesBelow accepted es ss c from key)
      → (key : List ℕ) → (has_key new key ≡ true) ↔ UsesBelow accepted es ss c end key
  below_more n from end xs old new are own le adds before key = (
    λ has. elim ((adds key).0 has) [
      | inl there ↦ below_old from end key le ((before key).0 there)
      | inr here ↦ below_new n from end xs key are own here
    ],
    λ uses. elim (below_cases n from end xs key are own uses) [
      | inl there ↦ (adds key).1 (inl ((before key).1 there))
      | inr here ↦ (adds key).1 (inr here)
    ],
  )

  -- before all events none is used
  pub below_none : (used : Accepted) → ((key : List ℕ) → has_key used key ≡ false) → (key : List ℕ) → (has_key used key ≡ true) ↔ UsesBelow accepted es ss c 0 key
  below_none used none key = (
    λ has. let end : true ≡ false = sym has ∙ none key in absurd cc,
    λ uses. absurd (omega (arith, uses.1.2)),
  )

  used_within : (key : List ℕ) → IsCourse c → (has_key accepted key ≡ true) × ((earlier : ℕ) × (later : ℕ) × IsMissingWait c earlier later × IsWaitKey es ss c earlier later key)
      → UsesBelow accepted es ss c (length c.entries.items) key
  used_within key course (has, (earlier, later, wait, is)) =
      let known = wait.conflict in
      (has, (earlier, later, omega (arith, slice_get_within c.members.items later known.1 known.3, course.members), wait, is))

  used_of : (key : List ℕ) → UsesBelow accepted es ss c (length c.entries.items) key
      → (has_key accepted key ≡ true) × ((earlier : ℕ) × (later : ℕ) × IsMissingWait c earlier later × IsWaitKey es ss c earlier later key)
  used_of key (has, (earlier, later, lt, wait, is)) = (has, (earlier, later, wait, is))

  -- after all of them those of all missing waits are
  pub used_all : (used : Accepted) (to : ℕ) → IsCourse c → to ≡ length c.entries.items → ((key : List ℕ) → (has_key used key ≡ true) ↔ UsesBelow accepted es ss c to key)
      → AreUsedKeys accepted es ss c used
  used_all used to course end below key =
      let all = subst (λ (n : ℕ). (has_key used key ≡ true) ↔ UsesBelow accepted es ss c n key) end (below key) in
      (λ has. used_of key (all.0 has), λ uses. all.1 (used_within key course uses))
