-- What the statuses of several files are.
use Rattle.std.proofs.Common.{◌≡◌, ◌≢◌, ◌↔◌, ◌⊎◌, ℕ, ◌+◌, inl, inr, Bool, true, false, List, [], ◌∷◌, ◌++◌, length, length-append, Option, Some, None, refl, sym, ap, subst, ◌∙◌, arith}
use Rattle.std.proofs.lemmas.Bool.{cases_eq}
use Rattle.std.proofs.lemmas.List.{map-append}
use Rattle.dsa_recording.specs.declared.accepted.Accepted.{Accepted}
use Rattle.dsa_recording.specs.declared.answer.AuditAnswer.{AuditAnswer}
use Rattle.dsa_recording.specs.declared.answer.AuditFormat.{AuditFormat}
use Rattle.dsa_recording.specs.declared.answer.AuditOptions.{AuditOptions}
use Rattle.dsa_recording.specs.Inputs.{AnswersInput}
use Rattle.dsa_recording.specs.Pairs.{has_key}
use Rattle.dsa_recording.proofs.Found.{all_append, all_map}
use Rattle.clap.specs.declared.parser.matches.ArgMatches.{ArgMatches}
use Rattle.dsa_text.specs.declared.auditing.Given.{Given}
use Rattle.dsa_text.specs.declared.stale.Stale.{Stale}
use Rattle.dsa_text.specs.Audited.{AuditsInput, IsFormat, Settle, denies_stale}
use Rattle.dsa_text.specs.Stale.{FindsStale, IsRaised, stale_numbers, stale_status}
use Rattle.dsa_text.specs.Files.{AreFileAnswers, AuditsFiles, IsFileAnswer, UsesSome, greatest}

-- the keys that are used in answers, and those of one more
used_more : (answers : List AuditAnswer) (a : AuditAnswer) (key : List ℕ) → UsesSome (answers ++ a ∷ []) key ↔ (UsesSome answers key ⊎ (has_key a.used key ≡ true))
used_more [] a key = (
  λ some. elim some [ inl here ↦ inr here | inr none ↦ absurd none ],
  λ either. elim either [ inl none ↦ absurd none | inr here ↦ inl here ],
)
used_more (b ∷ answers) a key =
    let rest = used_more answers a key in (
      λ some. elim some [
        | inl here ↦ inl (inl here)
        | inr later ↦ elim (rest.0 later) [ inl before ↦ inl (inr before) | inr last ↦ inr last ]
      ],
      λ either. elim either [
        | inl before ↦ elim before [ inl here ↦ inl here | inr later ↦ inr (rest.1 (inl later)) ]
        | inr last ↦ inr (rest.1 (inr last))
      ],
    )

-- of no files none are
pub no_answers : (Answers : List ℕ → AuditAnswer → Type 0) (used : Accepted) → ((key : List ℕ) → has_key used key ≡ false) → AreFileAnswers Answers 0 [] used
no_answers Answers used none = record {
  answers = [];
  count = refl;
  each = tt;
  statuses_are = refl;
  used_are = λ key. (λ has. let no : true ≡ false = sym has ∙ none key in absurd cc, λ some. absurd some);
}

-- with that of one more file
pub one_more : (Answers : List ℕ → AuditAnswer → Type 0) (n : ℕ) (statuses more : List ℕ) (used all : Accepted) (a : AuditAnswer) → AreFileAnswers Answers n statuses used
    → IsFileAnswer Answers a → more ≡ statuses ++ a.status ∷ []
    → ((key : List ℕ) → (has_key all key ≡ true) ↔ ((has_key used key ≡ true) ⊎ (has_key a.used key ≡ true))) → AreFileAnswers Answers (n + 1) more all
one_more Answers n statuses more used all a are is e adds =
    let longer : length (are.answers ++ a ∷ []) ≡ length are.answers + length (a ∷ []) = length-append are.answers (a ∷ []) in
    record {
      answers = are.answers ++ a ∷ [];
      count = omega (arith, longer, are.count);
      each = all_append (IsFileAnswer Answers) are.answers (a ∷ []) are.each (is, tt);
      statuses_are = e ∙ (ap (λ (xs : List ℕ). xs ++ a.status ∷ []) are.statuses_are ∙ sym (map-append (λ b. b.status) are.answers (a ∷ [])));
      used_are = λ key. (
        λ has. (used_more are.answers a key).1 (elim ((adds key).0 has) [
          | inl before ↦ inl ((are.used_are key).0 before)
          | inr last ↦ inr last
        ]),
        λ some. (adds key).1 (elim ((used_more are.answers a key).0 some) [
          | inl before ↦ inl ((are.used_are key).1 before)
          | inr last ↦ inr last
        ]),
      );
    }

answer_weaker : (A B : List ℕ → AuditAnswer → Type 0) (a : AuditAnswer) → ((input : List ℕ) → A input a → B input a) → IsFileAnswer A a → IsFileAnswer B a
answer_weaker A B a f (inl refused) = inl refused
answer_weaker A B a f (inr (input, is)) = inr (input, f input is)

-- where answers of one kind are of another, so is what several files come to
pub files_weaker : (m : ArgMatches) (accepted : Accepted) (A B : List ℕ → AuditAnswer → Type 0) (n status : ℕ) → ((input : List ℕ) (a : AuditAnswer) → A input a → B input a)
    → AuditsFiles m accepted A n status → AuditsFiles m accepted B n status
files_weaker m accepted A B n status f (inl refused) = inl refused
files_weaker m accepted A B n status f (inr (statuses, used, are, raised)) =
    inr (
      statuses,
      used,
      record {
        answers = are.answers;
        count = are.count;
        each = all_map (IsFileAnswer A) (IsFileAnswer B) are.answers (λ a is. answer_weaker A B a (λ input h. f input a h) is) are.each;
        statuses_are = are.statuses_are;
        used_are = are.used_are;
      },
      raised,
    )

-- ---- lines that are stale

-- the status with them
pub raised_by : (m : ArgMatches) (accepted used : Accepted) (format : AuditFormat) (numbers : List ℕ) (denied : Bool) (status raised : ℕ) → IsFormat m format
    → stale_numbers m format accepted used ≡ numbers → denied ≡ denies_stale m → raised ≡ stale_status denied numbers status → IsRaised m accepted used status raised
raised_by m accepted used format numbers denied status raised is same denies e =
    (format, is, e ∙ (ap (λ (b : Bool). stale_status b numbers status) denies ∙ ap (λ (ns : List ℕ). stale_status (denies_stale m) ns status) (sym same)))

none_raised : (denied : Bool) (status : ℕ) → stale_status denied [] status ≡ status
none_raised true status = refl
none_raised false status = refl

-- and without any
pub unraised : (m : ArgMatches) (accepted used : Accepted) (status : ℕ) → FindsStale m accepted used None → IsRaised m accepted used status status
unraised m accepted used status (format, is, none) =
    (format, is, sym (ap (λ (ns : List ℕ). stale_status (denies_stale m) ns status) none ∙ none_raised (denies_stale m) status))

two_stays : (denied : Bool) (numbers : List ℕ) → stale_status denied numbers 2 ≡ 2
two_stays false numbers = refl
two_stays true [] = refl
two_stays true (n ∷ ns) = refl

-- the status of files with the lines that are stale
pub with_lines : (m : ArgMatches) (accepted used : Accepted) (Answers : List ℕ → AuditAnswer → Type 0) (n status : ℕ) (statuses : List ℕ) (found : Option Stale) (s : Stale)
    → AreFileAnswers Answers n statuses used → (greatest statuses ≢ 2 → FindsStale m accepted used found) → found ≡ Some s
    → status ≡ stale_status s.is_denied s.numbers.items (greatest statuses) → AuditsFiles m accepted Answers n status
with_lines m accepted used Answers n status statuses found s are finds is e =
    elim (cases_eq (greatest statuses) 2) [
      | inl two ↦ inl (e ∙ (ap (λ (k : ℕ). stale_status s.is_denied s.numbers.items k) two ∙ two_stays s.is_denied s.numbers.items))
      | inr unlike ↦
          let stale : FindsStale m accepted used (Some s) = subst (FindsStale m accepted used) is (finds unlike) in
          inr (statuses, used, are, raised_by m accepted used stale.0 s.numbers.items s.is_denied (greatest statuses) status stale.1 stale.2 stale.3 e)
    ]

-- and without any
pub without_lines : (m : ArgMatches) (accepted used : Accepted) (Answers : List ℕ → AuditAnswer → Type 0) (n status : ℕ) (statuses : List ℕ) (found : Option Stale)
    → AreFileAnswers Answers n statuses used → (greatest statuses ≢ 2 → FindsStale m accepted used found) → found ≡ None → status ≡ greatest statuses
    → AuditsFiles m accepted Answers n status
without_lines m accepted used Answers n status statuses found are finds is e =
    elim (cases_eq (greatest statuses) 2) [
      | inl two ↦ inl (e ∙ two)
      | inr unlike ↦
          inr (
            statuses,
            used,
            are,
            subst (IsRaised m accepted used (greatest statuses)) (sym e) (unraised m accepted used (greatest statuses) (subst (FindsStale m accepted used) is (finds unlike))),
          )
    ]

-- what the options answer to an input without dumps is what `audit` does
pub as_audited : (m : ArgMatches) (g : Given) (o : AuditOptions) → g.dumps.now ≡ [] → Settle m g o → (input : List ℕ) (a : AuditAnswer) → AnswersInput o input a → AuditsInput m g input a
as_audited m g o none settle input a is = settle.answers input a (rw none is)
