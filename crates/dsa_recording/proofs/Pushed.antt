-- One more audit, and the findings of one more member.
use Rattle.std.proofs.Common.{◌≡◌, ℕ, zero, suc, ◌+◌, ◌<◌, ◌≤◌, List, [], ◌∷◌, ◌++◌, Option, None, length, get_or, take, sym, ap, subst, ◌∙◌, arith}
use Rattle.std.proofs.lemmas.List.{take_more, take_all, append_assoc, append-nil}
use Rattle.dsa_recording.specs.Pairs.{Terms}
use Rattle.dsa_recording.specs.declared.findings.Finding.{Finding}
use Rattle.dsa_recording.specs.declared.stream.Submission.{Submission}
use Rattle.dsa_recording.specs.declared.submission.Audited.{Audited}
use Rattle.dsa_recording.specs.Submissions.{IsAudited, AreAudited}
use Rattle.dsa_recording.specs.declared.findings.FindingKind.{FindingKind}
use Rattle.dsa_recording.specs.declared.findings.Place.{Place}
use Rattle.dsa_recording.specs.declared.findings.Place.TheVariants.{Member}
use Rattle.dsa_recording.specs.Findings.{finding_of, all_found, member_kinds, findings_upto}

-- ---- audits

one_audited : (assumed : Terms) (es : List (List ℕ)) (ss : List Submission) (audits : List Audited) (s : Submission) (a : Audited) → AreAudited assumed es ss audits → IsAudited assumed es s a
    → AreAudited assumed es (ss ++ s ∷ []) (audits ++ a ∷ [])
one_audited assumed es [] [] s a all here = (here, tt)
one_audited assumed es (t ∷ ss) (b ∷ audits) s a (first, all) here = (first, one_audited assumed es ss audits s a all here)
one_audited assumed es [] (b ∷ audits) s a all here = absurd all
one_audited assumed es (t ∷ ss) [] s a all here = absurd all

pub audit_pushed : (assumed : Terms) (es : List (List ℕ)) (ss : List Submission) (i : ℕ) (d : Submission) (audits more : List Audited) (a : Audited) → AreAudited assumed es (take i ss) audits
    → i < length ss → IsAudited assumed es (get_or ss i d) a → more ≡ audits ++ a ∷ [] → AreAudited assumed es (take (i + 1) ss) more
audit_pushed assumed es ss i d audits more a all lt here e =
    let next : take (i + 1) ss ≡ take i ss ++ get_or ss i d ∷ [] = take_more ss i d lt in
    rw (next, e) (one_audited assumed es (take i ss) audits (get_or ss i d) a all here)

pub all_audited : (assumed : Terms) (es : List (List ℕ)) (ss : List Submission) (i : ℕ) (audits : List Audited) → AreAudited assumed es (take i ss) audits → length ss ≤ i → AreAudited assumed es ss audits
all_audited assumed es ss i audits all le = subst (λ (z : List Submission). AreAudited assumed es z audits) (take_all i ss le) all

-- ---- findings

-- what is found of a place, kind by kind
pub found_more : (number : ℕ) (place : Place) (kinds : List (Option (FindingKind ℕ))) (i : ℕ) → i < length kinds
    → all_found number place (take (suc i) kinds) ≡ all_found number place (take i kinds) ++ finding_of number place (get_or kinds i None)
found_more number place [] i lt = absurd (omega arith)
found_more number place (k ∷ kinds) zero lt = append-nil (finding_of number place k)
found_more number place (k ∷ kinds) (suc i) lt =
    ap (λ (l : List Finding). finding_of number place k ++ l) (found_more number place kinds i (omega (arith, lt)))
    ∙ sym (append_assoc (finding_of number place k) (all_found number place (take i kinds)) (finding_of number place (get_or kinds i None)))

pub kind_pushed : (number : ℕ) (place : Place) (kinds : List (Option (FindingKind ℕ))) (i : ℕ) (old before after : List Finding) → i < length kinds
    → before ≡ old ++ all_found number place (take i kinds) → after ≡ before ++ finding_of number place (get_or kinds i None)
    → after ≡ old ++ all_found number place (take (i + 1) kinds)
kind_pushed number place kinds i old before after lt so_far now =
    let one : List Finding = finding_of number place (get_or kinds i None) in
    let here : after ≡ old ++ all_found number place (take (suc i) kinds) = now ∙ (ap (λ (l : List Finding). l ++ one) so_far
    ∙ (append_assoc old (all_found number place (take i kinds)) one ∙ ap (λ (l : List Finding). old ++ l) (sym (found_more number place kinds i lt)))) in
    let next : suc i ≡ i + 1 = omega arith in
    subst (λ (n : ℕ). after ≡ old ++ all_found number place (take n kinds)) next here

pub member_pushed : (number : ℕ) (a : Audited) (k : ℕ) (old before after : List Finding) (kinds : List (Option (FindingKind ℕ)))
    → before ≡ old ++ findings_upto number a k → kinds ≡ member_kinds a k → after ≡ before ++ all_found number (Member k) kinds → after ≡ old ++ findings_upto number a (k + 1)
member_pushed number a k old before after kinds so_far are now =
    let found : List Finding = all_found number (Member k) (member_kinds a k) in
    let same : all_found number (Member k) kinds ≡ found = ap (all_found number (Member k)) are in
    let here : after ≡ old ++ findings_upto number a (suc k) = now ∙ (ap (λ (l : List Finding). l ++ all_found number (Member k) kinds) so_far
    ∙ (ap (λ (l : List Finding). (old ++ findings_upto number a k) ++ l) same ∙ append_assoc old (findings_upto number a k) found)) in
    let next : suc k ≡ k + 1 = omega arith in
    subst (λ (n : ℕ). after ≡ old ++ findings_upto number a n) next here
