-- What a reading of a recording and its audits give.
use Rattle.std.proofs.Common.{◌≡◌, ℕ, ◌+◌, ◌<◌, Bool, true, false, List, [], ◌∷◌, length, All, refl, sym, ap, subst, ◌∙◌, arith}
use Rattle.std.specs.Prelude.{if◌then◌else◌, ◌==◌, slice_index_or}
use Rattle.std.specs.List.{AllByRecursion}
use Rattle.std.proofs.lemmas.List.{length-map}
use Rattle.std.proofs.lemmas.List.Elements.{All-from_recursion}
use Rattle.dsa_descriptor.specs.Lists.{entries}
use Rattle.dsa_descriptor.specs.Places.{u32_at, code_at}
use Rattle.dsa_recording.specs.Pairs.{Terms}
use Rattle.dsa_recording.specs.declared.stream.Submission.{Submission}
use Rattle.dsa_recording.specs.declared.submission.Audited.{Audited}
use Rattle.dsa_recording.specs.Streams.{submission_at, end_of, ReadsUpTo, ReadsStream}
use Rattle.dsa_descriptor.specs.Fences.{is_fenced}
use Rattle.dsa_recording.specs.Submissions.{head_at, members_in, IsWithin, IsAudited, AreAudited}
use Rattle.dsa_recording.specs.Findings.{HasAll}

head_by : (b : Bool) (n at : ℕ) → head_at (if b then record { first = at + 1; size = n; is_batch = true } else record { first = at; size = 1; is_batch = false }) ≡ at
head_by true n at = omega arith
head_by false n at = refl

pub head_of : (es : List (List ℕ)) (from : ℕ) → head_at (submission_at es from) ≡ from
unfolding submission_at
head_of es from = head_by (code_at (slice_index_or es from []) == 1) (u32_at 32 (slice_index_or es from [])) from

pub each_within : (es : List (List ℕ)) (from to : ℕ) (ss : List Submission) → ReadsUpTo es from ss to → AllByRecursion (IsWithin es) ss
each_within es from to [] r = tt
each_within es from to (s ∷ ss) (lt, is, le, rest) =
    let head : head_at s ≡ from = ap head_at is ∙ head_of es from in
    (record { head = subst (λ (n : ℕ). n < length es) (sym head) lt; members = le }, each_within es (end_of s) to ss rest)

pub within : (bytes : List ℕ) (es : List (List ℕ)) (ss : List Submission) → es ≡ entries bytes → ReadsStream bytes ss → All (IsWithin es) ss
within bytes es ss e reads =
    let all : ReadsUpTo es 0 ss (length es) = subst (λ (z : List (List ℕ)). ReadsUpTo z 0 ss (length z)) (sym e) reads.all in
    All-from_recursion (IsWithin es) ss (each_within es 0 (length es) ss all)

pub has_all : (assumed : Terms) (es : List (List ℕ)) (s : Submission) (a : Audited) → IsAudited assumed es s a → HasAll a
has_all assumed es s a is =
    let fences : length a.fences.items ≡ length (members_in es s) = ap length is.fences ∙ length-map (members_in es s) is_fenced in
    let members : length a.members.items ≡ length (members_in es s) = is.members.count in
    let operands : length a.operands.items ≡ length (members_in es s) = is.operands.count in
    let repeated : length a.audit.repeated.items ≡ length a.operands.items = is.audit.repeated.count in
    let places : length a.audit.corrected.places.items ≡ length a.fences.items = is.audit.corrected.count in
    let before : length a.audit.unaccepted.places.items ≡ length a.fences.items = is.audit.unaccepted.count in
    let accepted : length a.audit.accepted.items ≡ length a.audit.unaccepted.places.items = is.audit.accepted.count in
    let more : length a.audit.corrected.fences.items ≡ length a.fences.items = is.audit.corrected.more.same_length in
    let uses : length a.audit.reduced.uses.items ≡ length a.audit.corrected.fences.items = is.audit.reduced.reduced.count in
    let shared : length a.shared.items ≡ length (members_in es s) = is.shared.count in
    let flaws : length a.flaws.items ≡ length (members_in es s) = is.flaws.count in
    record {
      shared = omega (arith, members, shared);
      repeated = omega (arith, members, operands, repeated);
      flaws = omega (arith, members, flaws);
      accepted = omega (arith, fences, members, before, accepted);
      places = omega (arith, fences, members, places);
      uses = omega (arith, fences, members, more, uses);
    }

each_has : (assumed : Terms) (es : List (List ℕ)) (ss : List Submission) (audits : List Audited) → AreAudited assumed es ss audits → AllByRecursion HasAll audits
each_has assumed es [] [] all = tt
each_has assumed es (s ∷ ss) (a ∷ audits) (first, all) = (has_all assumed es s a first, each_has assumed es ss audits all)
each_has assumed es [] (a ∷ audits) all = absurd all
each_has assumed es (s ∷ ss) [] all = absurd all

pub all_have : (assumed : Terms) (es : List (List ℕ)) (ss : List Submission) (audits : List Audited) → AreAudited assumed es ss audits → All HasAll audits
all_have assumed es ss audits all = All-from_recursion HasAll audits (each_has assumed es ss audits all)

-- its fences and the data of its members are as many
pub has_operands : (assumed : Terms) (es : List (List ℕ)) (s : Submission) (a : Audited) → IsAudited assumed es s a → length a.fences.items ≡ length a.operands.items
has_operands assumed es s a is = ap length is.fences ∙ (length-map (members_in es s) is_fenced ∙ sym is.operands.count)
