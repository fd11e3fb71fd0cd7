-- The last conflict by either of two relations.
use Rattle.std.proofs.Common.{◌≡◌, ℕ, ◌<◌, ◌⊎◌, inl, inr, List, length, get_or, Option, Some, None, sym, subst, ◌∙◌, arith}
use Rattle.std.proofs.lemmas.Option.{slice_get-get_or, slice_get_within}
use Rattle.dsa_conflicts.specs.Access.{IsGreatest, later}
use Rattle.dsa_conflicts.proofs.Greatest.{greatest_either, greatest_same}
use Rattle.dsa_audit.specs.declared.member.Member.{Member}
use Rattle.dsa_audit.specs.Members.{KnownConflict}
use Rattle.dsa_audit.specs.Steps.{AreLasts}
use Rattle.dsa_recording.specs.declared.member.Aspect.TheVariants.{Record, Status}
use Rattle.dsa_recording.specs.Submissions.{AreMembers, AreShared}

pub lasts_of_either : (C D : ℕ → ℕ → Type 0) (firsts seconds lasts : List (Option ℕ)) → length seconds ≡ length firsts → length lasts ≡ length firsts
    → ((k : ℕ) → k < length firsts → get_or lasts k None ≡ later (get_or firsts k None) (get_or seconds k None))
    → AreLasts C firsts → AreLasts D seconds → AreLasts (λ a b. C a b ⊎ D a b) lasts
lasts_of_either C D firsts seconds lasts count same each first second = λ b last at.
    let within : b < length lasts = slice_get_within lasts b last at in
    let inside : b < length firsts = omega (arith, within, same) in
    let beside : b < length seconds = omega (arith, inside, count) in
    let here : Some last ≡ Some (get_or lasts b None) = sym at ∙ slice_get-get_or lasts b None within in
    let one : last ≡ get_or lasts b None = cc in
    let is : last ≡ later (get_or firsts b None) (get_or seconds b None) = one ∙ each b inside in
    subst (λ (o : Option ℕ). IsGreatest (λ a. (a < b) × (C a b ⊎ D a b)) o) (sym is)
    (greatest_same (λ a. ((a < b) × C a b) ⊎ ((a < b) × D a b)) (λ a. (a < b) × (C a b ⊎ D a b)) (later (get_or firsts b None) (get_or seconds b None))
    (λ a h. elim h [
      | inl (lt, conflict) ↦ (lt, inl conflict)
      | inr (lt, conflict) ↦ (lt, inr conflict)
    ])
    (λ a (lt, h). elim h [
      | inl conflict ↦ inl (lt, conflict)
      | inr conflict ↦ inr (lt, conflict)
    ])
    (greatest_either (λ a. (a < b) × C a b) (λ a. (a < b) × D a b) (get_or firsts b None) (get_or seconds b None)
    (first b (get_or firsts b None) (slice_get-get_or firsts b None inside))
    (second b (get_or seconds b None) (slice_get-get_or seconds b None beside))))

-- the entries that share records, from the last conflicts of records and of statuses
pub shared_of : (head : List ℕ) (es : List (List ℕ)) (records statuses : List Member) (firsts seconds shared : List (Option ℕ))
    → AreMembers Record head es records → AreMembers Status head es statuses → length firsts ≡ length records → AreLasts (KnownConflict records) firsts
    → length seconds ≡ length statuses → AreLasts (KnownConflict statuses) seconds → length shared ≡ length firsts
    → ((k : ℕ) → k < length firsts → get_or shared k None ≡ later (get_or firsts k None) (get_or seconds k None)) → AreShared head es shared
shared_of head es records statuses firsts seconds shared are others count first count' second same each =
    let sizes : length records ≡ length es = are.count in
    let sizes' : length statuses ≡ length es = others.count in
    record {
      records = records;
      statuses = statuses;
      are = are;
      are_statuses = others;
      count = omega (arith, same, count, sizes);
      lasts = lasts_of_either (KnownConflict records) (KnownConflict statuses) firsts seconds shared (omega (arith, count, count', sizes, sizes')) same each first second;
    }
