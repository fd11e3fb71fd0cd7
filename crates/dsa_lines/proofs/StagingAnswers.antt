-- What is answered of a staging area.
use Rattle.std.proofs.Common.{◌≡◌, ◌≢◌, ℕ, zero, suc, ◌+◌, ◌-◌, ◌*◌, ◌/◌, ◌%◌, ◌≤◌, List, ◌++◌, length, take, drop, refl, sym, ap, subst, ◌∙◌, arith}
use Rattle.std.specs.Prelude.{◌⊎◌, Result, Ok, Err, IfOk, IfErr, MatchResult}
use Rattle.std.specs.List.{AllByRecursion, concat}
use Rattle.std.specs.Simd.{first_chunks}
use Rattle.std.proofs.Math.Seq.{take-add}
use Rattle.std.proofs.lemmas.List.{length-drop, length-take, take-append-drop, take_all}
use Rattle.hex.specs.Hex.{IsBytes}
use Rattle.dsa_descriptor.proofs.Bytes.{IsBytes-drop, IsBytes-take}
use Rattle.dsa_emission.specs.declared.emission_fault.EmissionFault.TheVariants.{StagingLength}
use Rattle.dsa_lines.specs.declared.fault.EmittedFault.{EmittedFault}
use Rattle.dsa_lines.specs.declared.fault.EmittedFault.TheVariants.{Memory}
use Rattle.dsa_lines.specs.Stagings.{StagedEntry, AreEntries, BeginsRecord, IsFirstStagingFault, IsRecord, IsStaging, records_of, staging_text}
use Rattle.dsa_lines.proofs.EmittedLemmas.{only_memory, refused_for_length, whole_or_fault}
use Rattle.dsa_lines.proofs.StagingLemmas.{one_staging, whole_staging}

-- ---- the records after the entries

pub length-records : (n : ℕ) (bytes : List ℕ) → length (first_chunks 32 n bytes) ≡ n
length-records zero bytes = refl
length-records (suc n) bytes = ap suc (length-records n (drop 32 bytes))

each_record : (n : ℕ) (bytes : List ℕ) → 32 * n ≤ length bytes → IsBytes bytes → AllByRecursion IsRecord (first_chunks 32 n bytes)
each_record zero bytes room are = tt
each_record (suc n) bytes room are =
    (record { whole = omega (arith, length-take 32 bytes); are_bytes = IsBytes-take 32 bytes are }, each_record n (drop 32 bytes) (omega (arith, length-drop 32 bytes)) (IsBytes-drop 32 bytes are))

joined_records : (n : ℕ) (bytes : List ℕ) → concat (first_chunks 32 n bytes) ≡ take (32 * n) bytes
joined_records zero bytes = refl
joined_records (suc n) bytes =
    let step : 32 + 32 * n ≡ 32 * suc n = omega arith in
    ap (λ (b : List ℕ). take 32 bytes ++ b) (joined_records n (drop 32 bytes)) ∙ sym (take-add 32 (32 * n) bytes) ∙ ap (λ (k : ℕ). take k bytes) step

all_records : (bytes : List ℕ) → length bytes % 32 ≡ 0 → concat (records_of bytes) ≡ bytes
all_records bytes whole = joined_records (length bytes / 32) bytes ∙ take_all (32 * (length bytes / 32)) bytes (omega arith)

-- entries and the records after them are a staging area
pub staging_of : (bytes : List ℕ) (number : ℕ) (es : List StagedEntry) → length bytes % 32 ≡ 0 → IsBytes bytes → AreEntries bytes number es → IsStaging bytes es (records_of (drop (64 * number) bytes))
staging_of bytes number es whole are h =
    let rest = drop (64 * number) bytes in
    let left : length rest ≡ length bytes - 64 * number = length-drop (64 * number) bytes in
    let rest_whole : length rest % 32 ≡ 0 = omega (arith, h.inside) in
    let joined : concat (records_of rest) ≡ rest = all_records rest rest_whole in
    let rest_is : rest ≡ concat (records_of rest) = sym joined in
    record {
      bytes_are = sym (take-append-drop (64 * number) bytes) ∙ (λ i. h.bytes_are i ++ rest_is i);
      each_entry = h.each;
      each_record = each_record (length rest / 32) rest (omega arith) (IsBytes-drop (64 * number) bytes are);
      first_record = λ two.
          subst BeginsRecord (sym joined) (h.ends (omega (arith, length-records (length rest / 32) rest)));
    }

-- ---- what follows of what was answered

module _ (A : Type 0) (shown : A → List ℕ) (bytes : List ℕ) (at : ℕ) where
  abbrev pub Answered : Result A EmittedFault → Type 0
  Answered r =
      IfOk r (λ text. (es : List StagedEntry) × (rs : List (List ℕ)) × IsStaging bytes es rs × (shown text ≡ staging_text at es rs))
      × IfErr r (IsFirstStagingFault bytes)

  pub only_text : (r : Result A EmittedFault) → Answered r → (es : List StagedEntry) (rs : List (List ℕ)) → IsStaging bytes es rs
      → MatchResult r (λ text. shown text ≡ staging_text at es rs) (λ fault. fault ≡ Memory)
  only_text (Ok text) h es rs is =
      let same = one_staging bytes h.0.0 es h.0.1 rs h.0.2 is in
      let entries : h.0.0 ≡ es = same.0 in
      let records : h.0.1 ≡ rs = same.1 in
      h.0.3 ∙ (λ i. staging_text at (entries i) (records i))
  only_text (Err fault) h es rs is = only_memory 32 StagingLength bytes fault (whole_staging bytes es rs is) h.1

  pub refused_text : (r : Result A EmittedFault) → Answered r → (fault : EmittedFault) → fault ≢ Memory → IsFirstStagingFault bytes fault
      → MatchResult r (λ _. ⊥) (λ other. (other ≡ fault) ⊎ (other ≡ Memory))
  refused_text (Ok text) h fault other first = whole_or_fault 32 StagingLength bytes fault (whole_staging bytes h.0.0 h.0.1 h.0.2) other first
  refused_text (Err told) h fault other first = refused_for_length 32 StagingLength bytes told fault other h.1 first
