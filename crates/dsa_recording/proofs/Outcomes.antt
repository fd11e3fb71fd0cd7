-- What reading a recording comes to, from what reading its entries does.
use Rattle.std.proofs.Common.{◌≡◌, ◌≢◌, ◌⊎◌, inl, inr, ℕ, ◌%◌, List, length, refl, sym, ap, subst}
use Rattle.std.specs.Prelude.{Result, Ok, Err, IfOk, IfErr, MatchResult}
use Rattle.dsa_descriptor.specs.Lists.{entries}
use Rattle.dsa_recording.specs.declared.stream.Submission.{Submission}
use Rattle.dsa_recording.specs.declared.stream.StreamFault.{StreamFault}
use Rattle.dsa_recording.specs.declared.stream.StreamFault.TheVariants.{Length, CutOff, Memory}
use Rattle.dsa_recording.specs.Streams.{ReadsUpTo, IsCutOffAt, ReadsStream, IsStreamFault, IsStop}
use Rattle.dsa_recording.proofs.Chain.{one_reading, whole_not_cut, one_cut}

-- the submissions of bytes as those of their entries
all_of : (bytes : List ℕ) (es : List (List ℕ)) (list : List Submission) → es ≡ entries bytes → ReadsStream bytes list → ReadsUpTo es 0 list (length es)
all_of bytes es list e reads = subst (λ (z : List (List ℕ)). ReadsUpTo z 0 list (length z)) (sym e) reads.all

cut_of : (bytes : List ℕ) (es : List (List ℕ)) (at : ℕ) → es ≡ entries bytes → IsStreamFault bytes (CutOff at) → IsCutOffAt es at
cut_of bytes es at e fault = subst (λ (z : List (List ℕ)). IsCutOffAt z at) (sym e) fault.1

whole_or_cut : (es : List (List ℕ)) (at : ℕ) (list : List Submission) → ReadsUpTo es 0 list (length es) → IsCutOffAt es at → ⊥
whole_or_cut es at list reads cut = whole_not_cut es 0 at list cut.0 reads cut.1 cut.2 cut.3

pub only : {X : Type 0} (r : Result X StreamFault) (items : X → List Submission) (bytes : List ℕ) (es : List (List ℕ)) → es ≡ entries bytes
    → IfOk r (λ x. ReadsUpTo es 0 (items x) (length es)) → IfErr r (IsStop es)
    → (list : List Submission) → ReadsStream bytes list → MatchResult r (λ x. items x ≡ list) (λ fault. fault ≡ Memory)
only (Ok x) items bytes es e ok err list reads = one_reading es 0 (items x) list ok (all_of bytes es list e reads)
only (Err Length) items bytes es e ok err list reads = absurd err
only (Err (CutOff at)) items bytes es e ok err list reads = absurd (whole_or_cut es at list (all_of bytes es list e reads) err)
only (Err Memory) items bytes es e ok err list reads = refl

pub refused : {X : Type 0} (r : Result X StreamFault) (items : X → List Submission) (bytes : List ℕ) (es : List (List ℕ)) → es ≡ entries bytes
    → length bytes % 64 ≡ 0 → IfOk r (λ x. ReadsUpTo es 0 (items x) (length es)) → IfErr r (IsStop es)
    → (fault : StreamFault) → fault ≢ Memory → IsStreamFault bytes fault → MatchResult r (λ _. ⊥) (λ other. (other ≡ fault) ⊎ (other ≡ Memory))
refused (Ok x) items bytes es e whole ok err Length unlike fault = absurd (fault whole)
refused (Ok x) items bytes es e whole ok err (CutOff at) unlike fault = whole_or_cut es at (items x) ok (cut_of bytes es at e fault)
refused (Ok x) items bytes es e whole ok err Memory unlike fault = absurd (unlike refl)
refused (Err Length) items bytes es e whole ok err fault unlike stands = absurd err
refused (Err (CutOff at)) items bytes es e whole ok err Length unlike fault = absurd (fault whole)
refused (Err (CutOff at)) items bytes es e whole ok err (CutOff other) unlike fault =
    let cut = cut_of bytes es other e fault in
    inl (ap CutOff (one_cut es 0 at other err.0 cut.0 err.1 cut.1 err.3 cut.3))
refused (Err (CutOff at)) items bytes es e whole ok err Memory unlike fault = absurd (unlike refl)
refused (Err Memory) items bytes es e whole ok err fault unlike stands = inr refl
