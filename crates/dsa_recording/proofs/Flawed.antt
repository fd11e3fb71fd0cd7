-- The flaws of one more entry.
use Rattle.std.proofs.Common.{◌≡◌, ℕ, ◌+◌, ◌<◌, inl, inr, Bool, List, [], ◌∷◌, ◌++◌, length, get_or, sym, subst, arith}
use Rattle.std.proofs.Math.ListN.{get_or-append}
use Rattle.std.proofs.Math.Seq.{get_or-append_seam}
use Rattle.std.proofs.lemmas.Bool.{cases_lt}
use Rattle.dsa_recording.specs.declared.flaws.Flaws.{Flaws}
use Rattle.dsa_ranges.specs.Ranges.{SpansConflict}
use Rattle.dsa_recording.specs.Entries.{entry_targets, entry_writes, records_of}
use Rattle.dsa_recording.specs.Flaws.{AreFlaws, no_flaws, list_spans, IsInOwnDescriptor, OverwritesBatch}
use Rattle.dsa_recording.specs.Flaws.OverwritesBatch.{meets_record, data_meet_list, record_meets_list}

pub flaws_pushed : (b : Bool) (head : List ℕ) (es : List (List ℕ)) (fs more : List Flaws) (f : Flaws) (i : ℕ) → length fs ≡ i → more ≡ fs ++ f ∷ []
    → ((k : ℕ) → k < i → AreFlaws b head k (get_or es k []) (get_or fs k no_flaws)) → AreFlaws b head i (get_or es i []) f
    → (k : ℕ) → k < i + 1 → AreFlaws b head k (get_or es k []) (get_or more k no_flaws)
flaws_pushed b head es fs more f i count is each last k lt =
    subst (λ (l : List Flaws). AreFlaws b head k (get_or es k []) (get_or l k no_flaws)) (sym is)
    (elim (cases_lt k i) [
      | inl below ↦ subst (AreFlaws b head k (get_or es k [])) (sym (get_or-append fs (f ∷ []) no_flaws k (omega arith))) (each k below)
      | inr above ↦
          let same : i ≡ k = omega arith in
          let e : length fs ≡ k = omega arith in
          let here : get_or (fs ++ f ∷ []) k no_flaws ≡ f = subst (λ (z : ℕ). get_or (fs ++ f ∷ []) z no_flaws ≡ f) e (get_or-append_seam fs f [] no_flaws) in
          subst (AreFlaws b head k (get_or es k [])) (sym here) (subst (λ (z : ℕ). AreFlaws b head z (get_or es z []) f) same last)
    ])

-- what overwrites its batch does so by its record, if not otherwise
pub overwrites_by_record : (head : List ℕ) (k : ℕ) (e : List ℕ) → OverwritesBatch head k e → ¬ SpansConflict [] (entry_writes e) [] (records_of head)
    → ¬ SpansConflict [] (entry_targets e) [] (list_spans head) → SpansConflict [] (records_of e) [] (list_spans head)
overwrites_by_record head k e (meets_record met) no_record no_data = absurd (no_record met)
overwrites_by_record head k e (data_meet_list met) no_record no_data = absurd (no_data met)
overwrites_by_record head k e (record_meets_list met outside) no_record no_data = met

pub overwrites_none : (head : List ℕ) (k : ℕ) (e : List ℕ) → OverwritesBatch head k e → ¬ SpansConflict [] (entry_writes e) [] (records_of head)
    → ¬ SpansConflict [] (entry_targets e) [] (list_spans head) → IsInOwnDescriptor head k e → ⊥
overwrites_none head k e (meets_record met) no_record no_data own = no_record met
overwrites_none head k e (data_meet_list met) no_record no_data own = no_data met
overwrites_none head k e (record_meets_list met outside) no_record no_data own = outside own
