use Rattle.std.proofs.Common.{◌≡◌, ℕ, ◌≤◌, List, None, Ok, Err, Result, length, sym, ◌∙◌, subst, arith}
use Rattle.std.specs.Prelude.{MatchResult, replicate}
use Rattle.std.proofs.lemmas.List.{with_items_is}
use Rattle.dsa_tracker.specs.declared.fault.WordsFault.{WordsFault}
use Rattle.dsa_tracker.specs.declared.fault.WordsFault.TheVariants.{NotATracker}
use Rattle.dsa_tracker.specs.Table.{Table}
use Rattle.dsa_tracker.specs.Words.{AreMeasures, IsTracker, table_in, words_needed}
use Rattle.dsa_tracker.proofs.words.begun.Goals as goal

abbrev free : ℕ → ℕ → Table
free slots room = record { slots = replicate slots None; room = room; owner = None }

-- with good measures and enough words, beginning is not refused
is_begun :
    (slots room rows unit : ℕ) (old new : List ℕ) (r : Result Unit WordsFault) →
    MatchResult r (λ _. AreMeasures slots room rows unit × (words_needed slots room rows ≤ length old) × IsTracker new × (table_in new ≡ free slots room))
    (λ f. (f ≡ NotATracker) × (¬ (AreMeasures slots room rows unit × (words_needed slots room rows ≤ length old))) × (new ≡ old)) →
    AreMeasures slots room rows unit → words_needed slots room rows ≤ length old → IsTracker new × (table_in new ≡ free slots room)
is_begun slots room rows unit old new (Ok u) answer measures enough = (answer.2, answer.3)
is_begun slots room rows unit old new (Err f) answer measures enough = absurd (answer.1 (measures, enough))

pub returns : goal.returns
returns c =
    subst (λ (xs : List ℕ). IsTracker xs × (table_in xs ≡ free c.args.slots c.args.room))
    (sym (with_items_is c.in_ok-words.words c.begin.new.words (c.begin.auto.words ∙ c.deref_mut.ensures.len)))
    (is_begun c.args.slots c.args.room c.args.log2_rows c.args.log2_unit c.deref_mut.result.now c.begin.new.words c.begin.result c.begin.ensures c.requires
    (omega (arith, c.deref_mut.ensures.len, c.in_ok-words.ensures.len, c.needed-len.ensures)))
