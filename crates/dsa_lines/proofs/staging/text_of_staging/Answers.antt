use Rattle.std.proofs.Common.{◌≡◌, ℕ, ◌+◌, ◌*◌, List, [], ◌++◌, length, drop, sym, ap, ◌∙◌, arith}
use Rattle.std.specs.Prelude.{string_bytes}
use Rattle.std.proofs.lemmas.List.{take_rest}
use Rattle.dsa_lines.specs.Stagings.{StagedEntry, entries_text, records_of, records_text, staging_text}
use Rattle.dsa_lines.proofs.StagingAnswers.{staging_of}
use Rattle.dsa_lines.proofs.staging.text_of_staging.Goals as goal

-- the text of entries, after nothing, and of the records after them
text_is : (at number : ℕ) (es : List StagedEntry) (rs : List (List ℕ)) (none before whole : List ℕ) → none ≡ [] → before ≡ none ++ entries_text es → length es ≡ number
    → whole ≡ before ++ records_text 0 (at + 64 * number) rs → whole ≡ staging_text at es rs
text_is at number es rs none before whole nothing entries count records =
    records ∙ ap (λ (t : List ℕ). t ++ records_text 0 (at + 64 * number) rs) (entries ∙ ap (λ (t : List ℕ). t ++ entries_text es) nothing)
    ∙ ap (λ (n : ℕ). entries_text es ++ records_text 0 (at + 64 * n) rs) (sym count)

pub returns-clause-ok : goal.returns-clause-ok
returns-clause-ok c =
    let h = c.in_ok-entries.ensures in
    let bytes = c.args.bytes.now in
    let n = c.in_ok-entries.entries in
    let rs = records_of (drop (64 * n) bytes) in (
      h.0,
      rs,
      staging_of bytes n h.0 c.if-bytes-ne0.false (λ i. let f = c.type_inv.bytes i in omega arith) h.1,
      text_is c.args.at n h.0 rs _ _ _ c.new-text.ensures.bytes h.2 h.1.count
          (c.in_ok-push_records.ensures ∙ ap (λ (b : List ℕ). string_bytes c.push_entries.new.text ++ records_text 0 (c.args.at + 64 * n) (records_of b)) (take_rest bytes (64 * n))),
    )
