use Rattle.std.proofs.Common.{◌≡◌, ℕ, ◌+◌, ◌*◌, ◌<◌, List, [], ◌∷◌, ◌++◌, length, get_or, take, sym, ap, ◌∙◌, append_assoc, arith}
use Rattle.std.specs.Prelude.{string_bytes}
use Rattle.std.proofs.lemmas.List.{append-nil, length-take, take_more}
use Rattle.dsa_lines.specs.Stagings.{record_text, records_text}
use Rattle.dsa_lines.proofs.StagingTexts.{no_records, records_more}
use Rattle.dsa_lines.proofs.staged_record.push_records.Goals as goal

-- the lines of one record more
more : (first n : ℕ) (all : List (List ℕ)) → n < length all
    → records_text 0 first (take (n + 1) all) ≡ records_text 0 first (take n all) ++ (record_text n (first + 32 * n) (get_or all n []) ++ 10 ∷ [])
more first n all lt =
    let batch : 0 + length (take n all) ≡ n = omega (arith, length-take n all) in
    let address : first + 32 * length (take n all) ≡ first + 32 * n = omega (arith, length-take n all) in
    ap (λ (rs : List (List ℕ)). records_text 0 first rs) (take_more all n [] lt)
    ∙ records_more 0 first (take n all) (get_or all n [])
    ∙ (λ i. records_text 0 first (take n all) ++ (record_text (batch i) (address i) (get_or all n []) ++ 10 ∷ []))

pub loop-batch-init : goal.loop-batch-init
loop-batch-init c = sym (append-nil (string_bytes c.args.text.now)) ∙ ap (λ (t : List ℕ). string_bytes c.args.text.now ++ t) (sym (no_records 0 c.args.first))

pub loop-batch-preserved : goal.loop-batch-preserved
loop-batch-preserved c =
    let all = c.as_chunks.result.0.now in
    let n = c.loop-batch.batch in
    let line : List ℕ = record_text n (c.args.first + 32 * n) (get_or all n []) ++ 10 ∷ [] in
    c.in_ok-push_record.ensures
    ∙ ap (λ (t : List ℕ). t ++ line) c.loop-batch.invariant
    ∙ append_assoc (string_bytes c.args.text.now) (records_text 0 c.args.first (take n all)) line
    ∙ ap (λ (t : List ℕ). string_bytes c.args.text.now ++ t) (sym (more c.args.first n all c.loop-batch-test.true))
