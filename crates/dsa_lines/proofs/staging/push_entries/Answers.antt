use Rattle.std.proofs.Common.{◌≡◌, ℕ, ◌+◌, ◌*◌, ◌/◌, ◌<◌, ◌≤◌, List, [], ◌∷◌, ◌++◌, length, get_or, take, drop, true, false, refl, sym, ap, subst, ◌∙◌, append_assoc, length-append, arith}
use Rattle.std.specs.Prelude.{string_bytes}
use Rattle.std.specs.List.{flat_map}
use Rattle.std.proofs.Math.Seq.{take-add}
use Rattle.std.proofs.lemmas.List.{append-nil, length-drop, length-take, take-append-drop}
use Rattle.std.proofs.lemmas.List.Concat.{flat_map-append}
use Rattle.dsa_descriptor.specs.Lists.{entries}
use Rattle.dsa_emission.proofs.AtPlaces.{entry_is}
use Rattle.dsa_lines.specs.Stagings.{StagedEntry, BeginsRecord, IsEntry, entry_bytes, entry_text, entries_text}
use Rattle.dsa_lines.proofs.StagingLemmas.{all_more, begins_before, entry_is_one, entry_of}
use Rattle.dsa_lines.proofs.StagingTexts.{entries_more, no_entries}
use Rattle.dsa_lines.proofs.staging.push_entries.Goals as goal

-- an entry of all entries
there : (bytes : List ℕ) (all : List (List ℕ)) (n : ℕ) → all ≡ entries bytes → n < length bytes / 64 → get_or all n [] ≡ take 64 (drop (64 * n) bytes)
there bytes all n e lt = ap (λ (es : List (List ℕ)). get_or es n []) e ∙ entry_is bytes n (omega arith)

-- the bytes of one entry more
bytes_more : (bytes : List ℕ) (done : List StagedEntry) (e : StagedEntry) (n : ℕ) → take (64 * n) bytes ≡ flat_map entry_bytes done → take 64 (drop (64 * n) bytes) ≡ entry_bytes e
    → take (64 * (n + 1)) bytes ≡ flat_map entry_bytes (done ++ e ∷ [])
bytes_more bytes done e n so_far here =
    let step : 64 * (n + 1) ≡ 64 * n + 64 = omega arith in
    ap (λ (k : ℕ). take k bytes) step ∙ take-add (64 * n) 64 bytes ∙ (λ i. so_far i ++ here i)
    ∙ ap (λ (b : List ℕ). flat_map entry_bytes done ++ b) (sym (append-nil (entry_bytes e)))
    ∙ sym (flat_map-append entry_bytes done (e ∷ []))

pub loop-number-init : goal.loop-number-init
loop-number-init c = record {
  done = [];
  count = refl;
  bytes_are = refl;
  each = tt;
  text = sym (append-nil (string_bytes c.args.text.now)) ∙ ap (λ (t : List ℕ). string_bytes c.args.text.now ++ t) (sym no_entries);
}

pub loop-number-preserved : goal.loop-number-preserved
loop-number-preserved c =
    let i = c.loop-number.invariant in
    let h = c.in_ok-push_entry.ensures in
    let n = c.loop-number.number in
    let bytes = c.args.bytes.now in
    let lt : n < length bytes / 64 = omega (arith, c.loop-number-test.true, c.as_chunks.ensures.front_len) in
    let at = there bytes c.as_chunks.result.0.now n c.as_chunks.ensures.front lt in
    let none : BeginsRecord (get_or c.as_chunks.result.0.now n []) → ⊥ = λ begins.
    (let yes : true ≡ false = sym (c.begins_record.ensures.1 begins) ∙ c.if-begins_record.false in absurd cc) in
    record {
      done = i.done ++ h.0 ∷ [];
      count = omega (arith, i.count, length-append i.done (h.0 ∷ []));
      bytes_are = bytes_more bytes i.done h.0 n i.bytes_are (sym at ∙ entry_of _ h.0 h.1);
      each = all_more IsEntry i.done h.0 i.each (entry_is_one _ h.0 h.1 none);
      text = h.2 ∙ ap (λ (t : List ℕ). t ++ (entry_text h.0 ++ 10 ∷ [])) i.text
          ∙ append_assoc (string_bytes c.args.text.now) (entries_text i.done) (entry_text h.0 ++ 10 ∷ [])
          ∙ ap (λ (t : List ℕ). string_bytes c.args.text.now ++ t) (sym (entries_more i.done h.0));
    }

pub returns-then-begins_record : goal.returns-then-begins_record
returns-then-begins_record c =
    let i = c.loop-number.invariant in
    let bytes = c.args.bytes.now in
    let n = c.loop-number.number in
    let lt : n < length bytes / 64 = omega (arith, c.loop-number-test.true, c.as_chunks.ensures.front_len) in
    let rest = drop (64 * n) bytes in
    let front : BeginsRecord (take 64 rest) =
    subst BeginsRecord (there bytes c.as_chunks.result.0.now n c.as_chunks.ensures.front lt) (c.begins_record.ensures.0 c.if-begins_record.true) in
    let long : 32 ≤ length (take 64 rest) = omega (arith, length-take 64 rest, length-drop (64 * n) bytes) in
    let begins : BeginsRecord rest = subst BeginsRecord (take-append-drop 64 rest) (begins_before (take 64 rest) (drop 64 rest) long front) in
    (i.done, record { count = i.count; inside = omega arith; bytes_are = i.bytes_are; each = i.each; ends = λ lt. begins }, i.text)

pub returns : goal.returns
returns c =
    let i = c.loop-number.invariant in
    let bytes = c.args.bytes.now in
    let n : ℕ = length c.as_chunks.result.0.now in
    let at : c.loop-number.number ≡ n = omega arith in (
      i.done,
      record {
        count = i.count ∙ at;
        inside = omega (arith, c.as_chunks.ensures.front_len);
        bytes_are = subst (λ (k : ℕ). take (64 * k) bytes ≡ flat_map entry_bytes i.done) at i.bytes_are;
        each = i.each;
        ends = λ lt. absurd (omega (arith, c.as_chunks.ensures.front_len));
      },
      i.text,
    )
