-- What is read of rows is what was written.
use Rattle.std.proofs.Common.{◌≡◌, ℕ, ◌+◌, ◌-◌, refl, ap, arith}
use Rattle.std.specs.Prelude.{◌==◌, false}
use Rattle.std.proofs.lemmas.Bool.{ne_eqb}
use Rattle.std.specs.Int.{w64, from_le_bytes, to_le_bytes}
use Rattle.dsa_prepared.specs.declared.entry.Entry.{Entry}
use Rattle.dsa_prepared.specs.declared.word.Word.{Word}
use Rattle.dsa_prepared.specs.declared.word.Word.TheVariants.{InRegion, InStaging, Fixed}
use Rattle.dsa_prepared.specs.Rows.{word_in, kind_of, value_of, entry_in, entry_row}

two_more : (r : ℕ) (offset : ℕ) → word_in (r + 2) offset ≡ InRegion r offset
two_more r offset =
    let zero : (r + 2 == 0) ≡ false = ne_eqb (r + 2) 0 (λ e. omega (arith, e)) in
    let one : (r + 2 == 1) ≡ false = ne_eqb (r + 2) 1 (λ e. omega (arith, e)) in
    let less : r + 2 - 2 ≡ r = omega arith in
    rw zero (rw one (ap (λ (n : ℕ). InRegion n offset) less))

pub word_read : (w : Word) → word_in (kind_of w) (value_of w) ≡ w
word_read (InRegion region offset) = two_more region offset
word_read (InStaging offset) = refl
word_read (Fixed value) = refl

pub entry_read : (e : Entry) → to_le_bytes w64 (from_le_bytes w64 e.head) ≡ e.head → to_le_bytes w64 (from_le_bytes w64 e.middle) ≡ e.middle → entry_in (entry_row e) ≡ e
entry_read e head middle =
    λ i. record {
      head = head i;
      completion = word_read e.completion i;
      first = word_read e.first i;
      second = word_read e.second i;
      middle = middle i;
      own = word_read e.own i;
    }
