-- The fields that a line spells fit their places, so no others have their bytes; and a line has neither a fence nor a newline.
use Rattle.std.proofs.Common.{◌≡◌, ◌≢◌, ℕ, zero, suc, ◌%◌, ◌^◌, ◌<◌, ◌≤◌, Bool, true, false, cond, Option, List, [], ◌∷◌, ◌-◌, length, take, Some, None, refl, sym, ap, subst, ◌∙◌, arith}
use Rattle.std.specs.Prelude.{Result, Ok, Err, is_some, option_and_then, codes, bit_and, nat_le, ◌==◌}
use Rattle.std.specs.List.{AllByRecursion, AllPass}
use Rattle.std.specs.Str.{bytes_eq}
use Rattle.std.specs.Int.{w64, from_le_bytes}
use Rattle.std.proofs.lemmas.Bool.{leb-true, eqb-true, eqb-false, ne_eqb}
use Rattle.std.proofs.lemmas.List.Elements.{All-head}
use Rattle.std.proofs.lemmas.Option.{same_Some, cond_some}
use Rattle.hex.specs.Hex.{IsBytes, decode_sized, is_hex_digit}
use Rattle.hex.specs.declared.error.FromHexError.{FromHexError}
use Rattle.hex.proofs.HexLemmas.{decode_of-even, decode_pairs-ok, decode_sized-ok, decode_sized-twice}
use Rattle.dsa_descriptor.specs.Profile.{FieldsFit}
use Rattle.dsa_operations.specs.declared.checksum_op.Seed.{Seed}
use Rattle.dsa_operations.specs.declared.operation.Operation.{Operation}
use Rattle.dsa_operations.specs.OperationFields.{OperationFields, fields_spelling, operation_fields}
use Rattle.dsa_operations.specs.Operands.{seed_of}
use Rattle.dsa_operations.specs.Operations.{spelling_of}
use Rattle.dsa_operations.specs.Profile.{SeedFits}
use Rattle.dsa_operations.specs.Profile as checksums
use Rattle.dsa_operations.proofs.Same.{AreFitting, flags_of, operation_fits, same_fields}
use Rattle.dsa_operations.specs.declared.listed_op.ListedOp.{ListedOp}
use Rattle.dsa_operations.specs.declared.listed_op.ListedOp.TheVariants as either
use Rattle.dsa_lines.specs.declared.options.Options.{Options}
use Rattle.dsa_lines.specs.Words.{Word, is_blank, is_in_word, goes_on, with_front, words_in, words_of}
use Rattle.dsa_lines.specs.Numbers.{number_of, numeral_after, pattern_of, pattern_with, scaled, last_byte, before_last, size_of}
use Rattle.dsa_lines.specs.Options.{no_options, or_zero, fields_with, carried_mask}
use Rattle.dsa_lines.specs.Answers.{Answers}
use Rattle.dsa_lines.proofs.FlagLemmas.{line_flags_below, line_flags_even, line_tells}
use Rattle.dsa_lines.proofs.WordLemmas.{both, word_byte}
use Rattle.dsa_lines.specs.Grammar.{greatest, after, named, number_at, count_at, pattern_at, size_at, move_at, fill_at, expected_at, compare_region_at, compare_pattern_at, compare_other_at, compare_at, delta_at, dualcast_at, seed_value_at, seed_by, seed_or_zero, seed_at, crc_at, copy_crc_at, op_at, pasid_at, privileged_at, check_at, flags_at, handle_at, option_at, options_at, fields_of, Spells}

-- ---- what an answer was made of

bound : {A B : Type 0} (o : Option A) (f : A → Option B) (y : B) → option_and_then f o ≡ Some y → (x : A) × (o ≡ Some x) × (f x ≡ Some y)
bound None f y e = absurd cc
bound (Some x) f y e = (x, refl, e)

unless : {A : Type 0} (b : Bool) (o : Option A) (y : A) → cond b None o ≡ Some y → o ≡ Some y
unless true o y e = absurd cc
unless false o y e = e

one_of : {A P : Type 0} (b : Bool) (o p : Option A) (y : A) → cond b o p ≡ Some y → (b ≡ true → o ≡ Some y → P) → (p ≡ Some y → P) → P
one_of true o p y e first second = first refl e
one_of false o p y e first second = second e

-- ---- words that are no newline

abbrev pub begins_newline : Word → Bool
begins_newline [] = false
begins_newline (c ∷ cs) = c == 10

abbrev pub Lined : List Word → Type 0
Lined ws = AllByRecursion (λ w. begins_newline w ≡ false) ws

same_lined : (w word : Word) → bytes_eq w word ≡ true → begins_newline word ≡ false → begins_newline w ≡ false
same_lined [] word e plain = refl
same_lined (c ∷ cs) [] e plain = absurd cc
same_lined (c ∷ cs) (d ∷ ds) e plain = let same : c ≡ d = eqb-true c d (both (c == d) (bytes_eq cs ds) e).0 in rw same plain

after_lined : (word : Word) (ws rest : List Word) → begins_newline word ≡ false → after word ws ≡ Some rest → Lined rest → Lined ws
after_lined word [] rest plain e h = absurd cc
after_lined word (w ∷ ws) rest plain e h =
    let p = cond_some (bytes_eq w word) ws rest e in
    (same_lined w word p.0 plain, subst Lined (sym p.1) h)

named_lined : (name : Word) (ws rest : List Word) → begins_newline name ≡ false → named name ws ≡ Some rest → Lined rest → Lined ws
named_lined name ws rest plain e h =
    let comma = bound (after (codes ",") ws) _ rest e in
    after_lined (codes ",") ws comma.0 refl comma.1 (after_lined name comma.0 rest plain comma.2 h)

no_number : (c : ℕ) (cs : List ℕ) (n : ℕ) → c ≡ 10 → number_of (c ∷ cs) ≡ Some n → ⊥
unfolding numeral_after
no_number c [] n k e = let none : None ≡ Some n = rw k at e in cc
no_number c (d ∷ ds) n k e = let none : None ≡ Some n = rw k at e in cc

number_word : (w : Word) (n : ℕ) → number_of w ≡ Some n → begins_newline w ≡ false
number_word [] n e = refl
number_word (c ∷ cs) n e = ne_eqb c 10 (λ k. no_number c cs n k e)

number_lined : (most : ℕ) (ws : List Word) (r : ℕ × List Word) → number_at most ws ≡ Some r → Lined r.1 → Lined ws
number_lined most [] r e h = tt
number_lined most (w ∷ ws) r e h =
    let n = bound (number_of w) _ r e in
    let p = cond_some (nat_le n.0 most) (n.0, ws) r n.2 in
    (number_word w n.0 n.1, subst (λ (x : ℕ × List Word). Lined x.1) (sym p.1) h)

scaled_some : (unit : ℕ) (o : Option ℕ) (n : ℕ) → scaled unit o ≡ Some n → (m : ℕ) × (o ≡ Some m)
scaled_some unit None n e = absurd cc
scaled_some unit (Some m) n e = (m, refl)

-- a word that spells a number of bytes begins with no newline
size_newline : (c : ℕ) (cs front before : Word) (a b : Bool) (n : ℕ) → c ≡ 10 → before ≡ c ∷ front
    → cond a (scaled 1024 (number_of before)) (cond b (scaled 1048576 (number_of before)) (number_of (c ∷ cs))) ≡ Some n → ⊥
size_newline c cs front before true b n k is e =
    let m = scaled_some 1024 (number_of before) n e in no_number c front m.0 k (ap number_of (sym is) ∙ m.1)
size_newline c cs front before false true n k is e =
    let m = scaled_some 1048576 (number_of before) n e in no_number c front m.0 k (ap number_of (sym is) ∙ m.1)
size_newline c cs front before false false n k is e = no_number c cs n k e

no_size : (c : ℕ) (cs : List ℕ) (n : ℕ) → c ≡ 10 → size_of (c ∷ cs) ≡ Some n → ⊥
unfolding size_of numeral_after
no_size c [] n k e = let none : None ≡ Some n = rw k at e in cc
no_size c (d ∷ ds) n k e =
    let w = c ∷ d ∷ ds in
    let count : length w - 1 ≡ suc (length ds) = omega arith in
    size_newline c (d ∷ ds) (take (length ds) (d ∷ ds)) (before_last w) (last_byte w == 75) (last_byte w == 77) n k (ap (λ (x : ℕ). take x w) count) e

size_word : (w : Word) (n : ℕ) → size_of w ≡ Some n → begins_newline w ≡ false
size_word [] n e = refl
size_word (c ∷ cs) n e = ne_eqb c 10 (λ k. no_size c cs n k e)

count_lined : (ws : List Word) (r : ℕ × List Word) → count_at ws ≡ Some r → Lined r.1 → Lined ws
count_lined [] r e h = tt
count_lined (w ∷ ws) r e h =
    let n = bound (size_of w) _ r e in
    let p = cond_some (nat_le n.0 (greatest 32)) (n.0, ws) r n.2 in
    (size_word w n.0 n.1, subst (λ (x : ℕ × List Word). Lined x.1) (sym p.1) h)

-- ---- numbers

count_fits : (ws : List Word) (r : ℕ × List Word) → count_at ws ≡ Some r → r.0 ≤ greatest 32
count_fits [] r e = absurd cc
count_fits (w ∷ ws) r e =
    let n = bound (size_of w) _ r e in
    let h = cond_some (nat_le n.0 (greatest 32)) (n.0, ws) r n.2 in
    subst (λ (x : ℕ × List Word). x.0 ≤ greatest 32) h.1 (leb-true n.0 (greatest 32) h.0)

number_fits : (most : ℕ) (ws : List Word) (r : ℕ × List Word) → number_at most ws ≡ Some r → r.0 ≤ most
number_fits most [] r e = absurd cc
number_fits most (w ∷ ws) r e =
    let n = bound (number_of w) _ r e in
    let h = cond_some (nat_le n.0 most) (n.0, ws) r n.2 in
    subst (λ (x : ℕ × List Word). x.0 ≤ most) h.1 (leb-true n.0 most h.0)

address_fits : (ws : List Word) (r : ℕ × List Word) → number_at (greatest 64) ws ≡ Some r → r.0 < 2 ^ 64
address_fits ws r e = omega (arith, number_fits (greatest 64) ws r e)

size_fits : (ws : List Word) (r : ℕ × List Word) → size_at ws ≡ Some r → (r.0 < 2 ^ 32) × (Lined r.1 → Lined ws)
unfolding size_at
size_fits ws r e =
    let size = bound (count_at ws) _ r e in
    let rest = bound (after (codes "bytes") size.0.1) _ r size.2 in
    let fits = count_fits ws size.0 size.1 in
    let small : size.0.0 < 2 ^ 32 = omega arith in
    subst (λ (x : ℕ × List Word). (x.0 < 2 ^ 32) × (Lined x.1 → Lined ws)) (same_Some _ r rest.2)
    (small, λ h. count_lined ws size.0 size.1 (after_lined (codes "bytes") size.0.1 rest.0 refl rest.1 h))

digit_word : (w : Word) → AllPass is_hex_digit w → begins_newline w ≡ false
digit_word [] all = refl
digit_word (c ∷ cs) all =
    let digit : is_hex_digit c ≡ true = All-head (λ b. is_hex_digit b ≡ true) c cs all in
    ne_eqb c 10 (λ k. let plain : is_hex_digit 10 ≡ true = rw k at digit in cc)

sized_word : (w : Word) (bytes : List ℕ) → decode_sized w 8 ≡ Ok bytes → (begins_newline w ≡ false) × IsBytes bytes
sized_word w bytes e =
    let long = decode_sized-ok w 8 bytes e in
    let pairs = decode_pairs-ok 0 w bytes (sym (decode_of-even w (omega arith)) ∙ sym (decode_sized-twice w 8 long) ∙ e) in
    (digit_word w pairs.0, pairs.2)

pattern_by : (w : Word) (r : Result (List ℕ) FromHexError) (n : ℕ) → decode_sized w 8 ≡ r → pattern_with r ≡ Some n → (n < 2 ^ 64) × (begins_newline w ≡ false)
pattern_by w (Ok bytes) n e p =
    let word = sized_word w bytes e in
    let b = word.1 in
    let is : from_le_bytes w64 bytes ≡ n = same_Some _ n p in
    (omega (arith, is, b 0, b 1, b 2, b 3, b 4, b 5, b 6, b 7), word.0)
pattern_by w (Err fault) n e p = absurd cc

pattern_fits : (ws : List Word) (r : ℕ × List Word) → pattern_at ws ≡ Some r → (r.0 < 2 ^ 64) × (Lined r.1 → Lined ws)
unfolding pattern_of
pattern_fits [] r e = absurd cc
pattern_fits (w ∷ ws) r e =
    let n = bound (pattern_of w) _ r e in
    let fits = pattern_by w (decode_sized w 8) n.0 refl n.1 in
    subst (λ (x : ℕ × List Word). (x.0 < 2 ^ 64) × (Lined x.1 → Lined (w ∷ ws))) (same_Some _ r n.2) (fits.0, λ h. (fits.1, h))

-- ---- operations

-- the fields of the operation of a line fit their places
abbrev LineFits : ListedOp → Type 0
LineFits (either.Descriptor op) = FieldsFit op
LineFits (either.Checksum op) = checksums.FieldsFit op

-- so does its size, and if the words that are left have no newline, none of the words has
abbrev OpFits : List Word → ListedOp × ℕ × List Word → Type 0
OpFits ws r = LineFits r.0 × (r.1 < 2 ^ 32) × (Lined r.2 → Lined ws)

move_fits : (ws : List Word) (r : ListedOp × ℕ × List Word) → move_at ws ≡ Some r → OpFits ws r
unfolding move_at
move_fits ws r e =
    let src = bound (number_at (greatest 64) ws) _ r e in
    let to = bound (after (codes "->") src.0.1) _ r src.2 in
    let dst = bound (number_at (greatest 64) to.0) _ r to.2 in
    let comma = bound (after (codes ",") dst.0.1) _ r dst.2 in
    let size = bound (size_at comma.0) _ r comma.2 in
    let sized = size_fits comma.0 size.0 size.1 in
    subst (OpFits ws) (same_Some _ r size.2) (
      (address_fits ws src.0 src.1, address_fits to.0 dst.0 dst.1),
      sized.0,
      λ h.
          number_lined (greatest 64) ws src.0 src.1 (
          after_lined (codes "->") src.0.1 to.0 refl to.1 (
          number_lined (greatest 64) to.0 dst.0 dst.1 (
          after_lined (codes ",") dst.0.1 comma.0 refl comma.1 (sized.1 h)))),
    )

fill_fits : (ws : List Word) (r : ListedOp × ℕ × List Word) → fill_at ws ≡ Some r → OpFits ws r
unfolding fill_at
fill_fits ws r e =
    let dst = bound (number_at (greatest 64) ws) _ r e in
    let filled = bound (after (codes "with") dst.0.1) _ r dst.2 in
    let pattern = bound (pattern_at filled.0) _ r filled.2 in
    let read = pattern_fits filled.0 pattern.0 pattern.1 in
    let comma = bound (after (codes ",") pattern.0.1) _ r pattern.2 in
    let size = bound (size_at comma.0) _ r comma.2 in
    let sized = size_fits comma.0 size.0 size.1 in
    subst (OpFits ws) (same_Some _ r size.2) (
      (read.0, address_fits ws dst.0 dst.1),
      sized.0,
      λ h.
          number_lined (greatest 64) ws dst.0 dst.1 (
          after_lined (codes "with") dst.0.1 filled.0 refl filled.1 (
          read.1 (
          after_lined (codes ",") pattern.0.1 comma.0 refl comma.1 (sized.1 h)))),
    )

expected_fits : (ws : List Word) (r : ℕ × ℕ × List Word) → expected_at ws ≡ Some r → (r.0 < 2 ^ 32) × (r.1 < 2 ^ 8) × (Lined r.2 → Lined ws)
unfolding expected_at
expected_fits ws r e =
    let comma = bound (after (codes ",") ws) _ r e in
    let size = bound (size_at comma.0) _ r comma.2 in
    let sized = size_fits comma.0 size.0 size.1 in
    let expect = bound (named (codes "expect") size.0.1) _ r size.2 in
    let bit = bound (number_at 1 expect.0) _ r expect.2 in
    let fits = number_fits 1 expect.0 bit.0 bit.1 in
    let small : bit.0.0 < 2 ^ 8 = omega arith in
    subst (λ (x : ℕ × ℕ × List Word). (x.0 < 2 ^ 32) × (x.1 < 2 ^ 8) × (Lined x.2 → Lined ws)) (same_Some _ r bit.2) (
      sized.0,
      small,
      λ h.
          after_lined (codes ",") ws comma.0 refl comma.1 (
          sized.1 (
          named_lined (codes "expect") size.0.1 expect.0 refl expect.1 (number_lined 1 expect.0 bit.0 bit.1 h))),
    )

region_fits : (src : ℕ) (ws : List Word) (r : ListedOp × ℕ × List Word) → src < 2 ^ 64 → compare_region_at src ws ≡ Some r → OpFits ws r
unfolding compare_region_at
region_fits src ws r lt e =
    let src2 = bound (number_at (greatest 64) ws) _ r e in
    let expected = bound (expected_at src2.0.1) _ r src2.2 in
    let fits = expected_fits src2.0.1 expected.0 expected.1 in
    subst (OpFits ws) (same_Some _ r expected.2) ((lt, address_fits ws src2.0 src2.1, fits.1), fits.0, λ h. number_lined (greatest 64) ws src2.0 src2.1 (fits.2 h))

compared_fits : (src : ℕ) (ws : List Word) (r : ListedOp × ℕ × List Word) → src < 2 ^ 64 → compare_pattern_at src ws ≡ Some r → OpFits ws r
unfolding compare_pattern_at
compared_fits src ws r lt e =
    let pattern = bound (pattern_at ws) _ r e in
    let expected = bound (expected_at pattern.0.1) _ r pattern.2 in
    let read = pattern_fits ws pattern.0 pattern.1 in
    let fits = expected_fits pattern.0.1 expected.0 expected.1 in
    subst (OpFits ws) (same_Some _ r expected.2) ((lt, read.0, fits.1), fits.0, λ h. read.1 (fits.2 h))

other_fits : (src : ℕ) (ws : List Word) (rest : Option (List Word)) (r : ListedOp × ℕ × List Word) → src < 2 ^ 64 → after (codes "pattern") ws ≡ rest → compare_other_at src ws rest ≡ Some r → OpFits ws r
other_fits src ws None r lt word e = region_fits src ws r lt e
other_fits src ws (Some rest) r lt word e =
    let fits = compared_fits src rest r lt e in
    (fits.0, fits.1, λ h. after_lined (codes "pattern") ws rest refl word (fits.2 h))

compare_fits : (ws : List Word) (r : ListedOp × ℕ × List Word) → compare_at ws ≡ Some r → OpFits ws r
unfolding compare_at
compare_fits ws r e =
    let src = bound (number_at (greatest 64) ws) _ r e in
    let other = bound (after (codes "with") src.0.1) _ r src.2 in
    let fits = other_fits src.0.0 other.0 (after (codes "pattern") other.0) r (address_fits ws src.0 src.1) refl other.2 in
    (fits.0, fits.1, λ h. number_lined (greatest 64) ws src.0 src.1 (after_lined (codes "with") src.0.1 other.0 refl other.1 (fits.2 h)))

delta_fits : (ws : List Word) (r : ListedOp × ℕ × List Word) → delta_at ws ≡ Some r → OpFits ws r
unfolding delta_at
delta_fits ws r e =
    let delta = bound (number_at (greatest 64) ws) _ r e in
    let comma = bound (after (codes ",") delta.0.1) _ r delta.2 in
    let record_size = bound (size_at comma.0) _ r comma.2 in
    let recorded = size_fits comma.0 record_size.0 record_size.1 in
    let to = bound (after (codes "->") record_size.0.1) _ r record_size.2 in
    let dst = bound (number_at (greatest 64) to.0) _ r to.2 in
    let second = bound (after (codes ",") dst.0.1) _ r dst.2 in
    let size = bound (size_at second.0) _ r second.2 in
    let sized = size_fits second.0 size.0 size.1 in
    subst (OpFits ws) (same_Some _ r size.2) (
      (address_fits ws delta.0 delta.1, address_fits to.0 dst.0 dst.1, recorded.0),
      sized.0,
      λ h.
          number_lined (greatest 64) ws delta.0 delta.1 (
          after_lined (codes ",") delta.0.1 comma.0 refl comma.1 (
          recorded.1 (
          after_lined (codes "->") record_size.0.1 to.0 refl to.1 (
          number_lined (greatest 64) to.0 dst.0 dst.1 (
          after_lined (codes ",") dst.0.1 second.0 refl second.1 (sized.1 h)))))),
    )

dualcast_fits : (ws : List Word) (r : ListedOp × ℕ × List Word) → dualcast_at ws ≡ Some r → OpFits ws r
unfolding dualcast_at
dualcast_fits ws r e =
    let src = bound (number_at (greatest 64) ws) _ r e in
    let to = bound (after (codes "->") src.0.1) _ r src.2 in
    let dst = bound (number_at (greatest 64) to.0) _ r to.2 in
    let next = bound (after (codes "and") dst.0.1) _ r dst.2 in
    let dst2 = bound (number_at (greatest 64) next.0) _ r next.2 in
    let comma = bound (after (codes ",") dst2.0.1) _ r dst2.2 in
    let size = bound (size_at comma.0) _ r comma.2 in
    let sized = size_fits comma.0 size.0 size.1 in
    subst (OpFits ws) (same_Some _ r size.2) (
      (address_fits ws src.0 src.1, address_fits to.0 dst.0 dst.1, address_fits next.0 dst2.0 dst2.1),
      sized.0,
      λ h.
          number_lined (greatest 64) ws src.0 src.1 (
          after_lined (codes "->") src.0.1 to.0 refl to.1 (
          number_lined (greatest 64) to.0 dst.0 dst.1 (
          after_lined (codes "and") dst.0.1 next.0 refl next.1 (
          number_lined (greatest 64) next.0 dst2.0 dst2.1 (
          after_lined (codes ",") dst2.0.1 comma.0 refl comma.1 (sized.1 h)))))),
    )

-- a seed fits its place
abbrev SeedRead : List Word → Seed × List Word → Type 0
SeedRead ws r = SeedFits r.0 × (Lined r.1 → Lined ws)

value_fits : (ws : List Word) (r : Seed × List Word) → seed_value_at ws ≡ Some r → SeedRead ws r
value_fits ws r e =
    let n = bound (number_at (greatest 32) ws) _ r e in
    let fits = number_fits (greatest 32) ws n.0 n.1 in
    let small : n.0.0 < 2 ^ 32 = omega arith in
    subst (SeedRead ws) (same_Some _ r n.2) (small, λ h. number_lined (greatest 32) ws n.0 n.1 h)

seed_by_fits : (ws : List Word) (rest : Option (List Word)) (r : Seed × List Word) → after (codes "at") ws ≡ rest → seed_by ws rest ≡ Some r → SeedRead ws r
seed_by_fits ws None r word e = value_fits ws r e
seed_by_fits ws (Some rest) r word e =
    let n = bound (number_at (greatest 64) rest) _ r e in
    subst (SeedRead ws) (same_Some _ r n.2) (address_fits rest n.0 n.1, λ h. after_lined (codes "at") ws rest refl word (number_lined (greatest 64) rest n.0 n.1 h))

seed_or_zero_fits : (ws : List Word) (rest : Option (List Word)) (r : Seed × List Word) → named (codes "seed") ws ≡ rest → seed_or_zero ws rest ≡ Some r → SeedRead ws r
seed_or_zero_fits ws None r word e =
    let none : 0 < 2 ^ 32 = omega arith in
    subst (SeedRead ws) (same_Some _ r e) (none, λ h. h)
seed_or_zero_fits ws (Some rest) r word e =
    let fits = seed_by_fits rest (after (codes "at") rest) r refl e in
    (fits.0, λ h. named_lined (codes "seed") ws rest refl word (fits.1 h))

seed_fits : (ws : List Word) (r : Seed × List Word) → seed_at ws ≡ Some r → SeedRead ws r
unfolding seed_at
seed_fits ws r e = seed_or_zero_fits ws (named (codes "seed") ws) r refl e

crc_fits : (ws : List Word) (r : ListedOp × ℕ × List Word) → crc_at ws ≡ Some r → OpFits ws r
unfolding crc_at
crc_fits ws r e =
    let src = bound (number_at (greatest 64) ws) _ r e in
    let comma = bound (after (codes ",") src.0.1) _ r src.2 in
    let size = bound (size_at comma.0) _ r comma.2 in
    let sized = size_fits comma.0 size.0 size.1 in
    let seed = bound (seed_at size.0.1) _ r size.2 in
    let seeded = seed_fits size.0.1 seed.0 seed.1 in
    subst (OpFits ws) (same_Some _ r seed.2) (
      (address_fits ws src.0 src.1, seeded.0),
      sized.0,
      λ h. number_lined (greatest 64) ws src.0 src.1 (after_lined (codes ",") src.0.1 comma.0 refl comma.1 (sized.1 (seeded.1 h))),
    )

copy_crc_fits : (ws : List Word) (r : ListedOp × ℕ × List Word) → copy_crc_at ws ≡ Some r → OpFits ws r
unfolding copy_crc_at
copy_crc_fits ws r e =
    let src = bound (number_at (greatest 64) ws) _ r e in
    let to = bound (after (codes "->") src.0.1) _ r src.2 in
    let dst = bound (number_at (greatest 64) to.0) _ r to.2 in
    let comma = bound (after (codes ",") dst.0.1) _ r dst.2 in
    let size = bound (size_at comma.0) _ r comma.2 in
    let sized = size_fits comma.0 size.0 size.1 in
    let seed = bound (seed_at size.0.1) _ r size.2 in
    let seeded = seed_fits size.0.1 seed.0 seed.1 in
    subst (OpFits ws) (same_Some _ r seed.2) (
      (address_fits ws src.0 src.1, address_fits to.0 dst.0 dst.1, seeded.0),
      sized.0,
      λ h.
          number_lined (greatest 64) ws src.0 src.1 (
          after_lined (codes "->") src.0.1 to.0 refl to.1 (
          number_lined (greatest 64) to.0 dst.0 dst.1 (
          after_lined (codes ",") dst.0.1 comma.0 refl comma.1 (sized.1 (seeded.1 h))))),
    )

-- the same after the operation's name
op_named : (w name : Word) (ws : List Word) (r : ListedOp × ℕ × List Word) → begins_newline name ≡ false → OpFits ws r → bytes_eq w name ≡ true → OpFits (w ∷ ws) r
op_named w name ws r plain fits e = (fits.0, fits.1, λ h. (same_lined w name e plain, fits.2 h))

op_fits : (ws : List Word) (r : ListedOp × ℕ × List Word) → op_at ws ≡ Some r → OpFits ws r
unfolding op_at
op_fits [] r e = absurd cc
op_fits (w ∷ ws) r e =
    one_of (bytes_eq w (codes "move")) _ _ r e (λ b e. op_named w (codes "move") ws r refl (move_fits ws r e) b) (λ e.
    one_of (bytes_eq w (codes "fill")) _ _ r e (λ b e. op_named w (codes "fill") ws r refl (fill_fits ws r e) b) (λ e.
    one_of (bytes_eq w (codes "compare")) _ _ r e (λ b e. op_named w (codes "compare") ws r refl (compare_fits ws r e) b) (λ e.
    one_of (bytes_eq w (codes "delta")) _ _ r e (λ b e. op_named w (codes "delta") ws r refl (delta_fits ws r e) b) (λ e.
    one_of (bytes_eq w (codes "dualcast")) _ _ r e (λ b e. op_named w (codes "dualcast") ws r refl (dualcast_fits ws r e) b) (λ e.
    one_of (bytes_eq w (codes "crc")) _ _ r e (λ b e. op_named w (codes "crc") ws r refl (crc_fits ws r e) b) (λ e.
    one_of (bytes_eq w (codes "copy_crc")) _ _ r e (λ b e. op_named w (codes "copy_crc") ws r refl (copy_crc_fits ws r e) b) (λ (none : None ≡ Some r). absurd cc)))))))

-- ---- options

abbrev pub OptionsFit : Options → Type 0
OptionsFit o = (or_zero o.pasid < 2 ^ 20) × (bit_and (or_zero o.flags) carried_mask ≡ or_zero o.flags) × (or_zero o.handle < 2 ^ 16)

abbrev NextFits : List Word → Options × List Word → Type 0
NextFits ws r = OptionsFit r.0 × (Lined r.1 → Lined ws)

pasid_option : (o : Options) (ws : List Word) (r : Options × List Word) → OptionsFit o → pasid_at o ws ≡ Some r → NextFits ws r
unfolding pasid_at
pasid_option o ws r fit e =
    let free = unless (is_some o.pasid) _ r e in
    let n = bound (number_at (greatest 20) ws) _ r free in
    let fits = number_fits (greatest 20) ws n.0 n.1 in
    let small : n.0.0 < 2 ^ 20 = omega arith in
    subst (NextFits ws) (same_Some _ r n.2) ((small, fit.1, fit.2), λ h. number_lined (greatest 20) ws n.0 n.1 h)

privileged_option : (o : Options) (ws : List Word) (r : Options × List Word) → OptionsFit o → privileged_at o ws ≡ Some r → NextFits ws r
unfolding privileged_at
privileged_option o ws r fit e = subst (NextFits ws) (same_Some _ r (unless _ _ r e)) (fit, λ h. h)

check_option : (o : Options) (ws : List Word) (r : Options × List Word) → OptionsFit o → check_at o ws ≡ Some r → NextFits ws r
unfolding check_at
check_option o ws r fit e = subst (NextFits ws) (same_Some _ r (unless _ _ r e)) (fit, λ h. h)

flags_option : (o : Options) (ws : List Word) (r : Options × List Word) → OptionsFit o → flags_at o ws ≡ Some r → NextFits ws r
unfolding flags_at
flags_option o ws r fit e =
    let free = unless (is_some o.flags) _ r e in
    let n = bound (number_at (greatest 24) ws) _ r free in
    let h = cond_some (bit_and n.0.0 carried_mask == n.0.0) _ r n.2 in
    subst (NextFits ws) h.1 ((fit.0, eqb-true _ _ h.0, fit.2), λ l. number_lined (greatest 24) ws n.0 n.1 l)

handle_option : (o : Options) (ws : List Word) (r : Options × List Word) → OptionsFit o → handle_at o ws ≡ Some r → NextFits ws r
unfolding handle_at
handle_option o ws r fit e =
    let free = unless (is_some o.handle) _ r e in
    let n = bound (number_at (greatest 16) ws) _ r free in
    let fits = number_fits (greatest 16) ws n.0 n.1 in
    let small : n.0.0 < 2 ^ 16 = omega arith in
    subst (NextFits ws) (same_Some _ r n.2) ((fit.0, fit.1, small), λ h. number_lined (greatest 16) ws n.0 n.1 h)

option_named : (w name : Word) (ws : List Word) (r : Options × List Word) → begins_newline name ≡ false → NextFits ws r → bytes_eq w name ≡ true → NextFits (w ∷ ws) r
option_named w name ws r plain fits e = (fits.0, λ h. (same_lined w name e plain, fits.1 h))

option_fits : (o : Options) (ws : List Word) (r : Options × List Word) → OptionsFit o → option_at o ws ≡ Some r → NextFits ws r
unfolding option_at
option_fits o [] r fit e = absurd cc
option_fits o (w ∷ ws) r fit e =
    one_of (bytes_eq w (codes "pasid")) _ _ r e (λ b e. option_named w (codes "pasid") ws r refl (pasid_option o ws r fit e) b) (λ e.
    one_of (bytes_eq w (codes "privileged")) _ _ r e (λ b e. option_named w (codes "privileged") ws r refl (privileged_option o ws r fit e) b) (λ e.
    one_of (bytes_eq w (codes "check")) _ _ r e (λ b e. option_named w (codes "check") ws r refl (check_option o ws r fit e) b) (λ e.
    one_of (bytes_eq w (codes "flags")) _ _ r e (λ b e. option_named w (codes "flags") ws r refl (flags_option o ws r fit e) b) (λ e.
    one_of (bytes_eq w (codes "handle")) _ _ r e (λ b e. option_named w (codes "handle") ws r refl (handle_option o ws r fit e) b) (λ (none : None ≡ Some r). absurd cc)))))

pub options_fit : (most : ℕ) (o : Options) (ws : List Word) (r : Options) → OptionsFit o → options_at most o ws ≡ Some r → OptionsFit r × Lined ws
unfolding options_at
options_fit zero o [] r fit e = (subst OptionsFit (same_Some o r e) fit, tt)
options_fit (suc most) o [] r fit e = (subst OptionsFit (same_Some o r e) fit, tt)
options_fit zero o (w ∷ ws) r fit e = absurd cc
options_fit (suc most) o (w ∷ ws) r fit e =
    let later = bound (after (codes ",") (w ∷ ws)) _ r e in
    let next = bound (option_at o later.0) _ r later.2 in
    let fits = option_fits o later.0 next.0 fit next.1 in
    let rest = options_fit most next.0.0 next.0.1 r fits.0 next.2 in
    (rest.0, after_lined (codes ",") (w ∷ ws) later.0 refl later.1 (fits.1 rest.1))

-- ---- a line

-- so do the fields of a line with these options
fields_fit : (op : ListedOp) (size record_at : ℕ) (o : Options) → LineFits op → size < 2 ^ 32 → record_at < 2 ^ 64 → OptionsFit o → AreFitting (fields_with op size record_at o)
fields_fit (either.Descriptor op) size record_at o fits sized recorded options = record {
  pasid_fits = options.0;
  flags_fit = line_flags_below (either.Descriptor op) (or_zero o.flags) o.check options.1;
  record_at_fits = recorded;
  size_fits = sized;
  int_handle_fits = options.2;
  op_fits = fits;
}
fields_fit (either.Checksum op) size record_at o fits sized recorded options = record {
  pasid_fits = options.0;
  flags_fit = line_flags_below (either.Checksum op) (or_zero o.flags) o.check options.1;
  record_at_fits = recorded;
  size_fits = sized;
  int_handle_fits = options.2;
  op_fits = fits;
  seed_told = line_tells (seed_of op) (or_zero o.flags) o.check options.1;
}

-- and they have no fence
fields_plain : (op : ListedOp) (size record_at : ℕ) (o : Options) → OptionsFit o → flags_of (fields_with op size record_at o) % 2 ≡ 0
fields_plain (either.Descriptor op) size record_at o options = line_flags_even (either.Descriptor op) (or_zero o.flags) o.check options.1
fields_plain (either.Checksum op) size record_at o options = line_flags_even (either.Checksum op) (or_zero o.flags) o.check options.1

-- what a line spells
abbrev pub AreOfLine : OperationFields → Type 0
AreOfLine f = AreFitting f × (flags_of f % 2 ≡ 0)

-- what words spell fits its places and has no fence, and none of these words is a newline
read_words : (words : List Word) (f : OperationFields) → fields_of words ≡ Some f → AreOfLine f × Lined words
unfolding fields_of
read_words words f e =
    let op = bound (op_at words) _ f e in
    let later = bound (named (codes "record") op.0.2) _ f op.2 in
    let record_at = bound (number_at (greatest 64) later.0) _ f later.2 in
    let options = bound (options_at 5 no_options record_at.0.1) _ f record_at.2 in
    let o = op_fits words op.0 op.1 in
    let p = options_fit 5 no_options record_at.0.1 options.0 (omega arith, refl, omega arith) options.1 in (
      subst AreOfLine (same_Some _ f options.2)
          (fields_fit op.0.0 op.0.1 record_at.0.0 options.0 o.0 o.1 (address_fits later.0 record_at.0 record_at.1) p.0, fields_plain op.0.0 op.0.1 record_at.0.0 options.0 p.0),
      o.2 (named_lined (codes "record") op.0.2 later.0 refl later.1 (number_lined (greatest 64) later.0 record_at.0 record_at.1 p.1)),
    )

pub words_spelt : (words : List Word) (f : OperationFields) → fields_of words ≡ Some f → AreOfLine f
words_spelt words f e = (read_words words f e).0

words_fit : (words : List Word) (f : OperationFields) → fields_of words ≡ Some f → AreFitting f
words_fit words f e = (words_spelt words f e).0

-- lines that spell fields of the same bytes spell the same fields
pub same_bytes : (text other : List ℕ) (f g : OperationFields) → Spells text f → Spells other g → fields_spelling f ≡ fields_spelling g → f ≡ g
same_bytes text other f g e p same = same_fields f g (words_fit (words_of text) f e) (words_fit (words_of other) g p) same

-- fields that a line spells are those of the operation with their bytes
pub spelled_operation : (text : List ℕ) (f : OperationFields) (o : Operation) → Spells text f → fields_spelling f ≡ spelling_of o → f ≡ operation_fields o
spelled_operation text f o e same = same_fields f (operation_fields o) (words_fit (words_of text) f e) (operation_fits o) same

-- the operation that is read from the bytes of a line's fields has these fields
pub read_fields : (words : List Word) (f : OperationFields) (bytes : List ℕ) (o : Operation) → fields_of words ≡ Some f → bytes ≡ fields_spelling f → bytes ≡ spelling_of o
    → Answers (fields_of words) (Ok o)
read_fields words f bytes o e spelt found = rw e (same_fields f (operation_fields o) (words_fit words f e) (operation_fits o) (sym spelt ∙ found))

-- ---- a text that spells fields has no newline

abbrev NoNewline : List ℕ → Type 0
NoNewline text = AllByRecursion (λ byte. byte ≢ 10) text

abbrev head_newline : List Word → Bool
head_newline [] = false
head_newline (w ∷ ws) = begins_newline w

starts : (more : Bool) (d : ℕ) (ws : List Word) → head_newline (cond more (with_front d ws) ((d ∷ []) ∷ ws)) ≡ (d == 10)
starts true d [] = refl
starts true d (w ∷ ws) = refl
starts false d ws = refl

lined_without_front : (c : ℕ) (ws : List Word) → head_newline ws ≡ false → Lined (with_front c ws) → Lined ws
lined_without_front c [] plain h = tt
lined_without_front c (w ∷ ws) plain h = (plain, h.1)

in_word_no_newline : (d : ℕ) → is_in_word d ≡ true → (d == 10) ≡ false
in_word_no_newline d e = ne_eqb d 10 (λ k. let plain : is_in_word 10 ≡ true = rw k at e in cc)

word_lined : (more : Bool) (c : ℕ) (cs : List ℕ) → goes_on cs ≡ more → Lined (cond more (with_front c (words_of cs)) ((c ∷ []) ∷ words_of cs)) → Lined (words_of cs)
word_lined false c cs e h = h.1
word_lined true c [] e h = absurd cc
word_lined true c (d ∷ ds) e h =
    lined_without_front c (words_of (d ∷ ds)) (ap head_newline (word_byte d ds e) ∙ starts (goes_on ds) d (words_of ds) ∙ in_word_no_newline d e) h

rest_lined : {P : Type 0} (comment blank comma newline : Bool) (c : ℕ) (cs : List ℕ)
    → Lined (cond comment (words_in true cs) (cond blank (words_of cs) (cond comma ((44 ∷ []) ∷ words_of cs) (cond newline ((10 ∷ []) ∷ words_of cs)
    (cond (goes_on cs) (with_front c (words_of cs)) ((c ∷ []) ∷ words_of cs))))))
    → (Lined (words_in true cs) → P) → (Lined (words_of cs) → P) → P
rest_lined true blank comma newline c cs h first second = first h
rest_lined false true comma newline c cs h first second = second h
rest_lined false false true newline c cs h first second = second h.1
rest_lined false false false true c cs h first second = second h.1
rest_lined false false false false c cs h first second = second (word_lined (goes_on cs) c cs refl h)

comment_lined : (b : Bool) (c : ℕ) (cs : List ℕ) → (c == 10) ≡ b → Lined (cond b ((10 ∷ []) ∷ words_of cs) (words_in true cs)) → (Lined (words_in true cs) → NoNewline cs)
    → NoNewline (c ∷ cs)
comment_lined true c cs e h rest = absurd (let plain : true ≡ false = h.0 in cc)
comment_lined false c cs e h rest = (eqb-false c 10 e, rest h)

newline_first : (c : ℕ) (cs : List ℕ) → c ≡ 10 → Lined (words_of (c ∷ cs)) → ⊥
unfolding words_in
newline_first c cs k h = let there : Lined (words_of (10 ∷ cs)) = subst (λ (b : ℕ). Lined (words_of (b ∷ cs))) k h in let plain : true ≡ false = there.0 in cc

text_lined : (comment : Bool) (text : List ℕ) → Lined (words_in comment text) → NoNewline text
unfolding words_in
text_lined comment [] h = tt
text_lined true (c ∷ cs) h = comment_lined (c == 10) c cs refl h (text_lined true cs)
text_lined false (c ∷ cs) h = (newline_is_not, rest_lined (c == 35) (is_blank c) (c == 44) (c == 10) c cs h (text_lined true cs) (text_lined false cs))
  where
    newline_is_not : c ≢ 10
    newline_is_not k = newline_first c cs k h

pub spelled_line : (text : List ℕ) (f : OperationFields) → Spells text f → NoNewline text
spelled_line text f e = text_lined false text (read_words (words_of text) f e).1
