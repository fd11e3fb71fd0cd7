-- The canonical line of fields spells them.
use Rattle.std.proofs.Common.{◌≡◌, ℕ, zero, suc, ◌+◌, ◌-◌, ◌^◌, ◌<◌, ◌≤◌, Bool, true, false, cond, Option, List, [], ◌∷◌, ◌++◌, Some, None, refl, sym, ap, ◌∙◌, append_assoc, arith}
use Rattle.std.proofs.lemmas.List.{append-nil}
use Rattle.std.specs.Prelude.{◌==◌, decimal, codes, bit_and}
use Rattle.std.proofs.lemmas.Bool.{le-leb, eqb-true, eq-eqb}
use Rattle.dsa_descriptor.specs.declared.op.Op.{Op}
use Rattle.dsa_descriptor.specs.declared.op.Op.TheVariants.{Move, Fill, Compare, ComparePattern, ApplyDelta, Dualcast}
use Rattle.dsa_descriptor.specs.Profile.{FieldsFit, HasExpectedBit}
use Rattle.dsa_operations.specs.declared.checksum_op.ChecksumOp.{ChecksumOp}
use Rattle.dsa_operations.specs.declared.checksum_op.ChecksumOp.TheVariants.{Crc, CopyCrc}
use Rattle.dsa_operations.specs.declared.checksum_op.Seed.{Seed}
use Rattle.dsa_operations.specs.declared.checksum_op.Seed.TheVariants.{Given, At}
use Rattle.dsa_operations.specs.OperationFields.{OperationFields, AreListedFields}
use Rattle.dsa_operations.specs.OperationFields.OperationFields.{OfDescriptor, OfChecksum}
use Rattle.dsa_operations.specs.Profile.{SeedFits}
use Rattle.dsa_operations.specs.Profile as checksums
use Rattle.dsa_operations.specs.declared.listed_op.ListedOp.{ListedOp}
use Rattle.dsa_operations.specs.declared.listed_op.ListedOp.TheVariants as either
use Rattle.dsa_lines.specs.declared.options.Options.{Options}
use Rattle.dsa_lines.specs.Words.{Word, words_of}
use Rattle.dsa_lines.specs.Numbers.{hex, pattern_word}
use Rattle.dsa_lines.specs.Options.{no_options, or_zero, fields_by, fields_with, line_flags, carried_mask, carried_flags, writes_check}
use Rattle.dsa_lines.specs.Grammar.{greatest, after, number_at, count_at, pattern_at, size_at, move_at, fill_at, expected_at, compare_region_at, compare_pattern_at, compare_at, delta_at, dualcast_at, seed_at, crc_at, copy_crc_at, op_at, pasid_at, privileged_at, check_at, flags_at, handle_at, option_at, options_at, fields_of, Spells}
use Rattle.dsa_lines.specs.Text.{op_words, checksum_words, seed_words, sized_words, operation_words, number_option, name_option, option_words, later_words, fields_later, line_words, tail_text, text_of, line_text, spaced}
use Rattle.dsa_lines.proofs.WordLemmas.{AreWords, is_word, text_words}
use Rattle.dsa_lines.proofs.NumberLemmas.{hex_word, decimal_word, hex_again, decimal_again, size_again, spaced_decimal, pattern_is_word, pattern_again, spaced_pattern}
use Rattle.dsa_lines.proofs.FlagLemmas.{flags_again, checksum_flags_again, carried_again, carried_fit}

-- ---- numbers and operations

pub hex_at : (n most : ℕ) (ws : List Word) → n < 2 ^ 64 → n ≤ most → number_at most (hex n ∷ ws) ≡ Some (n, ws)
hex_at n most ws lt le = rw (hex_again n lt, le-leb _ _ le) refl

pub decimal_at : (n most : ℕ) (ws : List Word) → n < 2 ^ 64 → n ≤ most → number_at most (decimal n ∷ ws) ≡ Some (n, ws)
decimal_at n most ws lt le = rw (decimal_again n lt, le-leb _ _ le) refl

pattern_here : (n : ℕ) (ws : List Word) → n < 2 ^ 64 → pattern_at (pattern_word n ∷ ws) ≡ Some (n, ws)
pattern_here n ws lt = rw (pattern_again n lt) refl

count_again : (n : ℕ) (ws : List Word) → n < 2 ^ 32 → count_at (decimal n ∷ ws) ≡ Some (n, ws)
count_again n ws lt = rw (size_again n (omega arith), le-leb n (greatest 32) (omega arith)) refl

sized_again : (n : ℕ) (ws : List Word) → n < 2 ^ 32 → size_at (decimal n ∷ codes "bytes" ∷ ws) ≡ Some (n, ws)
unfolding size_at
sized_again n ws lt = rw (count_again n (codes "bytes" ∷ ws) lt) refl

move_again : (src dst size : ℕ) (ws : List Word) → src < 2 ^ 64 → dst < 2 ^ 64 → size < 2 ^ 32
    → move_at (hex src ∷ codes "->" ∷ hex dst ∷ codes "," ∷ decimal size ∷ codes "bytes" ∷ ws) ≡ Some (either.Descriptor (Move src dst), size, ws)
unfolding move_at
move_again src dst size ws a b c =
    rw (hex_at src (greatest 64) (codes "->" ∷ hex dst ∷ codes "," ∷ decimal size ∷ codes "bytes" ∷ ws) a (omega arith), hex_at dst (greatest 64) (codes "," ∷ decimal size ∷ codes "bytes" ∷ ws) b (omega arith), sized_again size ws c) refl

fill_again : (pattern dst size : ℕ) (ws : List Word) → pattern < 2 ^ 64 → dst < 2 ^ 64 → size < 2 ^ 32
    → fill_at (hex dst ∷ codes "with" ∷ pattern_word pattern ∷ codes "," ∷ decimal size ∷ codes "bytes" ∷ ws) ≡ Some (either.Descriptor (Fill pattern dst), size, ws)
unfolding fill_at
fill_again pattern dst size ws a b c =
    let w2 : List Word = codes "," ∷ decimal size ∷ codes "bytes" ∷ ws in
    let w1 : List Word = codes "with" ∷ pattern_word pattern ∷ w2 in
    rw (hex_at dst (greatest 64) w1 b (omega arith), pattern_here pattern w2 a, sized_again size ws c) refl

expected_again : (expected size : ℕ) (ws : List Word) → expected ≤ 1 → size < 2 ^ 32
    → expected_at (codes "," ∷ decimal size ∷ codes "bytes" ∷ codes "," ∷ codes "expect" ∷ decimal expected ∷ ws) ≡ Some (size, expected, ws)
unfolding expected_at
expected_again expected size ws e c =
    let w1 : List Word = codes "," ∷ codes "expect" ∷ decimal expected ∷ ws in
    rw (sized_again size w1 c, decimal_at expected 1 ws (omega arith) e) refl

abbrev expected_words : ℕ → ℕ → List Word → List Word
expected_words expected size ws = codes "," ∷ decimal size ∷ codes "bytes" ∷ codes "," ∷ codes "expect" ∷ decimal expected ∷ ws

region_again : (src src2 expected size : ℕ) (ws : List Word) → src2 < 2 ^ 64 → expected ≤ 1 → size < 2 ^ 32
    → compare_region_at src (hex src2 ∷ expected_words expected size ws) ≡ Some (either.Descriptor (Compare src src2 expected), size, ws)
unfolding compare_region_at
region_again src src2 expected size ws b e c =
    rw (hex_at src2 (greatest 64) (expected_words expected size ws) b (omega arith), expected_again expected size ws e c) refl

pattern_compared : (src pattern expected size : ℕ) (ws : List Word) → pattern < 2 ^ 64 → expected ≤ 1 → size < 2 ^ 32
    → compare_pattern_at src (pattern_word pattern ∷ expected_words expected size ws) ≡ Some (either.Descriptor (ComparePattern src pattern expected), size, ws)
unfolding compare_pattern_at
pattern_compared src pattern expected size ws b e c =
    rw (pattern_here pattern (expected_words expected size ws) b, expected_again expected size ws e c) refl

compare_again : (src src2 expected size : ℕ) (ws : List Word) → src < 2 ^ 64 → src2 < 2 ^ 64 → expected ≤ 1 → size < 2 ^ 32
    → compare_at (hex src ∷ codes "with" ∷ hex src2 ∷ expected_words expected size ws) ≡ Some (either.Descriptor (Compare src src2 expected), size, ws)
unfolding compare_at
compare_again src src2 expected size ws a b e c =
    rw (hex_at src (greatest 64) (codes "with" ∷ hex src2 ∷ expected_words expected size ws) a (omega arith)) (region_again src src2 expected size ws b e c)

compare_pattern_again : (src pattern expected size : ℕ) (ws : List Word) → src < 2 ^ 64 → pattern < 2 ^ 64 → expected ≤ 1 → size < 2 ^ 32
    → compare_at (hex src ∷ codes "with" ∷ codes "pattern" ∷ pattern_word pattern ∷ expected_words expected size ws) ≡ Some (either.Descriptor (ComparePattern src pattern expected), size, ws)
unfolding compare_at
compare_pattern_again src pattern expected size ws a b e c =
    rw (hex_at src (greatest 64) (codes "with" ∷ codes "pattern" ∷ pattern_word pattern ∷ expected_words expected size ws) a (omega arith)) (pattern_compared src pattern expected size ws b e c)

delta_again : (delta dst record_size size : ℕ) (ws : List Word) → delta < 2 ^ 64 → dst < 2 ^ 64 → record_size < 2 ^ 32 → size < 2 ^ 32
    → delta_at (hex delta ∷ codes "," ∷ decimal record_size ∷ codes "bytes" ∷ codes "->" ∷ hex dst ∷ codes "," ∷ decimal size ∷ codes "bytes" ∷ ws) ≡ Some (either.Descriptor (ApplyDelta delta dst record_size), size, ws)
unfolding delta_at
delta_again delta dst record_size size ws a b e c =
    let w2 : List Word = codes "," ∷ decimal size ∷ codes "bytes" ∷ ws in
    let w1 : List Word = codes "->" ∷ hex dst ∷ w2 in
    rw (hex_at delta (greatest 64) (codes "," ∷ decimal record_size ∷ codes "bytes" ∷ w1) a (omega arith), sized_again record_size w1 e, hex_at dst (greatest 64) w2 b (omega arith), sized_again size ws c) refl

dualcast_again : (src dst dst2 size : ℕ) (ws : List Word) → src < 2 ^ 64 → dst < 2 ^ 64 → dst2 < 2 ^ 64 → size < 2 ^ 32
    → dualcast_at (hex src ∷ codes "->" ∷ hex dst ∷ codes "and" ∷ hex dst2 ∷ codes "," ∷ decimal size ∷ codes "bytes" ∷ ws) ≡ Some (either.Descriptor (Dualcast src dst dst2), size, ws)
unfolding dualcast_at
dualcast_again src dst dst2 size ws a b e c =
    let w2 : List Word = codes "," ∷ decimal size ∷ codes "bytes" ∷ ws in
    let w1 : List Word = codes "and" ∷ hex dst2 ∷ w2 in
    rw (hex_at src (greatest 64) (codes "->" ∷ hex dst ∷ w1) a (omega arith), hex_at dst (greatest 64) w1 b (omega arith), hex_at dst2 (greatest 64) w2 e (omega arith), sized_again size ws c) refl

-- the words of an operation are read
op_again : (op : Op) (size : ℕ) (ws : List Word) → FieldsFit op → HasExpectedBit op → size < 2 ^ 32 → op_at (op_words op size ++ ws) ≡ Some (either.Descriptor op, size, ws)
unfolding op_at
op_again (Move src dst) size ws fit bit s = move_again src dst size ws fit.0 fit.1 s
op_again (Fill pattern dst) size ws fit bit s = fill_again pattern dst size ws fit.0 fit.1 s
op_again (Compare src src2 expected) size ws fit bit s = compare_again src src2 expected size ws fit.0 fit.1 bit s
op_again (ComparePattern src pattern expected) size ws fit bit s = compare_pattern_again src pattern expected size ws fit.0 fit.1 bit s
op_again (ApplyDelta delta dst record_size) size ws fit bit s = delta_again delta dst record_size size ws fit.0 fit.1 fit.2 s
op_again (Dualcast src dst dst2) size ws fit bit s = dualcast_again src dst dst2 size ws fit.0 fit.1 fit.2 s

-- a seed that is written is read
seed_again : (seed : Seed) (ws : List Word) → SeedFits seed → seed_at (codes "," ∷ (seed_words seed ++ ws)) ≡ Some (seed, ws)
unfolding seed_at
seed_again (Given value) ws fit = rw (hex_at value (greatest 32) ws (omega (arith, fit)) (omega (arith, fit))) refl
seed_again (At address) ws fit = rw (hex_at address (greatest 64) ws fit (omega (arith, fit))) refl

crc_again : (src size : ℕ) (seed : Seed) (ws : List Word) → src < 2 ^ 64 → SeedFits seed → size < 2 ^ 32
    → crc_at (hex src ∷ (sized_words size seed ++ ws)) ≡ Some (either.Checksum (Crc src seed), size, ws)
unfolding crc_at
crc_again src size seed ws a e c =
    let w1 : List Word = codes "," ∷ (seed_words seed ++ ws) in
    rw (hex_at src (greatest 64) (sized_words size seed ++ ws) a (omega arith), sized_again size w1 c, seed_again seed ws e) refl

copy_crc_again : (src dst size : ℕ) (seed : Seed) (ws : List Word) → src < 2 ^ 64 → dst < 2 ^ 64 → SeedFits seed → size < 2 ^ 32
    → copy_crc_at (hex src ∷ codes "->" ∷ hex dst ∷ (sized_words size seed ++ ws)) ≡ Some (either.Checksum (CopyCrc src dst seed), size, ws)
unfolding copy_crc_at
copy_crc_again src dst size seed ws a b e c =
    let w2 : List Word = codes "," ∷ (seed_words seed ++ ws) in
    let w1 : List Word = sized_words size seed ++ ws in
    rw (hex_at src (greatest 64) (codes "->" ∷ hex dst ∷ w1) a (omega arith), hex_at dst (greatest 64) w1 b (omega arith), sized_again size w2 c, seed_again seed ws e) refl

checksum_again : (op : ChecksumOp) (size : ℕ) (ws : List Word) → checksums.FieldsFit op → size < 2 ^ 32 → op_at (checksum_words op size ++ ws) ≡ Some (either.Checksum op, size, ws)
unfolding op_at
checksum_again (Crc src seed) size ws fit s = crc_again src size seed ws fit.0 fit.1 s
checksum_again (CopyCrc src dst seed) size ws fit s = copy_crc_again src dst size seed ws fit.0 fit.1 fit.2 s

-- ---- options

abbrev opts : Option ℕ → Bool → Bool → Option ℕ → Option ℕ → Options
opts pasid privileged check flags handle = record { pasid = pasid; privileged = privileged; check = check; flags = flags; handle = handle }

-- what is read of an option that is written if it isn't 0
abbrev some_number : ℕ → Option ℕ
some_number n = cond (n == 0) None (Some n)

number_back : (b : Bool) (n : ℕ) → (n == 0) ≡ b → or_zero (some_number n) ≡ n
number_back true n e = let zero_is : n ≡ 0 = eqb-true _ _ e in rw e (sym zero_is)
number_back false n e = rw e refl

pasid_step : (t n : ℕ) (p k : Bool) (f h : Option ℕ) (ws : List Word) → n < 2 ^ 20
    → options_at (suc t) (opts None p k f h) (codes "," ∷ codes "pasid" ∷ decimal n ∷ ws) ≡ options_at t (opts (Some n) p k f h) ws
unfolding options_at option_at pasid_at
pasid_step t n p k f h ws lt = rw (decimal_at n (greatest 20) ws (omega arith) (omega arith)) refl

privileged_step : (t : ℕ) (n : Option ℕ) (k : Bool) (f h : Option ℕ) (ws : List Word)
    → options_at (suc t) (opts n false k f h) (codes "," ∷ codes "privileged" ∷ ws) ≡ options_at t (opts n true k f h) ws
unfolding options_at option_at privileged_at
privileged_step t n k f h ws = refl

check_step : (t : ℕ) (n : Option ℕ) (p : Bool) (f h : Option ℕ) (ws : List Word)
    → options_at (suc t) (opts n p false f h) (codes "," ∷ codes "check" ∷ ws) ≡ options_at t (opts n p true f h) ws
unfolding options_at option_at check_at
check_step t n p f h ws = refl

flags_step : (t n : ℕ) (m : Option ℕ) (p k : Bool) (h : Option ℕ) (ws : List Word) → n < 2 ^ 24 → bit_and n carried_mask ≡ n
    → options_at (suc t) (opts m p k None h) (codes "," ∷ codes "flags" ∷ decimal n ∷ ws) ≡ options_at t (opts m p k (Some n) h) ws
unfolding options_at option_at flags_at
flags_step t n m p k h ws lt e = rw (decimal_at n (greatest 24) ws (omega arith) (omega arith), eq-eqb (bit_and n carried_mask) n e) refl

handle_step : (t n : ℕ) (m : Option ℕ) (p k : Bool) (f : Option ℕ) (ws : List Word) → n < 2 ^ 16
    → options_at (suc t) (opts m p k f None) (codes "," ∷ codes "handle" ∷ decimal n ∷ ws) ≡ options_at t (opts m p k f (Some n)) ws
unfolding options_at option_at handle_at
handle_step t n m p k f ws lt = rw (decimal_at n (greatest 16) ws (omega arith) (omega arith)) refl

pub over : (t : ℕ) (o : Options) → options_at t o [] ≡ Some o
unfolding options_at
over zero o = refl
over (suc t) o = refl

handle_read : (b : Bool) (t n : ℕ) (m : Option ℕ) (p k : Bool) (f : Option ℕ) → (n == 0) ≡ b → n < 2 ^ 16
    → options_at (suc t) (opts m p k f None) (number_option (codes "handle") n) ≡ Some (opts m p k f (some_number n))
handle_read true t n m p k f e lt = rw e (over (suc t) (opts m p k f None))
handle_read false t n m p k f e lt = rw e (handle_step t n m p k f [] lt ∙ over t (opts m p k f (Some n)))

flags_read : (b : Bool) (t n h : ℕ) (m : Option ℕ) (p k : Bool) → (n == 0) ≡ b → n < 2 ^ 24 → bit_and n carried_mask ≡ n → h < 2 ^ 16
    → options_at (suc (suc t)) (opts m p k None None) (number_option (codes "flags") n ++ number_option (codes "handle") h)
    ≡ Some (opts m p k (some_number n) (some_number h))
flags_read true t n h m p k e lt same lth = rw e (handle_read (h == 0) (suc t) h m p k None refl lth)
flags_read false t n h m p k e lt same lth =
    rw e (flags_step (suc t) n m p k None (number_option (codes "handle") h) lt same ∙ handle_read (h == 0) t h m p k (Some n) refl lth)

check_read : (c : Bool) (t n h : ℕ) (m : Option ℕ) (p : Bool) → n < 2 ^ 24 → bit_and n carried_mask ≡ n → h < 2 ^ 16
    → options_at (suc (suc (suc t))) (opts m p false None None)
    (name_option (codes "check") c ++ (number_option (codes "flags") n ++ number_option (codes "handle") h))
    ≡ Some (opts m p c (some_number n) (some_number h))
check_read true t n h m p lt same lth =
    check_step (suc (suc t)) m p None None (number_option (codes "flags") n ++ number_option (codes "handle") h)
    ∙ flags_read (n == 0) t n h m p true refl lt same lth
check_read false t n h m p lt same lth = flags_read (n == 0) (suc t) n h m p false refl lt same lth

privileged_read : (q c : Bool) (t n h : ℕ) (m : Option ℕ) → n < 2 ^ 24 → bit_and n carried_mask ≡ n → h < 2 ^ 16
    → options_at (suc (suc (suc (suc t)))) (opts m false false None None)
    (name_option (codes "privileged") q ++ (name_option (codes "check") c ++ (number_option (codes "flags") n ++ number_option (codes "handle") h)))
    ≡ Some (opts m q c (some_number n) (some_number h))
privileged_read true c t n h m lt same lth =
    privileged_step (suc (suc (suc t))) m false None None (name_option (codes "check") c ++ (number_option (codes "flags") n ++ number_option (codes "handle") h))
    ∙ check_read c t n h m true lt same lth
privileged_read false c t n h m lt same lth = check_read c (suc t) n h m false lt same lth

abbrev after_pasid : Bool → Bool → ℕ → ℕ → List Word
after_pasid q c n h = name_option (codes "privileged") q ++ (name_option (codes "check") c ++ (number_option (codes "flags") n ++ number_option (codes "handle") h))

pasid_read : (b : Bool) (id : ℕ) (q c : Bool) (n h : ℕ) → (id == 0) ≡ b → id < 2 ^ 20 → n < 2 ^ 24 → bit_and n carried_mask ≡ n → h < 2 ^ 16
    → options_at (suc (suc (suc (suc (suc zero))))) no_options (number_option (codes "pasid") id ++ after_pasid q c n h)
    ≡ Some (opts (some_number id) q c (some_number n) (some_number h))
pasid_read true id q c n h e ltid lt same lth = rw e (privileged_read q c (suc zero) n h None lt same lth)
pasid_read false id q c n h e ltid lt same lth =
    rw e (pasid_step (suc (suc (suc (suc zero)))) id false false None None (after_pasid q c n h) ltid ∙ privileged_read q c zero n h (Some id) lt same lth)

-- the options of the canonical line are read
options_again : (pasid : ℕ) (privileged : Bool) (flags int_handle : ℕ) → pasid < 2 ^ 20 → int_handle < 2 ^ 16
    → options_at 5 no_options (option_words pasid privileged flags int_handle)
    ≡ Some (opts (some_number pasid) privileged (writes_check flags) (some_number (carried_flags flags)) (some_number int_handle))
options_again pasid privileged flags int_handle lt lth =
    pasid_read (pasid == 0) pasid privileged (writes_check flags) (carried_flags flags) int_handle refl lt (carried_fit flags) (carried_again flags) lth

-- ---- the words of the line

number_are : (b : Bool) (name : Word) (n : ℕ) → (n == 0) ≡ b → is_word name ≡ true → n < 2 ^ 64 → AreWords (number_option name n)
number_are true name n e w lt = rw e tt
number_are false name n e w lt = rw e (refl, (w, (decimal_word n lt, tt)))

name_are : (b : Bool) (name : Word) → is_word name ≡ true → AreWords (name_option name b)
name_are true name w = (refl, (w, tt))
name_are false name w = tt

are_append : (a b : List Word) → AreWords a → AreWords b → AreWords (a ++ b)
are_append [] b all more = more
are_append (w ∷ ws) b all more = (all.0, are_append ws b all.1 more)

options_are : (pasid : ℕ) (privileged : Bool) (flags int_handle : ℕ) → pasid < 2 ^ 20 → int_handle < 2 ^ 16 → AreWords (option_words pasid privileged flags int_handle)
options_are pasid privileged flags int_handle lt lth =
    let carried : carried_flags flags < 2 ^ 24 = carried_fit flags in
    are_append (number_option (codes "pasid") pasid) _ (number_are (pasid == 0) (codes "pasid") pasid refl refl (omega arith))
    (are_append (name_option (codes "privileged") privileged) _ (name_are privileged (codes "privileged") refl)
    (are_append (name_option (codes "check") (writes_check flags)) _ (name_are (writes_check flags) (codes "check") refl)
    (are_append (number_option (codes "flags") (carried_flags flags)) _ (number_are (carried_flags flags == 0) (codes "flags") (carried_flags flags) refl refl (omega arith))
    (number_are (int_handle == 0) (codes "handle") int_handle refl refl (omega arith)))))

-- each word of an operation is one, and of what follows it
op_words_are : (op : Op) (size : ℕ) (ws : List Word) → FieldsFit op → HasExpectedBit op → size < 2 ^ 32 → AreWords ws → AreWords (op_words op size ++ ws)
op_words_are (Move src dst) size ws fit bit s all =
    (refl, (hex_word src fit.0, (refl, (hex_word dst fit.1, (refl, (decimal_word size (omega arith), (refl, all)))))))
op_words_are (Fill pattern dst) size ws fit bit s all =
    (refl, (hex_word dst fit.1, (refl, (pattern_is_word pattern, (refl, (decimal_word size (omega arith), (refl, all)))))))
op_words_are (Compare src src2 expected) size ws fit bit s all =
    (refl, (hex_word src fit.0, (refl, (hex_word src2 fit.1, (refl, (decimal_word size (omega arith), (refl, (refl, (refl, (decimal_word expected (omega arith), all))))))))))
op_words_are (ComparePattern src pattern expected) size ws fit bit s all =
    (refl, (hex_word src fit.0, (refl, (refl, (pattern_is_word pattern, (refl, (decimal_word size (omega arith), (refl, (refl, (refl, (decimal_word expected (omega arith), all)))))))))))
op_words_are (ApplyDelta delta dst record_size) size ws fit bit s all =
    (refl, (hex_word delta fit.0, (refl, (decimal_word record_size (omega arith), (refl, (refl, (hex_word dst fit.1, (refl, (decimal_word size (omega arith), (refl, all))))))))))
op_words_are (Dualcast src dst dst2) size ws fit bit s all =
    (refl, (hex_word src fit.0, (refl, (hex_word dst fit.1, (refl, (hex_word dst2 fit.2, (refl, (decimal_word size (omega arith), (refl, all)))))))))

-- the words of its text, and of what follows it
op_text_words : (op : Op) (size : ℕ) (ws : List Word) → FieldsFit op → HasExpectedBit op → size < 2 ^ 32 → AreWords ws
    → words_of (text_of (op_words op size ++ ws)) ≡ op_words op size ++ ws
op_text_words (Move src dst) size ws fit bit s all = text_words 109 (codes "ove") _ refl (op_words_are (Move src dst) size ws fit bit s all).1
op_text_words (Fill pattern dst) size ws fit bit s all = text_words 102 (codes "ill") _ refl (op_words_are (Fill pattern dst) size ws fit bit s all).1
op_text_words (Compare src src2 expected) size ws fit bit s all =
    text_words 99 (codes "ompare") _ refl (op_words_are (Compare src src2 expected) size ws fit bit s all).1
op_text_words (ComparePattern src pattern expected) size ws fit bit s all =
    text_words 99 (codes "ompare") _ refl (op_words_are (ComparePattern src pattern expected) size ws fit bit s all).1
op_text_words (ApplyDelta delta dst record_size) size ws fit bit s all =
    text_words 100 (codes "elta") _ refl (op_words_are (ApplyDelta delta dst record_size) size ws fit bit s all).1
op_text_words (Dualcast src dst dst2) size ws fit bit s all =
    text_words 100 (codes "ualcast") _ refl (op_words_are (Dualcast src dst dst2) size ws fit bit s all).1

-- the same of an operation that makes a checksum
seed_words_are : (seed : Seed) (ws : List Word) → SeedFits seed → AreWords ws → AreWords (seed_words seed ++ ws)
seed_words_are (Given value) ws fit all = (refl, (hex_word value (omega (arith, fit)), all))
seed_words_are (At address) ws fit all = (refl, (refl, (hex_word address fit, all)))

checksum_words_are : (op : ChecksumOp) (size : ℕ) (ws : List Word) → checksums.FieldsFit op → size < 2 ^ 32 → AreWords ws → AreWords (checksum_words op size ++ ws)
checksum_words_are (Crc src seed) size ws fit s all =
    (refl, (hex_word src fit.0, (refl, (decimal_word size (omega arith), (refl, (refl, seed_words_are seed ws fit.1 all))))))
checksum_words_are (CopyCrc src dst seed) size ws fit s all =
    (refl, (hex_word src fit.0, (refl, (hex_word dst fit.1, (refl, (decimal_word size (omega arith), (refl, (refl, seed_words_are seed ws fit.2 all))))))))

checksum_text_words : (op : ChecksumOp) (size : ℕ) (ws : List Word) → checksums.FieldsFit op → size < 2 ^ 32 → AreWords ws
    → words_of (text_of (checksum_words op size ++ ws)) ≡ checksum_words op size ++ ws
checksum_text_words (Crc src seed) size ws fit s all = text_words 99 (codes "rc") _ refl (checksum_words_are (Crc src seed) size ws fit s all).1
checksum_text_words (CopyCrc src dst seed) size ws fit s all =
    text_words 99 (codes "opy_crc") _ refl (checksum_words_are (CopyCrc src dst seed) size ws fit s all).1

-- what follows the operation
later_are : (record_at pasid : ℕ) (privileged : Bool) (flags int_handle : ℕ) → record_at < 2 ^ 64 → pasid < 2 ^ 20 → int_handle < 2 ^ 16
    → AreWords (later_words record_at pasid privileged flags int_handle)
later_are record_at pasid privileged flags int_handle ltr lt lth = (refl, (refl, (hex_word record_at ltr, options_are pasid privileged flags int_handle lt lth)))

fields_later_are : (f : OperationFields) → AreListedFields f → AreWords (fields_later f)
fields_later_are (OfDescriptor f) listed = later_are f.record_at f.pasid f.privileged f.flags f.int_handle listed.record_at_fits listed.pasid_fits listed.int_handle_fits
fields_later_are (OfChecksum f) listed = later_are f.record_at f.pasid f.privileged f.flags f.int_handle listed.record_at_fits listed.pasid_fits listed.int_handle_fits

-- what is read of the options of a line
abbrev opts_of : ℕ → Bool → ℕ → ℕ → Options
opts_of pasid privileged flags int_handle = opts (some_number pasid) privileged (writes_check flags) (some_number (carried_flags flags)) (some_number int_handle)

-- they give the fields of the line again
fields_again : (op : ListedOp) (size record_at pasid : ℕ) (privileged : Bool) (flags int_handle : ℕ) → line_flags op (carried_flags flags) (writes_check flags) ≡ flags
    → fields_with op size record_at (opts_of pasid privileged flags int_handle) ≡ fields_by op pasid privileged flags record_at size int_handle
fields_again op size record_at pasid privileged flags int_handle again =
    let first = number_back (pasid == 0) pasid refl in
    let last = number_back (int_handle == 0) int_handle refl in
    let same : line_flags op (or_zero (some_number (carried_flags flags))) (writes_check flags) ≡ flags =
    ap (λ (n : ℕ). line_flags op n (writes_check flags)) (number_back (carried_flags flags == 0) (carried_flags flags) refl) ∙ again in
    λ i. fields_by op (first i) privileged (same i) record_at size (last i)

words_spell : (f : OperationFields) → AreListedFields f → fields_of (line_words f) ≡ Some f
unfolding fields_of
words_spell (OfDescriptor f) listed =
    rw (
      op_again f.op f.size (fields_later (OfDescriptor f)) listed.op_fits listed.expected_bit listed.size_fits,
      hex_at f.record_at (greatest 64) (option_words f.pasid f.privileged f.flags f.int_handle) listed.record_at_fits (omega (arith, listed.record_at_fits)),
      options_again f.pasid f.privileged f.flags f.int_handle listed.pasid_fits listed.int_handle_fits,
    ) (ap Some (fields_again (either.Descriptor f.op) f.size f.record_at f.pasid f.privileged f.flags f.int_handle (flags_again f.op f.flags listed.flags_listed listed.flags_fit)))
words_spell (OfChecksum f) listed =
    rw (
      checksum_again f.op f.size (fields_later (OfChecksum f)) listed.op_fits listed.size_fits,
      hex_at f.record_at (greatest 64) (option_words f.pasid f.privileged f.flags f.int_handle) listed.record_at_fits (omega (arith, listed.record_at_fits)),
      options_again f.pasid f.privileged f.flags f.int_handle listed.pasid_fits listed.int_handle_fits,
    ) (ap Some (fields_again (either.Checksum f.op) f.size f.record_at f.pasid f.privileged f.flags f.int_handle (checksum_flags_again f.op f.flags listed.flags_listed listed.seed_told listed.flags_fit)))

-- the words of the line
line_text_words : (f : OperationFields) → AreListedFields f → words_of (line_text f) ≡ line_words f
unfolding line_text
line_text_words (OfDescriptor f) listed =
    op_text_words f.op f.size (fields_later (OfDescriptor f)) listed.op_fits listed.expected_bit listed.size_fits (fields_later_are (OfDescriptor f) listed)
line_text_words (OfChecksum f) listed =
    checksum_text_words f.op f.size (fields_later (OfChecksum f)) listed.op_fits listed.size_fits (fields_later_are (OfChecksum f) listed)

-- the canonical line of listed fields spells them
pub line_spells : (f : OperationFields) → AreListedFields f → Spells (line_text f) f
line_spells f listed = ap fields_of (line_text_words f listed) ∙ words_spell f listed

-- ---- the line as a text

tail_append : (a b : List Word) → tail_text (a ++ b) ≡ tail_text a ++ tail_text b
tail_append [] b = refl
tail_append (w ∷ ws) b = rw (tail_append ws b) (sym (append_assoc (spaced w) (tail_text ws) (tail_text b)))

text_append : (w : Word) (a b : List Word) → text_of ((w ∷ a) ++ b) ≡ text_of (w ∷ a) ++ tail_text b
text_append w a b = rw (tail_append a b) (sym (append_assoc w (tail_text a) (tail_text b)))

abbrev has_first : List Word → Bool
has_first [] = false
has_first (w ∷ ws) = true

words_append : (ws b : List Word) → has_first ws ≡ true → text_of (ws ++ b) ≡ text_of ws ++ tail_text b
words_append [] b h = absurd cc
words_append (w ∷ a) b h = text_append w a b

op_append : (op : Op) (size : ℕ) (b : List Word) → text_of (op_words op size ++ b) ≡ text_of (op_words op size) ++ tail_text b
op_append (Move src dst) size b = words_append (op_words (Move src dst) size) b refl
op_append (Fill pattern dst) size b = words_append (op_words (Fill pattern dst) size) b refl
op_append (Compare src src2 expected) size b = words_append (op_words (Compare src src2 expected) size) b refl
op_append (ComparePattern src pattern expected) size b = words_append (op_words (ComparePattern src pattern expected) size) b refl
op_append (ApplyDelta delta dst record_size) size b = words_append (op_words (ApplyDelta delta dst record_size) size) b refl
op_append (Dualcast src dst dst2) size b = words_append (op_words (Dualcast src dst dst2) size) b refl

checksum_append : (op : ChecksumOp) (size : ℕ) (b : List Word) → text_of (checksum_words op size ++ b) ≡ text_of (checksum_words op size) ++ tail_text b
checksum_append (Crc src seed) size b = words_append (checksum_words (Crc src seed) size) b refl
checksum_append (CopyCrc src dst seed) size b = words_append (checksum_words (CopyCrc src dst seed) size) b refl

-- the line is the text of the operation and that of what follows it
pub line_is : (f : OperationFields) → line_text f ≡ text_of (operation_words f) ++ tail_text (fields_later f)
unfolding line_text
line_is (OfDescriptor f) = op_append f.op f.size (fields_later (OfDescriptor f))
line_is (OfChecksum f) = checksum_append f.op f.size (fields_later (OfChecksum f))

-- so of a line whose operation may be of either kind
pub line_by : (op : ListedOp) (pasid : ℕ) (privileged : Bool) (flags record_at size int_handle : ℕ)
    → line_text (fields_by op pasid privileged flags record_at size int_handle)
    ≡ text_of (operation_words (fields_by op pasid privileged flags record_at size int_handle)) ++ tail_text (later_words record_at pasid privileged flags int_handle)
line_by (either.Descriptor op) pasid privileged flags record_at size int_handle = line_is (fields_by (either.Descriptor op) pasid privileged flags record_at size int_handle)
line_by (either.Checksum op) pasid privileged flags record_at size int_handle = line_is (fields_by (either.Checksum op) pasid privileged flags record_at size int_handle)

five_tails : (a b c d e : List Word) → tail_text (a ++ (b ++ (c ++ (d ++ e)))) ≡ tail_text a ++ (tail_text b ++ (tail_text c ++ (tail_text d ++ tail_text e)))
five_tails a b c d e = rw (tail_append a (b ++ (c ++ (d ++ e))), tail_append b (c ++ (d ++ e)), tail_append c (d ++ e), tail_append d e) refl

regroup_later : (t r a b c d e : List ℕ) → t ++ (r ++ (a ++ (b ++ (c ++ (d ++ e))))) ≡ ((((((t ++ r) ++ a) ++ b) ++ c) ++ d) ++ e)
regroup_later t r a b c d e = simp append_assoc

-- what follows the operation, one part after another
pub later_is : (t : List ℕ) (record_at pasid : ℕ) (privileged : Bool) (flags int_handle : ℕ)
    → t ++ tail_text (later_words record_at pasid privileged flags int_handle) ≡ ((((((t ++ (codes ", record " ++ hex record_at))
    ++ tail_text (number_option (codes "pasid") pasid))
    ++ tail_text (name_option (codes "privileged") privileged))
    ++ tail_text (name_option (codes "check") (writes_check flags)))
    ++ tail_text (number_option (codes "flags") (carried_flags flags)))
    ++ tail_text (number_option (codes "handle") int_handle))
later_is t record_at pasid privileged flags int_handle =
    let a : List Word = number_option (codes "pasid") pasid in
    let b : List Word = name_option (codes "privileged") privileged in
    let c : List Word = name_option (codes "check") (writes_check flags) in
    let d : List Word = number_option (codes "flags") (carried_flags flags) in
    let e : List Word = number_option (codes "handle") int_handle in
    let r : List ℕ = codes ", record " ++ hex record_at in
    ap (λ (s : List ℕ). t ++ (r ++ s)) (five_tails a b c d e)
    ∙ regroup_later t r (tail_text a) (tail_text b) (tail_text c) (tail_text d) (tail_text e)

regroup : (p a q b u d t : List ℕ) → (p ++ (a ++ (q ++ (b ++ (u ++ d))))) ++ t ≡ p ++ (a ++ (q ++ (b ++ (u ++ (d ++ t)))))
regroup p a q b u d t = simp append_assoc

pub delta_is : (delta dst record_size size : ℕ) → record_size < 2 ^ 64 → size < 2 ^ 64
    → text_of (op_words (ApplyDelta delta dst record_size) size)
    ≡ (codes "delta " ++ (hex delta ++ (codes ", " ++ (decimal record_size ++ (codes " bytes -> " ++ hex dst))))) ++ (codes ", " ++ (decimal size ++ codes " bytes"))
delta_is delta dst record_size size r s =
    rw (spaced_decimal record_size r, spaced_decimal size s)
    (sym (regroup (codes "delta ") (hex delta) (codes ", ") (decimal record_size) (codes " bytes -> ") (hex dst) (codes ", " ++ (decimal size ++ codes " bytes"))))

pub dualcast_is : (src dst dst2 size : ℕ) → size < 2 ^ 64
    → text_of (op_words (Dualcast src dst dst2) size)
    ≡ (codes "dualcast " ++ (hex src ++ (codes " -> " ++ (hex dst ++ (codes " and " ++ hex dst2))))) ++ (codes ", " ++ (decimal size ++ codes " bytes"))
dualcast_is src dst dst2 size s =
    rw (spaced_decimal size s)
    (sym (regroup (codes "dualcast ") (hex src) (codes " -> ") (hex dst) (codes " and ") (hex dst2) (codes ", " ++ (decimal size ++ codes " bytes"))))

regroup_fill : (a h b p u d v : List ℕ) → ((a ++ (h ++ b)) ++ p) ++ (u ++ (d ++ v)) ≡ a ++ (h ++ (b ++ (p ++ (u ++ (d ++ v)))))
regroup_fill a h b p u d v = simp append_assoc

pub fill_is : (pattern dst size : ℕ) → size < 2 ^ 64
    → text_of (op_words (Fill pattern dst) size)
    ≡ ((codes "fill " ++ (hex dst ++ codes " with ")) ++ pattern_word pattern) ++ (codes ", " ++ (decimal size ++ codes " bytes"))
fill_is pattern dst size s =
    rw (spaced_pattern pattern, spaced_decimal size s)
    (sym (regroup_fill (codes "fill ") (hex dst) (codes " with ") (pattern_word pattern) (codes ", ") (decimal size) (codes " bytes")))

regroup_compare : (a h b k u d v w e : List ℕ) → ((a ++ (h ++ (b ++ k))) ++ (u ++ (d ++ v))) ++ (w ++ e) ≡ a ++ (h ++ (b ++ (k ++ (u ++ (d ++ (v ++ (w ++ e)))))))
regroup_compare a h b k u d v w e = simp append_assoc

pub compare_is : (src src2 expected size : ℕ) → expected < 2 ^ 64 → size < 2 ^ 64
    → text_of (op_words (Compare src src2 expected) size)
    ≡ ((codes "compare " ++ (hex src ++ (codes " with " ++ hex src2))) ++ (codes ", " ++ (decimal size ++ codes " bytes"))) ++ (codes ", expect " ++ decimal expected)
compare_is src src2 expected size x s =
    rw (spaced_decimal size s, spaced_decimal expected x, append-nil (decimal expected))
    (sym (regroup_compare (codes "compare ") (hex src) (codes " with ") (hex src2) (codes ", ") (decimal size) (codes " bytes") (codes ", expect ") (decimal expected)))

regroup_pattern : (a h b p u d v w e : List ℕ) → (((a ++ (h ++ b)) ++ p) ++ (u ++ (d ++ v))) ++ (w ++ e) ≡ a ++ (h ++ (b ++ (p ++ (u ++ (d ++ (v ++ (w ++ e)))))))
regroup_pattern a h b p u d v w e = simp append_assoc

pub compare_pattern_is : (src pattern expected size : ℕ) → expected < 2 ^ 64 → size < 2 ^ 64
    → text_of (op_words (ComparePattern src pattern expected) size)
    ≡ (((codes "compare " ++ (hex src ++ codes " with pattern ")) ++ pattern_word pattern) ++ (codes ", " ++ (decimal size ++ codes " bytes"))) ++ (codes ", expect " ++ decimal expected)
compare_pattern_is src pattern expected size x s =
    rw (spaced_pattern pattern, spaced_decimal size s, spaced_decimal expected x, append-nil (decimal expected))
    (sym (regroup_pattern (codes "compare ") (hex src) (codes " with pattern ") (pattern_word pattern) (codes ", ") (decimal size) (codes " bytes") (codes ", expect ") (decimal expected)))

regroup_crc : (a h u d v w : List ℕ) → ((a ++ h) ++ (u ++ (d ++ v))) ++ w ≡ a ++ (h ++ (u ++ (d ++ (v ++ w))))
regroup_crc a h u d v w = simp append_assoc

seed_is : (seed : Seed) → tail_text (codes "," ∷ seed_words seed) ≡ codes ", " ++ text_of (seed_words seed)
seed_is (Given value) = refl
seed_is (At address) = refl

pub crc_is : (src size : ℕ) (seed : Seed) → size < 2 ^ 64
    → text_of (checksum_words (Crc src seed) size)
    ≡ ((codes "crc " ++ hex src) ++ (codes ", " ++ (decimal size ++ codes " bytes"))) ++ (codes ", " ++ text_of (seed_words seed))
crc_is src size seed s =
    rw (spaced_decimal size s, seed_is seed)
    (sym (regroup_crc (codes "crc ") (hex src) (codes ", ") (decimal size) (codes " bytes") (codes ", " ++ text_of (seed_words seed))))

regroup_copy : (a h b k u d v w : List ℕ) → ((a ++ (h ++ (b ++ k))) ++ (u ++ (d ++ v))) ++ w ≡ a ++ (h ++ (b ++ (k ++ (u ++ (d ++ (v ++ w))))))
regroup_copy a h b k u d v w = simp append_assoc

pub copy_crc_is : (src dst size : ℕ) (seed : Seed) → size < 2 ^ 64
    → text_of (checksum_words (CopyCrc src dst seed) size)
    ≡ ((codes "copy_crc " ++ (hex src ++ (codes " -> " ++ hex dst))) ++ (codes ", " ++ (decimal size ++ codes " bytes"))) ++ (codes ", " ++ text_of (seed_words seed))
copy_crc_is src dst size seed s =
    rw (spaced_decimal size s, seed_is seed)
    (sym (regroup_copy (codes "copy_crc ") (hex src) (codes " -> ") (hex dst) (codes ", ") (decimal size) (codes " bytes") (codes ", " ++ text_of (seed_words seed))))

pub number_is : (name : Word) (n : ℕ) → spaced name ≡ 32 ∷ name → (n == 0) ≡ false → n < 2 ^ 64
    → tail_text (number_option name n) ≡ codes ", " ++ (name ++ (codes " " ++ decimal n))
number_is name n plain e lt = rw (e, plain, spaced_decimal n lt, append-nil (decimal n)) refl

some_turn : (turn : ℕ) (o : Options) (w : Word) (ws : List Word) (later : List Word) (next : Options × List Word) → turn < 5
    → after (codes ",") (w ∷ ws) ≡ Some later → option_at o later ≡ Some next
    → options_at (5 - turn) o (w ∷ ws) ≡ options_at (5 - (turn + 1)) next.0 next.1
unfolding options_at
some_turn turn o w ws later next lt e f =
    let one : 5 - turn ≡ suc (5 - (turn + 1)) = omega arith in
    rw (one, e, f) refl

pub no_after : (turn : ℕ) (o : Options) (ws : List Word) → turn < 5 → (ws ≡ [] → ⊥) → after (codes ",") ws ≡ None → options_at (5 - turn) o ws ≡ None
unfolding options_at
no_after turn o [] lt some e = absurd (some refl)
no_after turn o (w ∷ ws) lt some e = let one : 5 - turn ≡ suc (5 - (turn + 1)) = omega arith in rw (one, e) refl

pub no_next : (turn : ℕ) (o : Options) (ws later : List Word) → turn < 5 → after (codes ",") ws ≡ Some later → option_at o later ≡ None
    → options_at (5 - turn) o ws ≡ None
unfolding options_at
no_next turn o [] later lt e f = absurd cc
no_next turn o (w ∷ ws) later lt e f = let one : 5 - turn ≡ suc (5 - (turn + 1)) = omega arith in rw (one, e, f) refl

pub next_turn : (turn : ℕ) (o : Options) (ws later : List Word) (next : Options × List Word) → turn < 5
    → after (codes ",") ws ≡ Some later → option_at o later ≡ Some next
    → options_at (5 - turn) o ws ≡ options_at (5 - (turn + 1)) next.0 next.1
next_turn turn o [] later next lt e f = absurd cc
next_turn turn o (w ∷ ws) later next lt e f = some_turn turn o w ws later next lt e f

pub too_many : (o : Options) (ws : List Word) → (ws ≡ [] → ⊥) → options_at zero o ws ≡ None
unfolding options_at
too_many o [] some = absurd (some refl)
too_many o (w ∷ ws) some = refl

-- each word of the canonical line is one
pub line_words_are : (f : OperationFields) → AreListedFields f → AreWords (line_words f)
line_words_are (OfDescriptor f) listed =
    op_words_are f.op f.size (fields_later (OfDescriptor f)) listed.op_fits listed.expected_bit listed.size_fits (fields_later_are (OfDescriptor f) listed)
line_words_are (OfChecksum f) listed = checksum_words_are f.op f.size (fields_later (OfChecksum f)) listed.op_fits listed.size_fits (fields_later_are (OfChecksum f) listed)
