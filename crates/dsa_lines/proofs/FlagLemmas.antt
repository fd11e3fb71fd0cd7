-- The flags of an operation of a list are the required ones, the carried ones, check result, and that of a seed in memory.
use Rattle.std.proofs.Common.{◌≡◌, ℕ, zero, suc, ◌+◌, ◌*◌, ◌%◌, ◌^◌, ◌<◌, ◌==◌, Bool, true, false, cond, min, max, inl, inr, refl, sym, ap, ◌∙◌, arith}
use Rattle.std.specs.Prelude.{bit_and, bit_or, not, ◌&&◌}
use Rattle.std.specs.Int.{bit_at}
use Rattle.std.specs.Int.Bits.{and_zero_l, or_zero_r}
use Rattle.std.proofs.lemmas.Bool.{and_parts, cases_lt, eqb-true, eq-eqb}
use Rattle.std.proofs.lemmas.Nat.{and_le_r, and_or_apart, and_or_self, or_lt}
use Rattle.std.proofs.lemmas.Nat.Bits.{bit_at_and, bit_at_lowest, bit_at_or, bit_at-zero, bit_at-lt, and_pow, same_from_bits, bit_at_above}
use Rattle.dsa_descriptor.specs.declared.op.Op.{Op}
use Rattle.dsa_descriptor.specs.declared.op.Op.TheVariants.{Move, Fill, Compare, ComparePattern, ApplyDelta, Dualcast}
use Rattle.dsa_descriptor.specs.Profile.{required_flags, refused_flags, AreListedFlags}
use Rattle.dsa_operations.specs.declared.checksum_op.ChecksumOp.{ChecksumOp}
use Rattle.dsa_operations.specs.declared.checksum_op.Seed.{Seed}
use Rattle.dsa_operations.specs.declared.checksum_op.Seed.TheVariants.{Given, At}
use Rattle.dsa_operations.specs.Operands.{has_flag, is_in_memory, seed_of}
use Rattle.dsa_operations.specs.Profile as checksums
use Rattle.dsa_operations.specs.declared.listed_op.ListedOp.{ListedOp}
use Rattle.dsa_operations.specs.declared.listed_op.ListedOp.TheVariants as either
use Rattle.dsa_lines.specs.Options.{carried_mask, check_mask, carried_flags, writes_check, flags_with, line_flags, seed_flag}

-- the flags that neither kind of operation may have, whatever it does
abbrev refused_mask : ℕ
refused_mask = 0xf80051

-- the flag that says that a seed is read from memory
abbrev pub seed_mask : ℕ
seed_mask = 0x010000

-- each bit below the count is in one of the masks, and in one alone
abbrev parts_at : ℕ → Bool
parts_at i = bit_at required_flags i + bit_at carried_mask i + bit_at check_mask i + bit_at seed_mask i + bit_at refused_mask i == 1

abbrev parts_below : ℕ → Bool
parts_below zero = true
parts_below (suc n) = parts_at n && parts_below n

parted : (n i : ℕ) → parts_below n ≡ true → i < n → parts_at i ≡ true
parted zero i e lt = absurd (omega arith)
parted (suc n) i e lt =
    let p = and_parts (parts_at n) (parts_below n) e in
    elim (cases_lt i n) [
      | inl below ↦ parted n i p.1 below
      | inr top ↦ let same : i ≡ n = omega arith in rw same p.0
    ]

-- what each operation of a descriptor refuses has these bits, and that of a seed
refuses : (op : Op) → bit_and (refused_flags op) 0xf90051 ≡ 0xf90051
refuses (Move src dst) = refl
refuses (Fill pattern dst) = refl
refuses (Compare src src2 expected) = refl
refuses (ComparePattern src pattern expected) = refl
refuses (ApplyDelta delta dst record_size) = refl
refuses (Dualcast src dst dst2) = refl

none_of_three : (f m r : ℕ) → f < 2 → m < 2 → r < 2 → min f m ≡ 0 → min m r ≡ r → min f r ≡ 0
none_of_three f m r a b c d e = omega arith

-- flags without those of a mask have none of a part of it
part_bit : (flags mask part i : ℕ) → bit_and flags mask ≡ 0 → bit_and mask part ≡ part → min (bit_at flags i) (bit_at part i) ≡ 0
part_bit flags mask part i none whole =
    none_of_three (bit_at flags i) (bit_at mask i) (bit_at part i)
    (bit_at-lt flags i) (bit_at-lt mask i) (bit_at-lt part i)
    (sym (bit_at_and flags mask i) ∙ ap (λ (n : ℕ). bit_at n i) none ∙ bit_at-zero i)
    (sym (bit_at_and mask part i) ∙ ap (λ (n : ℕ). bit_at n i) whole)

part_none : (flags mask part : ℕ) → bit_and flags mask ≡ 0 → bit_and mask part ≡ part → bit_and flags part ≡ 0
part_none flags mask part none whole =
    same_from_bits (bit_and flags part) 0 (λ i. bit_at_and flags part i ∙ part_bit flags mask part i none whole ∙ sym (bit_at-zero i))

required_bit : (flags i : ℕ) → bit_and flags required_flags ≡ required_flags → min (bit_at flags i) (bit_at required_flags i) ≡ bit_at required_flags i
required_bit flags i all = sym (bit_at_and flags required_flags i) ∙ ap (λ (n : ℕ). bit_at n i) all

-- ---- check result

check_value : (x b : ℕ) → x ≡ b * 128 → b < 2 → cond (not (x == 0)) check_mask 0 ≡ x
check_value x zero e lt = rw e refl
check_value x (suc zero) e lt = rw e refl
check_value x (suc (suc b)) e lt = absurd (omega arith)

check_is : (flags : ℕ) → cond (writes_check flags) check_mask 0 ≡ bit_and flags check_mask
check_is flags = check_value (bit_and flags check_mask) (bit_at flags 7) (and_pow flags 7) (bit_at-lt flags 7)

-- ---- all bits

one_bit : (f a c k m r : ℕ) → f < 2 → a < 2 → c < 2 → k < 2 → m < 2 → r < 2 → a + c + k + m + r ≡ 1 → min f a ≡ a → min f r ≡ 0
    → max (max (max a (min f c)) (min f k)) (min f m) ≡ f
one_bit f a c k m r f2 a2 c2 k2 m2 r2 one required refused = omega arith

no_bit : (f a c k m : ℕ) → f ≡ 0 → a ≡ 0 → max (max (max a (min f c)) (min f k)) (min f m) ≡ f
no_bit f a c k m fz az = omega arith

-- the flags in their parts, but for those that are refused
abbrev gathered : ℕ → ℕ
gathered flags = bit_or (bit_or (bit_or required_flags (carried_flags flags)) (bit_and flags check_mask)) (bit_and flags seed_mask)

spread : (flags i : ℕ)
    → bit_at (gathered flags) i
    ≡ max (max (max (bit_at required_flags i) (min (bit_at flags i) (bit_at carried_mask i))) (min (bit_at flags i) (bit_at check_mask i))) (min (bit_at flags i) (bit_at seed_mask i))
spread flags i =
    rw (
      bit_at_or (bit_or (bit_or required_flags (carried_flags flags)) (bit_and flags check_mask)) (bit_and flags seed_mask) i,
      bit_at_or (bit_or required_flags (carried_flags flags)) (bit_and flags check_mask) i,
      bit_at_or required_flags (carried_flags flags) i,
      bit_at_and flags carried_mask i,
      bit_at_and flags check_mask i,
      bit_at_and flags seed_mask i,
    ) refl

bit_again : (flags i : ℕ) → bit_and flags required_flags ≡ required_flags → bit_and flags refused_mask ≡ 0 → flags < 2 ^ 24 → bit_at (gathered flags) i ≡ bit_at flags i
bit_again flags i required refused fit =
    spread flags i
    ∙ elim (cases_lt i 24) [
      | inl below ↦
          one_bit (bit_at flags i) (bit_at required_flags i) (bit_at carried_mask i) (bit_at check_mask i) (bit_at seed_mask i) (bit_at refused_mask i)
          (bit_at-lt flags i) (bit_at-lt required_flags i) (bit_at-lt carried_mask i) (bit_at-lt check_mask i) (bit_at-lt seed_mask i) (bit_at-lt refused_mask i)
          (eqb-true _ _ (parted 24 i refl below)) (required_bit flags i required) (part_bit flags refused_mask refused_mask i refused refl)
      | inr above ↦
          no_bit (bit_at flags i) (bit_at required_flags i) (bit_at carried_mask i) (bit_at check_mask i) (bit_at seed_mask i)
          (bit_at_above flags 24 i fit above) (bit_at_above required_flags 24 i (omega arith) above)
    ]

-- the options of the canonical line and what the seed says give the flags
parts_again : (flags told : ℕ) → bit_and flags required_flags ≡ required_flags → bit_and flags refused_mask ≡ 0 → flags < 2 ^ 24 → told ≡ bit_and flags seed_mask
    → bit_or (flags_with (carried_flags flags) (writes_check flags)) told ≡ flags
parts_again flags told required refused fit is =
    (λ i. bit_or (bit_or (bit_or required_flags (carried_flags flags)) (check_is flags i)) (is i))
    ∙ same_from_bits (gathered flags) flags (λ i. bit_again flags i required refused fit)

-- those of a descriptor, which has no seed
pub flags_again : (op : Op) (flags : ℕ) → AreListedFlags op flags → flags < 2 ^ 24 → flags_with (carried_flags flags) (writes_check flags) ≡ flags
flags_again op flags listed fit =
    let refused = part_none flags (refused_flags op) 0xf90051 listed.refused (refuses op) in
    sym (or_zero_r (flags_with (carried_flags flags) (writes_check flags)))
    ∙ parts_again flags 0 listed.required (part_none flags 0xf90051 refused_mask refused refl) fit (sym (part_none flags 0xf90051 seed_mask refused refl))

-- the flag of a seed is that of the flags which tell where the seed is
seed_value : (x b : ℕ) (seed : Seed) → x ≡ b * 65536 → b < 2 → (x == seed_mask) ≡ is_in_memory seed → seed_flag seed ≡ x
seed_value x zero (Given value) e lt told = rw e refl
seed_value x zero (At address) e lt told = absurd (let no : false ≡ true = rw e at told in cc)
seed_value x (suc zero) (Given value) e lt told = absurd (let no : true ≡ false = rw e at told in cc)
seed_value x (suc zero) (At address) e lt told = rw e refl
seed_value x (suc (suc b)) seed e lt told = absurd (omega arith)

-- those of a checksum
pub checksum_flags_again : (op : ChecksumOp) (flags : ℕ) → checksums.AreListedFlags flags → checksums.TellsSeed flags op → flags < 2 ^ 24
    → bit_or (flags_with (carried_flags flags) (writes_check flags)) (seed_flag (seed_of op)) ≡ flags
checksum_flags_again op flags listed told fit =
    parts_again flags (seed_flag (seed_of op)) listed.required (part_none flags checksums.refused_flags refused_mask listed.refused refl) fit
    (seed_value (bit_and flags seed_mask) (bit_at flags 16) (seed_of op) (and_pow flags 16) (bit_at-lt flags 16) told)

-- ---- the carried flags

twice : (f c : ℕ) → min (min f c) c ≡ min f c
twice f c = omega arith

pub carried_again : (flags : ℕ) → bit_and (carried_flags flags) carried_mask ≡ carried_flags flags
carried_again flags =
    same_from_bits (bit_and (carried_flags flags) carried_mask) (carried_flags flags) (λ i.
    bit_at_and (carried_flags flags) carried_mask i
    ∙ ap (λ (n : ℕ). min n (bit_at carried_mask i)) (bit_at_and flags carried_mask i)
    ∙ twice (bit_at flags i) (bit_at carried_mask i)
    ∙ sym (bit_at_and flags carried_mask i)
    )

pub carried_fit : (flags : ℕ) → carried_flags flags < 2 ^ 24
carried_fit flags = omega (arith, and_le_r flags carried_mask)

-- ---- flags that a line does not have

outside_bit : (c m o : ℕ) → c < 2 → m < 2 → o < 2 → min c m ≡ c → min m o ≡ 0 → min c o ≡ 0
outside_bit c m o c2 m2 o2 inside apart = omega arith

carried_none : (carried other : ℕ) → bit_and carried carried_mask ≡ carried → bit_and carried_mask other ≡ 0 → bit_and carried other ≡ 0
carried_none carried other inside apart =
    same_from_bits (bit_and carried other) 0 (λ i.
    bit_at_and carried other i
    ∙ outside_bit (bit_at carried i) (bit_at carried_mask i) (bit_at other i) (bit_at-lt carried i) (bit_at-lt carried_mask i) (bit_at-lt other i)
    (sym (bit_at_and carried carried_mask i) ∙ ap (λ (n : ℕ). bit_at n i) inside)
    (sym (bit_at_and carried_mask other i) ∙ ap (λ (n : ℕ). bit_at n i) apart ∙ bit_at-zero i)
    ∙ sym (bit_at-zero i)
    )

check_none : (check : Bool) (other : ℕ) → bit_and check_mask other ≡ 0 → bit_and (cond check check_mask 0) other ≡ 0
check_none true other apart = apart
check_none false other apart = and_zero_l other

-- flags that no option gives are not in those that the options give
pub none_with : (carried : ℕ) (check : Bool) (other : ℕ) → bit_and carried carried_mask ≡ carried → bit_and carried_mask other ≡ 0 → bit_and required_flags other ≡ 0 → bit_and check_mask other ≡ 0
    → bit_and (flags_with carried check) other ≡ 0
none_with carried check other inside apart required checked =
    and_or_apart other (bit_or required_flags carried) (cond check check_mask 0) (check_none check other checked)
    ∙ and_or_apart other required_flags carried (carried_none carried other inside apart)
    ∙ required

-- so the flags of a line tell where its seed is
pub line_tells : (seed : Seed) (carried : ℕ) (check : Bool) → bit_and carried carried_mask ≡ carried
    → has_flag (bit_or (flags_with carried check) (seed_flag seed)) seed_mask ≡ is_in_memory seed
line_tells (Given value) carried check inside =
    ap (λ (n : ℕ). has_flag n seed_mask) (or_zero_r (flags_with carried check))
    ∙ ap (λ (n : ℕ). n == seed_mask) (none_with carried check seed_mask inside refl refl refl)
line_tells (At address) carried check inside = eq-eqb _ _ (and_or_self seed_mask (flags_with carried check))

-- flags that are carried have 24 bits
pub carried_below : (carried : ℕ) → bit_and carried carried_mask ≡ carried → carried < 2 ^ 24
carried_below carried inside = omega (arith, and_le_r carried carried_mask, inside)

pub flags_below : (carried : ℕ) (check : Bool) → bit_and carried carried_mask ≡ carried → flags_with carried check < 2 ^ 24
flags_below carried true inside = or_lt 24 (bit_or required_flags carried) check_mask (or_lt 24 required_flags carried (omega arith) (carried_below carried inside)) (omega arith)
flags_below carried false inside = or_lt 24 (bit_or required_flags carried) 0 (or_lt 24 required_flags carried (omega arith) (carried_below carried inside)) (omega arith)

seed_below : (seed : Seed) → seed_flag seed < 2 ^ 24
seed_below (Given value) = omega arith
seed_below (At address) = omega arith

pub line_flags_below : (op : ListedOp) (carried : ℕ) (check : Bool) → bit_and carried carried_mask ≡ carried → line_flags op carried check < 2 ^ 24
line_flags_below (either.Descriptor op) carried check inside = flags_below carried check inside
line_flags_below (either.Checksum op) carried check inside =
    or_lt 24 (flags_with carried check) (seed_flag (seed_of op)) (flags_below carried check inside) (seed_below (seed_of op))

-- no line has the flag fence, which is the lowest
even_flags : (flags : ℕ) → bit_and flags 1 ≡ 0 → flags % 2 ≡ 0
even_flags flags none = omega (arith, bit_at_and flags 1 0, ap (λ (n : ℕ). bit_at n 0) none, bit_at_lowest flags, bit_at-zero 0)

seed_even : (seed : Seed) → bit_and (seed_flag seed) 1 ≡ 0
seed_even (Given value) = refl
seed_even (At address) = refl

pub line_flags_even : (op : ListedOp) (carried : ℕ) (check : Bool) → bit_and carried carried_mask ≡ carried → line_flags op carried check % 2 ≡ 0
line_flags_even (either.Descriptor op) carried check inside = even_flags (flags_with carried check) (none_with carried check 1 inside refl refl refl)
line_flags_even (either.Checksum op) carried check inside =
    even_flags (bit_or (flags_with carried check) (seed_flag (seed_of op)))
    (and_or_apart 1 (flags_with carried check) (seed_flag (seed_of op)) (seed_even (seed_of op)) ∙ none_with carried check 1 inside refl refl refl)
