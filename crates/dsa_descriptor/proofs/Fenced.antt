-- Bytes with the flag 0x0001, fence, and without.
use Rattle.std.proofs.Common.{ℕ, ◌≡◌, ◌+◌, ◌-◌, ◌*◌, ◌/◌, ◌%◌, ◌^◌, Bool, true, false, cond, eqb, List, ◌++◌, length, drop, get_or, set, refl, sym, ap, ◌∙◌, add-zero, bit_or, arith}
use Rattle.std.specs.Int.{w32, to_le_bytes}
use Rattle.std.proofs.lemmas.List.{get_or-set_same, get_or_at, length-set, set-get_or, set-set, set_at}
use Rattle.std.proofs.lemmas.Nat.{or_shifted}
use Rattle.dsa_descriptor.specs.declared.descriptor.Descriptor.{Descriptor}
use Rattle.dsa_descriptor.specs.Descriptors.{fields}
use Rattle.dsa_descriptor.specs.Fences.{fenced, is_fenced, unfenced, with_fence, DescriptorsAreFencedAlike}
use Rattle.dsa_descriptor.specs.Fields.{Fields}
use Rattle.dsa_descriptor.specs.Profile.{IsListed}
use Rattle.dsa_descriptor.specs.Spelling.{owner_word, operation_word, spelling}
use Rattle.dsa_descriptor.proofs.Masks.{no_fence}
use Rattle.dsa_descriptor.proofs.Rules.{spelling_stands}
use Rattle.dsa_descriptor.proofs.Same.{one_spelling}
use Rattle.dsa_descriptor.proofs.Seen.{lowest_unset}

-- the lowest bit of an even number that is set
pub or_one : (b : ℕ) → b % 2 ≡ 0 → bit_or b 1 ≡ b + 1
or_one b even =
    let half : b / 2 * 2 ^ 1 ≡ b = omega arith in
    rw half at (or_shifted (b / 2) 1 1 (omega arith))

-- the first byte of a word whose lowest bit is set
first_set : (w : ℕ) → w % 2 ≡ 0 → bit_or (w % 256) 1 ≡ (w + 1) % 256
first_set w even =
    let low : w % 256 % 2 ≡ 0 = omega arith in
    let more : w % 256 + 1 ≡ (w + 1) % 256 = omega arith in
    or_one (w % 256) low ∙ more

set_word : (w v b : ℕ) (owner rest : List ℕ) → length owner ≡ 4 → w % 2 ≡ 0 → v ≡ w + 1 → b ≡ bit_or (get_or (owner ++ (to_le_bytes w32 w ++ rest)) 4 0) 1 →
    set (owner ++ (to_le_bytes w32 w ++ rest)) 4 b ≡ owner ++ (to_le_bytes w32 v ++ rest)
set_word w v b owner rest long even more is =
    let read : get_or (owner ++ (to_le_bytes w32 w ++ rest)) 4 0 ≡ w % 256 = get_or_at owner (w % 256) (drop 1 (to_le_bytes w32 w) ++ rest) 0 4 long in
    let first : b ≡ v % 256 = is ∙ ap (λ (x : ℕ). bit_or x 1) read ∙ first_set w even ∙ ap (λ (x : ℕ). x % 256) (sym more) in
    let second : w / 256 % 256 ≡ v / 256 % 256 = omega arith in
    let third : w / 65536 % 256 ≡ v / 65536 % 256 = omega arith in
    let fourth : w / 16777216 % 256 ≡ v / 16777216 % 256 = omega arith in
    set_at owner (w % 256) (drop 1 (to_le_bytes w32 w) ++ rest) b 4 long ∙ rw (first, second, third, fourth) refl

-- fields whose flags are even
pub even_set : (f : Fields) → f.flags % 2 ≡ 0 → set (spelling f) 4 (bit_or (get_or (spelling f) 4 0) 1) ≡ spelling (with_fence true f)
unfolding spelling
even_set f flags =
    let even : operation_word f % 2 ≡ 0 = omega (arith, flags) in
    let more : operation_word (with_fence true f) ≡ operation_word f + 1 = omega arith in
    set_word (operation_word f) (operation_word (with_fence true f)) (bit_or (get_or (spelling f) 4 0) 1) (to_le_bytes w32 (owner_word f)) (drop 8 (spelling f)) refl even more refl

pub fenced_spelling_set : (f : Fields) → IsListed f → set (spelling f) 4 (bit_or (get_or (spelling f) 4 0) 1) ≡ spelling (with_fence true f)
fenced_spelling_set f listed = even_set f (no_fence f listed)

pub unfenced_same : (f : Fields) → spelling (with_fence false f) ≡ spelling f
unfenced_same f = ap (λ (n : ℕ). spelling (record f { flags = n })) (add-zero f.flags)

-- ---- 64 bytes without the flag, and the same with it
module _ (bytes : List ℕ) (long : length bytes ≡ 64) (plain : get_or bytes 4 0 % 2 ≡ 0) where
  set_there : get_or (fenced true bytes) 4 0 ≡ get_or bytes 4 0 + 1
  set_there = get_or-set_same bytes 4 (bit_or (get_or bytes 4 0) 1) 0 (omega (arith, long)) ∙ or_one (get_or bytes 4 0) plain

  fence_at : (fence : Bool) → get_or (fenced fence bytes) 4 0 % 2 ≡ cond fence 1 0
  fence_at true = omega (arith, set_there, plain)
  fence_at false = plain

  pub fenced_is : (fence : Bool) → is_fenced (fenced fence bytes) ≡ fence
  fenced_is true = ap (λ (n : ℕ). eqb n 1) (fence_at true)
  fenced_is false = ap (λ (n : ℕ). eqb n 1) (fence_at false)

  pub unfenced_fenced : (fence : Bool) → unfenced (fenced fence bytes) ≡ bytes
  unfenced_fenced true =
      let back : get_or (fenced true bytes) 4 0 - get_or (fenced true bytes) 4 0 % 2 ≡ get_or bytes 4 0 = omega (arith, set_there, fence_at true) in
      set-set bytes 4 (bit_or (get_or bytes 4 0) 1) (get_or (fenced true bytes) 4 0 - get_or (fenced true bytes) 4 0 % 2)
      ∙ ap (λ (byte : ℕ). set bytes 4 byte) back ∙ set-get_or bytes 4 0
  unfenced_fenced false =
      let same : get_or bytes 4 0 - get_or bytes 4 0 % 2 ≡ get_or bytes 4 0 = omega (arith, plain) in
      ap (λ (byte : ℕ). set bytes 4 byte) same ∙ set-get_or bytes 4 0

  pub length-fenced : (fence : Bool) → length (fenced fence bytes) ≡ 64
  length-fenced true = length-set bytes 4 (bit_or (get_or bytes 4 0) 1) ∙ long
  length-fenced false = long

-- ---- descriptors

pub fenced_if_even : (f : Fields) (fence : Bool) → f.flags % 2 ≡ 0 → fenced fence (spelling f) ≡ spelling (with_fence fence f)
fenced_if_even f true even = even_set f even
fenced_if_even f false even = sym (unfenced_same f)

fenced_fields : (f : Fields) (fence : Bool) → IsListed f → fenced fence (spelling f) ≡ spelling (with_fence fence f)
fenced_fields f fence listed = fenced_if_even f fence (no_fence f listed)

pub fenced_alike : DescriptorsAreFencedAlike
fenced_alike d fence = fenced_fields (fields d) fence d.listed

pub length-fenced_one : (f : Fields) (fence : Bool) → IsListed f → length (spelling (with_fence fence f)) ≡ 64
length-fenced_one f fence listed = ap length (sym (fenced_fields f fence listed)) ∙ length-fenced (spelling f) (spelling_stands f listed).long (lowest_unset f listed) fence

-- the fence that the bytes have
pub fence_is : (f : Fields) (fence : Bool) → IsListed f → is_fenced (spelling (with_fence fence f)) ≡ fence
fence_is f fence listed = ap is_fenced (sym (fenced_fields f fence listed)) ∙ fenced_is (spelling f) (spelling_stands f listed).long (lowest_unset f listed) fence

pub without_fence : (f : Fields) (fence : Bool) → IsListed f → unfenced (spelling (with_fence fence f)) ≡ spelling f
without_fence f fence listed = ap unfenced (sym (fenced_fields f fence listed)) ∙ unfenced_fenced (spelling f) (spelling_stands f listed).long (lowest_unset f listed) fence

-- a descriptor and its fence are known by their bytes
pub one_fenced : (d e : Descriptor) (a b : Bool) → spelling (with_fence a (fields d)) ≡ spelling (with_fence b (fields e)) → (a ≡ b) × (d ≡ e)
one_fenced d e a b same = (
  sym (fence_is (fields d) a d.listed) ∙ ap is_fenced same ∙ fence_is (fields e) b e.listed,
  one_spelling d e (sym (without_fence (fields d) a d.listed) ∙ ap unfenced same ∙ without_fence (fields e) b e.listed),
)
