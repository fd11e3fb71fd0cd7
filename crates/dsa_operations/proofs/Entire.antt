-- Bytes that keep the rules of a checksum are its spelling.
use Rattle.std.proofs.Common.{◌≡◌, ℕ, ◌/◌, ◌%◌, ◌^◌, ◌<◌, List, ◌++◌, length, take, drop, Option, Some, None, Bool, true, false, cond, eqb, refl, sym, ap, subst, ◌∙◌, arith, inl, inr, ⊎_elim, ◌⊎◌}
use Rattle.std.specs.Prelude.{bit_and, replicate}
use Rattle.std.specs.Int.{w16, w32, w64, to_le_bytes}
use Rattle.std.proofs.Math.Seq.{take-add, take-length}
use Rattle.std.proofs.lemmas.Bool.{eqb-true}
use Rattle.dsa_descriptor.specs.Places.{u16_at, u32_at, u64_at, flags_at}
use Rattle.dsa_descriptor.proofs.Bytes.{IsBytes, u32_at-lt, u64_at-lt, le-u16_at, le-u32_at, le-u64_at}
use Rattle.dsa_descriptor.proofs.Whole.{owner_again}
use Rattle.dsa_operations.specs.declared.checksum_op.ChecksumOp.{ChecksumOp}
use Rattle.dsa_operations.specs.declared.checksum_op.ChecksumOp.TheVariants.{Crc, CopyCrc}
use Rattle.dsa_operations.specs.declared.checksum_op.Seed.TheVariants.{Given, At}
use Rattle.dsa_operations.specs.Faults.{IsReservedZero}
use Rattle.dsa_operations.specs.Fields.{ChecksumFields}
use Rattle.dsa_operations.specs.Operands.{address_field, code_of, destination_field, given_field, is_in_memory, source_field}
use Rattle.dsa_operations.specs.Places.{checksum_at, seed_at}
use Rattle.dsa_operations.specs.Profile.{FieldsFit, SeedFits, TellsSeed}
use Rattle.dsa_operations.specs.Spelling.{checksum_spelling, operation_word, owner_word}

-- what the bytes of an operation that was read are
pub record Named (bytes : List ℕ) (op : ChecksumOp) : Type 0 where
  pub code : u32_at 4 bytes / 2 ^ 24 ≡ code_of op
  pub source : u64_at 16 bytes ≡ source_field op
  pub told : TellsSeed (flags_at bytes) op
  pub fits : FieldsFit op

cond_some : (test : Bool) (x : ChecksumOp) (o : Option ChecksumOp) (op : ChecksumOp) → cond test (Some x) o ≡ Some op → ((test ≡ true) × (x ≡ op)) ⊎ (o ≡ Some op)
cond_some true x o op e = inl (refl, cc)
cond_some false x o op e = inr e

seed_named : (test : Bool) (address value : ℕ) → address < 2 ^ 64 → value < 2 ^ 32
    → SeedFits (cond test (At address) (Given value)) × (test ≡ is_in_memory (cond test (At address) (Given value)))
seed_named true address value a v = (a, refl)
seed_named false address value a v = (v, refl)

pub named : (bytes : List ℕ) (op : ChecksumOp) → IsBytes bytes → checksum_at bytes ≡ Some op → Named bytes op
unfolding checksum_at
named bytes op fits e =
    let source-lt = u64_at-lt 16 bytes fits in
    let destination-lt = u64_at-lt 24 bytes fits in
    let seed = seed_named (eqb (bit_and (flags_at bytes) 0x010000) 0x010000) (u64_at 48 bytes) (u32_at 40 bytes) (u64_at-lt 48 bytes fits) (u32_at-lt 40 bytes fits) in
    let P : ChecksumOp → Type 0 = λ op. Named bytes op in
    let code = u32_at 4 bytes / 2 ^ 24 in
    let made : code ≡ 0x10 → Named bytes (Crc (u64_at 16 bytes) (seed_at bytes)) = λ h. record { code = h; source = refl; told = seed.1; fits = (source-lt, seed.0) } in
    let copied : code ≡ 0x11 → Named bytes (CopyCrc (u64_at 16 bytes) (u64_at 24 bytes) (seed_at bytes)) = λ h. record { code = h; source = refl; told = seed.1; fits = (source-lt, destination-lt, seed.0) } in
    ⊎_elim (λ h. subst P h.1 (made (eqb-true _ _ h.0))) (λ e.
    ⊎_elim (λ h. subst P h.1 (copied (eqb-true _ _ h.0))) (λ (e : None ≡ Some op). absurd cc)
    (cond_some _ _ _ op e)) (cond_some _ _ _ op e)

-- twelve parts that follow one another are the whole
gather : (bytes a b c d e f g h i j k l : List ℕ) → length bytes ≡ 64 → a ≡ take 4 bytes → b ≡ take 4 (drop 4 bytes) → c ≡ take 8 (drop 8 bytes) → d ≡ take 8 (drop 16 bytes)
    → e ≡ take 8 (drop 24 bytes) → f ≡ take 4 (drop 32 bytes) → g ≡ take 2 (drop 36 bytes) → h ≡ take 2 (drop 38 bytes) → i ≡ take 4 (drop 40 bytes) → j ≡ take 4 (drop 44 bytes)
    → k ≡ take 8 (drop 48 bytes) → l ≡ take 8 (drop 56 bytes) → a ++ b ++ c ++ d ++ e ++ f ++ g ++ h ++ i ++ j ++ k ++ l ≡ bytes
gather bytes a b c d e f g h i j k l long pa pb pc pd pe pf pg ph pi pj pk pl =
    let ab : a ++ b ≡ take 8 bytes = rw (pa, pb) (sym (take-add 4 4 bytes)) in
    let ac : a ++ b ++ c ≡ take 16 bytes = rw (ab, pc) (sym (take-add 8 8 bytes)) in
    let ad : a ++ b ++ c ++ d ≡ take 24 bytes = rw (ac, pd) (sym (take-add 16 8 bytes)) in
    let ae : a ++ b ++ c ++ d ++ e ≡ take 32 bytes = rw (ad, pe) (sym (take-add 24 8 bytes)) in
    let af : a ++ b ++ c ++ d ++ e ++ f ≡ take 36 bytes = rw (ae, pf) (sym (take-add 32 4 bytes)) in
    let ag : a ++ b ++ c ++ d ++ e ++ f ++ g ≡ take 38 bytes = rw (af, pg) (sym (take-add 36 2 bytes)) in
    let ah : a ++ b ++ c ++ d ++ e ++ f ++ g ++ h ≡ take 40 bytes = rw (ag, ph) (sym (take-add 38 2 bytes)) in
    let ai : a ++ b ++ c ++ d ++ e ++ f ++ g ++ h ++ i ≡ take 44 bytes = rw (ah, pi) (sym (take-add 40 4 bytes)) in
    let aj : a ++ b ++ c ++ d ++ e ++ f ++ g ++ h ++ i ++ j ≡ take 48 bytes = rw (ai, pj) (sym (take-add 44 4 bytes)) in
    let ak : a ++ b ++ c ++ d ++ e ++ f ++ g ++ h ++ i ++ j ++ k ≡ take 56 bytes = rw (aj, pk) (sym (take-add 48 8 bytes)) in
    let al : a ++ b ++ c ++ d ++ e ++ f ++ g ++ h ++ i ++ j ++ k ++ l ≡ take 64 bytes = rw (ak, pl) (sym (take-add 56 8 bytes)) in
    al ∙ ap (λ (n : ℕ). take n bytes) (sym long) ∙ take-length bytes

-- the fields at their places
abbrev pub fields_at : List ℕ → ChecksumOp → ChecksumFields
fields_at bytes op =
    record {
      pasid = u32_at 0 bytes % 2 ^ 20;
      privileged = eqb (u32_at 0 bytes / 2 ^ 31) 1;
      flags = flags_at bytes;
      record_at = u64_at 8 bytes;
      size = u32_at 32 bytes;
      int_handle = u16_at 36 bytes;
      op = op;
    }

pub entire : (bytes : List ℕ) (f : ChecksumFields) → IsBytes bytes → length bytes ≡ 64 → checksum_at bytes ≡ Some f.op → IsReservedZero bytes f.op
    → f.pasid ≡ u32_at 0 bytes % 2 ^ 20 → f.privileged ≡ eqb (u32_at 0 bytes / 2 ^ 31) 1 → f.flags ≡ flags_at bytes → f.record_at ≡ u64_at 8 bytes → f.size ≡ u32_at 32 bytes → f.int_handle ≡ u16_at 36 bytes
    → bytes ≡ checksum_spelling f
unfolding checksum_spelling
entire bytes f fits long e zero pasid privileged flags record_at size int_handle =
    let n = named bytes f.op fits e in
    let owner : owner_word f ≡ u32_at 0 bytes = rw (pasid, privileged) (owner_again (u32_at 0 bytes) (u32_at-lt 0 bytes fits) zero.0) in
    let word : operation_word f ≡ u32_at 4 bytes = omega (arith, n.code, flags) in
    sym (gather bytes
    (to_le_bytes w32 (owner_word f)) (to_le_bytes w32 (operation_word f)) (to_le_bytes w64 f.record_at)
    (to_le_bytes w64 (source_field f.op)) (to_le_bytes w64 (destination_field f.op)) (to_le_bytes w32 f.size) (to_le_bytes w16 f.int_handle)
    (replicate 2 0) (to_le_bytes w32 (given_field f.op)) (replicate 4 0) (to_le_bytes w64 (address_field f.op)) (replicate 8 0) long
    (ap (to_le_bytes w32) owner ∙ le-u32_at 0 bytes fits (omega arith))
    (ap (to_le_bytes w32) word ∙ le-u32_at 4 bytes fits (omega arith))
    (ap (to_le_bytes w64) record_at ∙ le-u64_at 8 bytes fits (omega arith))
    (ap (to_le_bytes w64) (sym n.source) ∙ le-u64_at 16 bytes fits (omega arith))
    (ap (to_le_bytes w64) (sym zero.1) ∙ le-u64_at 24 bytes fits (omega arith))
    (ap (to_le_bytes w32) size ∙ le-u32_at 32 bytes fits (omega arith))
    (ap (to_le_bytes w16) int_handle ∙ le-u16_at 36 bytes fits (omega arith))
    (ap (to_le_bytes w16) (sym zero.2) ∙ le-u16_at 38 bytes fits (omega arith))
    (ap (to_le_bytes w32) (sym zero.3) ∙ le-u32_at 40 bytes fits (omega arith))
    (ap (to_le_bytes w32) (sym zero.4) ∙ le-u32_at 44 bytes fits (omega arith))
    (ap (to_le_bytes w64) (sym zero.5) ∙ le-u64_at 48 bytes fits (omega arith))
    (ap (to_le_bytes w64) (sym zero.6) ∙ le-u64_at 56 bytes fits (omega arith)))
