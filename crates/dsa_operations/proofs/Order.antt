-- The faults of a checksum in their order, by their places in the list of them.
use Rattle.std.proofs.Common.{◌≡◌, ℕ, zero, suc, ◌+◌, ◌*◌, ◌/◌, ◌<◌, ◌≤◌, List, [], ◌∷◌, get_or, refl, arith}
use Rattle.dsa_descriptor.specs.declared.fault.FieldFault.{FieldFault}
use Rattle.dsa_descriptor.specs.declared.fault.FieldFault.TheVariants.{Opcode, FlagBits, Reserved, SizeZero, Wrap, RecordAlign, DualcastBits, Overlap, Delta, Expected, RecordMeetsData}
use Rattle.dsa_descriptor.specs.Faults.{number}
use Rattle.dsa_operations.specs.declared.checksum_op.ChecksumOp.{ChecksumOp}
use Rattle.dsa_operations.specs.Faults.{IsFirstBroken, Rule}

abbrev pub in_order : List FieldFault
in_order = FlagBits ∷ Reserved ∷ SizeZero ∷ Wrap ∷ RecordAlign ∷ Overlap ∷ RecordMeetsData ∷ []

-- the numbers are 3 to 7, 9 and 13
number_at : (i : ℕ) → i < 7 → number (get_or in_order i Opcode) ≡ i + 3 + i / 5 + i / 6 * 3
number_at zero lt = refl
number_at (suc zero) lt = refl
number_at (suc (suc zero)) lt = refl
number_at (suc (suc (suc zero))) lt = refl
number_at (suc (suc (suc (suc zero)))) lt = refl
number_at (suc (suc (suc (suc (suc zero))))) lt = refl
number_at (suc (suc (suc (suc (suc (suc zero)))))) lt = refl
number_at (suc (suc (suc (suc (suc (suc (suc i))))))) lt = absurd (omega arith)

-- the rules of the first i faults are kept
abbrev pub KeepsFirst : List ℕ → ChecksumOp → ℕ → Type 0
KeepsFirst bytes op i = (k : ℕ) → k < i → Rule bytes op (get_or in_order k Opcode)

module _ (bytes : List ℕ) (op : ChecksumOp) (i : ℕ) (before : KeepsFirst bytes op i) where
  kept_below : i < 7 → (other : FieldFault) → number other < number (get_or in_order i Opcode) → Rule bytes op other
  kept_below lt Opcode less = tt
  kept_below lt FlagBits less = before 0 (omega (arith, number_at i lt, less))
  kept_below lt Reserved less = before 1 (omega (arith, number_at i lt, less))
  kept_below lt SizeZero less = before 2 (omega (arith, number_at i lt, less))
  kept_below lt Wrap less = before 3 (omega (arith, number_at i lt, less))
  kept_below lt RecordAlign less = before 4 (omega (arith, number_at i lt, less))
  kept_below lt DualcastBits less = tt
  kept_below lt Overlap less = before 5 (omega (arith, number_at i lt, less))
  kept_below lt Delta less = tt
  kept_below lt Expected less = tt
  kept_below lt RecordMeetsData less = before 6 (omega (arith, number_at i lt, less))

  -- the rule at i is the first that is broken
  pub first_at : i < 7 → ¬ Rule bytes op (get_or in_order i Opcode) → IsFirstBroken bytes op (get_or in_order i Opcode)
  first_at lt broken = record { stands = broken; first = kept_below lt }

  -- all rules are kept
  pub all_kept : 7 ≤ i → (fault : FieldFault) → Rule bytes op fault
  all_kept le Opcode = tt
  all_kept le FlagBits = before 0 (omega (arith, le))
  all_kept le Reserved = before 1 (omega (arith, le))
  all_kept le SizeZero = before 2 (omega (arith, le))
  all_kept le Wrap = before 3 (omega (arith, le))
  all_kept le RecordAlign = before 4 (omega (arith, le))
  all_kept le DualcastBits = tt
  all_kept le Overlap = before 5 (omega (arith, le))
  all_kept le Delta = tt
  all_kept le Expected = tt
  all_kept le RecordMeetsData = before 6 (omega (arith, le))
