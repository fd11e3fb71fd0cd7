-- What a reader of a line may answer.
use Rattle.std.specs.Prelude.{◌≡◌, ◌≢◌, ⊤, ℕ, List, [], ◌∷◌, Option, Some, None, Result, Ok, Err}
use Rattle.dsa_operations.specs.declared.operation.Operation.{Operation}
use Rattle.dsa_operations.specs.Faults.{IsFirstOperationFault}
use Rattle.dsa_operations.specs.OperationFields.{OperationFields, fields_spelling, operation_fields}
use Rattle.dsa_lines.specs.declared.fault.Expected.{Expected}
use Rattle.dsa_lines.specs.declared.fault.LineFault.{LineFault}
use Rattle.dsa_lines.specs.declared.fault.LineFault.TheVariants.{Grammar, Field}
use Rattle.dsa_lines.specs.Words.{Word}
use Rattle.dsa_lines.specs.Grammar.{fields_of}
use Rattle.dsa_lines.specs.Texts.{line_fields}

-- a place in the line where it spells no fields; else the operation of these fields, or the first
-- fault of their bytes
abbrev pub Answers : Option OperationFields → Result Operation LineFault → Type 0
Answers None (Ok o) = ⊥
Answers None (Err (Grammar column what)) = ⊤
Answers None (Err (Field fault)) = ⊥
Answers (Some f) (Ok o) = f ≡ operation_fields o
Answers (Some f) (Err (Grammar column what)) = ⊥
Answers (Some f) (Err (Field fault)) = IsFirstOperationFault (fields_spelling f) fault

-- no words; else the bytes of the fields that they spell, or a place where they spell none
abbrev pub SpellsLine : List Word → Result (Option (List ℕ)) (ℕ × Expected) → Type 0
SpellsLine words (Ok None) = words ≡ []
SpellsLine words (Ok (Some bytes)) = (f : OperationFields) × (fields_of words ≡ Some f) × (bytes ≡ fields_spelling f)
SpellsLine words (Err place) = (words ≢ []) × (fields_of words ≡ None)

-- no operation; else the bytes of the one that the line has, or why it leaves the grammar
abbrev pub HasOperation : {E : Type 0} → List Word → Result (Option (List ℕ)) E → Type 0
HasOperation words (Ok None) = line_fields words ≡ Some []
HasOperation words (Ok (Some bytes)) = (f : OperationFields) × (line_fields words ≡ Some (f ∷ [])) × (bytes ≡ fields_spelling f)
HasOperation words (Err place) = line_fields words ≡ None
