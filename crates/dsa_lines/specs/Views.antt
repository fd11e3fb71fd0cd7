-- What the readers' values show.
use Rattle.std.specs.Prelude.{List, [], ◌∷◌, ℕ, Option, Some, None}
use Rattle.std.specs.Borrow.{Bor}
use Rattle.dsa_operations.specs.OperationFields.{OperationFields}
use Rattle.dsa_lines.specs.declared.line.Line.{Line}
use Rattle.dsa_lines.specs.Words.{Word, words_of}
use Rattle.dsa_lines.specs.Options.{fields_by}

-- all words, from the first one and the text after it
abbrev pub first_word : Option (Bor (List ℕ) × Bor (List ℕ)) → List Word
first_word None = []
first_word (Some x) = x.0.now ∷ words_of x.1.now

-- the fields of a line
abbrev pub view : Line → OperationFields
view l = fields_by l.op l.pasid l.privileged l.flags l.record_at l.size l.int_handle
