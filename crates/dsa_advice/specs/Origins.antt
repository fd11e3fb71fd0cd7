-- The operation of a planned list that each piece is of.
use Rattle.std.specs.Prelude.{ℕ, zero, suc, List, [], ◌∷◌, ◌++◌}
use Rattle.dsa_image.specs.Parts.{quotient_up}
use Rattle.dsa_operations.specs.declared.operation.Operation.{Operation}
use Rattle.dsa_operations.specs.Operations.{size_of}
use Rattle.dsa_explain.specs.declared.labels.Origin.{Origin}

-- the first pieces of an operation that has so many, numbered from 1 on
abbrev pub first_origins : ℕ → ℕ → ℕ → List Origin
first_origins operation pieces zero = []
first_origins operation pieces (suc k) =
    first_origins operation pieces k ++ record { operation = operation; piece = suc k; pieces = pieces } ∷ []

-- how many pieces an operation has: one at each multiple of the greatest transfer
abbrev pub count_of : ℕ → Operation → ℕ
count_of greatest o = quotient_up (size_of o) greatest

-- all pieces of an operation
abbrev pub operation_origins : ℕ → ℕ → Operation → List Origin
operation_origins greatest operation o = first_origins operation (count_of greatest o) (count_of greatest o)

-- those of operations, the first of which has that index
abbrev pub origins_from : ℕ → ℕ → List Operation → List Origin
origins_from greatest operation [] = []
origins_from greatest operation (o ∷ os) =
    operation_origins greatest operation o ++ origins_from greatest (suc operation) os
