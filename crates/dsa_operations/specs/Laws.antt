-- What the definitions promise of each other.
use Rattle.std.specs.Prelude.{◌≡◌}
use Rattle.dsa_operations.specs.declared.operation.Operation.{Operation}
use Rattle.dsa_operations.specs.Operations.{spelling_of}

-- two operations with the same spelling are equal
abbrev pub OneSpelling : Type 0
OneSpelling = (o p : Operation) → spelling_of o ≡ spelling_of p → o ≡ p
