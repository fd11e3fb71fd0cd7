-- The names of operations.
use Rattle.std.proofs.Common.{◌≡◌, List, [], ◌∷◌, Global, map, refl, ap}
use Rattle.std.specs.Prelude.{string_bytes}
use Rattle.std.specs.declared.string.String.{String}
use Rattle.serde_json.specs.Data.{Data, string}

-- a name as JSON
abbrev pub spelled_name : String Global → Data
spelled_name name = string (string_bytes name)

pub same_names : (names : List (String Global)) → map spelled_name names ≡ map string (map string_bytes names)
same_names [] = refl
same_names (name ∷ names) = ap (λ (values : List Data). spelled_name name ∷ values) (same_names names)
