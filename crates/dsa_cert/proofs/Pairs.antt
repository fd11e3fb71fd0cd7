-- Reading an array that spells a pair.
use Rattle.std.proofs.Common.{◌≡◌, ℕ, List, length, Option, Some, None, ap}
use Rattle.serde_json.specs.Data.{Data}
use Rattle.serde_json.specs.Find.{as_array}
use Rattle.serde_json.specs.View.{items_view}
use Rattle.serde_json.specs.declared.value.Value.{Value}
use Rattle.dsa_tokens.specs.Spelled.{whole}
use Rattle.dsa_cert.specs.Document.{PairFits, pair_value}
use Rattle.dsa_cert.proofs.Arrays.{two_items}

-- an array with another number of items spells no pair
pub no_pair : (d : Data) (vs : List Value) → as_array d ≡ Some (items_view vs) → (length vs ≡ 2 → ⊥) → (pair : Option (ℕ × ℕ)) → PairFits pair → d ≡ pair_value pair → ⊥
no_pair d vs is other None fits e = let found = ap as_array e in cc
no_pair d vs is other (Some pair) fits e = other (two_items d vs (whole pair.0) (whole pair.1) is e)
