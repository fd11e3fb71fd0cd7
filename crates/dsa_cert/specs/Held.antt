-- ---- for private clauses: a document, member by member
use Rattle.std.specs.Prelude.{◌≡◌, ◌≢◌, ℕ, ◌⊎◌, List, [], ◌∷◌, codes, Option, Some, None, option_map, Vec}
use Rattle.std.specs.declared.alloc.Global.{Global}
use Rattle.serde_json.specs.Data.{Data, Members}
use Rattle.serde_json.specs.Find.{get_member}
use Rattle.dsa_tokens.specs.Said.{Holds, IsArrayUpTo}
use Rattle.dsa_tokens.specs.Spelled.{HasOthers, Reads, whole}
use Rattle.dsa_cert.specs.Document.{PairFits, ReadsPair, most_pairs, most_prices}
use Rattle.dsa_cert.specs.declared.reading.Held.{Held}

-- the names of the members
abbrev pub document_names : List (List ℕ)
document_names = codes "pairs" ∷ codes "prices" ∷ codes "version" ∷ []

-- what is said of the value of the pairs
abbrev pub SaysPairs : Data → Option (Vec (Option (ℕ × ℕ)) Global) → Type 0
SaysPairs d found = IsArrayUpTo (Some most_pairs) ReadsPair d (option_map (λ v. v.items) found)

-- of the version
abbrev pub SaysVersion : Data → Option ℕ → Type 0
SaysVersion d found = Reads {X = ℕ} whole (λ n. n) d found

-- of the prices
abbrev pub SaysPrices : Data → Option (Vec ℕ Global) → Type 0
SaysPrices d found = IsArrayUpTo (Some most_prices) SaysVersion d (option_map (λ v. v.items) found)

-- what was read is of these members
pub record AreHeld (h : Held) (ms : Members) : Type 0 where
  pub pairs : Holds SaysPairs (get_member (codes "pairs") ms) h.pairs
  pub prices : Holds SaysPrices (get_member (codes "prices") ms) h.prices
  pub version : Holds SaysVersion (get_member (codes "version") ms) h.version
  pub others : HasOthers document_names ms h.has_others

-- the two numbers, if both are there and fit their places
abbrev pub PairsTwo : Option ℕ → Option ℕ → Option (ℕ × ℕ) → Type 0
PairsTwo first second None = (pair : ℕ × ℕ) → PairFits (Some pair) → (first ≢ Some pair.0) ⊎ (second ≢ Some pair.1)
PairsTwo first second (Some pair) = (first ≡ Some pair.0) × (second ≡ Some pair.1) × PairFits (Some pair)
