-- The document of a certificate, as a JSON value.
use Rattle.std.specs.Prelude.{◌≡◌, ◌≢◌, ℕ, ◌+◌, ◌^◌, ◌<◌, ⊤, List, [], ◌∷◌, All, map, take, codes, Option, Some, None}
use Rattle.serde_json.specs.Data.{Data, null, array, Items}
use Rattle.dsa_descriptor.specs.Pieces.{most_pieces}
use Rattle.dsa_plan.specs.Certificate.{Contents, contents}
use Rattle.dsa_plan.specs.declared.certificate.Certificate.{Certificate}
use Rattle.dsa_tokens.specs.Spelled.{whole, array_of, object_of, ReadsFit}

-- the two numbers fit their places
abbrev pub PairFits : Option (ℕ × ℕ) → Type 0
PairFits None = ⊤
PairFits (Some pair) = (pair.0 < 2 ^ 32) × (pair.1 < 2 ^ 32)

-- an array of the two numbers, or null
abbrev pub pair_value : Option (ℕ × ℕ) → Data
pair_value None = null
pair_value (Some pair) = array_of (whole pair.0 ∷ whole pair.1 ∷ [])

-- an array of pairs
abbrev pub pairs_value : List (Option (ℕ × ℕ)) → Data
pairs_value pairs = array_of (map pair_value pairs)

-- an array of prices
abbrev pub prices_value : List ℕ → Data
prices_value prices = array_of (map whole prices)

-- the members of the document
abbrev pub document_fields : Contents → List (List ℕ × Data)
document_fields c =
    (codes "pairs", pairs_value c.pairs) ∷ (codes "prices", prices_value c.prices) ∷ (codes "version", whole c.version) ∷ []

-- the object with exactly these members (this project's choice)
abbrev pub document : Contents → Data
document c = object_of (document_fields c)

-- the value is the document of these contents, whose pairs fit their places
abbrev pub Documents : Data → Contents → Type 0
Documents value c = (value ≡ document c) × All PairFits c.pairs

-- A reader of prices answers the prices that the value spells, and none if it spells no prices.
abbrev pub ReadsPrices : Data → Option (List ℕ) → Type 0
ReadsPrices d None = (prices : List ℕ) → d ≢ prices_value prices
ReadsPrices d (Some prices) = d ≡ prices_value prices

-- The same for a pair.
abbrev pub ReadsPair : Data → Option (Option (ℕ × ℕ)) → Type 0
ReadsPair d found = ReadsFit pair_value PairFits (λ pair. pair) d found

-- a reader of pairs answers those that a value spells, or that it spells none
abbrev pub ReadsPairs : Data → Option (List (Option (ℕ × ℕ))) → Type 0
ReadsPairs d None = (pairs : List (Option (ℕ × ℕ))) → All PairFits pairs → d ≢ pairs_value pairs
ReadsPairs d (Some pairs) = (d ≡ pairs_value pairs) × All PairFits pairs

-- The items are two numbers that fit their places, or are not.
abbrev pub ReadsTwo : Items → Option (ℕ × ℕ) → Type 0
ReadsTwo ds None = (pair : ℕ × ℕ) → PairFits (Some pair) → array ds ≢ pair_value (Some pair)
ReadsTwo ds (Some pair) = (array ds ≡ pair_value (Some pair)) × PairFits (Some pair)

-- ---- what is kept of a certificate that is read from tokens

-- the most pairs: one more than a list has pieces (this project's choice)
abbrev pub most_pairs : ℕ
most_pairs = most_pieces + 1

-- the most prices: one more than a list of the most pieces has (this project's choice)
abbrev pub most_prices : ℕ
most_prices = most_pieces + 2

-- the first prices and pairs; a certificate with more is refused, at the latest for their number, and what is kept of it too
abbrev pub kept_contents : Contents → Contents
kept_contents c = record { version = c.version; prices = take most_prices c.prices; pairs = take most_pairs c.pairs }

-- a reader of documents answers what is kept of the certificate that the value spells, or that it spells none
abbrev pub ReadsDocument : Data → Option Certificate → Type 0
ReadsDocument d None = (c : Contents) → ¬ Documents d c
ReadsDocument d (Some certificate) = (c : Contents) × Documents d c × (contents certificate ≡ kept_contents c)
