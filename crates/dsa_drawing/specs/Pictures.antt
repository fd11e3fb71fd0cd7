-- Pictures (this project's choice).
use Rattle.std.specs.Prelude.{◌≡◌, ℕ, List, ◌++◌, codes}

-- the text begins as an image in SVG does
abbrev pub IsPicture : List ℕ → Type 0
IsPicture text = (rest : List ℕ) × (text ≡ codes "<svg " ++ rest)
