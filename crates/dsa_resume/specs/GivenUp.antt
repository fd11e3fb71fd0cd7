-- Which pieces the caller gives up: a byte for each piece, not 0 if it has failed and is not to be done again. A piece
-- without a byte is not given up. (This project's choice.)
use Rattle.std.specs.Prelude.{◌≡◌, ◌≢◌, ℕ, ◌<◌, ◌≤◌, List, Option, Some, None, slice_get, slice_index}

-- piece i is given up, but there is no such piece, or its record does not say that it has failed
pub record IsIdle (completions : List (List ℕ)) (given_up : List ℕ) (i : ℕ) : Type 0 where
  pub mark : ℕ
  pub marked : slice_get given_up i ≡ Some mark
  pub some : mark ≢ 0
  pub other : (r : List ℕ) → slice_get completions i ≡ Some r → slice_index r 0 < 3

-- each piece that is given up has failed
abbrev pub NoneIsIdle : List (List ℕ) → List ℕ → Type 0
NoneIsIdle completions given_up = (i : ℕ) → ¬ IsIdle completions given_up i

-- the first one that has not
pub record IsFirstIdle (completions : List (List ℕ)) (given_up : List ℕ) (i : ℕ) : Type 0 where
  pub idle : IsIdle completions given_up i
  pub first : (x : ℕ) → IsIdle completions given_up x → i ≤ x

-- ---- for private clauses

-- one, or none
abbrev pub FindsIdle : List (List ℕ) → List ℕ → Option ℕ → Type 0
FindsIdle completions given_up None = NoneIsIdle completions given_up
FindsIdle completions given_up (Some i) = IsFirstIdle completions given_up i
