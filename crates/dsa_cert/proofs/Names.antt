-- The names of an object's members, one after another beside the names that are wanted.
use Rattle.std.proofs.Common.{◌≡◌, ℕ, zero, suc, ◌+◌, ◌<◌, List, [], ◌∷◌, ◌++◌, length, map, take, get_or, Bool, true, false, not, Bor, String, Global, string_bytes, Option, Some, None, refl, sym, ap, ◌∙◌, arith, add-one, is_some, MatchOption, true≢false, IsTrue, ◌↔◌, ◌≤◌}
use Rattle.std.specs.Str.{bytes_eq}
use Rattle.std.specs.Map.{keys_of}
use Rattle.std.proofs.lemmas.List.{append-nil, take_all}
use Rattle.std.proofs.lemmas.Slice.Eq.{bytes_eq-Decides}
use Rattle.serde_json.specs.View.{members_view}
use Rattle.serde_json.specs.declared.value.Value.{Value}
use Rattle.dsa_tokens.specs.Spelled.{member_names}

abbrev pub Entry : Type 0
Entry = String Global × Value

abbrev pub texts : List (Bor (List ℕ)) → List (List ℕ)
texts xs = map (λ x. x.now) xs

-- the names are those of the map's keys
pub member_names-members_view : (es : List Entry) → member_names (members_view es) ≡ map string_bytes (keys_of es)
member_names-members_view [] = refl
member_names-members_view (e ∷ es) = ap (λ names. string_bytes e.0 ∷ names) (member_names-members_view es)

-- what `!=` on two texts says
pub same_from_ne : (xs ys : List ℕ) (b : Bool) → b ≡ not (bytes_eq xs ys) → b ≡ false → xs ≡ ys
same_from_ne xs ys b is false-is = (bytes_eq-Decides xs ys).0 (go (bytes_eq xs ys) (sym is ∙ false-is))
  where
    go : (t : Bool) → not t ≡ false → t ≡ true
    go true e = refl
    go false e = absurd (true≢false e)

pub apart_from_ne : (xs ys : List ℕ) (b : Bool) → b ≡ not (bytes_eq xs ys) → b ≡ true → xs ≡ ys → ⊥
apart_from_ne xs ys b is true-is same = true≢false (sym true-is ∙ is ∙ ap not ((bytes_eq-Decides xs ys).1 same))

-- the next name is the one that is wanted
pub names_more : (xs : List (Bor (List ℕ))) (i : ℕ) (d : Bor (List ℕ)) (name : List ℕ) (rest : List (List ℕ)) → i < length xs → name ≡ (get_or xs i d).now
    → texts (take i xs) ++ (name ∷ rest) ≡ texts (take (suc i) xs) ++ rest
names_more [] i d name rest within same = absurd (omega arith)
names_more (x ∷ xs) zero d name rest within same = ap (λ n. n ∷ rest) same
names_more (x ∷ xs) (suc i) d name rest within same = ap (λ ns. x.now ∷ ns) (names_more xs i d name rest (omega arith) same)

-- the next name is another
pub names_apart : (xs : List (Bor (List ℕ))) (i : ℕ) (d : Bor (List ℕ)) (name : List ℕ) (rest : List (List ℕ)) → i < length xs → (name ≡ (get_or xs i d).now → ⊥)
    → texts (take i xs) ++ (name ∷ rest) ≡ texts xs → ⊥
names_apart [] i d name rest within other e = absurd (omega arith)
names_apart (x ∷ xs) zero d name rest within other e = other cc
names_apart (x ∷ xs) (suc i) d name rest within other e = names_apart xs i d name rest (omega arith) other cc

-- a name is left over
pub names_over : (front rest : List (List ℕ)) (name : List ℕ) → front ++ (name ∷ rest) ≡ front → ⊥
names_over [] rest name e = cc
names_over (x ∷ front) rest name e = names_over front rest name cc

module _ (all : List (List ℕ)) (xs : List (Bor (List ℕ))) (i : ℕ) (keys : List (String Global)) (so_far : all ≡ texts (take i xs) ++ map string_bytes keys) where
  -- the next key is another than the name that is wanted
  pub turn_apart : (d : Bor (List ℕ)) (k : String Global) (rest : List (String Global)) (key : List ℕ) (b : Bool) → keys ≡ k ∷ rest → key ≡ string_bytes k → i < length xs
      → b ≡ not (bytes_eq key (get_or xs i d).now) → b ≡ true → all ≡ texts xs → ⊥
  turn_apart d k rest key b step is within test true-is whole =
      let other = apart_from_ne key (get_or xs i d).now b test true-is in
      names_apart xs i d (string_bytes k) (map string_bytes rest) within (λ e. other (is ∙ e)) (sym (rw step at so_far) ∙ whole)

  -- the next key is the name that is wanted
  pub turn_same : (d : Bor (List ℕ)) (k : String Global) (rest : List (String Global)) (key : List ℕ) (b : Bool) → keys ≡ k ∷ rest → key ≡ string_bytes k → i < length xs
      → b ≡ not (bytes_eq key (get_or xs i d).now) → b ≡ false → all ≡ texts (take (i + 1) xs) ++ map string_bytes rest
  turn_same d k rest key b step is within test false-is =
      let same = same_from_ne key (get_or xs i d).now b test false-is in
      rw add-one (rw step at so_far ∙ names_more xs i d (string_bytes k) (map string_bytes rest) within (sym is ∙ same))

  -- every name was there, and a key is left or none
  pub turn_last : (next : Option (Bor (String Global))) (rest : List (String Global)) (over : Bool) → length xs ≤ i
      → MatchOption next ((keys ≡ []) × (rest ≡ [])) (λ x. keys ≡ x.now ∷ rest) → is_some next ≡ not over → IsTrue over ↔ (all ≡ texts xs)
  turn_last None rest true past step is = (λ _. so_far ∙ rw (step.0, take_all) (append-nil (texts xs)), λ _. refl)
  turn_last None rest false past step is = absurd (true≢false (sym is))
  turn_last (Some x) rest true past step is = absurd (true≢false is)
  turn_last (Some x) rest false past step is = (
    λ h. absurd (true≢false (sym h)),
    λ whole. absurd (names_over (texts xs) (map string_bytes rest) (string_bytes x.now) (sym (rw (step, take_all) at so_far) ∙ whole)),
  )
