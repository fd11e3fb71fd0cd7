-- Reading an array whose items each spell something.
use Rattle.std.proofs.Common.{◌≡◌, ◌≢◌, ℕ, zero, suc, ◌<◌, List, [], ◌∷◌, length, map, get_or, Some, Bool, refl, sym, ap, ◌∙◌, arith}
use Rattle.std.specs.Prelude.{All}
use Rattle.serde_json.specs.Data.{Data, null, boolean, number, string, array, object, Items}
use Rattle.serde_json.specs.Find.{as_array, as_bool}
use Rattle.serde_json.specs.View.{view, items_of, items_view}
use Rattle.serde_json.specs.declared.value.Value.{Value}
use Rattle.std.proofs.lemmas.List.{length-map}
use Rattle.dsa_tokens.specs.Spelled.{whole, array_of}

-- the items of an array are one list
pub same_items : (xs ys : List Data) → items_of xs ≡ items_of ys → xs ≡ ys
same_items [] [] e = refl
same_items [] (y ∷ ys) e = cc
same_items (x ∷ xs) [] e = cc
same_items (x ∷ xs) (y ∷ ys) e = let rest = same_items xs ys cc in cc

-- a value with items is the array of them
pub array_from : (d : Data) (ds : Items) → as_array d ≡ Some ds → d ≡ array ds
array_from (array es) ds e = cc
array_from null ds e = cc
array_from (boolean b) ds e = cc
array_from (number n) ds e = cc
array_from (string s) ds e = cc
array_from (object ms) ds e = cc

-- a value that is read as a truth value is that one
pub boolean_from : (d : Data) (b : Bool) → as_bool d ≡ Some b → d ≡ boolean b
boolean_from (boolean c) b e = cc
boolean_from null b e = cc
boolean_from (array es) b e = cc
boolean_from (number n) b e = cc
boolean_from (string s) b e = cc
boolean_from (object ms) b e = cc

module _ {Y : Type 0} (spelling : Y → Data) (Fits : Y → Type 0) where
  -- each item of a spelled list spells one thing that fits
  pub item_spelled : (vs : List Value) (ys : List Y) (i : ℕ) (v : Value) → i < length vs → All Fits ys → map view vs ≡ map spelling ys → (y : Y) × Fits y × (view (get_or vs i v) ≡ spelling y)
  item_spelled [] ys i v within fit e = absurd (omega arith)
  item_spelled (x ∷ vs) [] i v within fit e = cc
  item_spelled (x ∷ vs) (y ∷ ys) zero v within fit e = (y, fit 0 y (omega arith), cc)
  item_spelled (x ∷ vs) (y ∷ ys) (suc i) v within fit e = item_spelled vs ys i v (omega arith) (λ k d lt. fit (suc k) d (omega arith)) cc

  -- where an item spells nothing that fits, the array spells nothing
  pub array_apart : (d : Data) (vs : List Value) (i : ℕ) (v : Value) → as_array d ≡ Some (items_view vs) → i < length vs → v ≡ get_or vs i v → ((y : Y) → Fits y → view v ≢ spelling y)
      → (ys : List Y) → All Fits ys → d ≢ array_of (map spelling ys)
  array_apart d vs i v is within here other ys fit e =
      let found : array (items_view vs) ≡ array (items_of (map spelling ys)) = sym (array_from d _ is) ∙ e in
      let (y, fits, same) = item_spelled vs ys i v within fit (same_items _ _ cc) in
      other y fits (ap view here ∙ same)

  -- where all items spell, the array spells the list
  pub array_whole : (d : Data) (vs : List Value) (ys : List Y) → as_array d ≡ Some (items_view vs) → map view vs ≡ map spelling ys → d ≡ array_of (map spelling ys)
  array_whole d vs ys is e = array_from d _ is ∙ ap (λ ds. array (items_of ds)) e

-- an array of two things has two items
pub two_items : (d : Data) (vs : List Value) (a b : Data) → as_array d ≡ Some (items_view vs) → d ≡ array_of (a ∷ b ∷ []) → length vs ≡ 2
two_items d vs a b is e =
    let found : array (items_view vs) ≡ array (items_of (a ∷ b ∷ [])) = sym (array_from d _ is) ∙ e in
    let same : map view vs ≡ a ∷ b ∷ [] = same_items (map view vs) (a ∷ b ∷ []) cc in
    sym (length-map vs view) ∙ ap length same

-- lists that are spelled alike are one, where items are
pub same_from_map : {Y : Type 0} (spelling : Y → Data) → ((x y : Y) → spelling x ≡ spelling y → x ≡ y) → (xs ys : List Y) → map spelling xs ≡ map spelling ys → xs ≡ ys
same_from_map spelling one [] [] e = refl
same_from_map spelling one [] (y ∷ ys) e = cc
same_from_map spelling one (x ∷ xs) [] e = cc
same_from_map spelling one (x ∷ xs) (y ∷ ys) e =
    let first = one x y cc in
    let rest = same_from_map spelling one xs ys cc in cc

pub same_array : {Y : Type 0} (spelling : Y → Data) → ((x y : Y) → spelling x ≡ spelling y → x ≡ y) → (xs ys : List Y) → array_of (map spelling xs) ≡ array_of (map spelling ys) → xs ≡ ys
same_array spelling one xs ys e = same_from_map spelling one xs ys (same_items (map spelling xs) (map spelling ys) cc)

pub same_whole : (m n : ℕ) → whole m ≡ whole n → m ≡ n
same_whole m n e = cc
