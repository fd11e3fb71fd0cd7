-- The text of an array, whose items are written one after another.
use Rattle.std.proofs.Common.{◌≡◌, ℕ, ◌+◌, ◌<◌, ◌≤◌, List, [], ◌∷◌, ◌++◌, true, length, map, drop, get_or, append_assoc, length-drop, add-one, arith, sym, ap, ◌∙◌}
use Rattle.std.proofs.Math.Seq.{drop-cons}
use Rattle.std.proofs.lemmas.List.{nil_from_length}
use Rattle.serde_json.specs.Data.{Data, Items, item}
use Rattle.serde_json.specs.View.{items_of}
use Rattle.serde_json.specs.Written.{compact_text, items_text}
use Rattle.dsa_tokens.specs.Spelled.{array_of}

regroup : (line text rest : List ℕ) → ((line ++ 44 ∷ []) ++ text) ++ rest ≡ line ++ (44 ∷ [] ++ (text ++ rest))
regroup line text rest = simp append_assoc

regroup_first : (line text rest : List ℕ) → ((line ++ 91 ∷ []) ++ text) ++ rest ≡ line ++ (91 ∷ (text ++ rest))
regroup_first line text rest = simp append_assoc

-- a comma and an item were added to the line
item_added : (line comma added all : List ℕ) (d : Data) (ds : Items) → comma ≡ line ++ 44 ∷ [] → added ≡ comma ++ compact_text d
    → line ++ items_text true (item d ds) ≡ all → added ++ items_text true ds ≡ all
item_added line comma added all d ds is1 is2 before =
    ap (λ (t : List ℕ). t ++ items_text true ds) (is2 ∙ ap (λ (t : List ℕ). t ++ compact_text d) is1)
    ∙ regroup line (compact_text d) (items_text true ds) ∙ before

-- the same for the item at a place of the list
pub next_added : {A : Type 0} (value : A → Data) (rest : List A) (i : ℕ) (none : A) (line comma added all : List ℕ) → i < length rest → comma ≡ line ++ 44 ∷ []
    → added ≡ comma ++ compact_text (value (get_or rest i none)) → line ++ items_text true (items_of (map value (drop i rest))) ≡ all
    → added ++ items_text true (items_of (map value (drop (i + 1) rest))) ≡ all
next_added {A} value rest i none line comma added all lt is1 is2 before =
    let more : drop i rest ≡ get_or rest i none ∷ drop (i + 1) rest = drop-cons rest i none lt ∙ ap (λ (n : ℕ). get_or rest i none ∷ drop n rest) (sym (add-one i)) in
    item_added line comma added all (value (get_or rest i none)) (items_of (map value (drop (i + 1) rest))) is1 is2
    (ap (λ (t : List A). line ++ items_text true (items_of (map value t))) (sym more) ∙ before)

-- the bracket and the first item, then the other items, then the closing bracket
pub array_added : {A : Type 0} (value : A → Data) (x : A) (rest all : List A) (line bracket first others closed : List ℕ) (n : ℕ) → all ≡ x ∷ rest
    → bracket ≡ line ++ 91 ∷ [] → first ≡ bracket ++ compact_text (value x) → length rest ≤ n
    → others ++ items_text true (items_of (map value (drop n rest))) ≡ first ++ items_text true (items_of (map value rest)) → closed ≡ others ++ 93 ∷ []
    → closed ≡ line ++ compact_text (array_of (map value all))
array_added {A} value x rest all line bracket first others closed n whole is1 is2 end others_are is3 =
    let none : drop n rest ≡ [] = nil_from_length (drop n rest) (omega (arith, length-drop n rest)) in
    is3 ∙ ap (λ (t : List A). others ++ items_text true (items_of (map value t))) (sym none) ∙ others_are
    ∙ ap (λ (t : List ℕ). t ++ items_text true (items_of (map value rest))) (is2 ∙ ap (λ (t : List ℕ). t ++ compact_text (value x)) is1)
    ∙ regroup_first line (compact_text (value x)) (items_text true (items_of (map value rest)))
    ∙ ap (λ (t : List A). line ++ compact_text (array_of (map value t))) (sym whole)
