-- Arrays that spell one item more of a list.
use Rattle.std.proofs.Common.{◌≡◌, ℕ, ◌+◌, ◌<◌, ◌≤◌, List, [], ◌∷◌, ◌++◌, length, map, take, get_or, sym, ap, ◌∙◌}
use Rattle.std.specs.Prelude.{⊤, Some, Vec}
use Rattle.std.specs.declared.alloc.Global.{Global}
use Rattle.std.proofs.lemmas.List.{map_more, map_push, take_all}
use Rattle.serde_json.specs.Data.{Data}
use Rattle.serde_json.specs.Find.{as_array}
use Rattle.serde_json.specs.View.{items_view, view}
use Rattle.serde_json.specs.declared.value.Value.{Array, Value}
use Rattle.serde_json.proofs.Views.{view-Array}
use Rattle.dsa_tokens.specs.Spelled.{array_of}
use Rattle.dsa_cert.proofs.Arrays.{array_whole}

module _ {Y : Type 0} (spelling : Y → Data) where
  -- where the values are written
  pub written_more : (vs : List Value) (ys : List Y) (i : ℕ) (v : Value) (y : Y) → i < length ys → map view vs ≡ map spelling (take i ys) → view v ≡ spelling (get_or ys i y) → map view (vs ++ v ∷ []) ≡ map spelling (take (i + 1) ys)
  written_more vs ys i v y lt e same =
      map_push view vs v ∙ ap (λ (ds : List Data). ds ++ view v ∷ []) e ∙ ap (λ (d : Data). map spelling (take i ys) ++ d ∷ []) same ∙ sym (map_more spelling ys i y lt)

  -- and where they are read
  pub read_more : (vs : List Value) (ys : List Y) (i : ℕ) (v : Value) (y : Y) → i < length vs → v ≡ get_or vs i v → map view (take i vs) ≡ map spelling ys → view v ≡ spelling y → map view (take (i + 1) vs) ≡ map spelling (ys ++ y ∷ [])
  read_more vs ys i v y lt is e same =
      map_more view vs i v lt ∙ ap (λ (ds : List Data). ds ++ view (get_or vs i v) ∷ []) e ∙ ap (λ (d : Data). map spelling ys ++ d ∷ []) (sym (ap view is) ∙ same) ∙ sym (map_push spelling ys y)

  -- when all are written, the array spells the list
  pub all_written : (v : Vec Value Global) (ys : List Y) (n : ℕ) → length ys ≤ n → map view v.items ≡ map spelling (take n ys) → view (Array v) ≡ array_of (map spelling ys)
  all_written v ys n le e = view-Array v ∙ ap array_of (e ∙ ap (map spelling) (take_all n ys le))

  -- and when all are read, the value does
  pub all_read : (d : Data) (vs : List Value) (ys : List Y) (n : ℕ) → as_array d ≡ Some (items_view vs) → length vs ≤ n → map view (take n vs) ≡ map spelling ys → d ≡ array_of (map spelling ys)
  all_read d vs ys n is le e = array_whole spelling (λ _. ⊤) d vs ys is (sym (ap (map view) (take_all n vs le)) ∙ e)
