-- How the tokens of a text make a value, a step at a time.
use Rattle.std.proofs.Common.{◌≡◌, ℕ, zero, suc, ◌-◌, ◌<◌, Bool, List, [], ◌∷◌, length, Option, Some, None, option_map, option_and_then, Result, Ok, Err, OnErr, refl, ap, ◌∙◌, arith}
use Rattle.json.specs.Token.{Token}
use Rattle.json.specs.Json as json
use Rattle.json.specs.Json.{Parse, parse_map, after_end_array, read_key, items_step, items, members, value, if_last}
use Rattle.json.proofs.Grammar.{value_is, value-begin_array, value-begin_object, read_key-shorter, items_end, items_more, members_end, members_no_key, members_more}
use Rattle.serde_json.specs.Data.{Num, Data, null, boolean, number, string, array, object, Items, no_items, item, Members, no_members, put}
use Rattle.json.specs.Lex.{tokens}
use Rattle.serde_json.specs.Read.{number_of, of_json, of_items, of_members, converted, max_depth, read}
use Rattle.dsa_tokens.specs.Taken.{Takes, TakesNone, TakesItems, TakesNoItems, TakesMembers, TakesNoMembers}

-- ---- what a conversion gives

abbrev pick : {A : Type 0} → A → Option A → A
pick d None = d
pick d (Some a) = a

pub found : {A B : Type 0} (a : A) (r s : List Token) (x : Option B) (b : B) → option_map {U = B × List Token} (λ y. (y, r)) x ≡ Some (b, s) → (r ≡ s) × (x ≡ Some b)
found a r s None b e = absurd (cc)
found a r s (Some y) b e = let same = ap (pick (y, r)) e in (ap (λ p. p.1) same, ap (λ p. Some p.0) same)

converted_some : {A B : Type 0} (f : A → Option B) (o : Option (A × List Token)) (b : B) (r : List Token) → converted f o ≡ Some (b, r) → (a : A) × (o ≡ Some (a, r)) × (f a ≡ Some b)
converted_some f None b r e = absurd (cc)
converted_some f (Some p) b r e = let both = found p.0 p.1 r (f p.0) b e in (p.0, ap (λ s. Some (p.0, s)) both.0, both.1)

refused : {B : Type 0} (r : List Token) (x : Option B) → option_map {U = B × List Token} (λ y. (y, r)) x ≡ None → x ≡ None
refused r None e = refl
refused r (Some y) e = absurd (cc)

pub twice : {A B : Type 0} (g : A → B) (r : List Token) (x : Option A) → option_map (λ b. (b, r)) (option_map g x) ≡ parse_map g (option_map (λ a. (a, r)) x)
twice g r None = refl
twice g r (Some a) = refl

pub converted-array : (o : Option (json.Items × List Token)) → converted of_json (parse_map json.array o) ≡ parse_map array (converted of_items o)
converted-array None = refl
converted-array (Some p) = twice array p.1 (of_items p.0)

pub converted-object : (o : Option (json.Members × List Token)) → converted of_json (parse_map json.object o) ≡ parse_map object (converted (λ ms. of_members ms no_members) o)
converted-object None = refl
converted-object (Some p) = twice object p.1 (of_members p.0 no_members)

with_item : (j : json.Json) (d : Data) → of_json j ≡ Some d → (o : Option (json.Items × List Token)) → converted of_items (parse_map (json.item j) o) ≡ parse_map (item d) (converted of_items o)
with_item j d e None = refl
with_item j d e (Some p) = rw e (twice (item d) p.1 (of_items p.0))

without_item : (j : json.Json) → of_json j ≡ None → (o : Option (json.Items × List Token)) → converted of_items (parse_map (json.item j) o) ≡ None
without_item j e None = refl
without_item j e (Some p) = rw e

with_member : (k : List ℕ) (j : json.Json) (d : Data) (old : Members) → of_json j ≡ Some d → (o : Option (json.Members × List Token))
    → converted (λ ms. of_members ms old) (parse_map (json.member k j) o) ≡ converted (λ ms. of_members ms (put k d old)) o
with_member k j d old e None = refl
with_member k j d old e (Some p) = rw e

without_member : (k : List ℕ) (j : json.Json) (old : Members) → of_json j ≡ None → (o : Option (json.Members × List Token)) → converted (λ ms. of_members ms old) (parse_map (json.member k j) o) ≡ None
without_member k j old e None = refl
without_member k j old e (Some p) = rw e

module _ (p : Parse json.Json) where
  item_read : (n : ℕ) (ts r : List Token) (d : Data) → 0 < n → after_end_array ts ≡ None → converted of_json (p ts) ≡ Some (d, r)
      → converted of_items (items p n ts) ≡ parse_map (item d) (converted of_items (items p (n - 1) r))
  item_read n ts r d some going e = let j = converted_some of_json (p ts) d r e in ap (converted of_items) (items_more p n ts r j.0 some going j.1) ∙ with_item j.0 d j.2 _

  no_item : (more : Parse json.Items) (o : Option (json.Json × List Token)) → converted of_json o ≡ None → converted of_items (option_and_then (λ q. parse_map (json.item q.0) (more q.1)) o) ≡ None
  no_item more None e = refl
  no_item more (Some q) e = without_item q.0 (refused q.1 (of_json q.0) e) (more q.1)

  item_refused : (n : ℕ) (ts : List Token) → after_end_array ts ≡ None → converted of_json (p ts) ≡ None → converted of_items (items p n ts) ≡ None
  unfolding items
  item_refused zero ts going e = refl
  item_refused (suc n) ts going e = ap (λ o. converted of_items (items_step p (items p n) ts o)) going ∙ no_item (items p n) (p ts) e

  module _ (old : Members) where
    member_read : (n : ℕ) (k : List ℕ) (ts s r : List Token) (d : Data) → 0 < n → read_key ts ≡ Some (Some k, s) → converted of_json (p s) ≡ Some (d, r)
        → converted (λ ms. of_members ms old) (members p n ts) ≡ converted (λ ms. of_members ms (put k d old)) (members p (n - 1) r)
    member_read n k ts s r d some key e =
        let j = converted_some of_json (p s) d r e in
        ap (converted (λ ms. of_members ms old)) (members_more p n k ts s r j.0 some key j.1) ∙ with_member k j.0 d old j.2 _

    no_member : (k : List ℕ) (more : Parse json.Members) (o : Option (json.Json × List Token)) → converted of_json o ≡ None
        → converted (λ ms. of_members ms old) (option_and_then (λ q. parse_map (json.member k q.0) (more q.1)) o) ≡ None
    no_member k more None e = refl
    no_member k more (Some q) e = without_member k q.0 old (refused q.1 (of_json q.0) e) (more q.1)

    member_refused : (n : ℕ) (k : List ℕ) (ts s : List Token) → read_key ts ≡ Some (Some k, s) → converted of_json (p s) ≡ None → converted (λ ms. of_members ms old) (members p n ts) ≡ None
    unfolding members
    member_refused zero k ts s key e = refl
    member_refused (suc n) k ts s key e = rw key (no_member k (members p n) (p s) e)

-- ---- a value, by its first token

module _ (depth : ℕ) where
  pub takes_null : (r : List Token) → Takes depth (Token.null ∷ r) null r
  unfolding Takes
  takes_null r = ap (converted of_json) (value_is depth (Token.null ∷ r))

  pub takes_boolean : (b : Bool) (r : List Token) → Takes depth (Token.boolean b ∷ r) (boolean b) r
  unfolding Takes
  takes_boolean b r = ap (converted of_json) (value_is depth (Token.boolean b ∷ r))

  pub takes_string : (s : List ℕ) (r : List Token) → Takes depth (Token.string s ∷ r) (string s) r
  unfolding Takes
  takes_string s r = ap (converted of_json) (value_is depth (Token.string s ∷ r))

  pub takes_number : (s : List ℕ) (n : Num) (r : List Token) → number_of s ≡ Some n → Takes depth (Token.number s ∷ r) (number n) r
  unfolding Takes
  takes_number s n r e = ap (converted of_json) (value_is depth (Token.number s ∷ r)) ∙ rw e

  pub refuses_number : (s : List ℕ) (r : List Token) → number_of s ≡ None → TakesNone depth (Token.number s ∷ r)
  unfolding TakesNone
  refuses_number s r e = ap (converted of_json) (value_is depth (Token.number s ∷ r)) ∙ rw e

  pub refuses_empty : TakesNone depth []
  unfolding TakesNone
  refuses_empty = ap (converted of_json) (value_is depth [])

  pub refuses_end_object : (r : List Token) → TakesNone depth (Token.end_object ∷ r)
  unfolding TakesNone
  refuses_end_object r = ap (converted of_json) (value_is depth (Token.end_object ∷ r))

  pub refuses_end_array : (r : List Token) → TakesNone depth (Token.end_array ∷ r)
  unfolding TakesNone
  refuses_end_array r = ap (converted of_json) (value_is depth (Token.end_array ∷ r))

  pub refuses_key : (s : List ℕ) (r : List Token) → TakesNone depth (Token.key s ∷ r)
  unfolding TakesNone
  refuses_key s r = ap (converted of_json) (value_is depth (Token.key s ∷ r))

  pub refuses_bad : (r : List Token) → TakesNone depth (Token.bad ∷ r)
  unfolding TakesNone
  refuses_bad r = ap (converted of_json) (value_is depth (Token.bad ∷ r))

  pub takes_array : (ts : List Token) (ds : Items) (r : List Token) → 0 < depth → TakesItems (depth - 1) ts ds r → Takes depth (Token.begin_array ∷ ts) (array ds) r
  unfolding Takes TakesItems
  takes_array ts ds r deep all =
      ap (converted of_json) (value-begin_array depth ts deep) ∙ converted-array (items (value (depth - 1)) (length ts) ts) ∙ ap (parse_map array) (all (length ts) (omega arith))

  pub refuses_array : (ts : List Token) → 0 < depth → TakesNoItems (depth - 1) ts → TakesNone depth (Token.begin_array ∷ ts)
  unfolding TakesNone TakesNoItems
  refuses_array ts deep none =
      ap (converted of_json) (value-begin_array depth ts deep) ∙ converted-array (items (value (depth - 1)) (length ts) ts) ∙ ap (parse_map array) (none (length ts) (omega arith))

  pub takes_object : (ts : List Token) (ms : Members) (r : List Token) → 0 < depth → TakesMembers (depth - 1) ts no_members ms r → Takes depth (Token.begin_object ∷ ts) (object ms) r
  unfolding Takes TakesMembers
  takes_object ts ms r deep all =
      ap (converted of_json) (value-begin_object depth ts deep) ∙ converted-object (members (value (depth - 1)) (length ts) ts) ∙ ap (parse_map object) (all (length ts) (omega arith))

  pub refuses_object : (ts : List Token) → 0 < depth → TakesNoMembers (depth - 1) ts no_members → TakesNone depth (Token.begin_object ∷ ts)
  unfolding TakesNone TakesNoMembers
  refuses_object ts deep none =
      ap (converted of_json) (value-begin_object depth ts deep) ∙ converted-object (members (value (depth - 1)) (length ts) ts) ∙ ap (parse_map object) (none (length ts) (omega arith))

  pub refuses_deep_array : (ts : List Token) → depth ≡ 0 → TakesNone depth (Token.begin_array ∷ ts)
  unfolding TakesNone value
  refuses_deep_array ts e = ap (λ n. converted of_json (value n (Token.begin_array ∷ ts))) e

  pub refuses_deep_object : (ts : List Token) → depth ≡ 0 → TakesNone depth (Token.begin_object ∷ ts)
  unfolding TakesNone value
  refuses_deep_object ts e = ap (λ n. converted of_json (value n (Token.begin_object ∷ ts))) e

  -- ---- the items of an array

  pub items_over : (ts r : List Token) → after_end_array ts ≡ Some r → TakesItems depth ts no_items r
  unfolding TakesItems
  items_over ts r e n enough = ap (converted of_items) (items_end (value depth) n ts r enough e)

  pub items_next : (ts s r : List Token) (d : Data) (ds : Items) → after_end_array ts ≡ None → Takes depth ts d s → length s < length ts → TakesItems depth s ds r → TakesItems depth ts (item d ds) r
  unfolding Takes TakesItems
  items_next ts s r d ds going first less rest n enough =
      item_read (value depth) n ts s d (omega arith) going first ∙ ap (parse_map (item d)) (rest (n - 1) (omega arith))

  pub items_stop : (ts : List Token) → after_end_array ts ≡ None → TakesNone depth ts → TakesNoItems depth ts
  unfolding TakesNone TakesNoItems
  items_stop ts going none n enough = item_refused (value depth) n ts going none

  pub items_later : (ts s : List Token) (d : Data) → after_end_array ts ≡ None → Takes depth ts d s → length s < length ts → TakesNoItems depth s → TakesNoItems depth ts
  unfolding Takes TakesNoItems
  items_later ts s d going first less none n enough =
      item_read (value depth) n ts s d (omega arith) going first ∙ ap (parse_map (item d)) (none (n - 1) (omega arith))

  -- ---- the members of an object

  pub members_over : (ts r : List Token) (old : Members) → read_key ts ≡ Some (None, r) → TakesMembers depth ts old old r
  unfolding TakesMembers
  members_over ts r old e n enough = ap (converted (λ ms. of_members ms old)) (members_end (value depth) n ts r enough e)

  pub members_stop : (ts : List Token) (old : Members) → read_key ts ≡ None → TakesNoMembers depth ts old
  unfolding TakesNoMembers
  members_stop ts old e n enough = ap (converted (λ ms. of_members ms old)) (members_no_key (value depth) n ts e)

  pub member_stop : (ts s : List Token) (k : List ℕ) (old : Members) → read_key ts ≡ Some (Some k, s) → TakesNone depth s → TakesNoMembers depth ts old
  unfolding TakesNone TakesNoMembers
  member_stop ts s k old key none n enough = member_refused (value depth) old n k ts s key none

  pub members_next : (ts s u r : List Token) (k : List ℕ) (d : Data) (old all : Members) → read_key ts ≡ Some (Some k, s) → Takes depth s d u → length u < length s
      → TakesMembers depth u (put k d old) all r → TakesMembers depth ts old all r
  unfolding Takes TakesMembers
  members_next ts s u r k d old all key first less rest n enough =
      let shorter = read_key-shorter ts (Some k) s key in
      member_read (value depth) old n k ts s u d (omega arith) key first ∙ rest (n - 1) (omega arith)

  pub members_later : (ts s u : List Token) (k : List ℕ) (d : Data) (old : Members) → read_key ts ≡ Some (Some k, s) → Takes depth s d u → length u < length s
      → TakesNoMembers depth u (put k d old) → TakesNoMembers depth ts old
  unfolding Takes TakesNoMembers
  members_later ts s u k d old key first less none n enough =
      let shorter = read_key-shorter ts (Some k) s key in
      member_read (value depth) old n k ts s u d (omega arith) key first ∙ none (n - 1) (omega arith)

-- ---- a whole text

abbrev whole : Option (json.Json × List Token) → Option Data
whole o = option_and_then of_json (option_and_then (λ p. if_last p.0 p.1) o)

whole_refused : (o : Option (json.Json × List Token)) → converted of_json o ≡ None → whole o ≡ None
whole_refused None e = refl
whole_refused (Some (j, [])) e = refused [] (of_json j) e
whole_refused (Some (j, t ∷ r)) e = refl

-- a text is the value that its tokens begin with, if no token follows
pub read_whole : (text : List ℕ) (d : Data) → Takes max_depth (tokens text) d [] → read text ≡ Some d
unfolding Takes
read_whole text d e = let j = converted_some of_json (value max_depth (tokens text)) d [] e in ap whole j.1 ∙ j.2

-- else it is none
pub read_more : (text : List ℕ) (d : Data) (t : Token) (r : List Token) → Takes max_depth (tokens text) d (t ∷ r) → read text ≡ None
unfolding Takes
read_more text d t r e = ap whole (converted_some of_json (value max_depth (tokens text)) d (t ∷ r) e).1

pub read_refused : (text : List ℕ) → TakesNone max_depth (tokens text) → read text ≡ None
unfolding TakesNone
read_refused text e = whole_refused (value max_depth (tokens text)) e

-- ---- a result

pub on_err_any : {T E : Type 0} {P : Type 0} (r : Result T E) → P → OnErr r P
on_err_any (Ok x) p = tt
on_err_any (Err e) p = p

pub on_err_weaker : {T E : Type 0} {P Q : Type 0} (r : Result T E) → (P → Q) → OnErr r P → OnErr r Q
on_err_weaker (Ok x) f p = tt
on_err_weaker (Err e) f p = f p

-- what the reader of a number found
pub number_read : {A : Type 0} (f : Num → A) (o : Option Num) (a : A) → Some a ≡ option_map f o → (n : Num) × (o ≡ Some n) × (a ≡ f n)
number_read f None a e = absurd (cc)
number_read f (Some n) a e = (n, refl, ap (pick a) e)

pub number_missed : {A : Type 0} (f : Num → A) (o : Option Num) → None ≡ option_map f o → o ≡ None
number_missed f None e = refl
number_missed f (Some n) e = absurd (cc)
