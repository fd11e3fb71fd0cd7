-- Items one after another, and arrays whose items spell values.
use Rattle.std.proofs.Common.{◌≡◌, ◌≢◌, ℕ, ◌<◌, ◌≤◌, List, [], ◌∷◌, ◌++◌, length, map, Option, Some, None, inl, inr, refl, sym, ap, ◌∙◌, suc, option_map, option_and_then, arith}
use Rattle.std.specs.List.{AllByRecursion}
use Rattle.json.specs.Token.{Token}
use Rattle.json.specs.Json as json
use Rattle.json.specs.Json.{after_end_array, items, items_step, parse_map, value}
use Rattle.serde_json.specs.Data.{Data, null, boolean, number, string, array, object, Items, no_items, item}
use Rattle.serde_json.specs.Read.{converted, of_items, of_json}
use Rattle.serde_json.specs.View.{items_of}
use Rattle.dsa_tokens.specs.Said.{EachIsRead, SomeIsOther, IsArray}
use Rattle.dsa_tokens.specs.Spelled.{array_of, whole, Reads, ReadsFit}
use Rattle.dsa_tokens.specs.Taken.{AreRefused, Takes, TakesItems, TakesNoItems}
use Rattle.dsa_tokens.specs.declared.unread.Unread.{Unread}
use Rattle.dsa_tokens.specs.declared.unread.Unread.TheVariants.{Json, Memory}
use Rattle.dsa_tokens.proofs.Grammar.{found, items_over, items_next, items_later}

-- items with a first one are some
first_item : (j : json.Json) (js : json.Items) → of_items (json.item j js) ≢ Some no_items
first_item j js e = go (of_json j) (of_items js) e
  where
    go : (d : Option Data) (ds : Option Items) → option_and_then (λ d. option_map (item d) ds) d ≢ Some no_items
    go None ds e = absurd (cc)
    go (Some d) None e = absurd (cc)
    go (Some d) (Some ds) e = absurd (cc)

no_first : (p : json.Parse json.Json) (more : json.Parse json.Items) (o : Option (json.Json × List Token)) (old new : List Token)
    → converted of_items (option_and_then (λ q. parse_map (json.item q.0) (more q.1)) o) ≢ Some (no_items, new)
no_first p more None old new e = absurd (cc)
no_first p more (Some q) old new e = go (more q.1) e
  where
    go : (o : Option (json.Items × List Token)) → converted of_items (parse_map (json.item q.0) o) ≢ Some (no_items, new)
    go None e = absurd (cc)
    go (Some r) e = first_item q.0 r.0 (found r r.1 new (of_items (json.item q.0 r.0)) no_items e).1

-- ---- items that were taken one by one

-- these items, and then those
abbrev pub after : List Data → Items → Items
after [] ds = ds
after (d ∷ done) ds = item d (after done ds)

-- from the first tokens to the second these items were taken
pub record Trail (depth : ℕ) (start now : List Token) (done : List Data) : Type 0 where
  pub goes_on : (ds : Items) (r : List Token) → TakesItems depth now ds r → TakesItems depth start (after done ds) r
  pub stops : TakesNoItems depth now → TakesNoItems depth start
  pub shorter : length now ≤ length start

pub begun : (depth : ℕ) (start : List Token) → Trail depth start start []
begun depth start = record { goes_on = λ ds r taken. taken; stops = λ none. none; shorter = omega arith }

after_push : (done : List Data) (d : Data) (ds : Items) → after done (item d ds) ≡ after (done ++ d ∷ []) ds
after_push [] d ds = refl
after_push (e ∷ done) d ds = ap (item e) (after_push done d ds)

module _ (depth : ℕ) (start now next : List Token) (done : List Data) where
  pub taken_next : (d : Data) → Trail depth start now done → after_end_array now ≡ None → Takes depth now d next → length next < length now → Trail depth start next (done ++ d ∷ [])
  taken_next d trail going taken less = record {
    goes_on = λ ds r rest. rw (← after_push done d ds) (trail.goes_on (item d ds) r (items_next depth now next r d ds going taken less rest));
    stops = λ none. trail.stops (items_later depth now next d going taken less none);
    shorter = omega (arith, trail.shorter, less);
  }

  -- the array ends
  pub taken_all : Trail depth start now done → after_end_array now ≡ Some next → TakesItems depth start (after done no_items) next
  taken_all trail over = trail.goes_on no_items next (items_over depth now next over)

-- why the items that are left are refused is why all are
pub stopped : (depth : ℕ) (start now : List Token) (done : List Data) (cause : Unread) → Trail depth start now done → AreRefused depth now cause → AreRefused depth start cause
stopped depth start now done Json trail none = trail.stops none
stopped depth start now done Memory trail none = tt

-- where the array does not end, there is an item
pub some_left : (depth : ℕ) (old new : List Token) (ds : Items) → after_end_array old ≡ None → TakesItems depth old ds new → ds ≢ no_items
unfolding TakesItems items
some_left depth old new ds going taken none =
    let read = taken (suc (length old)) (omega arith) in
    no_first (value depth) (items (value depth) (length old)) (value depth old) old new
    (sym (ap (λ o. converted of_items (items_step (value depth) (items (value depth) (length old)) old o)) going) ∙ read ∙ ap (λ (x : Items). Some (x, new)) none)

-- a value that is read as a number is that number
pub number_of_value : (d : Data) (found : Option ℕ) (n : ℕ) → Reads {X = ℕ} whole (λ m. m) d found → d ≡ whole n → found ≡ Some n
number_of_value d None n other is = absurd (other n is)
number_of_value d (Some m) n is same = let equal : whole m ≡ whole n = sym is ∙ same in let one : m ≡ n = cc in ap Some one

-- and one that is read as a text is that text
pub text_of_value : {X : Type 0} (shown : X → List ℕ) (d : Data) (found : Option X) (text : List ℕ) → Reads string shown d found → d ≡ string text → option_map shown found ≡ Some text
text_of_value shown d None text other is = absurd (other text is)
text_of_value shown d (Some x) text is same = let equal : string (shown x) ≡ string text = sym is ∙ same in let one : shown x ≡ text = cc in ap Some one

-- ---- arrays

module _ {A Y : Type 0} (spelling : Y → Data) (Fits : Y → Type 0) (shown : A → Y) where
  -- items of which values were read spell these
  each_fits : (ds : Items) (xs : List A) → EachIsRead (ReadsFit spelling Fits shown) ds xs → (ds ≡ items_of (map (λ x. spelling (shown x)) xs)) × AllByRecursion (λ x. Fits (shown x)) xs
  each_fits no_items [] read = (refl, tt)
  each_fits no_items (x ∷ xs) read = absurd read
  each_fits (item d ds) [] read = absurd read
  each_fits (item d ds) (x ∷ xs) read =
      let rest = each_fits ds xs read.1 in
      let first = read.0 in
      let same : d ≡ spelling (shown x) = first.0 in
      let more : ds ≡ items_of (map (λ x. spelling (shown x)) xs) = rest.0 in (cc, (first.1, rest.1))

  -- items of which one spells none spell no list
  none_fit : (ds : Items) → SomeIsOther (ReadsFit spelling Fits shown) ds → (ys : List Y) → AllByRecursion Fits ys → ds ≢ items_of (map spelling ys)
  none_fit no_items other ys fit e = absurd other
  none_fit (item d ds) other [] fit e = absurd (cc)
  none_fit (item d ds) (inl other) (y ∷ ys) fit e = other y fit.0 (cc)
  none_fit (item d ds) (inr other) (y ∷ ys) fit e = none_fit ds other ys fit.1 (cc)

  -- what an array spells is what its items spell
  pub array_fits : (d : Data) (xs : List A) → IsArray (ReadsFit spelling Fits shown) d (Some xs) → (d ≡ array_of (map (λ x. spelling (shown x)) xs)) × AllByRecursion (λ x. Fits (shown x)) xs
  array_fits (array ds) xs read = let each = each_fits ds xs read in (ap array each.0, each.1)
  array_fits null xs read = absurd (cc)
  array_fits (boolean b) xs read = absurd (cc)
  array_fits (number n) xs read = absurd (cc)
  array_fits (string s) xs read = absurd (cc)
  array_fits (object ms) xs read = absurd (cc)

  pub no_array_fits : (d : Data) → IsArray (ReadsFit spelling Fits shown) d None → (ys : List Y) → AllByRecursion Fits ys → d ≢ array_of (map spelling ys)
  no_array_fits (array ds) other ys fit e = none_fit ds other ys fit (cc)
  no_array_fits null other ys fit e = absurd (cc)
  no_array_fits (boolean b) other ys fit e = absurd (cc)
  no_array_fits (number n) other ys fit e = absurd (cc)
  no_array_fits (string s) other ys fit e = absurd (cc)
  no_array_fits (object ms) other ys fit e = absurd (cc)

-- the same of values that fit everywhere

always : {Y : Type 0} (ys : List Y) → AllByRecursion (λ y. Unit {0}) ys
always [] = tt
always (y ∷ ys) = (tt, always ys)

module _ {A Y : Type 0} (spelling : Y → Data) (shown : A → Y) where
  fitting : (d : Data) (found : Option A) → Reads spelling shown d found → ReadsFit spelling (λ y. Unit {0}) shown d found
  fitting d None other = λ y fits e. other y e
  fitting d (Some x) is = (is, tt)

  each_fitting : (ds : Items) (xs : List A) → EachIsRead (Reads spelling shown) ds xs → EachIsRead (ReadsFit spelling (λ y. Unit {0}) shown) ds xs
  each_fitting no_items [] read = tt
  each_fitting no_items (x ∷ xs) read = absurd read
  each_fitting (item d ds) [] read = absurd read
  each_fitting (item d ds) (x ∷ xs) read = (fitting d (Some x) read.0, each_fitting ds xs read.1)

  some_fitting : (ds : Items) → SomeIsOther (Reads spelling shown) ds → SomeIsOther (ReadsFit spelling (λ y. Unit {0}) shown) ds
  some_fitting no_items other = absurd other
  some_fitting (item d ds) (inl other) = inl (fitting d None other)
  some_fitting (item d ds) (inr other) = inr (some_fitting ds other)

  all_fitting : (d : Data) (found : Option (List A)) → IsArray (Reads spelling shown) d found → IsArray (ReadsFit spelling (λ y. Unit {0}) shown) d found
  all_fitting (array ds) (Some xs) read = each_fitting ds xs read
  all_fitting (array ds) None other = some_fitting ds other
  all_fitting null found e = e
  all_fitting (boolean b) found e = e
  all_fitting (number n) found e = e
  all_fitting (string s) found e = e
  all_fitting (object ms) found e = e

  pub array_spelled : (d : Data) (xs : List A) → IsArray (Reads spelling shown) d (Some xs) → d ≡ array_of (map (λ x. spelling (shown x)) xs)
  array_spelled d xs read = (array_fits spelling (λ y. Unit {0}) shown d xs (all_fitting d (Some xs) read)).0

  pub no_array_spelled : (d : Data) → IsArray (Reads spelling shown) d None → (ys : List Y) → d ≢ array_of (map spelling ys)
  no_array_spelled d other ys = no_array_fits spelling (λ y. Unit {0}) shown d (all_fitting d None other) ys (always ys)
