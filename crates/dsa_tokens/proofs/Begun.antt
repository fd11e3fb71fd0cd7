-- Which kind of value begins with a token.
use Rattle.std.proofs.Common.{◌≡◌, ◌≢◌, ◌⊎◌, inl, inr, ℕ, zero, suc, ◌-◌, ◌<◌, length, List, ◌∷◌, Option, Some, None, option_map, Result, Ok, Err, OnOk, OnErr, ◌≤◌, refl, sym, ap, ◌∙◌, arith}
use Rattle.json.specs.Token.{Token}
use Rattle.json.specs.Json.{parse_map, items, members, value}
use Rattle.json.specs.Reads.{token_of}
use Rattle.json.specs.declared.token.Token.{Token as Read}
use Rattle.json.specs.declared.token.Token.TheVariants as read
use Rattle.json.proofs.Grammar.{value_is, value-begin_array, value-begin_object}
use Rattle.serde_json.specs.Data.{Num, unsigned, Data, null, boolean, number, string, array, object, no_members}
use Rattle.serde_json.specs.Find.{as_array, as_object, as_u64}
use Rattle.serde_json.specs.Read.{number_of, of_json, of_items, of_members, converted}
use Rattle.dsa_tokens.specs.Spelled.{Reads, whole}
use Rattle.dsa_tokens.specs.Taken.{Takes, TakesNone, PassesRest, kind_of, kind_begun}
use Rattle.dsa_tokens.specs.declared.unread.Unread.{Unread}
use Rattle.dsa_tokens.specs.declared.unread.Unread.TheVariants.{Json, Memory}
use Rattle.dsa_tokens.proofs.Grammar.{converted-array, converted-object, twice, refuses_deep_array, refuses_deep_object}

abbrev pick : {A : Type 0} → A → Option A → A
pick a None = a
pick a (Some b) = b

mapped : {A : Type 0} (f : A → Data) (n : ℕ) (o : Option (A × List Token)) (d : Data) (u : List Token) → ((a : A) → kind_of (f a) ≡ n) → parse_map f o ≡ Some (d, u) → kind_of d ≡ n
mapped f n None d u same e = absurd (cc)
mapped f n (Some p) d u same e = sym (ap (λ o. kind_of (pick {A = Data × List Token} (d, u) o).0) e) ∙ same p.0

deep : (n : ℕ) → (n ≡ 0) ⊎ (0 < n)
deep zero = inl refl
deep (suc n) = inr (omega arith)

module _ (depth : ℕ) (s u : List Token) (d : Data) where
  array_kind : (depth ≡ 0) ⊎ (0 < depth) → Takes depth (Token.begin_array ∷ s) d u → kind_of d ≡ 4
  unfolding Takes TakesNone
  array_kind (inl flat) e = let never = sym (refuses_deep_array depth s flat) ∙ e in absurd (cc)
  array_kind (inr nested) e =
      let inside = items (value (depth - 1)) (length s) s in
      mapped array 4 (converted of_items inside) d u (λ ds. refl) (sym (converted-array inside) ∙ sym (ap (converted of_json) (value-begin_array depth s nested)) ∙ e)

  object_kind : (depth ≡ 0) ⊎ (0 < depth) → Takes depth (Token.begin_object ∷ s) d u → kind_of d ≡ 5
  unfolding Takes TakesNone
  object_kind (inl flat) e = let never = sym (refuses_deep_object depth s flat) ∙ e in absurd (cc)
  object_kind (inr nested) e =
      let inside = members (value (depth - 1)) (length s) s in
      mapped object 5 (converted (λ ms. of_members ms no_members) inside) d u (λ ms. refl) (sym (converted-object inside) ∙ sym (ap (converted of_json) (value-begin_object depth s nested)) ∙ e)

  number_kind : (t : List ℕ) → Takes depth (Token.number t ∷ s) d u → kind_of d ≡ 2
  unfolding Takes
  number_kind t e =
      mapped number 2 (option_map (λ n. (n, s)) (number_of t)) d u (λ n. refl) (sym (twice number s (number_of t)) ∙ sym (ap (converted of_json) (value_is depth (Token.number t ∷ s))) ∙ e)

  one_kind : (first : Token) (is : Data) → converted of_json (value depth (first ∷ s)) ≡ Some (is, s) → Takes depth (first ∷ s) d u → kind_of d ≡ kind_of is
  unfolding Takes
  one_kind first is same e = let equal : Some (is, s) ≡ Some (d, u) = sym same ∙ e in sym (ap (λ o. kind_of (pick {A = Data × List Token} (d, u) o).0) equal)

  none_taken : (first : Token) → converted of_json (value depth (first ∷ s)) ≡ None → Takes depth (first ∷ s) d u → kind_of d ≡ 6
  unfolding Takes
  none_taken first none e = let never = sym none ∙ e in absurd (cc)

  -- the kind of a value is the one that its first token begins
  pub kind_taken : (first : Token) → Takes depth (first ∷ s) d u → kind_of d ≡ kind_begun first
  kind_taken Token.null e = one_kind Token.null null (ap (converted of_json) (value_is depth (Token.null ∷ s))) e
  kind_taken (Token.boolean b) e = one_kind (Token.boolean b) (boolean b) (ap (converted of_json) (value_is depth (Token.boolean b ∷ s))) e
  kind_taken (Token.string t) e = one_kind (Token.string t) (string t) (ap (converted of_json) (value_is depth (Token.string t ∷ s))) e
  kind_taken (Token.number t) e = number_kind t e
  kind_taken Token.begin_array e = array_kind (deep depth) e
  kind_taken Token.begin_object e = object_kind (deep depth) e
  kind_taken Token.end_array e = none_taken Token.end_array (ap (converted of_json) (value_is depth (Token.end_array ∷ s))) e
  kind_taken Token.end_object e = none_taken Token.end_object (ap (converted of_json) (value_is depth (Token.end_object ∷ s))) e
  kind_taken (Token.key t) e = none_taken (Token.key t) (ap (converted of_json) (value_is depth (Token.key t ∷ s))) e
  kind_taken Token.bad e = none_taken Token.bad (ap (converted of_json) (value_is depth (Token.bad ∷ s))) e

-- what is known of a value whose rest was passed over
pub passed : (depth : ℕ) (first : Token) (old new : List Token) (r : Result (Unit {0}) Unread) → OnOk r ((d : Data) × Takes depth (first ∷ old) d new) → OnErr r (TakesNone depth (first ∷ old))
    → OnOk r (length new ≤ length old) → PassesRest depth first old new r
passed depth first old new (Ok done) value none less = (value.0, value.1, kind_taken depth old new value.0 first value.1, less)
passed depth first old new (Err Json) value none less = none
passed depth first old new (Err Memory) value none less = tt

-- ---- tokens of a kind

-- a boolean
pub is_bool : (t : Read) → kind_begun (token_of t) ≡ 1 → (b : _) × (t ≡ read.Bool b)
is_bool read.BeginObject e = absurd (cc)
is_bool read.EndObject e = absurd (cc)
is_bool read.BeginArray e = absurd (cc)
is_bool read.EndArray e = absurd (cc)
is_bool (read.Key x) e = absurd (cc)
is_bool (read.String x) e = absurd (cc)
is_bool (read.Number x) e = absurd (cc)
is_bool (read.Bool x) e = (x, refl)
is_bool read.Null e = absurd (cc)
is_bool read.Bad e = absurd (cc)

-- a number
pub is_number : (t : Read) → kind_begun (token_of t) ≡ 2 → (s : _) × (t ≡ read.Number s)
is_number read.BeginObject e = absurd (cc)
is_number read.EndObject e = absurd (cc)
is_number read.BeginArray e = absurd (cc)
is_number read.EndArray e = absurd (cc)
is_number (read.Key x) e = absurd (cc)
is_number (read.String x) e = absurd (cc)
is_number (read.Number x) e = (x, refl)
is_number (read.Bool x) e = absurd (cc)
is_number read.Null e = absurd (cc)
is_number read.Bad e = absurd (cc)

-- a string
pub is_string : (t : Read) → kind_begun (token_of t) ≡ 3 → (s : _) × (t ≡ read.String s)
is_string read.BeginObject e = absurd (cc)
is_string read.EndObject e = absurd (cc)
is_string read.BeginArray e = absurd (cc)
is_string read.EndArray e = absurd (cc)
is_string (read.Key x) e = absurd (cc)
is_string (read.String x) e = (x, refl)
is_string (read.Number x) e = absurd (cc)
is_string (read.Bool x) e = absurd (cc)
is_string read.Null e = absurd (cc)
is_string read.Bad e = absurd (cc)

-- an array
pub is_array : (t : Read) → kind_begun (token_of t) ≡ 4 → t ≡ read.BeginArray
is_array read.BeginObject e = absurd (cc)
is_array read.EndObject e = absurd (cc)
is_array read.BeginArray e = refl
is_array read.EndArray e = absurd (cc)
is_array (read.Key x) e = absurd (cc)
is_array (read.String x) e = absurd (cc)
is_array (read.Number x) e = absurd (cc)
is_array (read.Bool x) e = absurd (cc)
is_array read.Null e = absurd (cc)
is_array read.Bad e = absurd (cc)

-- an object
pub is_object : (t : Read) → kind_begun (token_of t) ≡ 5 → t ≡ read.BeginObject
is_object read.BeginObject e = refl
is_object read.EndObject e = absurd (cc)
is_object read.BeginArray e = absurd (cc)
is_object read.EndArray e = absurd (cc)
is_object (read.Key x) e = absurd (cc)
is_object (read.String x) e = absurd (cc)
is_object (read.Number x) e = absurd (cc)
is_object (read.Bool x) e = absurd (cc)
is_object read.Null e = absurd (cc)
is_object read.Bad e = absurd (cc)

-- ---- values of a kind

pub no_array : (d : Data) → (kind_of d ≡ 4 → ⊥) → as_array d ≡ None
no_array null other = refl
no_array (boolean b) other = refl
no_array (number n) other = refl
no_array (string s) other = refl
no_array (array ds) other = absurd (other refl)
no_array (object ms) other = refl

pub no_object : (d : Data) → (kind_of d ≡ 5 → ⊥) → as_object d ≡ None
no_object null other = refl
no_object (boolean b) other = refl
no_object (number n) other = refl
no_object (string s) other = refl
no_object (array ds) other = refl
no_object (object ms) other = absurd (other refl)

-- a value of another kind spells nothing of this one
pub no_text : (d : Data) → (kind_of d ≡ 3 → ⊥) → (text : List ℕ) → d ≢ string text
no_text d other text e = other (ap kind_of e)

pub no_truth : (d : Data) → (kind_of d ≡ 1 → ⊥) → (b : _) → d ≢ boolean b
no_truth d other b e = other (ap kind_of e)

pub no_whole : (d : Data) → (kind_of d ≡ 2 → ⊥) → (n : ℕ) → d ≢ whole n
no_whole d other n e = other (ap kind_of e)

-- a number is read as a whole one or as none
pub whole_read : (n : Num) (found : Option ℕ) → found ≡ as_u64 n → Reads {X = ℕ} whole (λ m. m) (number n) found
whole_read n None e = λ m is. let missed : None ≡ as_u64 (unsigned m) = e ∙ ap as_u64 (let same : n ≡ unsigned m = cc in same) in absurd (cc)
whole_read (unsigned m) (Some k) e = let same : m ≡ k = cc in ap whole same
whole_read (Num.negative z) (Some k) e = absurd (cc)
whole_read (Num.float x) (Some k) e = absurd (cc)
