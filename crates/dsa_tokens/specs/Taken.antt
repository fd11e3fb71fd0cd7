-- What readers of the tokens of a text answer, for private clauses. What a value is, `serde_json` says (Read).
use Rattle.std.specs.Prelude.{◌≡◌, ◌≢◌, ℕ, ◌<◌, ◌≤◌, ⊤, Bool, true, false, List, ◌∷◌, length, Option, Some, None, Result, Ok, Err}
use Rattle.json.specs.Token.{Token, begin_array, begin_object}
use Rattle.json.specs.Token as token
use Rattle.json.specs.Json.{after_end_array, value, items, members}
use Rattle.serde_json.specs.Data.{Data, null, boolean, number, string, array, object, Items, no_items, Members}
use Rattle.serde_json.specs.Find.{as_array, as_object}
use Rattle.serde_json.specs.Read.{of_json, of_items, of_members, converted}
use Rattle.dsa_tokens.specs.declared.unread.Unread.{Unread}
use Rattle.dsa_tokens.specs.declared.unread.Unread.TheVariants.{Json, Memory}

-- the tokens `old` begin with this value, whose arrays and objects nest no deeper than `depth`, and `new` follow it
unfoldable pub Takes : ℕ → List Token → Data → List Token → Type 0
Takes depth old d new = converted of_json (value depth old) ≡ Some (d, new)

-- they begin with no value
unfoldable pub TakesNone : ℕ → List Token → Type 0
TakesNone depth old = converted of_json (value depth old) ≡ None

-- they begin with these items, and the bracket that closes their array
unfoldable pub TakesItems : ℕ → List Token → Items → List Token → Type 0
TakesItems depth old ds new = (n : ℕ) → length old ≤ n → converted of_items (items (value depth) n old) ≡ Some (ds, new)

-- they begin with no items
unfoldable pub TakesNoItems : ℕ → List Token → Type 0
TakesNoItems depth old = (n : ℕ) → length old ≤ n → converted of_items (items (value depth) n old) ≡ None

-- they begin with members, which make `all` of the members found so far, and the brace that closes their object
unfoldable pub TakesMembers : ℕ → List Token → Members → Members → List Token → Type 0
TakesMembers depth old found all new =
    (n : ℕ) → length old ≤ n → converted (λ ms. of_members ms found) (members (value depth) n old) ≡ Some (all, new)

-- they begin with no members
unfoldable pub TakesNoMembers : ℕ → List Token → Members → Type 0
TakesNoMembers depth old found =
    (n : ℕ) → length old ≤ n → converted (λ ms. of_members ms found) (members (value depth) n old) ≡ None

-- why there is no value: the tokens begin with none, or memory ran out
abbrev pub IsRefused : ℕ → List Token → Unread → Type 0
IsRefused depth old Json = TakesNone depth old
IsRefused depth old Memory = ⊤

-- the same of items
abbrev pub AreRefused : ℕ → List Token → Unread → Type 0
AreRefused depth old Json = TakesNoItems depth old
AreRefused depth old Memory = ⊤

-- a reader answers what it says of the value that was taken, or why there is none
abbrev pub Answers : {A : Type 0} → (Data → A → Type 0) → ℕ → List Token → List Token → Result A Unread → Type 0
Answers Says depth old new (Ok a) = (d : Data) × Takes depth old d new × Says d a × (length new < length old)
Answers Says depth old new (Err cause) = IsRefused depth old cause

-- the same of items up to their bracket
abbrev pub AnswersItems : {A : Type 0} → (Items → A → Type 0) → ℕ → List Token → List Token → Result A Unread → Type 0
AnswersItems Says depth old new (Ok a) = (ds : Items) × TakesItems depth old ds new × Says ds a × (length new < length old)
AnswersItems Says depth old new (Err cause) = AreRefused depth old cause

-- an array was begun, or another value was taken, or there is none
abbrev pub BeginsArray : ℕ → List Token → List Token → Result Bool Unread → Type 0
BeginsArray depth old new (Ok true) = (old ≡ begin_array ∷ new) × (0 < depth)
BeginsArray depth old new (Ok false) = (d : Data) × Takes depth old d new × (as_array d ≡ None) × (length new < length old)
BeginsArray depth old new (Err cause) = IsRefused depth old cause

-- the same of an object
abbrev pub BeginsObject : ℕ → List Token → List Token → Result Bool Unread → Type 0
BeginsObject depth old new (Ok true) = (old ≡ begin_object ∷ new) × (0 < depth)
BeginsObject depth old new (Ok false) = (d : Data) × Takes depth old d new × (as_object d ≡ None) × (length new < length old)
BeginsObject depth old new (Err cause) = IsRefused depth old cause

-- a number for each kind of value
abbrev pub kind_of : Data → ℕ
kind_of null = 0
kind_of (boolean b) = 1
kind_of (number n) = 2
kind_of (string s) = 3
kind_of (array ds) = 4
kind_of (object ms) = 5

-- the kind of value that begins with the token, or 6
abbrev pub kind_begun : Token → ℕ
kind_begun token.null = 0
kind_begun (token.boolean b) = 1
kind_begun (token.number s) = 2
kind_begun (token.string s) = 3
kind_begun token.begin_array = 4
kind_begun token.begin_object = 5
kind_begun token.end_array = 6
kind_begun token.end_object = 6
kind_begun (token.key s) = 6
kind_begun token.bad = 6

-- the rest of a value that begins with this token was passed over, or there is none
abbrev pub PassesRest : ℕ → Token → List Token → List Token → Result (Unit {0}) Unread → Type 0
PassesRest depth first old new (Ok done) =
    (d : Data) × Takes depth (first ∷ old) d new × (kind_of d ≡ kind_begun first) × (length new ≤ length old)
PassesRest depth first old new (Err cause) = IsRefused depth (first ∷ old) cause

-- the array ends, or there is a next item, of which a reader says this, or none
abbrev pub NextItem : {A : Type 0} → (Data → Option A → Type 0) → ℕ → List Token → List Token → Result (Option (Option A)) Unread → Type 0
NextItem says depth old new (Ok None) = after_end_array old ≡ Some new
NextItem says depth old new (Ok (Some found)) =
    (d : Data) × (after_end_array old ≡ None) × Takes depth old d new × says d found × (length new < length old)
NextItem says depth old new (Err cause) = AreRefused depth old cause

-- the array ends, or has further items, or there are none
abbrev pub EndsItems : ℕ → List Token → List Token → Result Bool Unread → Type 0
EndsItems depth old new (Ok true) = after_end_array old ≡ Some new
EndsItems depth old new (Ok false) = (ds : Items) × TakesItems depth old ds new × (ds ≢ no_items) × (length new < length old)
EndsItems depth old new (Err cause) = AreRefused depth old cause
