-- What is read of items and members, one after another.
use Rattle.std.proofs.Common.{◌≡◌, ℕ, ◌-◌, ◌<◌, true, List, ◌∷◌, length, Result, Ok, Err, refl, ap, arith}
use Rattle.json.specs.Token.{Token, begin_array, begin_object}
use Rattle.serde_json.specs.Data.{Data, null, boolean, number, string, array, object, Items, Members, no_members}
use Rattle.dsa_tokens.specs.Said.{Fills}
use Rattle.dsa_tokens.specs.Spelled.{AreInOrder}
use Rattle.dsa_tokens.specs.Taken.{Answers, AnswersItems, IsRefused, AreRefused, TakesNone, TakesNoItems, TakesNoMembers}
use Rattle.dsa_tokens.specs.declared.unread.Unread.{Unread}
use Rattle.dsa_tokens.specs.declared.unread.Unread.TheVariants.{Json, Memory}
use Rattle.dsa_tokens.proofs.Grammar.{takes_array, refuses_array, refuses_object}

-- ---- causes

-- a text that is no JSON has no value
pub json_none : (depth : ℕ) (old : List Token) (cause : Unread) → IsRefused depth old cause → cause ≡ Json → TakesNone depth old
json_none depth old Json none e = none
json_none depth old Memory none e = absurd (cc)

-- a value that there is none of for this cause
pub refused : (depth : ℕ) (old : List Token) (cause : Unread) → TakesNone depth old → IsRefused depth old cause
refused depth old Json none = none
refused depth old Memory none = tt

-- the cause of an item is that of its array
pub items_refused : (depth : ℕ) (old start : List Token) (cause : Unread) → IsRefused depth old cause → (TakesNone depth old → TakesNoItems depth start) → AreRefused depth start cause
items_refused depth old start Json none so = so none
items_refused depth old start Memory none so = tt

-- items that there are none of
pub items_none : (depth : ℕ) (start : List Token) (cause : Unread) → TakesNoItems depth start → AreRefused depth start cause
items_none depth start Json none = none
items_none depth start Memory none = tt

-- ---- arrays and objects

-- an object is refused if its members are
pub object_refused : (depth : ℕ) (old mid : List Token) (cause : Unread) → old ≡ begin_object ∷ mid → 0 < depth → (cause ≡ Json → TakesNoMembers (depth - 1) mid no_members) → IsRefused depth old cause
object_refused depth old mid Json is deep none = rw is (refuses_object depth mid deep (none refl))
object_refused depth old mid Memory is deep none = tt

-- a reader that says one thing of what it takes says what follows from that
pub answers_as : {A : Type 0} (S T : Data → A → Type 0) (depth : ℕ) (old new : List Token) (r : Result A Unread) → ((d : Data) (a : A) → S d a → T d a) → Answers S depth old new r → Answers T depth old new r
answers_as S T depth old new (Ok a) f answer = (answer.0, answer.1, f answer.0 a answer.2, answer.3)
answers_as S T depth old new (Err cause) f refusal = refusal

-- an array is refused if its items are
pub array_refused : (depth : ℕ) (mid : List Token) (cause : Unread) → 0 < depth → AreRefused (depth - 1) mid cause → IsRefused depth (begin_array ∷ mid) cause
array_refused depth mid Json deep none = refuses_array depth mid deep none
array_refused depth mid Memory deep none = tt

-- what is said of items is said of their array
pub array_answers : {A : Type 0} (S : Items → A → Type 0) (T : Data → A → Type 0) (depth : ℕ) (old mid new : List Token) (r : Result A Unread) → old ≡ begin_array ∷ mid → 0 < depth → ((ds : Items) (a : A) → S ds a → T (array ds) a)
    → AnswersItems S (depth - 1) mid new r → Answers T depth old new r
array_answers S T depth old mid new (Ok a) is deep f items =
    (array items.0, rw is (takes_array depth mid items.0 new deep items.1), f items.0 a items.2, omega (arith, ap length is, items.3))
array_answers S T depth old mid new (Err Json) is deep f none = rw is (refuses_array depth mid deep none)
array_answers S T depth old mid new (Err Memory) is deep f none = tt

-- the value is the object that was filled
pub filled : (Old New : Members → Type 0) (d : Data) → Fills Old New d true → (ms : Members) × (d ≡ object ms) × AreInOrder ms × (Old no_members → New ms)
filled Old New (object ms) (is, order, fills) = (ms, refl, order, fills)
filled Old New null e = absurd (cc)
filled Old New (boolean b) e = absurd (cc)
filled Old New (number n) e = absurd (cc)
filled Old New (string s) e = absurd (cc)
filled Old New (array ds) e = absurd (cc)
