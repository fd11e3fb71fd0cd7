-- What is said of values: of arrays by what is said of their items, and of what an object has at a name.
use Rattle.std.specs.Prelude.{◌≡◌, ◌⊎◌, ℕ, ◌-◌, ⊤, Bool, true, false, List, [], ◌∷◌, ◌++◌, length, take, Option, Some, None, MatchOption, option_map}
use Rattle.serde_json.specs.Data.{Data, Items, no_items, item, Members, no_members}
use Rattle.serde_json.specs.Find.{as_array, as_object}
use Rattle.dsa_tokens.specs.Spelled.{AreInOrder}
use Rattle.dsa_tokens.specs.declared.slots.Slot.{Slot}
use Rattle.dsa_tokens.specs.declared.slots.Slot.TheVariants.{Missing, Other, Held}

-- of each item one of these was read, in order
abbrev pub EachIsRead : {A : Type 0} → (Data → Option A → Type 0) → Items → List A → Type 0
EachIsRead says no_items [] = ⊤
EachIsRead says no_items (x ∷ xs) = ⊥
EachIsRead says (item d ds) [] = ⊥
EachIsRead says (item d ds) (x ∷ xs) = says d (Some x) × EachIsRead says ds xs

-- some item is of another kind
abbrev pub SomeIsOther : {A : Type 0} → (Data → Option A → Type 0) → Items → Type 0
SomeIsOther says no_items = ⊥
SomeIsOther says (item d ds) = says d None ⊎ SomeIsOther says ds

-- what was read of items, or that one of them is of another kind
abbrev pub AreItems : {A : Type 0} → (Data → Option A → Type 0) → Items → Option (List A) → Type 0
AreItems says ds (Some xs) = EachIsRead says ds xs
AreItems says ds None = SomeIsOther says ds

-- what was read of an array, or that it is none, or has an item of another kind
abbrev pub IsArray : {A : Type 0} → (Data → Option A → Type 0) → Data → Option (List A) → Type 0
IsArray says d found = MatchOption (as_array d) (found ≡ None) (λ ds. AreItems says ds found)

-- ---- at most so many of them

-- the first so many, if there is a bound
abbrev pub up_to : {A : Type 0} → Option ℕ → List A → List A
up_to None xs = xs
up_to (Some most) xs = take most xs

-- how many more there is room for beside so many
abbrev pub room : Option ℕ → ℕ → Option ℕ
room None count = None
room (Some most) count = Some (most - count)

-- what was read of the items was added, as far as there was room for it, or one of them is of another kind
abbrev pub AddsItems : {A : Type 0} → (Data → Option A → Type 0) → Option ℕ → List A → List A → Items → Bool → Type 0
AddsItems {A} says most old new ds true = (xs : List A) × EachIsRead says ds xs × (new ≡ old ++ up_to (room most (length old)) xs)
AddsItems says most old new ds false = SomeIsOther says ds

-- the same of the items of an array, or the value is none
abbrev pub AddsArray : {A : Type 0} → (Data → Option A → Type 0) → Option ℕ → List A → List A → Data → Bool → Type 0
AddsArray says most old new d each = MatchOption (as_array d) (each ≡ false) (λ ds. AddsItems says most old new ds each)

-- what is kept of what was read of an array, or that it is none, or has an item of another kind
abbrev pub IsArrayUpTo : {A : Type 0} → Option ℕ → (Data → Option A → Type 0) → Data → Option (List A) → Type 0
IsArrayUpTo {A} most says d kept = (found : Option (List A)) × IsArray says d found × (kept ≡ option_map (up_to most) found)

-- ---- objects

-- what an object has at a name: nothing, a value of another kind, or one of which this was read
abbrev pub Holds : {A : Type 0} → (Data → Option A → Type 0) → Option Data → Slot A → Type 0
Holds says found Missing = found ≡ None
Holds says found Other = (d : Data) × (found ≡ Some d) × says d None
Holds says found (Held x) = (d : Data) × (found ≡ Some d) × says d (Some x)

-- The value is an object, and what held of no members before holds now of its own; or it is none.
abbrev pub Fills : (Members → Type 0) → (Members → Type 0) → Data → Bool → Type 0
Fills Old New d is_object =
    MatchOption (as_object d) (is_object ≡ false) (λ ms. (is_object ≡ true) × AreInOrder ms × (Old no_members → New ms))

-- what was read, if the value is there and of its kind
abbrev pub slot_option : {A : Type 0} → Slot A → Option A
slot_option Missing = None
slot_option Other = None
slot_option (Held x) = Some x

-- what was read, if the value is there; none if it is of another kind
abbrev pub slot_held : {A : Type 0} → Slot A → Option (Option A)
slot_held Missing = Some None
slot_held Other = None
slot_held (Held x) = Some (Some x)

-- there is a value
abbrev pub slot_is_there : {A : Type 0} → Slot A → Bool
slot_is_there Missing = false
slot_is_there Other = true
slot_is_there (Held x) = true
