-- How JSON values spell numbers, arrays and objects, and what a reader of values answers.
use Rattle.std.specs.Prelude.{◌≡◌, ◌≢◌, ℕ, Bool, true, false, List, [], ◌∷◌, Option, Some, None, IsSome}
use Rattle.std.specs.Ordering.{nat_cmp}
use Rattle.std.specs.Cmp.Lexicographic.{slice_cmp}
use Rattle.std.specs.List.{list_any}
use Rattle.std.specs.List.Sorted.{IsStrictlySortedBy}
use Rattle.std.specs.Str.{bytes_eq}
use Rattle.serde_json.specs.Data.{Data, number, unsigned, array, object, Members, no_members, member}
use Rattle.serde_json.specs.Find.{get, get_member}
use Rattle.serde_json.specs.View.{items_of}

-- a whole number
abbrev pub whole : ℕ → Data
whole n = number (unsigned n)

-- a list of values, as an array
abbrev pub array_of : List Data → Data
array_of ds = array (items_of ds)

-- the members of these names and values
abbrev pub members_of : List (List ℕ × Data) → Members
members_of [] = no_members
members_of (field ∷ fields) = member field.0 field.1 (members_of fields)

-- the object with these members, which are in the order of their names
abbrev pub object_of : List (List ℕ × Data) → Data
object_of fields = object (members_of fields)

-- the names of the members, in order
abbrev pub member_names : Members → List (List ℕ)
member_names no_members = []
member_names (member name d ms) = name ∷ member_names ms

-- A reader of values answers what the value spells, or none if it spells nothing.
-- `shown` is what a contract sees of the answer.
abbrev pub Reads : {X Y : Type 0} → (Y → Data) → (X → Y) → Data → Option X → Type 0
Reads {X} {Y} spelling shown d None = (y : Y) → d ≢ spelling y
Reads spelling shown d (Some x) = d ≡ spelling (shown x)

-- the same of a reader that keeps a part of what the value spells
abbrev pub ReadsKept : {X Y : Type 0} → (Y → Data) → (Y → Y) → (X → Y) → Data → Option X → Type 0
ReadsKept {X} {Y} spelling kept shown d None = (y : Y) → d ≢ spelling y
ReadsKept {X} {Y} spelling kept shown d (Some x) = (y : Y) × (d ≡ spelling y) × (shown x ≡ kept y)

-- the same as `Reads` for what the value has at a name
abbrev pub ReadsAt : {X Y : Type 0} → List ℕ → (Y → Data) → (X → Y) → Data → Option X → Type 0
ReadsAt {X} {Y} name spelling shown d None = (y : Y) → get name d ≢ Some (spelling y)
ReadsAt name spelling shown d (Some x) = get name d ≡ Some (spelling (shown x))

-- the same of values that have to fit their places
abbrev pub ReadsFit : {X Y : Type 0} → (Y → Data) → (Y → Type 0) → (X → Y) → Data → Option X → Type 0
ReadsFit {X} {Y} spelling Fits shown d None = (y : Y) → Fits y → d ≢ spelling y
ReadsFit spelling Fits shown d (Some x) = (d ≡ spelling (shown x)) × Fits (shown x)

-- the names of the members rise, so that each is there once, as in every object that was read
abbrev pub AreInOrder : Members → Type 0
AreInOrder ms = IsStrictlySortedBy (slice_cmp nat_cmp) (member_names ms)

-- the name is one of these
abbrev pub is_named : List ℕ → List (List ℕ) → Bool
is_named name names = list_any (bytes_eq name) names

-- whether there is a member with another name than these
abbrev pub HasOthers : List (List ℕ) → Members → Bool → Type 0
HasOthers names ms true = (name : List ℕ) × (is_named name names ≡ false) × IsSome (get_member name ms)
HasOthers names ms false = (name : List ℕ) → is_named name names ≡ false → get_member name ms ≡ None
