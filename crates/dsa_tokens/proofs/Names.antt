-- The names of members, by what is at each name.
use Rattle.std.proofs.Common.{◌≡◌, ◌≢◌, ℕ, map, Bool, true, false, ◌||◌, List, [], ◌∷◌, Option, Some, None, is_some, IsSome, Ordering, Less, Equal, Greater, is_eq, nat_cmp, true≢false, refl, sym, ap, subst, ◌∙◌}
use Rattle.std.specs.Cmp.Lexicographic.{slice_cmp}
use Rattle.std.specs.List.{AllByRecursion}
use Rattle.std.specs.List.Sorted.{IsStrictlySortedBy}
use Rattle.std.specs.Ordering.{match_ordering, ordering_reverse}
use Rattle.std.specs.Str.{bytes_eq}
use Rattle.std.proofs.lemmas.Cmp.{nat_list_cmp_total, tied_itself}
use Rattle.std.proofs.lemmas.Map.Text.{is_eq-slice_cmp}
use Rattle.std.proofs.lemmas.Slice.Eq.{bytes_eq-Decides}
use Rattle.serde_json.specs.Data.{Data, object, Members, no_members, member}
use Rattle.serde_json.specs.Find.{get_member}
use Rattle.dsa_tokens.specs.Said.{Holds, slot_option}
use Rattle.dsa_tokens.specs.Spelled.{AreInOrder, HasOthers, Reads, ReadsKept, is_named, member_names, members_of, object_of}
use Rattle.dsa_tokens.specs.declared.slots.Slot.{Slot}
use Rattle.dsa_tokens.specs.declared.slots.Slot.TheVariants.{Missing, Other, Held}
use Rattle.dsa_tokens.proofs.Order.{IsBefore, before_all}

-- ---- a name before all others is none of them

not_there : (k : List ℕ) (ms : Members) → IsBefore k (member_names ms) → get_member k ms ≡ None
not_there k no_members before = refl
not_there k (member l e ms) before = rw before.0 (not_there k ms before.1)

no_name : (k : List ℕ) (names : List (List ℕ)) → IsBefore k names → is_named k names ≡ false
no_name k [] before = refl
no_name k (n ∷ names) before =
    let apart : bytes_eq k n ≡ false = sym (is_eq-slice_cmp k n) ∙ ap is_eq before.0 in
    rw apart (no_name k names before.1)

itself : (k : List ℕ) (names : List (List ℕ)) → is_named k (k ∷ names) ≡ true
itself k names = let same : bytes_eq k k ≡ true = (bytes_eq-Decides k k).1 refl in rw same

here : (k : List ℕ) (d : Data) (ms : Members) → get_member k (member k d ms) ≡ Some d
here k d ms = rw (tied_itself nat_list_cmp_total k)

passes : (o : Ordering) (a b : Option Data) → is_eq o ≡ false → match_ordering o a b a ≡ a
passes Less a b e = refl
passes Equal a b e = absurd (true≢false e)
passes Greater a b e = refl

past : (q k : List ℕ) (d : Data) (ms : Members) → bytes_eq q k ≡ false → get_member q (member k d ms) ≡ get_member q ms
past q k d ms apart = passes (slice_cmp nat_cmp q k) _ _ (is_eq-slice_cmp q k ∙ apart)

neither : (a b : Bool) → (a || b) ≡ false → (a ≡ false) × (b ≡ false)
neither true b e = absurd (true≢false e)
neither false b e = (refl, e)

some_none : (o : Option Data) → IsSome o → o ≡ None → ⊥
some_none (Some d) there e = cc
some_none None there e = absurd (cc)

-- ---- names by what is there

-- what is at each name of the members after the first one
rest_is : (k : List ℕ) (d : Data) (ms : Members) (names : List (List ℕ)) → IsBefore k (member_names ms) → IsBefore k names
    → ((q : List ℕ) → is_some (get_member q (member k d ms)) ≡ is_named q (k ∷ names)) → (q : List ℕ) → is_some (get_member q ms) ≡ is_named q names
rest_is k d ms names before between is q = go (bytes_eq q k) refl
  where
    go : (b : Bool) → bytes_eq q k ≡ b → is_some (get_member q ms) ≡ is_named q names
    go true e =
        let same : q ≡ k = (bytes_eq-Decides q k).0 e in
        let none : is_some (get_member k ms) ≡ is_named k names = ap is_some (not_there k ms before) ∙ sym (no_name k names between) in
        subst (λ (x : List ℕ). is_some (get_member x ms) ≡ is_named x names) (sym same) none
    go false e = sym (ap is_some (past q k d ms e)) ∙ is q ∙ ap (λ (b : Bool). b || is_named q names) e

-- members in order have these names if there is a value at these and at no other
pub names_are : (ms : Members) (names : List (List ℕ)) → AreInOrder ms → IsStrictlySortedBy (slice_cmp nat_cmp) names → ((q : List ℕ) → is_some (get_member q ms) ≡ is_named q names) → member_names ms ≡ names
unfolding IsStrictlySortedBy
names_are no_members [] order sorted is = refl
names_are no_members (n ∷ names) order sorted is = absurd (true≢false (sym (is n ∙ itself n names)))
names_are (member k d ms) [] order sorted is = absurd (true≢false (sym (ap is_some (here k d ms)) ∙ is k))
names_are (member k d ms) (n ∷ names) order sorted is = go (slice_cmp nat_cmp k n) refl (λ each. names_are ms names order.1 sorted.1 each)
  where
    go : (o : Ordering) → slice_cmp nat_cmp k n ≡ o → (((q : List ℕ) → is_some (get_member q ms) ≡ is_named q names) → member_names ms ≡ names) → k ∷ member_names ms ≡ n ∷ names
    go Less e later = absurd (true≢false (sym (ap is_some (here k d ms)) ∙ is k ∙ no_name k (n ∷ names) (e, before_all k n names e sorted.0)))
    go Equal e later =
        let same : k ≡ n = (bytes_eq-Decides k n).0 (sym (is_eq-slice_cmp k n) ∙ ap is_eq e) in
        let between : IsBefore k names = subst (λ (x : List ℕ). IsBefore x names) (sym same) sorted.0 in
        let each : (q : List ℕ) → is_some (get_member q (member k d ms)) ≡ is_named q (k ∷ names) =
        subst (λ (x : List ℕ). (q : List ℕ) → is_some (get_member q (member k d ms)) ≡ is_named q (x ∷ names)) (sym same) is in
        let more = later (rest_is k d ms names order.0 between each) in
        cc
    go Greater e later =
        let before : slice_cmp nat_cmp n k ≡ Less = nat_list_cmp_total.antisymm n k ∙ ap ordering_reverse e in
        absurd (true≢false (sym (itself n names) ∙ sym (is n) ∙ ap is_some (not_there n (member k d ms) (before, before_all n k (member_names ms) before order.0))))

-- ---- the same by what is known of a list of names

-- what holds of each of these names holds of one of them
pub named_one : (P : List ℕ → Type 0) (k : List ℕ) (names : List (List ℕ)) → is_named k names ≡ true → AllByRecursion P names → P k
named_one P k [] e all = absurd (true≢false (sym e))
named_one P k (n ∷ names) e all = go (bytes_eq k n) refl (λ more. named_one P k names more all.1)
  where
    go : (b : Bool) → bytes_eq k n ≡ b → (is_named k names ≡ true → P k) → P k
    go true same later = subst P (sym ((bytes_eq-Decides k n).0 same)) all.0
    go false apart later = later (sym (ap (λ (b : Bool). b || is_named k names) apart) ∙ e)

-- there is a value at each of these names, and at no other
pub all_there : (ms : Members) (names : List (List ℕ)) → HasOthers names ms false → AllByRecursion (λ n. is_some (get_member n ms) ≡ true) names → (q : List ℕ) → is_some (get_member q ms) ≡ is_named q names
all_there ms names others all q = go (is_named q names) refl
  where
    go : (b : Bool) → is_named q names ≡ b → is_some (get_member q ms) ≡ is_named q names
    go true e = named_one (λ n. is_some (get_member n ms) ≡ true) q names e all ∙ sym e
    go false e = ap is_some (others q e) ∙ sym e

-- ---- members that are spelled

-- there is no value at a name that is none of those that are spelled
none_spelled : (name : List ℕ) (fields : List (List ℕ × Data)) → is_named name (map (λ f. f.0) fields) ≡ false → get_member name (members_of fields) ≡ None
none_spelled name [] none = refl
none_spelled name (f ∷ fields) none =
    let (first, rest) = neither (bytes_eq name f.0) (is_named name (map (λ g. g.0) fields)) none in
    past name f.0 f.1 (members_of fields) first ∙ none_spelled name fields rest

-- so an object with a member of another name is none that is spelled
pub no_others : (ms : Members) (fields : List (List ℕ × Data)) → HasOthers (map (λ f. f.0) fields) ms true → object ms ≢ object_of fields
no_others ms fields (name, none, there) e =
    let same : ms ≡ members_of fields = cc in
    let is : get_member name ms ≡ None = ap (get_member name) same ∙ none_spelled name fields none in
    some_none (get_member name ms) there is

-- a slot holds what was read of a value of its kind
pub held_there : {A : Type 0} (says : Data → Option A → Type 0) (found : Option Data) (slot : Slot A) (d : Data) → Holds says found slot → found ≡ Some d → (says d None → ⊥) → (x : A) × (slot ≡ Held x)
held_there says found Missing d none is other = let never : None ≡ Some d = sym none ∙ is in absurd (cc)
held_there says found Other d (e, at, kind) is other = let same : Some e ≡ Some d = sym at ∙ is in let equal : e ≡ d = cc in absurd (other (subst (λ (v : Data). says v None) equal kind))
held_there says found (Held x) d held is other = (x, refl)

-- a slot that gives something has read what is there
pub read_option : {X Y : Type 0} (spelling : Y → Data) (shown : X → Y) (found : Option Data) (slot : Slot X) (x : X) → Holds (Reads spelling shown) found slot → Some x ≡ slot_option slot → found ≡ Some (spelling (shown x))
read_option spelling shown found Missing x none e = absurd (cc)
read_option spelling shown found Other x held e = absurd (cc)
read_option spelling shown found (Held y) x (v, is, kind) e = let same : y ≡ x = cc in is ∙ ap Some (kind ∙ ap (λ z. spelling (shown z)) same)

-- the same where a part of what is there is kept
pub kept_option : {X Y : Type 0} (spelling : Y → Data) (kept : Y → Y) (shown : X → Y) (found : Option Data) (slot : Slot X) (x : X) → Holds (ReadsKept spelling kept shown) found slot → Some x ≡ slot_option slot
    → (y : Y) × (found ≡ Some (spelling y)) × (shown x ≡ kept y)
kept_option spelling kept shown found Missing x none e = absurd (cc)
kept_option spelling kept shown found Other x held e = absurd (cc)
kept_option spelling kept shown found (Held z) x (v, is, said) e = let same : x ≡ z = cc in (said.0, is ∙ ap Some said.1, ap shown same ∙ said.2)
