-- Members in the order of their names.
use Rattle.std.proofs.Common.{◌≡◌, ℕ, List, [], ◌∷◌, Ordering, Less, Equal, Greater, nat_cmp, refl, ap, ◌∙◌}
use Rattle.std.specs.Cmp.Lexicographic.{slice_cmp}
use Rattle.std.specs.List.{AllByRecursion}
use Rattle.std.specs.List.Sorted.{IsStrictlySortedBy}
use Rattle.std.specs.Ordering.{match_ordering, ordering_reverse}
use Rattle.std.proofs.lemmas.Cmp.{nat_list_cmp_total}
use Rattle.serde_json.specs.Data.{Data, Members, no_members, member, put}
use Rattle.dsa_tokens.specs.Spelled.{AreInOrder, member_names}

-- the name is before all of these
abbrev pub IsBefore : List ℕ → List (List ℕ) → Type 0
IsBefore name names = AllByRecursion (λ next. slice_cmp nat_cmp name next ≡ Less) names

-- a name before a name is before all that come after that
pub before_all : (k l : List ℕ) (names : List (List ℕ)) → slice_cmp nat_cmp k l ≡ Less → IsBefore l names → IsBefore k names
before_all k l [] first later = tt
before_all k l (n ∷ names) first later = (nat_list_cmp_total.trans k l n first later.0, before_all k l names first later.1)

put_after_at : (o : Ordering) (l k n : List ℕ) (d e : Data) (ms : Members) → slice_cmp nat_cmp l k ≡ Less → IsBefore l (n ∷ member_names ms) → IsBefore l (member_names (put k d ms))
    → IsBefore l (member_names (match_ordering o (member k d (member n e ms)) (member n d ms) (member n e (put k d ms))))
put_after_at Less l k n d e ms first later rest = (first, later)
put_after_at Equal l k n d e ms first later rest = later
put_after_at Greater l k n d e ms first later rest = (later.0, rest)

put_after : (l k : List ℕ) (d : Data) (ms : Members) → slice_cmp nat_cmp l k ≡ Less → IsBefore l (member_names ms) → IsBefore l (member_names (put k d ms))
put_after l k d no_members first later = (first, tt)
put_after l k d (member n e ms) first later = put_after_at (slice_cmp nat_cmp k n) l k n d e ms first later (put_after l k d ms first later.1)

put_in_order_at : (o : Ordering) (k l : List ℕ) (d e : Data) (ms : Members) → slice_cmp nat_cmp k l ≡ o → AreInOrder (member l e ms) → AreInOrder (put k d ms)
    → AreInOrder (match_ordering o (member k d (member l e ms)) (member l d ms) (member l e (put k d ms)))
unfolding IsStrictlySortedBy
put_in_order_at Less k l d e ms is order rest = ((is, before_all k l (member_names ms) is order.0), order)
put_in_order_at Equal k l d e ms is order rest = order
put_in_order_at Greater k l d e ms is order rest =
    (put_after l k d ms (nat_list_cmp_total.antisymm l k ∙ ap ordering_reverse is) order.0, rest)

-- a member that is put into members in order leaves them so
pub put_in_order : (k : List ℕ) (d : Data) (ms : Members) → AreInOrder ms → AreInOrder (put k d ms)
unfolding IsStrictlySortedBy
put_in_order k d no_members order = (tt, tt)
put_in_order k d (member l e ms) order = put_in_order_at (slice_cmp nat_cmp k l) k l d e ms refl order (put_in_order k d ms order.1)
