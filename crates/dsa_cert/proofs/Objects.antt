-- What the names and the members of an object say of the whole of it.
use Rattle.std.proofs.Common.{◌≡◌, ℕ, List, [], ◌∷◌, map, Option, Some, option_map, option_and_then, Bool, true, false, not, ◌&&◌, Ordering, Less, Equal, Greater, is_eq, nat_cmp, true≢false, refl, sym, ap, ◌∙◌}
use Rattle.std.specs.List.{AllByRecursion, list_all}
use Rattle.std.specs.Str.{bytes_eq}
use Rattle.std.specs.Ordering.{match_ordering}
use Rattle.std.specs.Cmp.Lexicographic.{slice_cmp}
use Rattle.std.proofs.lemmas.Cmp.{nat_list_cmp_total, tied_itself}
use Rattle.std.proofs.lemmas.Map.Text.{is_eq-slice_cmp}
use Rattle.serde_json.specs.Data.{unsigned, negative, float, Data, null, boolean, number, string, array, object, Members, no_members, member}
use Rattle.serde_json.specs.Find.{get, get_member, as_number, as_u64, as_str, as_object}
use Rattle.dsa_tokens.specs.Spelled.{whole, member_names, members_of, object_of}

abbrev pub Field : Type 0
Field = List ℕ × Data

-- no two of the names are one
abbrev pub are_apart : List (List ℕ) → Bool
are_apart [] = true
are_apart (name ∷ names) = list_all (λ other. not (bytes_eq other name)) names && are_apart names

-- a member is at its name
at_name : (q k : List ℕ) (d : Data) (ms : Members) → k ≡ q → get_member q (member k d ms) ≡ Some d
at_name q k d ms same =
    let here : get_member q (member q d ms) ≡ Some d = rw (tied_itself nat_list_cmp_total q) in
    ap (λ (n : List ℕ). get_member q (member n d ms)) same ∙ here

passes : (o : Ordering) (a b : Option Data) → is_eq o ≡ false → match_ordering o a b a ≡ a
passes Less a b e = refl
passes Equal a b e = absurd (true≢false e)
passes Greater a b e = refl

-- another member doesn't
past_name : (q k : List ℕ) (d : Data) (ms : Members) → bytes_eq q k ≡ false → get_member q (member k d ms) ≡ get_member q ms
past_name q k d ms apart = passes (slice_cmp nat_cmp q k) _ _ (is_eq-slice_cmp q k ∙ apart)

both : (a b : Bool) → (a && b) ≡ true → (a ≡ true) × (b ≡ true)
both true true e = (refl, refl)
both true false e = cc
both false b e = cc

opposite : (b : Bool) → not b ≡ true → b ≡ false
opposite true e = cc
opposite false e = refl

-- the members after the first one are at their names as before
found_after : (q k : List ℕ) (d : Data) (ms : Members) (fields : List Field) → k ≡ q → list_all (λ other. not (bytes_eq other q)) (map (λ f. f.0) fields) ≡ true
    → AllByRecursion (λ f. get_member f.0 (member k d ms) ≡ Some f.1) fields → AllByRecursion (λ f. get_member f.0 ms ≡ Some f.1) fields
found_after q k d ms [] same apart found = tt
found_after q k d ms (f ∷ fields) same apart found =
    let (first, rest) = both (not (bytes_eq f.0 q)) _ apart in
    (sym (past_name f.0 k d ms (ap (bytes_eq f.0) same ∙ opposite (bytes_eq f.0 q) first)) ∙ found.0, found_after q k d ms fields same rest found.1)

-- members with these names, and these values at them, are these
members_spelled : (ms : Members) (fields : List Field) → member_names ms ≡ map (λ f. f.0) fields → are_apart (map (λ f. f.0) fields) ≡ true
    → AllByRecursion (λ f. get_member f.0 ms ≡ Some f.1) fields → ms ≡ members_of fields
members_spelled no_members [] names apart found = refl
members_spelled no_members (f ∷ fields) names apart found = cc
members_spelled (member k d ms) [] names apart found = cc
members_spelled (member k d ms) (f ∷ fields) names apart found =
    let (others, rest) = both (list_all (λ other. not (bytes_eq other f.0)) (map (λ g. g.0) fields)) _ apart in
    let same : k ≡ f.0 = cc in
    let value : Some d ≡ Some f.1 = sym (at_name f.0 k d ms same) ∙ found.0 in
    let more = members_spelled ms fields (cc) rest (found_after f.0 k d ms fields same others found.1) in
    cc

-- an object with these names, and these values at them, is this one
pub object_spelled : (d : Data) (fields : List Field) → option_map member_names (as_object d) ≡ Some (map (λ f. f.0) fields) → are_apart (map (λ f. f.0) fields) ≡ true
    → AllByRecursion (λ f. get f.0 d ≡ Some f.1) fields → d ≡ object_of fields
object_spelled (object ms) fields names apart found = ap object (members_spelled ms fields (cc) apart found)
object_spelled null fields names apart found = cc
object_spelled (boolean b) fields names apart found = cc
object_spelled (number n) fields names apart found = cc
object_spelled (string s) fields names apart found = cc
object_spelled (array ds) fields names apart found = cc

-- a value that is read as a whole number is that number
pub whole_of : (d : Data) (n : ℕ) → option_and_then as_u64 (as_number d) ≡ Some n → d ≡ whole n
whole_of (number (unsigned m)) n e = ap whole cc
whole_of (number (negative z)) n e = cc
whole_of (number (float x)) n e = cc
whole_of null n e = cc
whole_of (boolean b) n e = cc
whole_of (string s) n e = cc
whole_of (array ds) n e = cc
whole_of (object ms) n e = cc

-- a value that is read as a text is that text
pub string_from : (d : Data) (text : List ℕ) → as_str d ≡ Some text → d ≡ string text
string_from (string t) text e = cc
string_from null text e = cc
string_from (boolean b) text e = cc
string_from (number n) text e = cc
string_from (array ds) text e = cc
string_from (object ms) text e = cc
