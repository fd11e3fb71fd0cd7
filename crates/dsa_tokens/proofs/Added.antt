-- What is added of the items of an array, as far as there is room.
use Rattle.std.proofs.Common.{◌≡◌, ℕ, zero, suc, ◌-◌, ◌≤◌, Bool, true, false, List, [], ◌∷◌, ◌++◌, length, take, Option, Some, None, IsTrue, MatchOption, ◌↔◌, append_assoc, append-nil, length-append, refl, sym, ap, subst, ◌∙◌, arith, inl, inr}
use Rattle.serde_json.specs.Data.{Data, null, boolean, number, string, array, object, Items, no_items, item}
use Rattle.dsa_tokens.specs.Said.{AddsArray, EachIsRead, IsArray, IsArrayUpTo, SomeIsOther, room, up_to}
use Rattle.dsa_tokens.proofs.Items.{after}

-- ---- room

take_nothing : {A : Type 0} (n : ℕ) → take {A = A} n [] ≡ []
take_nothing zero = refl
take_nothing (suc n) = refl

-- beside as many as there may be there is room for no more
pub full : {A : Type 0} (most : Option ℕ) (b : Bool) (count : ℕ) (old : List A) (x : A) → count ≡ length old → MatchOption most (b ≡ false) (λ n. IsTrue b ↔ (n ≤ count)) → b ≡ true → old ≡ old ++ up_to (room most (length old)) (x ∷ [])
full None b count old x same is e = absurd (cc)
full (Some most) b count old x same is e =
    let none : most - length old ≡ 0 = omega (arith, is.0 e, same) in
    sym (ap (λ n. old ++ take n (x ∷ [])) none ∙ append-nil old)

-- and else for one more
pub not_full : {A : Type 0} (most : Option ℕ) (b : Bool) (count : ℕ) (old : List A) (x : A) → count ≡ length old → MatchOption most (b ≡ false) (λ n. IsTrue b ↔ (n ≤ count)) → b ≡ false → old ++ x ∷ [] ≡ old ++ up_to (room most (length old)) (x ∷ [])
not_full None b count old x same is e = refl
not_full (Some most) b count old x same is e = go (most - length old) refl
  where
    go : (n : ℕ) → most - length old ≡ n → old ++ x ∷ [] ≡ old ++ take (most - length old) (x ∷ [])
    go zero none = let much : b ≡ true = is.1 (omega (arith, none, same)) in absurd (cc)
    go (suc n) some = sym (ap (λ (k : ℕ). old ++ take k (x ∷ [])) some ∙ ap (λ l. old ++ x ∷ l) (take_nothing n))

pub nothing_added : {A : Type 0} (most : Option ℕ) (old : List A) → old ≡ old ++ up_to (room most (length old)) []
nothing_added None old = sym (append-nil old)
nothing_added (Some most) old = sym (ap (λ l. old ++ l) (take_nothing (most - length old)) ∙ append-nil old)

take_both : {A : Type 0} (n : ℕ) (xs ys : List A) → take n (xs ++ ys) ≡ take n xs ++ take (n - length (take n xs)) ys
take_both zero [] ys = refl
take_both zero (x ∷ xs) ys = refl
take_both (suc n) [] ys = let all : suc n ≡ suc n - 0 = omega arith in ap (λ (k : ℕ). take k ys) all
take_both (suc n) (x ∷ xs) ys =
    let same : suc n - length (take (suc n) (x ∷ xs)) ≡ n - length (take n xs) = omega arith in
    ap (λ l. x ∷ l) (take_both n xs ys) ∙ ap (λ (k : ℕ). x ∷ (take n xs ++ take k ys)) (sym same)

-- what there is room for after others is what there is room for of all
pub one_more : {A : Type 0} (most : Option ℕ) (old now xs : List A) (x : A) → now ≡ old ++ up_to (room most (length old)) xs → now ++ up_to (room most (length now)) (x ∷ []) ≡ old ++ up_to (room most (length old)) (xs ++ x ∷ [])
one_more None old now xs x is = ap (λ l. l ++ x ∷ []) is ∙ append_assoc old xs (x ∷ [])
one_more (Some most) old now xs x is =
    let first = take (most - length old) xs in
    let left : most - length now ≡ (most - length old) - length first = omega (arith, ap length is, length-append old first) in
    ap (λ l. l ++ take (most - length now) (x ∷ [])) is
    ∙ ap (λ (n : ℕ). (old ++ first) ++ take n (x ∷ [])) left
    ∙ append_assoc old first (take ((most - length old) - length first) (x ∷ []))
    ∙ ap (λ l. old ++ l) (sym (take_both (most - length old) xs (x ∷ [])))

-- ---- items one after another

module _ {A : Type 0} (says : Data → Option A → Type 0) where
  pub each_push : (done : List Data) (xs : List A) (d : Data) (x : A) → EachIsRead says (after done no_items) xs → says d (Some x) → EachIsRead says (after (done ++ d ∷ []) no_items) (xs ++ x ∷ [])
  each_push [] [] d x all said = (said, tt)
  each_push [] (y ∷ ys) d x all said = absurd all
  each_push (e ∷ done) [] d x all said = absurd all
  each_push (e ∷ done) (y ∷ ys) d x all said = (all.0, each_push done ys d x all.1 said)

  pub other_after : (done : List Data) (d : Data) (ds : Items) → says d None → SomeIsOther says (after done (item d ds))
  other_after [] d ds other = inl other
  other_after (e ∷ done) d ds other = inr (other_after done d ds other)

-- ---- lists

first_of : {A : Type 0} (most : Option ℕ) (xs : List A) → up_to (room most 0) xs ≡ up_to most xs
first_of None xs = refl
first_of (Some most) xs = let same : most - 0 ≡ most = omega arith in ap (λ n. take n xs) same

-- what was added to nothing is the list
pub added_list : {A : Type 0} (says : Data → Option A → Type 0) (most : Option ℕ) (old new : List A) (d : Data) → old ≡ [] → AddsArray says most old new d true → IsArrayUpTo most says d (Some new)
added_list says most old new (array ds) none (xs, each, is) =
    (Some xs, each, ap Some (is ∙ ap (λ l. l ++ up_to (room most (length l)) xs) none ∙ first_of most xs))
added_list says most old new null none e = absurd (cc)
added_list says most old new (boolean b) none e = absurd (cc)
added_list says most old new (number n) none e = absurd (cc)
added_list says most old new (string s) none e = absurd (cc)
added_list says most old new (object ms) none e = absurd (cc)

pub added_none : {A : Type 0} (says : Data → Option A → Type 0) (most : Option ℕ) (old new : List A) (d : Data) → AddsArray says most old new d false → IsArrayUpTo most says d None
added_none says most old new (array ds) other = (None, other, refl)
added_none says most old new null e = (None, refl, refl)
added_none says most old new (boolean b) e = (None, refl, refl)
added_none says most old new (number n) e = (None, refl, refl)
added_none says most old new (string s) e = (None, refl, refl)
added_none says most old new (object ms) e = (None, refl, refl)

-- of a list that was kept, all that was read; with no bound that is the list
pub kept_some : {A : Type 0} (says : Data → Option A → Type 0) (most : Option ℕ) (d : Data) (kept : List A) → IsArrayUpTo most says d (Some kept) → (xs : List A) × IsArray says d (Some xs) × (kept ≡ up_to most xs)
kept_some says most d kept (Some xs, read, is) = (xs, read, cc)
kept_some says most d kept (None, read, is) = absurd (cc)

-- where none was kept, none was read
pub kept_none : {A : Type 0} (says : Data → Option A → Type 0) (most : Option ℕ) (d : Data) → IsArrayUpTo most says d None → IsArray says d None
kept_none says most d (Some xs, read, is) = absurd (cc)
kept_none says most d (None, read, is) = read

pub unbounded : {A : Type 0} (says : Data → Option A → Type 0) (d : Data) (kept : Option (List A)) → IsArrayUpTo None says d kept → IsArray says d kept
unbounded says d kept (Some xs, read, is) = subst (IsArray says d) (sym is) read
unbounded says d kept (None, read, is) = subst (IsArray says d) (sym is) read
