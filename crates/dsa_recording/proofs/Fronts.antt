-- Texts in the order of their bytes: those that begin with a front come one after another, and of these the ones with one number.
use Rattle.std.proofs.Common.{◌≡◌, ◌≢◌, ◌⊎◌, ℕ, suc, ◌+◌, ◌<◌, ◌≤◌, ◌^◌, inl, inr, Bool, true, false, List, [], ◌∷◌, ◌++◌, Option, Some, None, length, get_or, slice_get, drop, subst, sym, ap, refl, ◌∙◌, arith, true≢false}
use Rattle.std.specs.Prelude.{◌||◌, MatchOption, Result, Ok, Err, IfOk, String, codes, decimal, string_bytes, if◌then◌else◌}
use Rattle.std.specs.Global.{Global}
use Rattle.std.specs.BTreeMap.{is_at}
use Rattle.std.specs.BTreeSet.{IsKeyRangeOf}
use Rattle.std.specs.Cmp.Lexicographic.{nat_list_cmp_total, slice_cmp}
use Rattle.std.specs.List.{Contains, list_any}
use Rattle.std.specs.Ordering.{is_gt, nat_cmp, ordering_reverse, ordering_then}
use Rattle.std.specs.String.{string_cmp}
use Rattle.std.specs.Str.Pattern.{FindsTextPrefix, LacksTextAt}
use Rattle.std.specs.declared.cmp.Ordering.{Ordering}
use Rattle.std.specs.declared.cmp.Ordering.TheVariants.{Less, Equal, Greater}
use Rattle.std.specs.declared.ops.Bound.TheVariants.{Included, Unbounded}
use Rattle.std.proofs.lemmas.Bool.{cases_Bool, cases_eq}
use Rattle.std.proofs.lemmas.Cmp.{alike_right, nat_cmp_total, ranked, tied_itself, upto}
use Rattle.std.proofs.lemmas.Fmt.{decimal_is_IsNumeral}
use Rattle.std.proofs.lemmas.Map.Text.{is_eq-slice_cmp}
use Rattle.std.proofs.lemmas.Slice.Eq.{bytes_eq-Decides}
use denote.Ref.{Bor}
use Rattle.dsa_recording.specs.declared.accepted.Accepted.{Accepted}
use Rattle.dsa_audit.specs.declared.hazard.Hazards.{Hazards}
use Rattle.dsa_recording.specs.EntryKeys.{entry_key, fence_front, fence_key}
use Rattle.dsa_recording.specs.Pairs.{IsAbove, IsFirstAfter, IsUpTo, LeadsOn, NamesAfter, NamesEach, NoneAfter, Pushes, has_key, hazards_by}
use Rattle.dsa_recording.proofs.NamedPairs.{by_number, digits_lack, few_numbers, front_key, number_of}

-- ---- the order of texts

-- one byte of each: they are equal, and the rest is as before
front_by : (c x : ℕ) (cs xs w : List ℕ) (o p : Ordering) → o ≡ nat_cmp c x → p ≡ nat_cmp x c → is_gt (ordering_then o (slice_cmp nat_cmp cs xs)) ≡ false → is_gt (ordering_then p (slice_cmp nat_cmp xs (cs ++ w))) ≡ false
    → (c ≡ x) × IsUpTo cs xs × IsUpTo xs (cs ++ w)
front_by c x cs xs w Less Less e f a b = absurd (omega (arith, ranked c x Less e, ranked x c Less f))
front_by c x cs xs w Less Equal e f a b = absurd (omega (arith, ranked c x Less e, ranked x c Equal f))
front_by c x cs xs w Less Greater e f a b = absurd (true≢false b)
front_by c x cs xs w Equal Less e f a b = absurd (omega (arith, ranked c x Equal e, ranked x c Less f))
front_by c x cs xs w Equal Equal e f a b = (ranked c x Equal e, a, b)
front_by c x cs xs w Equal Greater e f a b = absurd (true≢false b)
front_by c x cs xs w Greater p e f a b = absurd (true≢false a)

-- a text between a front and one that begins with it begins with it
pub begins_so : (front w k : List ℕ) → IsUpTo front k → IsUpTo k (front ++ w) → (r : List ℕ) × (k ≡ front ++ r)
begins_so [] w k a b = (k, refl)
begins_so (c ∷ cs) w [] a b = absurd (true≢false a)
begins_so (c ∷ cs) w (x ∷ xs) a b =
    let both = front_by c x cs xs w (nat_cmp c x) (nat_cmp x c) refl refl a b in
    let rest = begins_so cs w xs both.1 both.2 in
    (rest.0, ap (λ (z : ℕ). z ∷ xs) (sym both.0) ∙ ap (λ (z : List ℕ). c ∷ z) rest.1)

-- what comes after one front decides
pub same_front : (front a b : List ℕ) → slice_cmp nat_cmp (front ++ a) (front ++ b) ≡ slice_cmp nat_cmp a b
same_front [] a b = refl
same_front (c ∷ cs) a b = ap (λ (o : Ordering). ordering_then o (slice_cmp nat_cmp (cs ++ a) (cs ++ b))) (tied_itself nat_cmp_total c) ∙ same_front cs a b

pub none_first : (ys : List ℕ) → IsUpTo [] ys
none_first [] = refl
none_first (y ∷ ys) = refl

front_first : (front w : List ℕ) → IsUpTo front (front ++ w)
front_first [] w = none_first w
front_first (c ∷ cs) w = ap (λ (o : Ordering). is_gt (ordering_then o (slice_cmp nat_cmp cs (cs ++ w)))) (tied_itself nat_cmp_total c) ∙ front_first cs w

colon_by : (x ys : List ℕ) (y : ℕ) (o p : Ordering) → o ≡ nat_cmp 58 y → p ≡ nat_cmp 59 y → is_gt (ordering_then o (slice_cmp nat_cmp x ys)) ≡ false → is_gt (ordering_then p (slice_cmp nat_cmp [] ys)) ≡ true
    → (r : List ℕ) × (y ∷ ys ≡ 58 ∷ r)
colon_by x ys y Less Less e f a b = absurd (true≢false (sym b))
colon_by x ys y Less Equal e f a b = absurd (true≢false (sym b ∙ none_first ys))
colon_by x ys y Less Greater e f a b = absurd (omega (arith, ranked 58 y Less e, ranked 59 y Greater f))
colon_by x ys y Equal p e f a b = (ys, ap (λ (z : ℕ). z ∷ ys) (sym (ranked 58 y Equal e)))
colon_by x ys y Greater p e f a b = absurd (true≢false a)

digit_by : (d y : ℕ) (us vs ys : List ℕ) (o : Ordering) → o ≡ nat_cmp d y → is_gt (ordering_then o (slice_cmp nat_cmp us ys)) ≡ false → is_gt (ordering_then o (slice_cmp nat_cmp vs ys)) ≡ true
    → (d ≡ y) × IsUpTo us ys × (is_gt (slice_cmp nat_cmp vs ys) ≡ true)
digit_by d y us vs ys Less e a b = absurd (true≢false (sym b))
digit_by d y us vs ys Equal e a b = (ranked d y Equal e, a, b)
digit_by d y us vs ys Greater e a b = absurd (true≢false a)

-- what comes from digits and a colon on, and not from the digits and a semicolon on, begins with the digits and a colon
digits_between : (ds x q : List ℕ) → IsUpTo (ds ++ (58 ∷ x)) q → is_gt (slice_cmp nat_cmp (ds ++ (59 ∷ [])) q) ≡ true → (r : List ℕ) × (q ≡ ds ++ (58 ∷ r))
digits_between [] x [] a b = absurd (true≢false a)
digits_between [] x (y ∷ ys) a b = colon_by x ys y (nat_cmp 58 y) (nat_cmp 59 y) refl refl a b
digits_between (d ∷ ds) x [] a b = absurd (true≢false a)
digits_between (d ∷ ds) x (y ∷ ys) a b =
    let both = digit_by d y (ds ++ (58 ∷ x)) (ds ++ (59 ∷ [])) ys (nat_cmp d y) refl a b in
    let rest = digits_between ds x ys both.1 both.2 in
    (rest.0, ap (λ (z : ℕ). z ∷ ys) (sym both.0) ∙ ap (λ (z : List ℕ). d ∷ z) rest.1)

nul_by : (y : ℕ) (ys : List ℕ) (o : Ordering) → o ≡ nat_cmp 0 y → is_gt (ordering_then o (slice_cmp nat_cmp [] ys)) ≡ false
nul_by y ys Less e = refl
nul_by y ys Equal e = none_first ys
nul_by y ys Greater e = absurd (omega (arith, ranked 0 y Greater e))

byte_by : (c y : ℕ) (us vs ys : List ℕ) (o : Ordering) → o ≡ nat_cmp c y → is_gt (ordering_then o (slice_cmp nat_cmp us ys)) ≡ false → (c ≡ y → IsUpTo us ys → IsUpTo vs ys) → is_gt (ordering_then o (slice_cmp nat_cmp vs ys)) ≡ false
byte_by c y us vs ys Less e a f = refl
byte_by c y us vs ys Equal e a f = f (ranked c y Equal e) a
byte_by c y us vs ys Greater e a f = absurd (true≢false a)

-- nothing comes between a text and that with a byte of 0 after it
right_after : (a q : List ℕ) → IsUpTo a q → q ≢ a → IsUpTo (a ++ (0 ∷ [])) q
right_after [] [] le other = absurd (other refl)
right_after [] (y ∷ ys) le other = nul_by y ys (nat_cmp 0 y) refl
right_after (c ∷ cs) [] le other = absurd (true≢false le)
right_after (c ∷ cs) (y ∷ ys) le other =
    byte_by c y cs (cs ++ (0 ∷ [])) ys (nat_cmp c y) refl le
    (λ same rest. right_after cs ys rest (λ e. other (ap (λ (z : List ℕ). y ∷ z) e ∙ ap (λ (z : ℕ). z ∷ cs) (sym same))))

pub above_digits : (ds x : List ℕ) → IsAbove (ds ++ (59 ∷ [])) (ds ++ (58 ∷ x))
above_digits ds x = same_front ds (58 ∷ x) (59 ∷ [])

pub above_nul : (a : List ℕ) → IsAbove (a ++ (0 ∷ [])) a
above_nul [] = refl
above_nul (c ∷ cs) = ap (λ (o : Ordering). ordering_then o (slice_cmp nat_cmp cs (cs ++ (0 ∷ [])))) (tied_itself nat_cmp_total c) ∙ above_nul cs

-- what comes after a text that is above another is above that
below_by : (x y z : List ℕ) (s : Ordering) → slice_cmp nat_cmp y z ≡ s → slice_cmp nat_cmp x y ≡ Less → is_gt s ≡ false → slice_cmp nat_cmp x z ≡ Less
below_by x y z Less e lt le = nat_list_cmp_total.trans x y z lt e
below_by x y z Equal e lt le = sym (alike_right nat_list_cmp_total y z x e) ∙ lt
below_by x y z Greater e lt le = absurd (true≢false le)

-- ---- the number of a text

-- a text is cut at its first colon in one way
one_cut : (xs zs ys ws : List ℕ) → ((i : ℕ) → i < length xs → get_or xs i 0 ≢ 58) → ((i : ℕ) → i < length zs → get_or zs i 0 ≢ 58) → xs ++ (58 ∷ ys) ≡ zs ++ (58 ∷ ws) → xs ≡ zs
one_cut [] [] ys ws plain none e = refl
one_cut [] (z ∷ zs) ys ws plain none e = absurd (none 0 (omega arith) (sym (ap (λ (l : List ℕ). get_or l 0 0) e)))
one_cut (x ∷ xs) [] ys ws plain none e = absurd (plain 0 (omega arith) (ap (λ (l : List ℕ). get_or l 0 0) e))
one_cut (x ∷ xs) (z ∷ zs) ys ws plain none e =
    ap (λ (c : ℕ). c ∷ xs) (ap (λ (l : List ℕ). get_or l 0 0) e)
    ∙ ap (λ (l : List ℕ). z ∷ l) (one_cut xs zs ys ws (λ i lt. plain (suc i) (omega (arith, lt))) (λ i lt. none (suc i) (omega (arith, lt))) (ap (drop 1) e))

colon_there : (xs ys : List ℕ) → get_or (xs ++ (58 ∷ ys)) (length xs) 0 ≡ 58
colon_there [] ys = refl
colon_there (x ∷ xs) ys = colon_there xs ys

colon_within : (xs ys : List ℕ) → length xs < length (xs ++ (58 ∷ ys))
colon_within [] ys = omega arith
colon_within (x ∷ xs) ys = let rest = colon_within xs ys in omega (arith, rest)

no_colon : (n : ℕ) → n < 2 ^ 64 → (i : ℕ) → i < length (decimal n) → get_or (decimal n) i 0 ≢ 58
no_colon n lt = digits_lack (decimal n) (decimal_is_IsNumeral n lt).0.1

-- after digits and a colon
pub leads_digits : (rest digits after : List ℕ) → rest ≡ digits ++ (58 ∷ after) → ((i : ℕ) → i < length digits → get_or digits i 0 ≢ 58) → LeadsOn rest (digits ++ (59 ∷ []))
leads_digits rest digits after is none n other lt (more, there) le =
    elim (cases_Bool (is_gt (slice_cmp nat_cmp (digits ++ (59 ∷ [])) other))) [
      | inl past ↦
          let own = digits_between digits after other (subst (λ (l : List ℕ). IsUpTo l other) is le) past in
          let same : digits ≡ decimal n = one_cut digits (decimal n) own.0 more none (no_colon n lt) (sym own.1 ∙ there) in
          inr (after, is ∙ ap (λ (l : List ℕ). l ++ (58 ∷ after)) same)
      | inr on ↦ inl on
    ]

-- after a text without a colon
pub leads_plain : (rest : List ℕ) → ((i : ℕ) → i < length rest → get_or rest i 0 ≢ 58) → LeadsOn rest (rest ++ (0 ∷ []))
leads_plain rest none n other lt (more, there) le =
    inl (right_after rest other le
    (λ same.
    let text : decimal n ++ (58 ∷ more) ≡ rest = sym there ∙ same in
    none (length (decimal n)) (subst (λ (l : List ℕ). length (decimal n) < length l) text (colon_within (decimal n) more))
    (ap (λ (l : List ℕ). get_or l (length (decimal n)) 0) (sym text) ∙ colon_there (decimal n) more)))

-- ---- keys of a set

-- whether a key has these bytes
abbrev pub Matches : List ℕ → String Global → Bool
Matches bs k = is_at (λ k. slice_cmp nat_cmp bs (string_bytes k)) k

pub found_by : (bs : List ℕ) (k : String Global) (rest : Bool) (b : Bool) → Matches bs k ≡ b → (b || rest) ≡ true → (bs ≡ string_bytes k) ⊎ (rest ≡ true)
found_by bs k rest true here e = inl ((bytes_eq-Decides bs (string_bytes k)).0 (sym (is_eq-slice_cmp bs (string_bytes k)) ∙ here))
found_by bs k rest false here e = inr e

pub found_text : (bs : List ℕ) (ks : List (String Global)) → list_any (Matches bs) ks ≡ true → (k : String Global) × (bs ≡ string_bytes k)
found_text bs [] e = let never : false ≡ true = e in absurd cc
found_text bs (k ∷ ks) e =
    elim (found_by bs k (list_any (Matches bs) ks) (Matches bs k) refl e) [
      | inl here ↦ (k, here)
      | inr later ↦ found_text bs ks later
    ]

-- the first key of a range is the first from its start on
pub range_first : (accepted : Accepted) (from : String Global) (start : List ℕ) (r : List (String Global)) (k : String Global) (t : List (String Global)) → string_bytes from ≡ start
    → IsKeyRangeOf string_cmp (Included from) Unbounded accepted.keys r → r ≡ k ∷ t
    → (has_key accepted (string_bytes k) ≡ true) × IsUpTo start (string_bytes k) × ((q : List ℕ) → has_key accepted q ≡ true → IsUpTo start q → IsUpTo (string_bytes k) q)
range_first accepted from start r k t is ranges first =
    let own = subst (λ (l : List (String Global)). IsKeyRangeOf string_cmp (Included from) Unbounded accepted.keys l) first ranges in (
      own.1.1,
      subst (λ (l : List ℕ). IsUpTo l (string_bytes k)) is own.1.0.0,
      λ q has le.
          let there = found_text q accepted.keys.keys has in
          let within : IsUpTo (string_bytes from) (string_bytes there.0) = subst (λ (l : List ℕ). IsUpTo l (string_bytes there.0)) (sym is) (subst (λ (l : List ℕ). IsUpTo start l) there.1 le) in
          let same : has_key accepted (string_bytes there.0) ≡ true = ap (has_key accepted) (sym there.1) ∙ has in
          subst (λ (l : List ℕ). IsUpTo (string_bytes k) l) (sym there.1) (own.2 there.0 (within, tt) same),
    )

-- and where it has none there is none
pub range_none : (accepted : Accepted) (from : String Global) (start : List ℕ) (r : List (String Global)) → string_bytes from ≡ start
    → IsKeyRangeOf string_cmp (Included from) Unbounded accepted.keys r → r ≡ [] → (q : List ℕ) → has_key accepted q ≡ true → ¬ IsUpTo start q
range_none accepted from start r is ranges none q has le =
    let there = found_text q accepted.keys.keys has in
    let within : IsUpTo (string_bytes from) (string_bytes there.0) = subst (λ (l : List ℕ). IsUpTo l (string_bytes there.0)) (sym is) (subst (λ (l : List ℕ). IsUpTo start l) there.1 le) in
    let never : has_key accepted (string_bytes there.0) ≡ false = ranges.5 none there.0 (within, tt) in
    let same : has_key accepted (string_bytes there.0) ≡ true = ap (has_key accepted) (sym there.1) ∙ has in
    true≢false (sym same ∙ never)

-- so what comes after a front in the first key is the first such text
pub first_text : (accepted : Accepted) (front rest key : List ℕ) (r : Option (Bor (List ℕ)))
    → MatchOption r (LacksTextAt front key 0) (λ x. (n : ℕ) × FindsTextPrefix front key (Some n) × (x.now ≡ drop n key) × (length x.now + n ≡ length key))
    → has_key accepted key ≡ true → IsUpTo (front ++ rest) key → ((q : List ℕ) → has_key accepted q ≡ true → IsUpTo (front ++ rest) q → IsUpTo key q)
    → MatchOption r (NoneAfter accepted front rest) (λ text. IsFirstAfter accepted front rest text.now)
first_text accepted front rest key None lacks has le first = λ other there from.
    let above : IsUpTo key (front ++ other) = first (front ++ other) there (ap is_gt (same_front front rest other) ∙ from) in
    let begun : IsUpTo front key = upto nat_list_cmp_total front (front ++ rest) key (front_first front rest) le in
    let so = begins_so front other key begun above in
    lacks so.0 so.1
first_text accepted front rest key (Some x) (n, found, is, long) has le first =
    let text : key ≡ front ++ x.now = found.1 ∙ ap (λ (l : List ℕ). front ++ l) (sym is) in
    record {
      there = ap (has_key accepted) (sym text) ∙ has;
      from = ap is_gt (sym (same_front front rest x.now)) ∙ subst (λ (l : List ℕ). IsUpTo (front ++ rest) l) text le;
      first = λ other there from.
          ap is_gt (sym (same_front front x.now other))
          ∙ subst (λ (l : List ℕ). IsUpTo l (front ++ other)) text (first (front ++ other) there (ap is_gt (same_front front rest other) ∙ from));
    }

-- ---- how many keys are left

-- a key counts if it does not come before the text
weigh : Bool → ℕ
weigh is_past = if is_past then 0 else 1

-- how many keys come from the text on
pub count_from : List ℕ → List (String Global) → ℕ
count_from a [] = 0
count_from a (k ∷ ks) = weigh (is_gt (slice_cmp nat_cmp a (string_bytes k))) + count_from a ks

weigh_less : (g h : Bool) → (g ≡ false → h ≡ false) → weigh g ≤ weigh h
unfolding weigh
weigh_less true h f = omega arith
weigh_less false true f = absurd (true≢false (f refl))
weigh_less false false f = omega arith

above_upto : (a b : List ℕ) → IsAbove b a → IsUpTo a b
above_upto a b above = ap is_gt above

one_no_more : (a b k : List ℕ) → IsAbove b a → weigh (is_gt (slice_cmp nat_cmp b k)) ≤ weigh (is_gt (slice_cmp nat_cmp a k))
one_no_more a b k above = weigh_less (is_gt (slice_cmp nat_cmp b k)) (is_gt (slice_cmp nat_cmp a k)) (λ le. upto nat_list_cmp_total a b k (above_upto a b above) le)

no_more : (a b : List ℕ) (ks : List (String Global)) → IsAbove b a → count_from b ks ≤ count_from a ks
unfolding count_from
no_more a b [] above = omega arith
no_more a b (k ∷ ks) above = let one = one_no_more a b (string_bytes k) above in let rest = no_more a b ks above in omega (arith, one, rest)

own_weight : (a b k : List ℕ) → IsAbove b a → a ≡ k → (weigh (is_gt (slice_cmp nat_cmp b k)) ≡ 0) × (weigh (is_gt (slice_cmp nat_cmp a k)) ≡ 1)
unfolding weigh
own_weight a b k above same = (
  ap (λ (l : List ℕ). weigh (is_gt (slice_cmp nat_cmp b l))) (sym same) ∙ ap (λ (o : Ordering). weigh (is_gt o)) (nat_list_cmp_total.antisymm b a ∙ ap ordering_reverse above),
  ap (λ (l : List ℕ). weigh (is_gt (slice_cmp nat_cmp a l))) (sym same) ∙ ap (λ (o : Ordering). weigh (is_gt o)) (tied_itself nat_list_cmp_total a),
)

-- fewer come from a later one on, if the first is a key
fewer : (a b : List ℕ) (ks : List (String Global)) → IsAbove b a → list_any (Matches a) ks ≡ true → count_from b ks < count_from a ks
unfolding count_from
fewer a b [] above has = let never : false ≡ true = has in absurd cc
fewer a b (k ∷ ks) above has =
    elim (found_by a k (list_any (Matches a) ks) (Matches a k) refl has) [
      | inl here ↦ let own = own_weight a b (string_bytes k) above here in let rest = no_more a b ks above in omega (arith, own.0, own.1, rest)
      | inr later ↦ let one = one_no_more a b (string_bytes k) above in let rest = fewer a b ks above later in omega (arith, one, rest)
    ]

-- ---- the loop over the keys with a front

-- the text comes from what is left on
abbrev pub LeftFrom : Option (Bor (List ℕ)) → List ℕ → Type 0
LeftFrom None other = ⊥
LeftFrom (Some text) other = IsUpTo text.now other

-- what is left begins with a key
abbrev pub IsKeyAfter : Accepted → List ℕ → Option (Bor (List ℕ)) → Type 0
IsKeyAfter accepted front None = Unit
IsKeyAfter accepted front (Some text) = has_key accepted (front ++ text.now) ≡ true

-- the first text after the front, from `rest` on
abbrev pub IsNextText : Accepted → List ℕ → List ℕ → Option (Bor (List ℕ)) → Type 0
IsNextText accepted front rest found = MatchOption found (NoneAfter accepted front rest) (λ text. IsFirstAfter accepted front rest text.now)

-- the numbers have those of before, and each that a key has after the front, but for what is left
pub record HasReached (accepted : Accepted) (front old new : List ℕ) (rest : Option (Bor (List ℕ))) : Type 0 where
  pub keeps : (n : ℕ) → Contains old n → Contains new n
  pub names : (n : ℕ) (more : List ℕ) → n < 2 ^ 64 → has_key accepted (front ++ (decimal n ++ (58 ∷ more))) ≡ true → Contains new n ⊎ LeftFrom rest (decimal n ++ (58 ∷ more))
  pub begins : IsKeyAfter accepted front rest

key_after : (accepted : Accepted) (front rest : List ℕ) (found : Option (Bor (List ℕ))) → IsNextText accepted front rest found → IsKeyAfter accepted front found
key_after accepted front rest None none = tt
key_after accepted front rest (Some text) first = first.there

left_from : (accepted : Accepted) (front rest other : List ℕ) (found : Option (Bor (List ℕ))) → IsNextText accepted front rest found → has_key accepted (front ++ other) ≡ true → IsUpTo rest other → LeftFrom found other
left_from accepted front rest other None none has le = none other has le
left_from accepted front rest other (Some text) first has le = first.first other has le

pub reached_first : (accepted : Accepted) (front old : List ℕ) (found : Option (Bor (List ℕ))) → IsNextText accepted front [] found → HasReached accepted front old old found
reached_first accepted front old found next = record {
  keeps = λ n has. has;
  names = λ n more lt has. inr (left_from accepted front [] (decimal n ++ (58 ∷ more)) found next has (none_first (decimal n ++ (58 ∷ more))));
  begins = key_after accepted front [] found next;
}

pub reached_next : (accepted : Accepted) (front old mid new text next : List ℕ) (rest found : Option (Bor (List ℕ))) → ((other : List ℕ) → LeftFrom rest other → IsUpTo text other)
    → HasReached accepted front old mid rest → Pushes text mid new → LeadsOn text next → IsNextText accepted front next found → HasReached accepted front old new found
reached_next accepted front old mid new text next rest found from before pushes leads is = record {
  keeps = λ n has. pushes.0 n (before.keeps n has);
  names = λ n more lt has.
      elim (before.names n more lt has) [
        | inl there ↦ inl (pushes.0 n there)
        | inr left ↦ elim (leads n (decimal n ++ (58 ∷ more)) lt (more, refl) (from (decimal n ++ (58 ∷ more)) left)) [
          | inl on ↦ inr (left_from accepted front next (decimal n ++ (58 ∷ more)) found is has on)
          | inr here ↦ inl (pushes.1 n lt here)
        ]
      ];
  begins = key_after accepted front next found is;
}

pub reached_end : (accepted : Accepted) (front old new : List ℕ) (rest : Option (Bor (List ℕ))) → rest ≡ None → HasReached accepted front old new rest → NamesAfter accepted front old new
reached_end accepted front old new rest none reached = (
  reached.keeps,
  λ n more lt has.
      elim (reached.names n more lt has) [
        | inl there ↦ there
        | inr left ↦ absurd (subst (λ (r : Option (Bor (List ℕ))). LeftFrom r (decimal n ++ (58 ∷ more))) none left)
      ],
)

-- how many keys are left
abbrev pub keys_left : Accepted → List ℕ → Option (Bor (List ℕ)) → ℕ
keys_left accepted front None = 0
keys_left accepted front (Some text) = count_from (front ++ text.now) accepted.keys.keys

above_front : (front a b : List ℕ) → IsAbove b a → IsAbove (front ++ b) (front ++ a)
above_front front a b above = same_front front a b ∙ above

pub keys_fewer : (accepted : Accepted) (front text next : List ℕ) (found : Option (Bor (List ℕ))) → has_key accepted (front ++ text) ≡ true → IsAbove next text → IsNextText accepted front next found
    → keys_left accepted front found < count_from (front ++ text) accepted.keys.keys
keys_fewer accepted front text next None has above is =
    let some = fewer (front ++ text) (front ++ next) accepted.keys.keys (above_front front text next above) has in
    omega (arith, some)
keys_fewer accepted front text next (Some first) has above is =
    let later : IsAbove first.now text = below_by text next first.now (slice_cmp nat_cmp next first.now) refl above is.from in
    fewer (front ++ text) (front ++ first.now) accepted.keys.keys (above_front front text first.now later) has

-- what is so of a text is so of it in other words
pub if_text : {E : Type 0} (r : Result (String Global) E) (text : List ℕ) (Q : List ℕ → Type 0) → IfOk r (λ s. string_bytes s ≡ text) → Q text → IfOk r (λ s. Q (string_bytes s))
if_text (Ok s) text Q is q = subst Q (sym is) q
if_text (Err e) text Q is q = tt

-- ---- the loop over hazards

-- the members that keys of the first k kinds of hazards name
abbrev pub NamesFirst : Accepted → List (List ℕ) → ℕ → ℕ → List ℕ → Type 0
NamesFirst accepted es later k found =
    (earlier : ℕ) (hs : Hazards) → number_of hs < k → earlier < 2 ^ 64 → has_key accepted (fence_key es earlier later hs) ≡ true → Contains found earlier

-- one kind more
pub named_next : (accepted : Accepted) (es : List (List ℕ)) (later k : ℕ) (old new : List ℕ) → NamesFirst accepted es later k old → NamesAfter accepted (fence_front es later (hazards_by k)) old new
    → NamesFirst accepted es later (k + 1) new
named_next accepted es later k old new before after earlier hs lt small has =
    elim (cases_eq (number_of hs) k) [
      | inl same ↦
          let own : hazards_by k ≡ hs = ap hazards_by (sym same) ∙ by_number hs in
          let key : fence_key es earlier later hs ≡ fence_front es later (hazards_by k) ++ (decimal earlier ++ (58 ∷ (codes " " ++ entry_key (slice_get es earlier)))) =
          front_key es earlier later hs ∙ ap (λ (h : Hazards). fence_front es later h ++ (decimal earlier ++ (58 ∷ (codes " " ++ entry_key (slice_get es earlier))))) (sym own) in
          after.1 earlier (codes " " ++ entry_key (slice_get es earlier)) small (ap (has_key accepted) (sym key) ∙ has)
      | inr unlike ↦ after.0 earlier (before earlier hs (omega (arith, lt, unlike)) small has)
    ]

pub named_all : (accepted : Accepted) (es : List (List ℕ)) (later k : ℕ) (found : List ℕ) → 8 ≤ k → NamesFirst accepted es later k found → NamesEach accepted es later found
named_all accepted es later k found all first earlier hs small has =
    let few = few_numbers hs in
    first earlier hs (omega (arith, few, all)) small has
