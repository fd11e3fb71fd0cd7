-- Spans that are kept in words.
use Rattle.std.proofs.Common.{◌≡◌, ◌↔◌, ℕ, zero, suc, ◌+◌, ◌-◌, ◌*◌, ◌<◌, ◌≤◌, ◌⊎◌, inl, inr, List, [], ◌∷◌, ◌++◌, map, length, take, get_or, set, max, min, refl, sym, ap, ◌∙◌, subst, arith}
use Rattle.std.specs.List.{range_with_len}
use Rattle.std.proofs.lemmas.Bool.{cases_eq, cases_lt}
use Rattle.std.proofs.lemmas.List.{length-set, get_or-set_same, get_or-set_other, take_more}
use Rattle.dsa_descriptor.specs.declared.span.Span.{Span}
use Rattle.dsa_descriptor.specs.Spans.{InSome, InSpan}
use Rattle.dsa_tracker.specs.Kept.{InFirst, Touches, kept, kept_count, kept_span}

abbrev InRange : (ℕ → Span) → ℕ → ℕ → ℕ → Type 0
InRange f from n a = (i : ℕ) × (from ≤ i) × (i < from + n) × InSpan (f i) a

in_range_more : (f : ℕ → Span) (from n a : ℕ) → InSome (map f (range_with_len (from + 1) n)) a ↔ InRange f (from + 1) n a → InSome (map f (range_with_len from (suc n))) a ↔ InRange f from (suc n) a
in_range_more f from n a later = (there, back)
  where
    there : InSome (map f (range_with_len from (suc n))) a → InRange f from (suc n) a
    there (inl here) = (from, omega arith, omega arith, here)
    there (inr h) =
        let r = later.0 h in
        let le = r.1 in
        let lt = r.2 in
        (r.0, omega (arith, le), omega (arith, lt), r.3)

    back : InRange f from (suc n) a → InSome (map f (range_with_len from (suc n))) a
    back h =
        let le = h.1 in
        let lt = h.2 in
        elim (cases_eq h.0 from) [
          | inl same ↦ inl (subst (λ i. InSpan (f i) a) same h.3)
          | inr apart ↦ inr (later.1 (h.0, omega (arith, le, apart), omega (arith, lt), h.3))
        ]

in_range : (f : ℕ → Span) (from n a : ℕ) → InSome (map f (range_with_len from n)) a ↔ InRange f from n a
in_range f from zero a = (λ h. absurd h, λ h. let le = h.1 in let lt = h.2 in absurd (omega (arith, le, lt)))
in_range f from (suc n) a = in_range_more f from n a (in_range f (from + 1) n a)

pub count_is : (store : List ℕ) (n : ℕ) → get_or store 0 0 ≡ n → 2 * n < length store → kept_count store ≡ n
count_is store n is room = omega (arith, is, room)

pub in_kept : (store : List ℕ) (n a : ℕ) → kept_count store ≡ n → InSome (kept store) a ↔ InFirst store n a
in_kept store n a is = (
  λ h. let r = (in_range (kept_span store) 0 (kept_count store) a).0 h in let lt = r.2 in (r.0, omega (arith, lt, is), r.3),
  λ h. let lt = h.1 in (in_range (kept_span store) 0 (kept_count store) a).1 (h.0, omega arith, omega (arith, lt, is), h.2),
)

pub none_kept : (store : List ℕ) → get_or store 0 0 ≡ 0 → (a : ℕ) → InSome (kept store) a → ⊥
none_kept store none a h = let at = (in_kept store 0 a (omega (arith, none))).0 h in let lt = at.1 in omega (arith, lt)

-- the addresses of the span of an index, by its words
pub span_here : (store : List ℕ) (i first last a : ℕ) → get_or store (1 + 2 * i) 0 ≡ first → get_or store (2 + 2 * i) 0 ≡ last → InSpan (kept_span store i) a ↔ ((first ≤ a) × (a ≤ last))
span_here store i first last a first_is last_is = (
  λ h. let le = h.0 in let lt = h.1 in (omega (arith, le, first_is), omega (arith, le, lt, first_is, last_is)),
  λ h. let le = h.0 in let le' = h.1 in (omega (arith, le, first_is), omega (arith, le, le', first_is, last_is)),
)

-- a span with the same words
same_span : (store new : List ℕ) (i a : ℕ) → get_or new (1 + 2 * i) 0 ≡ get_or store (1 + 2 * i) 0 → get_or new (2 + 2 * i) 0 ≡ get_or store (2 + 2 * i) 0 → InSpan (kept_span new i) a ↔ InSpan (kept_span store i) a
same_span store new i a first_is last_is = (
  λ h. (span_here store i (get_or store (1 + 2 * i) 0) (get_or store (2 + 2 * i) 0) a refl refl).1 ((span_here new i (get_or store (1 + 2 * i) 0) (get_or store (2 + 2 * i) 0) a first_is last_is).0 h),
  λ h. (span_here new i (get_or store (1 + 2 * i) 0) (get_or store (2 + 2 * i) 0) a first_is last_is).1 ((span_here store i (get_or store (1 + 2 * i) 0) (get_or store (2 + 2 * i) 0) a refl refl).0 h),
)

-- a span is added at the end
module _ (store : List ℕ) (held first last : ℕ) (room : 2 * held + 2 < length store) where
  abbrev one : List ℕ
  one = set store (2 * held + 1) first

  abbrev new : List ℕ
  new = set one (2 * held + 2) last

  len_one : length one ≡ length store
  len_one = length-set store (2 * held + 1) first

  same_word : (k : ℕ) → k < 2 * held + 1 → get_or new k 0 ≡ get_or store k 0
  same_word k below =
      get_or-set_other one (2 * held + 2) k last 0 (λ e. omega (arith, below, e))
      ∙ get_or-set_other store (2 * held + 1) k first 0 (λ e. omega (arith, below, e))

  first_now : get_or new (1 + 2 * held) 0 ≡ first
  first_now =
      get_or-set_other one (2 * held + 2) (1 + 2 * held) last 0 (λ e. omega (arith, e))
      ∙ ap (λ (k : ℕ). get_or one k 0) (omega arith)
      ∙ get_or-set_same store (2 * held + 1) first 0 (omega (arith, room))

  last_now : get_or new (2 + 2 * held) 0 ≡ last
  last_now = ap (λ (k : ℕ). get_or new k 0) (omega arith) ∙ get_or-set_same one (2 * held + 2) last 0 (omega (arith, room, len_one))

  old_span : (i a : ℕ) → i < held → InSpan (kept_span new i) a ↔ InSpan (kept_span store i) a
  old_span i a lt = same_span store new i a (same_word (1 + 2 * i) (omega (arith, lt))) (same_word (2 + 2 * i) (omega (arith, lt)))

  pub added : (a : ℕ) → InFirst new (held + 1) a ↔ (InFirst store held a ⊎ ((first ≤ a) × (a ≤ last)))
  added a = (there, back)
    where
      there : InFirst new (held + 1) a → InFirst store held a ⊎ ((first ≤ a) × (a ≤ last))
      there at =
          let lt = at.1 in
          elim (cases_eq at.0 held) [
            | inl same ↦ inr ((span_here new held first last a first_now last_now).0 (subst (λ i. InSpan (kept_span new i) a) same at.2))
            | inr apart ↦
                let low : at.0 < held = omega (arith, lt, apart) in
                inl (at.0, low, (old_span at.0 a low).0 at.2)
          ]

      back : InFirst store held a ⊎ ((first ≤ a) × (a ≤ last)) → InFirst new (held + 1) a
      back (inl at) = let lt = at.1 in (at.0, omega (arith, lt), (old_span at.0 a lt).1 at.2)
      back (inr h) = (held, omega arith, (span_here new held first last a first_now last_now).1 h)

-- the last span is made longer
module _ (store : List ℕ) (first last n : ℕ) (room : 2 * n + 2 < length store) where
  abbrev longer : List ℕ
  longer = set store (2 * (n + 1)) last

  abbrev from : ℕ
  from = get_or store (1 + 2 * n) 0

  other_word : (k : ℕ) → k < 2 * n + 2 → get_or longer k 0 ≡ get_or store k 0
  other_word k below = get_or-set_other store (2 * (n + 1)) k last 0 (λ e. omega (arith, below, e))

  end_now : get_or longer (2 + 2 * n) 0 ≡ last
  end_now = ap (λ (k : ℕ). get_or longer k 0) (omega arith) ∙ get_or-set_same store (2 * (n + 1)) last 0 (omega (arith, room))

  still : (i a : ℕ) → i < n → InSpan (kept_span longer i) a ↔ InSpan (kept_span store i) a
  still i a lt = same_span store longer i a (other_word (1 + 2 * i) (omega (arith, lt))) (other_word (2 + 2 * i) (omega (arith, lt)))

  last_is : (a : ℕ) → InSpan (kept_span longer n) a ↔ ((from ≤ a) × (a ≤ last))
  last_is a = span_here longer n from last a (other_word (1 + 2 * n) (omega arith)) end_now

  pub joined : get_or store (2 + 2 * n) 0 + 1 ≡ first → from ≤ get_or store (2 + 2 * n) 0 → first ≤ last → (a : ℕ) → InFirst longer (n + 1) a ↔ (InFirst store (n + 1) a ⊎ ((first ≤ a) × (a ≤ last)))
  joined next ordered some a = (there, back)
    where
      ended : InSpan (kept_span store n) a ↔ ((from ≤ a) × (a ≤ get_or store (2 + 2 * n) 0))
      ended = span_here store n from (get_or store (2 + 2 * n) 0) a refl refl

      there : InFirst longer (n + 1) a → InFirst store (n + 1) a ⊎ ((first ≤ a) × (a ≤ last))
      there at =
          let lt = at.1 in
          elim (cases_eq at.0 n) [
            | inl same ↦
                let here = (last_is a).0 (subst (λ i. InSpan (kept_span longer i) a) same at.2) in
                let le = here.0 in
                elim (cases_lt a first) [
                  | inl before ↦ inl (n, omega arith, ended.1 (le, omega (arith, before, next)))
                  | inr after ↦ inr (omega (arith, after), here.1)
                ]
            | inr apart ↦
                let low : at.0 < n = omega (arith, lt, apart) in
                inl (at.0, lt, (still at.0 a low).0 at.2)
          ]

      back : InFirst store (n + 1) a ⊎ ((first ≤ a) × (a ≤ last)) → InFirst longer (n + 1) a
      back (inl at) =
          let lt = at.1 in
          elim (cases_eq at.0 n) [
            | inl same ↦
                let here = ended.0 (subst (λ i. InSpan (kept_span store i) a) same at.2) in
                let le = here.0 in
                let le' = here.1 in
                (n, omega arith, (last_is a).1 (le, omega (arith, le', next, some)))
            | inr apart ↦
                let low : at.0 < n = omega (arith, lt, apart) in
                (at.0, lt, (still at.0 a low).1 at.2)
          ]
      back (inr h) =
          let le = h.0 in
          (n, omega arith, (last_is a).1 (omega (arith, le, next, ordered), h.1))

-- the same, where the number of spans is at hand
pub joined_at :
    (store : List ℕ) (first last count : ℕ) → 0 < count → 2 * count + 2 < length store → get_or store (2 * count) 0 + 1 ≡ first →
    get_or store (2 * count - 1) 0 ≤ get_or store (2 * count) 0 → first ≤ last →
    (a : ℕ) → InFirst (set store (2 * count) last) count a ↔ (InFirst store count a ⊎ ((first ≤ a) × (a ≤ last)))
joined_at store first last zero some room next ordered le a = absurd (omega (arith, some))
joined_at store first last (suc n) some room next ordered le a =
    let at : 2 * suc n ≡ 2 + 2 * n = omega arith in
    let before : 2 * suc n - 1 ≡ 1 + 2 * n = omega arith in
    let ends : get_or store (2 * suc n) 0 ≡ get_or store (2 + 2 * n) 0 = ap (λ (k : ℕ). get_or store k 0) at in
    let begins : get_or store (2 * suc n - 1) 0 ≡ get_or store (1 + 2 * n) 0 = ap (λ (k : ℕ). get_or store k 0) before in
    let same : n + 1 ≡ suc n = omega arith in
    subst (λ (k : ℕ). InFirst (set store (2 * k) last) k a ↔ (InFirst store k a ⊎ ((first ≤ a) × (a ≤ last)))) same
    (joined store first last n (omega (arith, room)) (omega (arith, next, ends)) (omega (arith, ordered, ends, begins)) le a)

-- the words of spans, once their number is written
pub counted : (store : List ℕ) (n : ℕ) → 2 * n < length store → (a : ℕ) → InSome (kept (set store 0 n)) a ↔ InFirst store n a
counted store n room a = (
  λ h. let at = (in_kept (set store 0 n) n a now).0 h in (at.0, at.1, (same at.0).0 at.2),
  λ h. (in_kept (set store 0 n) n a now).1 (h.0, h.1, (same h.0).1 h.2),
)
  where
    now : kept_count (set store 0 n) ≡ n
    now = count_is (set store 0 n) n (get_or-set_same store 0 n 0 (omega (arith, room))) (let len = length-set store 0 n in omega (arith, len, room))

    same : (i : ℕ) → InSpan (kept_span (set store 0 n) i) a ↔ InSpan (kept_span store i) a
    same i = same_span store (set store 0 n) i a (get_or-set_other store 0 (1 + 2 * i) n 0 (λ e. omega (arith, e))) (get_or-set_other store 0 (2 + 2 * i) n 0 (λ e. omega (arith, e)))

-- a span, by its first and its last address
pub range_is : (first len a : ℕ) → (len ≡ 0 → ⊥) → ((first ≤ a) × (a ≤ first + (len - 1))) ↔ ((first ≤ a) × (a < first + len))
range_is first len a some = (
  λ h. let le = h.1 in (h.0, omega (arith, le, some)),
  λ h. let lt = h.1 in (h.0, omega (arith, lt, some)),
)

pub then_same : {A B C : Type 0} → A ↔ B → B ↔ C → A ↔ C
then_same one two = (λ a. two.0 (one.0 a), λ c. one.1 (two.1 c))

pub through : {A B C D E : Type 0} → A ↔ B → B ↔ (C ⊎ D) → E ↔ C → A ↔ (E ⊎ D)
through one two three = (
  λ a. elim (two.0 (one.0 a)) [ inl c ↦ inl (three.1 c) | inr d ↦ inr d ],
  λ h. one.1 (two.1 (elim h [ inl e ↦ inl (three.0 e) | inr d ↦ inr d ])),
)

pub second_way : {A B C D : Type 0} → A ↔ (B ⊎ C) → C ↔ D → A ↔ (B ⊎ D)
second_way whole part = (
  λ h. elim (whole.0 h) [ inl b ↦ inl b | inr x ↦ inr (part.0 x) ],
  λ h. elim h [ inl b ↦ whole.1 (inl b) | inr x ↦ whole.1 (inr (part.1 x)) ],
)

-- one of the first n kept spans has an address from the first to the last
abbrev pub TouchesBelow : List ℕ → ℕ → ℕ → ℕ → Type 0
TouchesBelow store first last n = (a : ℕ) × (first ≤ a) × (a ≤ last) × (i : ℕ) × (i < n) × InSpan (kept_span store i) a

module _ (store : List ℕ) (first last i low high : ℕ) (low_is : low ≡ max first (get_or store (2 * i + 1) 0)) (high_is : high ≡ min last (get_or store (2 * i + 2) 0)) where
  here : (a : ℕ) → InSpan (kept_span store i) a ↔ ((get_or store (2 * i + 1) 0 ≤ a) × (a ≤ get_or store (2 * i + 2) 0))
  here a = span_here store i (get_or store (2 * i + 1) 0) (get_or store (2 * i + 2) 0) a (ap (λ (k : ℕ). get_or store k 0) (omega arith)) (ap (λ (k : ℕ). get_or store k 0) (omega arith))

  pub touch_here : low ≤ high → TouchesBelow store first last (i + 1)
  touch_here le = (low, omega (arith, low_is), omega (arith, le, high_is), i, omega arith, (here low).1 (omega (arith, low_is), omega (arith, le, high_is)))

  pub touch_earlier : high < low → TouchesBelow store first last (i + 1) → TouchesBelow store first last i
  touch_earlier lt h =
      let le = h.1 in
      let le' = h.2 in
      let below = h.4 in
      elim (cases_eq h.3 i) [
        | inl same ↦
            let in_it = (here h.0).0 (subst (λ k. InSpan (kept_span store k) h.0) same h.5) in
            let from = in_it.0 in
            let to = in_it.1 in
            absurd (omega (arith, lt, low_is, high_is, le, le', from, to))
        | inr apart ↦ (h.0, le, le', h.3, omega (arith, below, apart), h.5)
      ]

pub touch_later : (store : List ℕ) (first last i : ℕ) → TouchesBelow store first last i → TouchesBelow store first last (i + 1)
touch_later store first last i h = let lt = h.4 in (h.0, h.1, h.2, h.3, omega (arith, lt), h.5)

pub touched : (store : List ℕ) (first last n : ℕ) → kept_count store ≡ n → TouchesBelow store first last n ↔ Touches store first last
touched store first last n is = (
  λ h. (h.0, h.1, h.2, (in_kept store n h.0 is).1 (h.3, h.4, h.5)),
  λ h. let at = (in_kept store n h.0 is).0 h.3 in (h.0, h.1, h.2, at.0, at.1, at.2),
)

-- spans and one more
pub in_one_more : (spans : List Span) (s : Span) (a : ℕ) → InSome (spans ++ s ∷ []) a ↔ (InSome spans a ⊎ InSpan s a)
in_one_more [] s a = (λ h. elim h [ inl here ↦ inr here | inr none ↦ absurd none ], λ h. elim h [ inl none ↦ absurd none | inr here ↦ inl here ])
in_one_more (t ∷ ts) s a =
    let rest = in_one_more ts s a in (
      λ h. elim h [ inl first ↦ inl (inl first) | inr later ↦ elim (rest.0 later) [ inl some ↦ inl (inr some) | inr last ↦ inr last ] ],
      λ h. elim h [ inl some ↦ elim some [ inl first ↦ inl first | inr later ↦ inr (rest.1 (inl later)) ] | inr last ↦ inr (rest.1 (inr last)) ],
    )

pub in_taken : (spans : List Span) (i : ℕ) (d : Span) (a : ℕ) → i < length spans → InSome (take (i + 1) spans) a ↔ (InSome (take i spans) a ⊎ InSpan (get_or spans i d) a)
in_taken spans i d a lt = subst (λ xs. InSome xs a ↔ (InSome (take i spans) a ⊎ InSpan (get_or spans i d) a)) (sym (take_more spans i d lt)) (in_one_more (take i spans) (get_or spans i d) a)
