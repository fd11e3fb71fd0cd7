-- Pieces that share no address, and last conflicts that are noted by units of addresses.
use Rattle.std.proofs.Common.{◌≡◌, ℕ, ◌+◌, ◌-◌, ◌/◌, ◌^◌, ◌<◌, ◌≤◌, List, length, set, refl, sym, ap, subst, ◌∙◌, arith, inl, inr, ◌⊎◌}
use Rattle.std.specs.Prelude.{Option, Some, None, slice_get, slice_index}
use Rattle.std.proofs.Math.Pow.{shr_mono}
use Rattle.std.proofs.lemmas.Bool.{cases_lt, cases_eq}
use Rattle.std.proofs.lemmas.List.{get_or-set_same, get_or-set_other, length-set}
use Rattle.std.proofs.lemmas.Option.{same_Some, slice_get_within, get_or_from_slice_get}
use Rattle.dsa_descriptor.specs.Fields.{Fields}
use Rattle.dsa_descriptor.specs.Data.{sources, targets, record_span}
use Rattle.dsa_descriptor.specs.Spans.{InSome, InSpan}
use Rattle.dsa_ranges.specs.Ranges.{ConflictAt, Conflicts, WritesInto, read_spans, written_spans}
use Rattle.dsa_conflicts.specs.Last.{HasLasts, IsBack, IsLast}
use Rattle.dsa_conflicts.specs.Overlaps.{last_at}
use Rattle.dsa_conflicts.specs.Spread.{AreNoted, DataConflict, DataConflictAt, HasData, HasRecord, IsNoted, NoneConflict, key_of}

-- an address of a range of two units at most lies in the first or in the last
by_unit : (P : ℕ → Type 0) (s a b x : ℕ) → a ≤ x → x ≤ b → b / 2 ^ s - a / 2 ^ s ≤ 1 → P (a / 2 ^ s) → P (b / 2 ^ s) → P (x / 2 ^ s)
by_unit P s a b x low high near first last =
    let l = shr_mono s low in
    let h = shr_mono s high in
    elim (cases_eq (x / 2 ^ s) (a / 2 ^ s)) [
      | inl same ↦ subst P (sym same) first
      | inr apart ↦
          let same : b / 2 ^ s ≡ x / 2 ^ s = omega (arith, l, h, near, apart) in
          subst P same last
    ]

-- one piece more
module _ (fs : List Fields) (n : ℕ) (f : Fields) (at : slice_get fs n ≡ Some f) (s p p' q q' : ℕ) (its : (x : ℕ) → InSome (sources f.op f.size) x ⊎ InSome (targets f.op f.size) x → ((p ≤ x) × (x ≤ p')) ⊎ ((q ≤ x) × (x ≤ q'))) (p_near : p' / 2 ^ s - p / 2 ^ s ≤ 1) (q_near : q' / 2 ^ s - q / 2 ^ s ≤ 1) where
  data_here : (i x : ℕ) → i ≡ n → HasData fs i x → ((p ≤ x) × (x ≤ p')) ⊎ ((q ≤ x) × (x ≤ q'))
  data_here i x e (g, at_g, h) =
      let same : g ≡ f = same_Some g f (sym at_g ∙ ap (slice_get fs) e ∙ at) in
      its x (subst (λ (y : Fields). InSome (sources y.op y.size) x ⊎ InSome (targets y.op y.size) x) same h)

  record_here : (i x : ℕ) → i ≡ n → HasRecord fs i x → InSpan (record_span f.record_at) x
  record_here i x e (g, at_g, h) =
      let same : g ≡ f = same_Some g f (sym at_g ∙ ap (slice_get fs) e ∙ at) in
      subst (λ (y : Fields). InSpan (record_span y.record_at) x) same h

  unit_here : (P : ℕ → Type 0) → P (p / 2 ^ s) → P (p' / 2 ^ s) → P (q / 2 ^ s) → P (q' / 2 ^ s) → (i x : ℕ) → i ≡ n → HasData fs i x → P (x / 2 ^ s)
  unit_here P a b c d i x e h =
      elim (data_here i x e h) [
        | inl w ↦ by_unit P s p p' x w.0 w.1 p_near a b
        | inr w ↦ by_unit P s q q' x w.0 w.1 q_near c d
      ]

  -- its data conflicts with that of no piece whose stamp would be later than those of its units
  pub later_pieces : (stamps : List ℕ) (latest : ℕ) → slice_index stamps (key_of (p / 2 ^ s)) ≤ latest → slice_index stamps (key_of (p' / 2 ^ s)) ≤ latest → slice_index stamps (key_of (q / 2 ^ s)) ≤ latest → slice_index stamps (key_of (q' / 2 ^ s)) ≤ latest
      → ((i x : ℕ) → i < n → HasData fs i x → i < slice_index stamps (key_of (x / 2 ^ s))) → (other : ℕ) → latest ≤ other → other < n → DataConflictAt fs other n → ⊥
  later_pieces stamps latest a b c d held other late lt (f', g', at_f, at_g, conflict) =
      let never : (x : ℕ) → HasData fs other x → HasData fs n x → ⊥ = λ x h k. omega (arith, held other x lt h, late, unit_here (λ u. slice_index stamps (key_of u) ≤ latest) a b c d n x refl k) in
      elim conflict [
        | inl (x, writes, either) ↦ never x (f', at_f, inr writes) (g', at_g, either)
        | inr (x, writes, either) ↦ never x (f', at_f, either) (g', at_g, inr writes)
      ]

  module _ (stamps stamps' : List ℕ) (kept : (k : ℕ) → slice_index stamps k ≤ slice_index stamps' k) (most : (k : ℕ) → slice_index stamps' k ≤ n + 1) (set_a : n + 1 ≤ slice_index stamps' (key_of (p / 2 ^ s))) (set_b : n + 1 ≤ slice_index stamps' (key_of (p' / 2 ^ s))) (set_c : n + 1 ≤ slice_index stamps' (key_of (q / 2 ^ s))) (set_d : n + 1 ≤ slice_index stamps' (key_of (q' / 2 ^ s))) (low high from to low' high' from' to' : ℕ) (l0 : low' ≤ low) (l1 : low' ≤ p) (l2 : low' ≤ q) (h0 : high ≤ high') (h1 : p' ≤ high') (h2 : q' ≤ high') (r0 : from' ≤ from) (r1 : from' ≤ f.record_at) (r2 : to ≤ f.record_at) (r3 : to' ≡ f.record_at + 32)
      (lasts : List (Option ℕ)) (window : ℕ) (last : Option ℕ) (is_noted : IsNoted fs window n last) (within : n < length fs) (so_far : AreNoted fs stamps lasts window s low high from to n) where
    pub noted_more : AreNoted fs stamps' (set lasts n last) window s low' high' from' to' (n + 1)
    noted_more = record {
      held = λ i x lt h. elim (cases_lt i n) [
        | inl less ↦ omega (arith, so_far.held i x less h, kept (key_of (x / 2 ^ s)))
        | inr here ↦ omega (arith, here, lt, unit_here (λ u. n + 1 ≤ slice_index stamps' (key_of u)) set_a set_b set_c set_d i x (omega arith) h)
      ];
      most = most;
      noted = λ b lt. elim (cases_eq b n) [
        | inl here ↦
            let is : last_at (set lasts n last) n ≡ last = get_or-set_same lasts n last None (omega (arith, so_far.count)) in
            rw (here, is) is_noted
        | inr other ↦
            let is : last_at (set lasts n last) b ≡ last_at lasts b = get_or-set_other lasts n b last None other in
            rw is (so_far.noted b (omega (arith, other)))
      ];
      rest = λ b ge. get_or-set_other lasts n b last None (omega (arith, ge)) ∙ so_far.rest b (omega (arith, ge));
      count = length-set lasts n last ∙ so_far.count;
      data_within = λ i x lt h. elim (cases_lt i n) [
        | inl less ↦ let w = so_far.data_within i x less h in (omega (arith, w.0), omega (arith, w.1))
        | inr most ↦ elim (data_here i x (omega arith) h) [
          | inl w ↦ (omega (arith, w.0), omega (arith, w.1))
          | inr w ↦ (omega (arith, w.0), omega (arith, w.1))
        ]
      ];
      records_apart = λ i j x lt in_n h k. elim (cases_lt j n) [
        | inl less ↦ so_far.records_apart i j x lt less h k
        | inr most ↦
            let w = record_here j x (omega arith) k in
            let v = so_far.records_within i x (omega arith) h in
            omega (arith, w.0, v.1)
      ];
      records_within = λ i x lt h. elim (cases_lt i n) [
        | inl less ↦ let w = so_far.records_within i x less h in (omega (arith, w.0), omega (arith, w.1))
        | inr most ↦ let w = record_here i x (omega arith) h in (omega (arith, w.0), omega (arith, w.1))
      ];
    }

-- none yet
pub noted_none : (fs : List Fields) (stamps : List ℕ) (lasts : List (Option ℕ)) (window s low high from to : ℕ) → ((k : ℕ) → slice_index stamps k ≤ 0) → length lasts ≡ length fs → ((b : ℕ) → last_at lasts b ≡ None) → AreNoted fs stamps lasts window s low high from to 0
noted_none fs stamps lasts window s low high from to zeros count blank = record {
  most = zeros;
  held = λ i x lt h. absurd (omega arith);
  noted = λ b lt. absurd (omega arith);
  rest = λ b ge. blank b;
  count = count;
  data_within = λ i x lt h. absurd (omega arith);
  records_apart = λ i j x lt in_n h k. absurd (omega arith);
  records_within = λ i x lt h. absurd (omega arith);
}

-- of the first n pieces no two share an address of their data, or of their records; and between which addresses the data
-- and the records lie
pub record AreApart (fs : List Fields) (low high from to n : ℕ) : Type 0 where
  pub data_apart : (i j x : ℕ) → i < j → j < n → HasData fs i x → HasData fs j x → ⊥
  pub data_within : (i x : ℕ) → i < n → HasData fs i x → (low ≤ x) × (x < high)
  pub records_apart : (i j x : ℕ) → i < j → j < n → HasRecord fs i x → HasRecord fs j x → ⊥
  pub records_within : (i x : ℕ) → i < n → HasRecord fs i x → (from ≤ x) × (x < to)

-- with all records on one side of all data, none conflict
module _ (fs : List Fields) (low high from to : ℕ) (apart : AreApart fs low high from to (length fs)) (side : (to ≤ low) ⊎ (high ≤ from)) where
  aside : (i j x : ℕ) → i < length fs → j < length fs → HasRecord fs i x → HasData fs j x → ⊥
  aside i j x i_in j_in h k =
      let w = apart.records_within i x i_in h in
      let v = apart.data_within j x j_in k in
      elim side [
        | inl below ↦ omega (arith, w.1, v.0, below)
        | inr above ↦ omega (arith, w.0, v.1, above)
      ]

  both : (i j x : ℕ) → i < j → i < length fs → j < length fs → HasRecord fs i x ⊎ HasData fs i x → HasRecord fs j x ⊎ HasData fs j x → ⊥
  both i j x lt i_in j_in (inl a) (inl b) = apart.records_apart i j x lt j_in a b
  both i j x lt i_in j_in (inl a) (inr b) = aside i j x i_in j_in a b
  both i j x lt i_in j_in (inr a) (inl b) = aside j i x j_in i_in b a
  both i j x lt i_in j_in (inr a) (inr b) = apart.data_apart i j x lt j_in a b

  by_read : (i : ℕ) (d : Fields) (x : ℕ) → slice_get fs i ≡ Some d → InSome (read_spans d) x → HasRecord fs i x ⊎ HasData fs i x
  by_read i d x at h = inr (d, at, inl h)

  by_write : (i : ℕ) (d : Fields) (x : ℕ) → slice_get fs i ≡ Some d → InSome (written_spans d) x → HasRecord fs i x ⊎ HasData fs i x
  by_write i d x at (inl h) = inl (d, at, h)
  by_write i d x at (inr h) = inr (d, at, inr h)

  by_either : (i : ℕ) (d : Fields) (x : ℕ) → slice_get fs i ≡ Some d → InSome (read_spans d) x ⊎ InSome (written_spans d) x → HasRecord fs i x ⊎ HasData fs i x
  by_either i d x at (inl h) = by_read i d x at h
  by_either i d x at (inr h) = by_write i d x at h

  pub apart_none_conflict : NoneConflict fs
  apart_none_conflict i j lt (d, e, at_d, at_e, c) =
      let i_in = slice_get_within fs i d at_d in
      let j_in = slice_get_within fs j e at_e in
      elim c [
        | inl (x, writes, either) ↦ both i j x lt i_in j_in (by_write i d x at_d writes) (by_either j e x at_e either)
        | inr (x, writes, either) ↦ both i j x lt i_in j_in (by_either i d x at_d either) (by_write j e x at_e writes)
      ]

-- with all records on one side of all data, what is noted are the last conflicts
module _ (fs : List Fields) (stamps : List ℕ) (lasts : List (Option ℕ)) (window s low high from to : ℕ) (all : AreNoted fs stamps lasts window s low high from to (length fs)) (side : (to ≤ low) ⊎ (high < from)) where
  off_data : (i j x : ℕ) → i < length fs → j < length fs → HasRecord fs i x → HasData fs j x → ⊥
  off_data i j x i_in j_in h k =
      let w = all.records_within i x i_in h in
      let v = all.data_within j x j_in k in
      elim side [
        | inl below ↦ omega (arith, w.1, v.0, below)
        | inr above ↦ omega (arith, w.0, v.1, above)
      ]

  -- a conflict is one of data
  module _ (i j : ℕ) (lt : i < j) (d e : Fields) (at_d : slice_get fs i ≡ Some d) (at_e : slice_get fs j ≡ Some e) where
    i_in : i < length fs
    i_in = slice_get_within fs i d at_d

    j_in : j < length fs
    j_in = slice_get_within fs j e at_e

    first_writes : WritesInto (written_spans d) (read_spans e) (written_spans e) → DataConflict d e
    first_writes (x, inl record_d, inl reads) = absurd (off_data i j x i_in j_in (d, at_d, record_d) (e, at_e, inl reads))
    first_writes (x, inl record_d, inr (inl record_e)) = absurd (all.records_apart i j x lt j_in (d, at_d, record_d) (e, at_e, record_e))
    first_writes (x, inl record_d, inr (inr target)) = absurd (off_data i j x i_in j_in (d, at_d, record_d) (e, at_e, inr target))
    first_writes (x, inr writes, inl reads) = inl (x, writes, inl reads)
    first_writes (x, inr writes, inr (inl record_e)) = absurd (off_data j i x j_in i_in (e, at_e, record_e) (d, at_d, inr writes))
    first_writes (x, inr writes, inr (inr target)) = inl (x, writes, inr target)

    second_writes : WritesInto (written_spans e) (read_spans d) (written_spans d) → DataConflict d e
    second_writes (x, inl record_e, inl reads) = absurd (off_data j i x j_in i_in (e, at_e, record_e) (d, at_d, inl reads))
    second_writes (x, inl record_e, inr (inl record_d)) = absurd (all.records_apart i j x lt j_in (d, at_d, record_d) (e, at_e, record_e))
    second_writes (x, inl record_e, inr (inr target)) = absurd (off_data j i x j_in i_in (e, at_e, record_e) (d, at_d, inr target))
    second_writes (x, inr writes, inl reads) = inr (x, writes, inl reads)
    second_writes (x, inr writes, inr (inl record_d)) = absurd (off_data i j x i_in j_in (d, at_d, record_d) (e, at_e, inr writes))
    second_writes (x, inr writes, inr (inr target)) = inr (x, writes, inr target)

    of_data : Conflicts d e → DataConflict d e
    of_data (inl first) = first_writes first
    of_data (inr second) = second_writes second

  back_by_data : (b a : ℕ) → IsBack (ConflictAt fs) window b a → IsBack (DataConflictAt fs) window b a
  back_by_data b a back = record {
    before = back.before;
    within = back.within;
    conflict =
        let d = back.conflict.0 in
        let e = back.conflict.1 in
        (d, e, back.conflict.2, back.conflict.3, of_data a b back.before d e back.conflict.2 back.conflict.3 back.conflict.4);
  }

  is_last : (b : ℕ) (last : Option ℕ) → IsNoted fs window b last → IsLast fs window b last
  is_last b None none = λ other back. none other (back_by_data b other back)
  is_last b (Some a) (back, latest) = (back, λ other more. latest other (back_by_data b other more))

  pub noted_are_lasts : HasLasts fs window lasts
  noted_are_lasts = record {
    count = all.count;
    each = λ b last e.
        let within : b < length fs = omega (arith, slice_get_within lasts b last e, all.count) in
        is_last b last (subst (IsNoted fs window b) (get_or_from_slice_get lasts b last None e) (all.noted b within));
  }

-- where none conflict, no piece has a last conflict
pub none_are_lasts : (fs : List Fields) (window : ℕ) → NoneConflict fs → (lasts : List (Option ℕ)) → length lasts ≡ length fs → ((b : ℕ) → last_at lasts b ≡ None) → HasLasts fs window lasts
none_are_lasts fs window none lasts count nothing = record {
  count = count;
  each = λ b last e.
      let is : None ≡ last = sym (nothing b) ∙ get_or_from_slice_get lasts b last None e in
      subst (IsLast fs window b) is (λ other back. none other b back.before back.conflict);
}
