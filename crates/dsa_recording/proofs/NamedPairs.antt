-- The members that the key of a missing fence names.
use Rattle.std.proofs.Common.{◌≡◌, ◌≢◌, ℕ, zero, suc, ◌+◌, ◌<◌, ◌^◌, Bool, true, false, List, [], ◌∷◌, ◌++◌, Option, length, get_or, slice_get, sym, ap, refl, ◌∙◌, arith, append_assoc}
use Rattle.std.specs.Prelude.{MatchOption, codes, decimal}
use Rattle.std.specs.Char.{digit_value}
use Rattle.std.specs.Str.Parse.{AllDigits}
use Rattle.std.proofs.lemmas.Fmt.{decimal_is_IsNumeral}
use Rattle.std.proofs.lemmas.Str.Pattern.{IsSplitOnceResult, split_after}
use denote.Ref.{Bor}
use Rattle.dsa_audit.specs.declared.hazard.Hazards.{Hazards}
use Rattle.dsa_recording.specs.EntryKeys.{batch_key, entry_key, fence_front, fence_key, fence_words, member_key}
use Rattle.dsa_recording.specs.Pairs.{hazards_by}

-- digits have no colon
pub digits_lack : (ds : List ℕ) → AllDigits 10 ds → (i : ℕ) → i < length ds → get_or ds i 0 ≢ 58
digits_lack [] all i lt = absurd (omega (arith, lt))
digits_lack (d ∷ ds) all zero lt = λ e. omega (arith, ap digit_value e, all.0)
digits_lack (d ∷ ds) all (suc i) lt = digits_lack ds all.1 i (omega (arith, lt))

-- a text is cut after a number
pub number_cut : (text rest : List ℕ) (n : ℕ) (r : Option (Bor (List ℕ) × Bor (List ℕ))) → IsSplitOnceResult 58 text r → n < 2 ^ 64 → text ≡ decimal n ++ (58 ∷ rest)
    → MatchOption r ⊥ (λ x. (x.0.now ≡ decimal n) × (x.1.now ≡ rest))
number_cut text rest n r cut lt e =
    split_after 58 text (decimal n) rest r cut (omega arith) e (digits_lack (decimal n) (decimal_is_IsNumeral n lt).0.1)

member_last : (es : List (List ℕ)) (m : ℕ) → member_key es 0 m ≡ codes "; member " ++ (decimal m ++ (58 ∷ (codes " " ++ entry_key (slice_get es m))))
member_last es m =
    let start : 0 + m ≡ m = omega arith in
    ap (λ (i : ℕ). codes "; member " ++ (decimal m ++ (codes ": " ++ entry_key (slice_get es i)))) start

-- the number of the earlier member comes after the front
pub front_key : (es : List (List ℕ)) (earlier later : ℕ) (hs : Hazards)
    → fence_key es earlier later hs ≡ fence_front es later hs ++ (decimal earlier ++ (58 ∷ (codes " " ++ entry_key (slice_get es earlier))))
front_key es earlier later hs =
    let w : List ℕ = decimal earlier ++ (58 ∷ (codes " " ++ entry_key (slice_get es earlier))) in
    ap (λ (l : List ℕ). fence_words hs ++ (batch_key (length es) ++ (member_key es 0 later ++ l))) (member_last es earlier)
    ∙ sym (append_assoc (fence_words hs) (batch_key (length es) ++ (member_key es 0 later ++ codes "; member ")) w
    ∙ ap (λ (l : List ℕ). fence_words hs ++ l)
    (append_assoc (batch_key (length es)) (member_key es 0 later ++ codes "; member ") w
    ∙ ap (λ (l : List ℕ). batch_key (length es) ++ l) (append_assoc (member_key es 0 later) (codes "; member ") w)))

-- ---- the number of hazards

bit : Bool → ℕ → ℕ
bit true n = n
bit false n = 0

-- a bit for each
pub number_of : Hazards → ℕ
number_of hs = bit hs.read_after_write 1 + (bit hs.write_after_write 2 + bit hs.write_after_read 4)

by_bits : (a b c : Bool) → hazards_by (bit a 1 + (bit b 2 + bit c 4)) ≡ record { read_after_write = a; write_after_write = b; write_after_read = c }
unfolding bit
by_bits true true true = refl
by_bits true true false = refl
by_bits true false true = refl
by_bits true false false = refl
by_bits false true true = refl
by_bits false true false = refl
by_bits false false true = refl
by_bits false false false = refl

pub by_number : (hs : Hazards) → hazards_by (number_of hs) ≡ hs
unfolding number_of
by_number hs = by_bits hs.read_after_write hs.write_after_write hs.write_after_read

few_bits : (a b c : Bool) → bit a 1 + (bit b 2 + bit c 4) < 8
unfolding bit
few_bits true true true = omega arith
few_bits true true false = omega arith
few_bits true false true = omega arith
few_bits true false false = omega arith
few_bits false true true = omega arith
few_bits false true false = omega arith
few_bits false false true = omega arith
few_bits false false false = omega arith

pub few_numbers : (hs : Hazards) → number_of hs < 8
unfolding number_of
few_numbers hs = few_bits hs.read_after_write hs.write_after_write hs.write_after_read
