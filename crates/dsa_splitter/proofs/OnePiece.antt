-- An operation that is no longer than a piece may be: it may be split, and is its own only piece.
use Rattle.std.proofs.Common.{◌≡◌, ℕ, zero, suc, ◌+◌, ◌-◌, ◌*◌, ◌/◌, ◌%◌, ◌<◌, ◌≤◌, inl, inr, min, true, false, Bool, List, [], ◌∷◌, ◌++◌, map, reverse, refl, sym, ap, ◌∙◌, arith}
use Rattle.std.specs.Prelude.{slice_get, if◌then◌else◌}
use Rattle.std.specs.List.{AllByRecursion}
use Rattle.std.proofs.lemmas.Grind.{div_ceil_times}
use Rattle.std.proofs.lemmas.Option.{same_Some}
use Rattle.dsa_descriptor.specs.declared.descriptor.Descriptor.{Descriptor}
use Rattle.dsa_descriptor.specs.Descriptors.{fields}
use Rattle.dsa_descriptor.specs.declared.op.Op.{Op}
use Rattle.dsa_descriptor.specs.declared.op.Op.TheVariants.{Move, Fill, Compare, ComparePattern, ApplyDelta, Dualcast}
use Rattle.dsa_descriptor.specs.declared.span.Span.{Span}
use Rattle.dsa_descriptor.specs.Fields.{Fields}
use Rattle.dsa_descriptor.specs.Spans.{Apart, ApartFrom}
use Rattle.dsa_descriptor.specs.Data.{data_of, record_span}
use Rattle.dsa_descriptor.specs.Profile.{IsListed}
use Rattle.dsa_image.specs.Effects.{numbers}
use Rattle.dsa_image.specs.Lines.{quotient_up}
use Rattle.dsa_splitter.specs.Operations.{moved_up, op_runs_down, IsSplittable, ExpectedFits}
use Rattle.dsa_splitter.specs.Pieces.{all_pieces, piece_at, piece_count, pieces}
use Rattle.dsa_splitter.specs.Rules.{AreWhole, IsClear, IsFirstMeeting, MaySplit, MeetsArea}

one_quotient : (s g c : ℕ) → 0 < s → s ≤ g → s ≤ c * g → c * g < s + g → c ≡ 1
one_quotient s g zero some short low high = absurd (omega arith)
one_quotient s g (suc zero) some short low high = refl
one_quotient s g (suc (suc c)) some short low high = absurd (omega arith)

quotient_of_short : (s g : ℕ) → 0 < s → s ≤ g → quotient_up s g ≡ 1
unfolding quotient_up
quotient_of_short s g some short =
    let bounds = div_ceil_times s g (omega arith) in
    one_quotient s g (s / g + min 1 (s % g)) some short bounds.0 bounds.1

pub one_count : (f : Fields) (g : ℕ) → 0 < f.size → f.size ≤ g → piece_count f g ≡ 1
one_count f g some short = quotient_of_short f.size g some short

-- ---- it may be split

stays_whole : (op : Op) (size g : ℕ) → size ≤ g → IsSplittable op size g
stays_whole (ApplyDelta delta dst record_size) size g short = short
stays_whole (Move src dst) size g short = tt
stays_whole (Fill pattern dst) size g short = tt
stays_whole (Compare src src2 expected) size g short = tt
stays_whole (ComparePattern src pattern expected) size g short = tt
stays_whole (Dualcast src dst dst2) size g short = tt

expects_nothing : (op : Op) (flags size g : ℕ) → size ≤ g → ExpectedFits op flags size g
expects_nothing (Move src dst) flags size g short = tt
expects_nothing (Fill pattern dst) flags size g short = tt
expects_nothing (Compare src src2 expected) flags size g short = λ _ _. short
expects_nothing (ComparePattern src pattern expected) flags size g short = λ _ _. short
expects_nothing (ApplyDelta delta dst record_size) flags size g short = tt
expects_nothing (Dualcast src dst dst2) flags size g short = tt

apart_from_each : (s : Span) (spans : List Span) → AllByRecursion (Apart s) spans → ApartFrom s spans
apart_from_each s [] all a here there = there
apart_from_each s (t ∷ ts) all a here (inl there) = all.0 a here there
apart_from_each s (t ∷ ts) all a here (inr there) = apart_from_each s ts all.1 a here there

pub short_may_split : (f : Fields) (g : ℕ) → IsListed f → f.size ≤ g → MaySplit f g
short_may_split f g h short =
    let one : piece_count f g ≡ 1 = one_count f g h.size_positive short in
    let off : ApartFrom (record_span f.record_at) (data_of f.op f.size) = apart_from_each (record_span f.record_at) (data_of f.op f.size) h.record_apart in
    record {
      splittable = stays_whole f.op f.size g short;
      expected_fits = expects_nothing f.op f.flags f.size g short;
      row_addressable = omega (arith, one, h.record_addressable);
      row_apart = λ a here there. off a (here.0, omega (arith, one, here.1)) there;
    }

-- ---- its one piece

moved_by_none : (op : Op) (by : ℕ) → by ≡ 0 → moved_up by op ≡ op
moved_by_none (Move src dst) by e = let a : src + by ≡ src = omega arith in let b : dst + by ≡ dst = omega arith in cc
moved_by_none (Fill pattern dst) by e = let a : dst + by ≡ dst = omega arith in cc
moved_by_none (Compare src src2 expected) by e = let a : src + by ≡ src = omega arith in let b : src2 + by ≡ src2 = omega arith in cc
moved_by_none (ComparePattern src pattern expected) by e = let a : src + by ≡ src = omega arith in cc
moved_by_none (ApplyDelta delta dst record_size) by e = let a : delta + by ≡ delta = omega arith in let b : dst + by ≡ dst = omega arith in cc
moved_by_none (Dualcast src dst dst2) by e =
    let a : src + by ≡ src = omega arith in let b : dst + by ≡ dst = omega arith in let c : dst2 + by ≡ dst2 = omega arith in cc

first_piece : (f : Fields) (g : ℕ) → f.size ≤ g → piece_at f g 0 ≡ f
first_piece f g short =
    let at : f.record_at + 32 * 0 ≡ f.record_at = omega arith in
    let size : min g (f.size - g * 0) ≡ f.size = omega arith in
    let op : moved_up (g * 0) f.op ≡ f.op = moved_by_none f.op (g * 0) (omega arith) in
    λ i. record f { record_at = at i; size = size i; op = op i }

either_way : (down : Bool) (xs : List Fields) (f : Fields) → xs ≡ f ∷ [] → (if down then reverse xs else xs) ≡ f ∷ []
either_way true xs f e = ap reverse e
either_way false xs f e = e

pub one_piece : (f : Fields) (g : ℕ) → 0 < f.size → f.size ≤ g → pieces f g ≡ f ∷ []
one_piece f g some short =
    let all : map (piece_at f g) (numbers 0 (piece_count f g)) ≡ f ∷ [] =
    ap (λ n. map (piece_at f g) (numbers 0 n)) (one_count f g some short) ∙ ap (λ x. x ∷ []) (first_piece f g short) in
    either_way (op_runs_down f.op f.size) (map (piece_at f g) (numbers 0 (piece_count f g))) f all

-- it is the first piece that meets the area, or none does
module _ (area : Span) (f : Fields) (ps : List Fields) (alone : ps ≡ f ∷ []) where
  pub one_meets : MeetsArea area f → IsFirstMeeting area ps 0
  one_meets meets = record {
    piece = f;
    there = ap (λ xs. slice_get xs 0) alone;
    meets = meets;
    before = λ q x lt there. absurd (omega arith);
  }

  pub one_clear : ¬ MeetsArea area f → IsClear area ps
  one_clear apart zero x there meets =
      let same : f ≡ x = same_Some f x (sym (ap (λ xs. slice_get xs 0) alone) ∙ there) in
      apart (let e : x ≡ f = sym same in rw e at meets)
  one_clear apart (suc q) x there meets = let none = sym (ap (λ xs. slice_get xs (suc q)) alone) ∙ there in absurd cc

-- where each operation is one piece, the operations are their pieces
pub whole_pieces : (ds : List Descriptor) (g : ℕ) → AreWhole ds g → map fields ds ≡ all_pieces (map fields ds) g
whole_pieces [] g short = refl
whole_pieces (d ∷ ds) g short =
    ap (λ xs. fields d ∷ xs) (whole_pieces ds g (λ i e at. short (suc i) e at))
    ∙ ap (λ ps. ps ++ all_pieces (map fields ds) g) (sym (one_piece (fields d) g d.listed.size_positive (short zero d refl)))
