-- The spans of each piece lie in one region, where those of its operation do.
use Rattle.std.proofs.Common.{◌≡◌, ℕ, zero, suc, ◌+◌, ◌-◌, ◌*◌, ◌<◌, ◌≤◌, inl, inr, min, List, [], ◌∷◌, ◌++◌, sym, subst, arith}
use Rattle.std.specs.List.{AllByRecursion}
use Rattle.std.proofs.lemmas.Bool.{cases_Bool}
use Rattle.dsa_descriptor.specs.declared.op.Op.{Op}
use Rattle.dsa_descriptor.specs.declared.op.Op.TheVariants.{Move, Fill, Compare, ComparePattern, ApplyDelta, Dualcast}
use Rattle.dsa_descriptor.specs.Fields.{Fields}
use Rattle.dsa_descriptor.specs.declared.span.Span.{Span}
use Rattle.dsa_descriptor.specs.Spans.{span}
use Rattle.dsa_descriptor.specs.Data.{sources, targets}
use Rattle.dsa_image.proofs.Rounds.{part_begins}
use Rattle.dsa_splitter.specs.Operations.{moved_up, op_runs_down}
use Rattle.dsa_splitter.specs.Pieces.{piece_at, piece_count, pieces, all_pieces}
use Rattle.dsa_splitter.proofs.PiecesWhole.{first_of, pieces_up, pieces_down}
use Rattle.dsa_prepared.specs.Regions.{LiesInOne, LieInOne, AllLieInOne, LiesWhole}
use Rattle.dsa_prepared.specs.Relocation.{PiecesLie}
use Rattle.dsa_prepared.proofs.PiecesRelocate.{DeltaStays, delta_stays, first_more, first_none}

pub all_join : {X : Type 0} (P : X → Type 0) (xs ys : List X) → AllByRecursion P xs → AllByRecursion P ys → AllByRecursion P (xs ++ ys)
all_join P [] ys a b = b
all_join P (x ∷ xs) ys a b = (a.0, all_join P xs ys a.1 b)

-- a part of a span lies where the span does
part : (rs : List Span) (a len by some : ℕ) → by < len → by + some ≤ len → LiesInOne rs (span a len) → LiesInOne rs (span (a + by) some)
part [] a len by some lt fits lies = absurd lies
part (r ∷ rs) a len by some lt fits (inl lies) = inl (omega (arith, lies.0), omega (arith, lt, lies.2), omega (arith, fits, lies.2))
part (r ∷ rs) a len by some lt fits (inr lies) = inr (part rs a len by some lt fits lies)

from_first : (rs : List Span) (a len by : ℕ) → by ≡ 0 → LiesInOne rs (span a len) → LiesInOne rs (span (a + by) len)
from_first rs a len by none lies =
    let e : a ≡ a + by = omega (arith, none) in
    subst (λ (x : ℕ). LiesInOne rs (span x len)) e lies

module _ (rs : List Span) (size by some : ℕ) (lt : by < size) (fits : by + some ≤ size) where
  op_from : (op : Op) → DeltaStays op by → AllByRecursion (LiesInOne rs) (sources op size) → AllByRecursion (LiesInOne rs) (sources (moved_up by op) some)
  op_from (Move src dst) z s = (part rs src size by some lt fits s.0, tt)
  op_from (Fill pattern dst) z s = tt
  op_from (Compare src src2 expected) z s = (part rs src size by some lt fits s.0, (part rs src2 size by some lt fits s.1.0, tt))
  op_from (ComparePattern src pattern expected) z s = (part rs src size by some lt fits s.0, tt)
  op_from (ApplyDelta delta dst record_size) z s = (from_first rs delta record_size by z s.0, (part rs dst size by some lt fits s.1.0, tt))
  op_from (Dualcast src dst dst2) z s = (part rs src size by some lt fits s.0, tt)

  op_into : (op : Op) → AllByRecursion (LiesInOne rs) (targets op size) → AllByRecursion (LiesInOne rs) (targets (moved_up by op) some)
  op_into (Move src dst) t = (part rs dst size by some lt fits t.0, tt)
  op_into (Fill pattern dst) t = (part rs dst size by some lt fits t.0, tt)
  op_into (Compare src src2 expected) t = tt
  op_into (ComparePattern src pattern expected) t = tt
  op_into (ApplyDelta delta dst record_size) t = (part rs dst size by some lt fits t.0, tt)
  op_into (Dualcast src dst dst2) t = (part rs dst size by some lt fits t.0, (part rs dst2 size by some lt fits t.1.0, tt))

piece_lies : (rs : List Span) (g k : ℕ) (f : Fields) → LiesWhole rs g f → 0 < g → k < piece_count f g → LieInOne rs (piece_at f g k)
piece_lies rs g k f lies pos lt =
    let begins : g * k < f.size = part_begins g f.size k pos lt in
    let some : ℕ = min g (f.size - g * k) in
    let fits : g * k + min g (f.size - g * k) ≤ f.size = omega (arith, begins) in
    let row : 32 * k < 32 * piece_count f g = omega (arith, lt) in
    let row_fits : 32 * k + 32 ≤ 32 * piece_count f g = omega (arith, lt) in (
      op_from rs f.size (g * k) some begins fits f.op (delta_stays f.op f.size g k lies.splittable begins) lies.from,
      (part rs f.record_at (32 * piece_count f g) (32 * k) 32 row row_fits lies.row, op_into rs f.size (g * k) some begins fits f.op lies.into),
    )

pub all_first : (P : Fields → Type 0) (h : ℕ → Fields) (t : ℕ) → ((k : ℕ) → k < t → P (h k)) → AllByRecursion P (first_of h t)
all_first P h zero each = subst (λ (xs : List Fields). AllByRecursion P xs) (sym (first_none h)) tt
all_first P h (suc t) each =
    subst (λ (xs : List Fields). AllByRecursion P xs) (sym (first_more h t))
    (all_join P (first_of h t) (h t ∷ []) (all_first P h t (λ k lt. each k (omega (arith, lt)))) (each t (omega arith), tt))

one_lies : (rs : List Span) (g : ℕ) (f : Fields) → LiesWhole rs g f → 0 < g → AllLieInOne rs (pieces f g)
one_lies rs g f lies pos =
    let n : ℕ = piece_count f g in
    elim (cases_Bool (op_runs_down f.op f.size)) [
      | inl down ↦
          subst (λ (xs : List Fields). AllLieInOne rs xs) (sym (pieces_down f g down))
          (all_first (LieInOne rs) (λ t. piece_at f g (n - suc t)) n (λ k lt. piece_lies rs g (n - suc k) f lies pos (omega (arith, lt))))
      | inr up ↦
          subst (λ (xs : List Fields). AllLieInOne rs xs) (sym (pieces_up f g up))
          (all_first (LieInOne rs) (piece_at f g) n (λ k lt. piece_lies rs g k f lies pos lt))
    ]

pub pieces_lie : PiecesLie
pieces_lie rs g [] pos lie = tt
pieces_lie rs g (f ∷ fs) pos lie = all_join (LieInOne rs) (pieces f g) (all_pieces fs g) (one_lies rs g f lie.0 pos) (pieces_lie rs g fs pos lie.1)
