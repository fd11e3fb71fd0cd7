-- The barriers of pieces, operation by operation.
use Rattle.std.proofs.Common.{◌≡◌, ◌≢◌, ℕ, zero, suc, ◌+◌, ◌-◌, ◌*◌, ◌/◌, ◌%◌, min, ◌<◌, ◌≤◌, Bool, false, List, [], ◌∷◌, ◌++◌, length, map, take, get_or, replicate, refl, sym, ap, ◌∙◌, append_assoc, arith}
use Rattle.std.specs.Prelude.{Some, slice_get}
use Rattle.std.proofs.lemmas.Option.{same_Some}
use Rattle.std.proofs.lemmas.List.{append-nil, length-append, length-map, length-replicate}
use Rattle.dsa_descriptor.specs.declared.descriptor.Descriptor.{Descriptor}
use Rattle.dsa_descriptor.specs.Descriptors.{fields}
use Rattle.dsa_descriptor.specs.Fields.{Fields}
use Rattle.dsa_splitter.specs.Pieces.{all_pieces, piece_barriers, piece_count, pieces}
use Rattle.dsa_splitter.specs.Rules.{AreWhole}
use Rattle.std.proofs.lemmas.Grind.{div_ceil_times}
use Rattle.dsa_image.specs.Lines.{quotient_up}
use Rattle.dsa_splitter.proofs.OnePiece.{one_count}
use Rattle.dsa_splitter.proofs.Walks.{length_pieces}

-- the marks of one operation more
pub marks_more : (g : ℕ) (fs : List Fields) (bs : List Bool) (i : ℕ) (f : Fields) → slice_get fs i ≡ Some f → i < length bs →
    piece_barriers g fs (take (i + 1) bs) ≡ piece_barriers g fs (take i bs) ++ (get_or bs i false ∷ replicate (piece_count f g - 1) false)
marks_more g [] bs i f h lt = cc
marks_more g (x ∷ xs) [] i f h lt = absurd (omega (arith, lt))
marks_more g (x ∷ xs) (b ∷ bs) zero f h lt =
    let same : x ≡ f = same_Some x f h in
    append-nil _ ∙ ap (λ (z : Fields). b ∷ replicate (piece_count z g - 1) false) same
marks_more g (x ∷ xs) (b ∷ bs) (suc i) f h lt =
    let next : suc i + 1 ≡ suc (i + 1) = omega arith in
    let own : List Bool = b ∷ replicate (piece_count x g - 1) false in
    ap (λ (n : ℕ). piece_barriers g (x ∷ xs) (take n (b ∷ bs))) next
    ∙ ap (λ (ms : List Bool). own ++ ms) (marks_more g xs bs i f h (omega (arith, lt)))
    ∙ sym (append_assoc own (piece_barriers g xs (take i bs)) (get_or bs i false ∷ replicate (piece_count f g - 1) false))

-- operations that are their own only pieces keep their marks
pub whole_marks : (ds : List Descriptor) (g : ℕ) (bs : List Bool) → AreWhole ds g → (bs ≢ [] → length bs ≡ length ds) → piece_barriers g (map fields ds) bs ≡ bs
whole_marks ds g [] whole same = refl
whole_marks [] g (b ∷ bs) whole same = absurd (omega (arith, same (λ e. absurd cc)))
whole_marks (d ∷ ds) g (b ∷ bs) whole same =
    let one : piece_count (fields d) g ≡ 1 = one_count (fields d) g d.listed.size_positive (whole 0 d refl) in
    let rest : length bs ≡ length ds = omega (arith, same (λ e. absurd cc)) in
    ap (λ (n : ℕ). (b ∷ replicate (n - 1) false) ++ piece_barriers g (map fields ds) bs) one
    ∙ ap (λ (ms : List Bool). b ∷ ms) (whole_marks ds g bs (λ i e there. whole (suc i) e there) (λ some. rest))

-- an operation has a piece
some_quotient : (s g c : ℕ) → 0 < s → s ≤ c * g → 0 < c
some_quotient s g zero some low = absurd (omega (arith, some, low))
some_quotient s g (suc c) some low = omega arith

some_piece : (d : Descriptor) (g : ℕ) → 0 < g → 0 < piece_count (fields d) g
unfolding quotient_up
some_piece d g some = some_quotient d.size g (d.size / g + min 1 (d.size % g)) d.listed.size_positive (div_ceil_times d.size g some).0

count_each : (ds : List Descriptor) (g : ℕ) (bs : List Bool) → 0 < g → length bs ≡ length ds → length (piece_barriers g (map fields ds) bs) ≡ length (all_pieces (map fields ds) g)
count_each [] g [] some same = refl
count_each [] g (b ∷ bs) some same = absurd (omega (arith, same))
count_each (d ∷ ds) g [] some same = absurd (omega (arith, same))
count_each (d ∷ ds) g (b ∷ bs) some same =
    omega (
      arith,
      length-append (b ∷ replicate (piece_count (fields d) g - 1) false) (piece_barriers g (map fields ds) bs),
      length-replicate (piece_count (fields d) g - 1) false,
      length-append (pieces (fields d) g) (all_pieces (map fields ds) g),
      length_pieces (fields d) g,
      some_piece d g some,
      count_each ds g bs some (omega (arith, same)),
    )

-- there is a mark for each piece, or none
pub marks_count : (ds : List Descriptor) (g : ℕ) (bs : List Bool) → 0 < g → (bs ≢ [] → length bs ≡ length ds) → piece_barriers g (map fields ds) bs ≢ [] → length (piece_barriers g (map fields ds) bs) ≡ length (all_pieces (map fields ds) g)
marks_count ds g [] some same any = absurd (any refl)
marks_count ds g (b ∷ bs) some same any = count_each ds g (b ∷ bs) some (same (λ e. absurd cc))

-- the same for the lists that were made
pub marks_found : (ds : List Descriptor) (g : ℕ) (bs ms : List Bool) (ps : List Descriptor) → 0 < g → (bs ≢ [] → length bs ≡ length ds) → ms ≡ piece_barriers g (map fields ds) bs → map fields ps ≡ all_pieces (map fields ds) g
    → ms ≢ [] → length ms ≡ length ps
marks_found ds g bs ms ps some same is found any =
    ap length is ∙ marks_count ds g bs some same (λ none. any (is ∙ none)) ∙ sym (ap length found) ∙ length-map ps fields
