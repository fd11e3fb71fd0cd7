-- What is written of a line whose parts are written one after another.
use Rattle.std.proofs.Common.{◌+◌, ◌<◌, ℕ, List, ◌++◌, length, take, Bool, true, false, Option, length-append, subst, sym, arith}
use Rattle.std.specs.Bool.{OnFalse}
use Rattle.std.specs.Io.KnownBytes.{Appends}
use Rattle.std.proofs.KnownBytes.{Appends-trans}
use Rattle.std.proofs.Math.Seq.{take-append-add}
use Rattle.std.proofs.lemmas.List.{take-append-le}

-- the known bytes have grown by a part of the line, from its start, that isn't the whole
abbrev pub WritesPart : Option (List ℕ) → Option (List ℕ) → List ℕ → Type 0
WritesPart old new line = (n : ℕ) × (n < length line) × Appends old new (take n line)

-- a part of the first bytes is a part of all
pub part_before : (a b : Option (List ℕ)) (xs ys : List ℕ) → WritesPart a b xs → WritesPart a b (xs ++ ys)
part_before a b xs ys (n, short, part) = (
  n,
  omega (arith, short, length-append xs ys),
  subst (Appends a b) (sym (take-append-le n xs ys (omega (arith, short)))) part,
)

-- the first bytes and a part of what comes after them are a part of all
pub part_after : (a b d : Option (List ℕ)) (xs ys : List ℕ) → Appends a b xs → WritesPart b d ys → WritesPart a d (xs ++ ys)
part_after a b d xs ys before (n, short, part) = (
  length xs + n,
  omega (arith, short, length-append xs ys),
  subst (Appends a d) (sym (take-append-add xs ys n)) (Appends-trans a b d xs (take n ys) before part),
)

-- so is a part of what comes after them, with more after that
pub part_between : (a b d : Option (List ℕ)) (xs ys zs : List ℕ) → Appends a b xs → WritesPart b d ys → WritesPart a d (xs ++ (ys ++ zs))
part_between a b d xs ys zs before part = part_after a b d xs (ys ++ zs) before (part_before b d ys zs part)

-- the same where the last answer was that not all was taken
pub part_last : (a b d : Option (List ℕ)) (xs ys : List ℕ) (whole : Bool) → Appends a b xs → OnFalse whole (WritesPart b d ys) → OnFalse whole (WritesPart a d (xs ++ ys))
part_last a b d xs ys true before part = part
part_last a b d xs ys false before part = part_after a b d xs ys before part
