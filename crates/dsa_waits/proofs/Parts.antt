-- Parts of a text, and its lines.
use Rattle.std.proofs.Common.{◌≡◌, ℕ, suc, ◌<◌, ◌≤◌, Bool, true, false, List, [], ◌∷◌, ◌++◌, length, Some, sym, ap, subst, ◌∙◌, arith}
use Rattle.std.specs.Prelude.{if◌then◌else◌, ◌==◌}
use Rattle.std.proofs.lemmas.List.{length-take-le}
use Rattle.dsa_lines.specs.Texts.{before}
use Rattle.dsa_waits.specs.declared.lines.Line.{Line}
use Rattle.dsa_waits.specs.Lines.{SpellsUpTo, after, first_part, line_of}

before_by : (b : Bool) (n m : ℕ) → n ≤ m → (if b then 0 else suc n) ≤ suc m
before_by true n m le = omega arith
before_by false n m le = omega (arith, le)

pub before_within : (c : ℕ) (text : List ℕ) → before c text ≤ length text
before_within c [] = omega arith
before_within c (x ∷ xs) = before_by (x == c) (before c xs) (length xs) (before_within c xs)

pub spelled_more : (text left : List ℕ) (lines : List Line) (l : Line) → SpellsUpTo text lines left → before 10 left < length left
    → line_of (first_part 10 left) ≡ Some l → SpellsUpTo text (lines ++ l ∷ []) (after 10 left)
spelled_more text left [] l same lt is = (
  subst (λ (t : List ℕ). before 10 t < length t) (sym same) lt,
  ap (λ (t : List ℕ). line_of (first_part 10 t)) same ∙ is,
  ap (after 10) same,
)
spelled_more text left (m ∷ lines) l (lt', is', rest) lt is = (lt', is', spelled_more (after 10 text) left lines l rest lt is)

pub part_length : (c : ℕ) (text : List ℕ) → length (first_part c text) ≡ before c text
part_length c text = length-take-le (before c text) text (before_within c text)
