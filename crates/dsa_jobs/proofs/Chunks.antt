-- What a chunk adds to what was read.
use Rattle.std.proofs.Common.{◌≡◌, ℕ, ◌+◌, ◌-◌, Option, Some, None, List, [], ◌∷◌, ◌++◌, length, take, drop, refl, sym, ap, ◌∙◌, subst, append_assoc, append-nil, length-drop, IfSome, arith}
use Rattle.std.proofs.Math.Seq.{take-length}
use Rattle.std.specs.Io.KnownBytes.{Consumes}
use Rattle.std.proofs.KnownBytes.{Consumes-trans}
use Rattle.memchr.specs.Find.{IsFirstByte, is_byte}
use Rattle.dsa_report.specs.Gives.{WritesAnswer, WritesPrefix}
use Rattle.dsa_jobs.specs.declared.line.Line.{Line}
use Rattle.dsa_jobs.specs.Jobs.{jobs_of}
use Rattle.dsa_jobs.specs.Writes.{WritesPart}
use Rattle.dsa_jobs.specs.Held.{Holds, HasNoNewline, HasServed}
use Rattle.dsa_jobs.proofs.Splits.{found_newline, no_newline_found}
use Rattle.dsa_jobs.proofs.Steps.{served_added, served_line, part_of_line}

-- the end of a slice
pub slice_end : (rest : List ℕ) (n : ℕ) → take (length rest - n) (drop n rest) ≡ drop n rest
slice_end rest n = ap (λ (m : ℕ). take m (drop n rest)) (sym (length-drop n rest)) ∙ take-length (drop n rest)

regroup : (a b f d m : List ℕ) → (((a ++ b) ++ f) ++ (10 ∷ [])) ++ (d ++ m) ≡ (a ++ (b ++ (f ++ (10 ∷ d)))) ++ m
regroup a b f d m = simp append_assoc

regroup_line : (a b f : List ℕ) → ((a ++ b) ++ f) ++ (10 ∷ []) ≡ a ++ (b ++ (f ++ (10 ∷ [])))
regroup_line a b f = simp append_assoc

regroup_left : (b f d : List ℕ) → (b ++ (f ++ (10 ∷ []))) ++ d ≡ b ++ (f ++ (10 ∷ d))
regroup_left b f d = simp append_assoc

-- what is left of a chunk once a line and its newline are taken
pub chunk_left : (part rest chunk after : List ℕ) (k : ℕ) → IsFirstByte (is_byte 10) rest (Some k) → part ++ rest ≡ chunk → after ≡ drop (k + 1) rest
    → (part ++ (take k rest ++ (10 ∷ []))) ++ after ≡ chunk
chunk_left part rest chunk after k first joined is =
    ap (λ (t : List ℕ). (part ++ (take k rest ++ (10 ∷ []))) ++ t) is ∙ regroup_left part (take k rest) (drop (k + 1) rest)
    ∙ ap (λ (t : List ℕ). part ++ t) (sym (found_newline rest k first).0) ∙ joined

-- the bytes before a newline were read
line_read : (seen part rest front : List ℕ) (k : ℕ) (line grown : Line) (start known : Option (List ℕ)) → IsFirstByte (is_byte 10) rest (Some k) → front ≡ take k rest
    → HasServed (seen ++ part) line start known → ((text : List ℕ) → Holds line text → Holds grown (text ++ front)) → HasServed ((seen ++ part) ++ front) grown start known
line_read seen part rest front k line grown start known first same so_far holds =
    served_added (seen ++ part) front line grown start known so_far (subst HasNoNewline (sym same) (found_newline rest k first).1) holds

-- and the line was answered
pub line_answered : (seen part rest front : List ℕ) (k : ℕ) (line grown cleared : Line) (start old new : Option (List ℕ)) → IsFirstByte (is_byte 10) rest (Some k) → front ≡ take k rest
    → HasServed (seen ++ part) line start old → ((text : List ℕ) → Holds line text → Holds grown (text ++ front))
    → ((text : List ℕ) → Holds grown text → (status : ℕ) × WritesAnswer text status old new) → Holds cleared []
    → HasServed (seen ++ (part ++ (take k rest ++ (10 ∷ [])))) cleared start new
line_answered seen part rest front k line grown cleared start old new first same so_far holds answers empty =
    let is : ((seen ++ part) ++ front) ++ (10 ∷ []) ≡ seen ++ (part ++ (take k rest ++ (10 ∷ []))) =
    ap (λ (t : List ℕ). ((seen ++ part) ++ t) ++ (10 ∷ [])) same ∙ regroup_line seen part (take k rest) in
    subst (λ (t : List ℕ). HasServed t cleared start new) is
    (served_line ((seen ++ part) ++ front) grown cleared start old new (line_read seen part rest front k line grown start old first same so_far holds) answers empty)

-- or writing failed within it
pub line_part : (seen part rest chunk front : List ℕ) (k : ℕ) (line grown : Line) (start old new : Option (List ℕ)) → IsFirstByte (is_byte 10) rest (Some k) → front ≡ take k rest
    → part ++ rest ≡ chunk → HasServed (seen ++ part) line start old → ((text : List ℕ) → Holds line text → Holds grown (text ++ front))
    → ((text : List ℕ) → Holds grown text → WritesPrefix text old new) → (more : List ℕ) → WritesPart (jobs_of ((seen ++ chunk) ++ more)) start new
line_part seen part rest chunk front k line grown start old new first same joined so_far holds prefix more =
    let is : (((seen ++ part) ++ front) ++ (10 ∷ [])) ++ (drop (k + 1) rest ++ more) ≡ (seen ++ chunk) ++ more =
    ap (λ (t : List ℕ). (((seen ++ part) ++ t) ++ (10 ∷ [])) ++ (drop (k + 1) rest ++ more)) same ∙ regroup seen part (take k rest) (drop (k + 1) rest) more
    ∙ ap (λ (t : List ℕ). (seen ++ (part ++ t)) ++ more) (sym (found_newline rest k first).0) ∙ ap (λ (t : List ℕ). (seen ++ t) ++ more) joined in
    subst (λ (t : List ℕ). WritesPart (jobs_of t) start new) is
    (part_of_line ((seen ++ part) ++ front) (drop (k + 1) rest ++ more) grown start old new (line_read seen part rest front k line grown start old first same so_far holds) prefix)

-- the rest of a chunk has no newline
pub rest_read : (seen part rest chunk : List ℕ) (line grown : Line) (start known : Option (List ℕ)) → IsFirstByte (is_byte 10) rest None → part ++ rest ≡ chunk
    → HasServed (seen ++ part) line start known → ((text : List ℕ) → Holds line text → Holds grown (text ++ rest)) → HasServed (seen ++ chunk) grown start known
rest_read seen part rest chunk line grown start known none joined so_far holds =
    subst (λ (t : List ℕ). HasServed t grown start known) (append_assoc seen part rest ∙ ap (λ (t : List ℕ). seen ++ t) joined)
    (served_added (seen ++ part) rest line grown start known so_far (no_newline_found rest none) holds)

-- ---- what a reader gave

-- a read gave nothing
pub nothing_read : (a b d : Option (List ℕ)) (seen : List ℕ) → Consumes a b seen → Consumes b d [] → Consumes a d seen
nothing_read a b d seen before now = subst (Consumes a d) (append-nil seen) (Consumes-trans a b d seen [] before now)

-- what holds of all that may come after the bytes that were read holds of the reader's text
pub text_read : (a b : Option (List ℕ)) (bytes : List ℕ) (P : List ℕ → Type 0) → Consumes a b bytes → ((more : List ℕ) → P (bytes ++ more)) → IfSome a P
text_read None b bytes P taken holds = tt
text_read (Some all) None bytes P taken holds = absurd taken
text_read (Some all) (Some left) bytes P taken holds = subst P (sym taken) (holds left)
