-- The lines and the jobs of a text.
use Rattle.std.proofs.Common.{◌≡◌, ℕ, zero, suc, ◌+◌, ◌<◌, ◌≤◌, Bool, true, false, Option, Some, None, List, [], ◌∷◌, ◌++◌, length, get_or, take, drop, refl, sym, ap, ◌∙◌, append_assoc, arith, add-one, drop-cons, take-append-drop, append-nil}
use Rattle.std.specs.Prelude.{◌==◌}
use Rattle.std.proofs.lemmas.Bool.{eqb-true}
use Rattle.memchr.specs.Find.{IsFirstByte, is_byte}
use Rattle.dsa_jobs.specs.Jobs.{with_byte, lines_of, ended_in, ended_of, last_job, jobs_in, jobs_of}
use Rattle.dsa_jobs.specs.Held.{HasNoNewline, HaveNoNewline, with_newlines}

-- ---- the lines of a text

line_by : (b : Bool) (c : ℕ) (cs rest : List ℕ) → (c == 10) ≡ b → ((c ≡ 10) → ⊥) → lines_of (cs ++ (10 ∷ rest)) ≡ cs ∷ lines_of rest
    → lines_of (c ∷ (cs ++ (10 ∷ rest))) ≡ (c ∷ cs) ∷ lines_of rest
unfolding lines_of
line_by true c cs rest e other so_far = absurd (other (eqb-true c 10 e))
line_by false c cs rest e other so_far = rw e (ap (with_byte c) so_far)

-- a line and its newline are first
pub line_first : (line rest : List ℕ) → HasNoNewline line → lines_of (line ++ (10 ∷ rest)) ≡ line ∷ lines_of rest
unfolding lines_of
line_first [] rest plain = refl
line_first (c ∷ cs) rest (other, plain) = line_by (c == 10) c cs rest refl other (line_first cs rest plain)

last_by : (b : Bool) (c : ℕ) (cs : List ℕ) → (c == 10) ≡ b → ((c ≡ 10) → ⊥) → lines_of cs ≡ cs ∷ [] → lines_of (c ∷ cs) ≡ (c ∷ cs) ∷ []
unfolding lines_of
last_by true c cs e other so_far = absurd (other (eqb-true c 10 e))
last_by false c cs e other so_far = rw e (ap (with_byte c) so_far)

-- a text without newlines is one line
pub line_last : (line : List ℕ) → HasNoNewline line → lines_of line ≡ line ∷ []
unfolding lines_of
line_last [] plain = refl
line_last (c ∷ cs) (other, plain) = last_by (c == 10) c cs refl other (line_last cs plain)

-- lines with their newlines, and those of what comes after them
pub lines_joined : (ended : List (List ℕ)) (z : List ℕ) → HaveNoNewline ended → lines_of (with_newlines ended ++ z) ≡ ended ++ lines_of z
lines_joined [] z plain = refl
lines_joined (line ∷ lines) z (plain, later) =
    ap lines_of (append_assoc line (10 ∷ with_newlines lines) z) ∙ line_first line (with_newlines lines ++ z) plain
    ∙ ap (λ (ls : List (List ℕ)). line ∷ ls) (lines_joined lines z later)

with_byte_some : (c : ℕ) (lines : List (List ℕ)) → (first : List ℕ) × (more : List (List ℕ)) × (with_byte c lines ≡ first ∷ more)
with_byte_some c [] = (c ∷ [], [], refl)
with_byte_some c (line ∷ lines) = (c ∷ line, lines, refl)

some_by : (b : Bool) (c : ℕ) (cs : List ℕ) → (c == 10) ≡ b → (first : List ℕ) × (more : List (List ℕ)) × (lines_of (c ∷ cs) ≡ first ∷ more)
unfolding lines_of
some_by true c cs e = ([], lines_of cs, rw e refl)
some_by false c cs e = let (first, more, is) = with_byte_some c (lines_of cs) in (first, more, rw e is)

-- a text has a first line
some_line : (z : List ℕ) → (first : List ℕ) × (more : List (List ℕ)) × (lines_of z ≡ first ∷ more)
unfolding lines_of
some_line [] = ([], [], refl)
some_line (c ∷ cs) = some_by (c == 10) c cs refl

jobs_append : (ended : List (List ℕ)) (first : List ℕ) (more : List (List ℕ)) → jobs_in (ended ++ (first ∷ more)) ≡ ended ++ jobs_in (first ∷ more)
jobs_append [] first more = refl
jobs_append (line ∷ []) first more = refl
jobs_append (line ∷ next ∷ lines) first more = ap (λ (ls : List (List ℕ)). line ∷ ls) (jobs_append (next ∷ lines) first more)

ended_append : (ended : List (List ℕ)) (first : List ℕ) (more : List (List ℕ)) → ended_in (ended ++ (first ∷ more)) ≡ ended ++ ended_in (first ∷ more)
ended_append [] first more = refl
ended_append (line ∷ []) first more = refl
ended_append (line ∷ next ∷ lines) first more = ap (λ (ls : List (List ℕ)). line ∷ ls) (ended_append (next ∷ lines) first more)

-- ended lines are jobs, and then come the jobs of the rest
pub jobs_joined : (ended : List (List ℕ)) (z : List ℕ) → HaveNoNewline ended → jobs_of (with_newlines ended ++ z) ≡ ended ++ jobs_of z
jobs_joined ended z plain =
    let (first, more, is) = some_line z in
    ap jobs_in (lines_joined ended z plain ∙ ap (λ (ls : List (List ℕ)). ended ++ ls) is) ∙ jobs_append ended first more
    ∙ ap (λ (ls : List (List ℕ)). ended ++ jobs_in ls) (sym is)

-- a line that no newline ends comes after the ended lines
pub ended_joined : (ended : List (List ℕ)) (z : List ℕ) → HaveNoNewline ended → HasNoNewline z → ended_of (with_newlines ended ++ z) ≡ ended
ended_joined ended z plain last =
    ap ended_in (lines_joined ended z plain ∙ ap (λ (ls : List (List ℕ)). ended ++ ls) (line_last z last)) ∙ ended_append ended z [] ∙ append-nil ended

-- and is a job if it isn't empty
pub last_is_job : (c : ℕ) (cs : List ℕ) → HasNoNewline (c ∷ cs) → jobs_of (c ∷ cs) ≡ (c ∷ cs) ∷ []
last_is_job c cs plain = ap jobs_in (line_last (c ∷ cs) plain)

-- ---- with newlines

pub with_newlines-append : (ended : List (List ℕ)) (line : List ℕ) → with_newlines (ended ++ (line ∷ [])) ≡ with_newlines ended ++ (line ++ (10 ∷ []))
with_newlines-append [] line = refl
with_newlines-append (first ∷ ended) line =
    ap (λ (t : List ℕ). first ++ (10 ∷ t)) (with_newlines-append ended line) ∙ sym (append_assoc first (10 ∷ with_newlines ended) (line ++ (10 ∷ [])))

pub no_newline-append : (xs ys : List ℕ) → HasNoNewline xs → HasNoNewline ys → HasNoNewline (xs ++ ys)
no_newline-append [] ys plain later = later
no_newline-append (x ∷ xs) ys (other, plain) later = (other, no_newline-append xs ys plain later)

pub have_no_newline-append : (ended : List (List ℕ)) (line : List ℕ) → HaveNoNewline ended → HasNoNewline line → HaveNoNewline (ended ++ (line ∷ []))
have_no_newline-append [] line plain last = (last, tt)
have_no_newline-append (first ∷ ended) line (here, plain) last = (here, have_no_newline-append ended line plain last)

-- ---- where a newline is

no_newline_take : (hay : List ℕ) (k : ℕ) → ((i : ℕ) → i < k → (get_or hay i 0 == 10) ≡ true → ⊥) → HasNoNewline (take k hay)
no_newline_take hay zero none = tt
no_newline_take [] (suc k) none = tt
no_newline_take (c ∷ cs) (suc k) none = (λ e. none 0 (omega arith) (rw e refl), no_newline_take cs k (λ i less. none (suc i) (omega arith)))

-- no newline before the first one
pub found_newline : (hay : List ℕ) (k : ℕ) → IsFirstByte (is_byte 10) hay (Some k) → (hay ≡ take k hay ++ (10 ∷ drop (k + 1) hay)) × HasNoNewline (take k hay)
found_newline hay k (before, here) =
    let within : k < length hay = before.high in
    let is : get_or hay k 0 ≡ 10 = eqb-true (get_or hay k 0) 10 here in
    let split : drop k hay ≡ 10 ∷ drop (k + 1) hay = rw add-one (drop-cons hay k 0 within ∙ ap (λ (c : ℕ). c ∷ drop (suc k) hay) is) in (
      sym (take-append-drop k hay) ∙ ap (λ (t : List ℕ). take k hay ++ t) split,
      no_newline_take hay k (λ i less. before.before i (omega arith) less),
    )

-- none at all
pub no_newline_found : (hay : List ℕ) → IsFirstByte (is_byte 10) hay None → HasNoNewline hay
no_newline_found [] none = tt
no_newline_found (c ∷ cs) none = (λ e. none 0 (omega arith) (omega arith) (rw e refl), no_newline_found cs (λ i low less. none (suc i) (omega arith) (omega arith)))
