-- The lines of a text, cut off one by one.
use Rattle.std.proofs.Common.{◌≡◌, ◌≢◌, ℕ, suc, zero, ◌<◌, ◌==◌, ◌||◌, Bool, true, false, List, [], ◌∷◌, ◌++◌, length, get_or, cond, arith, sym, ap, refl, ◌∙◌, eqb-true, append_assoc}
use Rattle.std.specs.List.{list_any}
use Rattle.std.specs.Str.{bytes_eq}
use Rattle.dsa_lines.specs.Texts.{lines_of, with_byte}
use Rattle.dsa_recording.specs.Accepted.{is_line_of}

-- no byte of it is a newline
abbrev pub HasNoNewline : List ℕ → Type 0
HasNoNewline xs = (i : ℕ) → i < length xs → get_or xs i 0 ≢ 10

cut_by : (b : Bool) (c : ℕ) (cs ys : List ℕ) → (c == 10) ≡ b → c ≢ 10 → lines_of (cs ++ (10 ∷ ys)) ≡ cs ∷ lines_of ys
    → lines_of (c ∷ (cs ++ (10 ∷ ys))) ≡ (c ∷ cs) ∷ lines_of ys
unfolding lines_of
cut_by true c cs ys e differs so_far = absurd (differs (eqb-true c 10 e))
cut_by false c cs ys e differs so_far = rw e (ap (with_byte c) so_far)

-- a line and a newline come first
pub lines_cut : (xs ys : List ℕ) → HasNoNewline xs → lines_of (xs ++ (10 ∷ ys)) ≡ xs ∷ lines_of ys
unfolding lines_of
lines_cut [] ys differ = refl
lines_cut (c ∷ cs) ys differ = cut_by (c == 10) c cs ys refl (differ zero (omega arith)) (lines_cut cs ys (λ i lt. differ (suc i) (omega (arith, lt))))

whole_by : (b : Bool) (c : ℕ) (cs : List ℕ) → (c == 10) ≡ b → c ≢ 10 → lines_of cs ≡ cs ∷ [] → lines_of (c ∷ cs) ≡ (c ∷ cs) ∷ []
unfolding lines_of
whole_by true c cs e differs so_far = absurd (differs (eqb-true c 10 e))
whole_by false c cs e differs so_far = rw e (ap (with_byte c) so_far)

-- there is one line
pub lines_whole : (xs : List ℕ) → HasNoNewline xs → lines_of xs ≡ xs ∷ []
unfolding lines_of
lines_whole [] differ = refl
lines_whole (c ∷ cs) differ = whole_by (c == 10) c cs refl (differ zero (omega arith)) (lines_whole cs (λ i lt. differ (suc i) (omega (arith, lt))))

-- ---- keys that are lines

swap : (a old r : Bool) → (cond a true old || r) ≡ (old || (a || r))
swap true true r = refl
swap true false r = refl
swap false old r = refl

swap_last : (a old : Bool) → cond a true old ≡ (old || (a || false))
swap_last true true = refl
swap_last true false = refl
swap_last false true = refl
swap_last false false = refl

-- with a line of the text among the keys, those of what comes after it are left
pub key_added : (text rest line after q : List ℕ) (old new : Bool) → rest ≡ line ++ (10 ∷ after) → HasNoNewline line
    → new ≡ cond (bytes_eq line q) true old → (old || is_line_of q rest) ≡ is_line_of q text → (new || is_line_of q after) ≡ is_line_of q text
key_added text rest line after q old new e differ is so_far =
    let lines : lines_of rest ≡ line ∷ lines_of after = ap lines_of e ∙ lines_cut line after differ in
    let any : is_line_of q rest ≡ (bytes_eq line q || is_line_of q after) = ap (list_any (λ other. bytes_eq other q)) lines in
    let step : (new || is_line_of q after) ≡ (old || (bytes_eq line q || is_line_of q after)) =
    ap (λ (b : Bool). b || is_line_of q after) is ∙ swap (bytes_eq line q) old (is_line_of q after) in
    step ∙ (ap (λ (b : Bool). old || b) (sym any) ∙ so_far)

-- with the last one, all lines are keys
pub key_last : (text rest q : List ℕ) (old new : Bool) → HasNoNewline rest → new ≡ cond (bytes_eq rest q) true old
    → (old || is_line_of q rest) ≡ is_line_of q text → new ≡ is_line_of q text
key_last text rest q old new differ is so_far =
    let lines : lines_of rest ≡ rest ∷ [] = lines_whole rest differ in
    let any : is_line_of q rest ≡ (bytes_eq rest q || false) = ap (list_any (λ other. bytes_eq other q)) lines in
    is ∙ (swap_last (bytes_eq rest q) old ∙ (ap (λ (b : Bool). old || b) (sym any) ∙ so_far))

-- ---- the lines themselves

-- with a line of the text among the lines, those of what comes after it are left
pub line_added : (text rest line after : List ℕ) (old new : List (List ℕ)) → rest ≡ line ++ (10 ∷ after) → HasNoNewline line → new ≡ old ++ (line ∷ [])
    → old ++ lines_of rest ≡ lines_of text → new ++ lines_of after ≡ lines_of text
line_added text rest line after old new e differ is so_far =
    let cut : lines_of rest ≡ line ∷ lines_of after = ap lines_of e ∙ lines_cut line after differ in
    ap (λ (l : List (List ℕ)). l ++ lines_of after) is ∙ (append_assoc old (line ∷ []) (lines_of after) ∙ (ap (λ (l : List (List ℕ)). old ++ l) (sym cut) ∙ so_far))

-- with the last one, all lines are there
pub line_last : (text rest : List ℕ) (old new : List (List ℕ)) → HasNoNewline rest → new ≡ old ++ (rest ∷ []) → old ++ lines_of rest ≡ lines_of text → new ≡ lines_of text
line_last text rest old new differ is so_far = is ∙ (ap (λ (l : List (List ℕ)). old ++ l) (sym (lines_whole rest differ)) ∙ so_far)
