-- The digits of one more byte of a text, and its form.
use Rattle.std.proofs.Common.{◌≡◌, ℕ, ◌+◌, ◌<◌, ◌≤◌, Bool, true, false, List, [], ◌∷◌, ◌++◌, Some, length, get_or, drop, refl, sym, ap, ◌∙◌}
use Rattle.std.proofs.lemmas.List.{append_assoc, append-nil, drop_all, drop_more}
use Rattle.std.specs.Prelude.{if◌then◌else◌}
use Rattle.dsa_forms.specs.declared.forms.Form.{Form}
use Rattle.dsa_forms.specs.declared.forms.Form.TheVariants.{Plain}
use Rattle.dsa_forms.specs.declared.forms.Part.{Part}
use Rattle.dsa_forms.specs.Forms.{kept, next_part, digits_from, is_spread, form_by, form_of}

pub byte_kept : (form : Form) (part : Part) (text all : List ℕ) (i c : ℕ) (old new : List ℕ) → i < length text → c ≡ get_or text i 0
    → new ≡ old ++ kept form part c → old ++ digits_from form part (drop i text) ≡ all
    → new ++ digits_from form (next_part form part c) (drop (i + 1) text) ≡ all
unfolding digits_from
byte_kept form part text all i c old new lt is now so_far =
    let back : List ℕ = digits_from form (next_part form part c) (drop (i + 1) text) in
    let here : drop i text ≡ c ∷ drop (i + 1) text = drop_more text i 0 lt ∙ ap (λ (z : ℕ). z ∷ drop (i + 1) text) (sym is) in
    let one : digits_from form part (c ∷ drop (i + 1) text) ≡ kept form part c ++ back = refl in
    let whole : old ++ (kept form part c ++ back) ≡ all =
    ap (λ (l : List ℕ). old ++ l) (sym one) ∙ (ap (λ (l : List ℕ). old ++ digits_from form part l) (sym here) ∙ so_far) in
    ap (λ (l : List ℕ). l ++ back) now ∙ (append_assoc old (kept form part c) back ∙ whole)

pub all_kept : (form : Form) (part : Part) (text all : List ℕ) (i : ℕ) (old : List ℕ) → length text ≤ i
    → old ++ digits_from form part (drop i text) ≡ all → old ≡ all
unfolding digits_from
all_kept form part text all i old le so_far =
    let none : digits_from form part (drop i text) ≡ [] = ap (λ (l : List ℕ). digits_from form part l) (drop_all i text le) in
    sym (append-nil old) ∙ (ap (λ (l : List ℕ). old ++ l) (sym none) ∙ so_far)

-- ---- the form

form_next : (b : Bool) (c : ℕ) (cs : List ℕ) → is_spread c ≡ b → form_of (c ∷ cs) ≡ (if b then form_of cs else form_by c)
unfolding form_of
form_next b c cs e = rw e refl

form_at : (b : Bool) (text : List ℕ) (i c : ℕ) → i < length text → c ≡ get_or text i 0 → is_spread c ≡ b → form_of (drop i text) ≡ form_of text
    → (if b then form_of (drop (i + 1) text) else form_by c) ≡ form_of text
form_at b text i c lt is e so_far =
    let here : drop i text ≡ c ∷ drop (i + 1) text = drop_more text i 0 lt ∙ ap (λ (z : ℕ). z ∷ drop (i + 1) text) (sym is) in
    sym (form_next b c (drop (i + 1) text) e) ∙ (ap form_of (sym here) ∙ so_far)

pub form_after : (text : List ℕ) (i c : ℕ) → i < length text → c ≡ get_or text i 0 → is_spread c ≡ true → form_of (drop i text) ≡ form_of text
    → form_of (drop (i + 1) text) ≡ form_of text
form_after text i c lt is e so_far = form_at true text i c lt is e so_far

pub form_here : (text : List ℕ) (i c : ℕ) → i < length text → c ≡ get_or text i 0 → is_spread c ≡ false → form_of (drop i text) ≡ form_of text
    → form_by c ≡ form_of text
form_here text i c lt is e so_far = form_at false text i c lt is e so_far

pub form_end : (text : List ℕ) (i : ℕ) → length text ≤ i → form_of (drop i text) ≡ form_of text → Some Plain ≡ form_of text
unfolding form_of
form_end text i le so_far =
    let none : form_of (drop i text) ≡ Some Plain = ap form_of (drop_all i text le) in
    sym none ∙ so_far
