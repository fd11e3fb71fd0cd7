-- The names of the operations of a text.
use Rattle.std.proofs.Common.{◌≡◌, ℕ, Bool, true, false, List, refl, ◌∙◌}
use Rattle.std.proofs.lemmas.List.{length-map}
use Rattle.std.proofs.lemmas.Str.{IsUtf8-from_is_utf8, is_utf8-from_IsUtf8}
use Rattle.std.specs.Str.{IsUtf8, is_utf8}
use Rattle.dsa_explain.specs.declared.labels.Origin.{Origin}
use Rattle.dsa_explain.specs.Runs.{Labelling}
use Rattle.dsa_lines.specs.TextLists.{operation_lines}
use Rattle.dsa_lines.specs.Texts.{lines_of}
use Rattle.dsa_lines.proofs.Marks.{one_line_each}
use Rattle.dsa_advice.specs.Comments.{comment_of, OneNameEach}

abbrev labels : List Origin → List (List ℕ) → Labelling
labels origins names = record { origins = origins; names = names }

-- labels are those of their origins and names
pub labelled : {origins others : List Origin} {names more : List (List ℕ)} → origins ≡ others → names ≡ more
    → labels origins names ≡ labels others more
labelled e f = λ i. record { origins = e i; names = f i }

-- whether bytes are a text
pub is_text : (bs : List ℕ) → IsUtf8 bs → is_utf8 bs ≡ true
is_text bs h = is_utf8-from_IsUtf8 bs h

no_text_by : (b : Bool) (bs : List ℕ) → is_utf8 bs ≡ b → ¬ IsUtf8 bs → is_utf8 bs ≡ false
no_text_by false bs e none = e
no_text_by true bs e none = absurd (none (IsUtf8-from_is_utf8 bs e))

pub is_no_text : (bs : List ℕ) → ¬ IsUtf8 bs → is_utf8 bs ≡ false
is_no_text bs none = no_text_by (is_utf8 bs) bs refl none

-- a name for each operation
pub one_name_each : OneNameEach
one_name_each text fs e = length-map (operation_lines 1 (lines_of text)) (λ line. comment_of line.2) ∙ one_line_each text fs e
