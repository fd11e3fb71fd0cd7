use Rattle.std.proofs.Common.{◌≡◌, false, ◌∙◌, ap, List, ℕ, ◌++◌}
use Rattle.std.specs.Prelude.{codes, string_bytes}
use Rattle.serde_json.specs.Data.{Data}
use Rattle.serde_json.specs.View.{view}
use Rattle.serde_json.specs.Written.{compact_text, has_float}
use Rattle.dsa_explain.specs.Document.{explanation_value}
use Rattle.dsa_explain.specs.Runs.{labelling}
use Rattle.dsa_explain.proofs.NoFloats.{explained}
use Rattle.dsa_explain.proofs.document.explanation_line.Goals as goal

pub returns : goal.returns
returns c =
    let whole : Data = explanation_value c.args.explanation.now c.args.pieces.now (labelling c.args.labels.now) c.args.least in
    let none : has_float (view c.in_ok-value.value) ≡ false =
    ap has_float c.in_ok-value.ensures ∙ explained c.args.explanation.now c.args.pieces.now (labelling c.args.labels.now) c.args.least in
    let text : string_bytes c.in_ok-line.line ≡ compact_text whole = c.in_ok-line.ensures.text none ∙ ap compact_text c.in_ok-value.ensures in
    c.in_ok-push_str.ensures.bytes ∙ ap (λ (bytes : List ℕ). bytes ++ codes "\n") text
