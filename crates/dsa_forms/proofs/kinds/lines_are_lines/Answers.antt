use Rattle.std.proofs.Common.{ap}
use Rattle.std.specs.Prelude.{Bool, if◌then◌else◌}
use Rattle.dsa_forms.specs.declared.kinds.InputKind.TheVariants.{Bytes, Lines}
use Rattle.dsa_forms.specs.Forms.{is_word_of_digits}
use Rattle.dsa_forms.proofs.kinds.lines_are_lines.Goals as goal

pub returns : goal.returns
unfolding is_word_of_digits
returns c = λ rest none.
    let lines = ap (λ (b : Bool). if b then Bytes else Lines) none in
    (lines, (lines, (lines, (lines, (lines, (lines, (lines, (lines, (lines, (lines, tt))))))))))
