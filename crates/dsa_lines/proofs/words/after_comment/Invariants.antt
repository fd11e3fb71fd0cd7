use Rattle.std.proofs.Common.{◌≡◌, true, length}
use Rattle.dsa_lines.specs.Words.{words_in}
use Rattle.dsa_lines.proofs.words.after_comment.Given as goal

abbrev pub invariant-loop-rest : goal.invariant-loop-rest
invariant-loop-rest l = words_in true l.rest ≡ words_in true l.text

abbrev pub decreases-loop-rest : goal.decreases-loop-rest
decreases-loop-rest l = length l.rest
