use Rattle.std.proofs.Common.{◌≡◌, ◌≤◌, ◌+◌, ◌++◌, length}
use Rattle.dsa_sentences.specs.Texts.{filled, longest}
use Rattle.dsa_sentences.proofs.text.push_filled.Given as goal

abbrev pub invariant-loop-rest : goal.invariant-loop-rest
invariant-loop-rest l =
    (l.fn.text.items ++ filled l.sentence l.first l.second ≡ l.text.items ++ filled l.rest l.first l.second)
    × (length l.text.items + longest l.rest ≤ length l.fn.text.items + longest l.sentence)

abbrev pub decreases-loop-rest : goal.decreases-loop-rest
decreases-loop-rest l = length l.rest
