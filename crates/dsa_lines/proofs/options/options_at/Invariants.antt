use Rattle.std.proofs.Common.{◌≡◌, ◌-◌}
use Rattle.dsa_lines.specs.Words.{words_of}
use Rattle.dsa_lines.specs.Options.{no_options}
use Rattle.dsa_lines.specs.Grammar.{options_at}
use Rattle.dsa_lines.proofs.options.options_at.Given as goal

abbrev pub invariant-loop-turn : goal.invariant-loop-turn
invariant-loop-turn l = options_at (5 - l._turn) l.options (words_of l.rest) ≡ options_at 5 no_options (words_of l.text)
