use Rattle.std.proofs.Common.{◌≡◌, ◌++◌, drop, map}
use Rattle.std.specs.Prelude.{option_map}
use Rattle.dsa_lines.specs.Numbers.{number_of}
use Rattle.dsa_advice.specs.Numbers.{all_of}
use Rattle.dsa_advice.proofs.numbers.numbers_in.Given as goal

-- the numbers so far, and those of what is left, are all
abbrev pub invariant-loop-word : goal.invariant-loop-word
invariant-loop-word l =
    option_map (λ more. l.numbers.items ++ more) (all_of (map (λ word. number_of word.now) (drop l.word-index l.words)))
    ≡ all_of (map (λ word. number_of word.now) l.words)
