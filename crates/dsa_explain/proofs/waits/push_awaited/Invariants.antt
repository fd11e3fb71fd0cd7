use Rattle.std.proofs.Common.{◌≡◌, ◌++◌}
use Rattle.std.specs.Prelude.{string_bytes}
use Rattle.dsa_explain.specs.Waits.{awaited_words}
use Rattle.dsa_explain.proofs.waits.push_awaited.Given as goal

abbrev pub invariant-loop-number : goal.invariant-loop-number
invariant-loop-number l = string_bytes l.text ≡ string_bytes l.fn.text ++ awaited_words l.slots l.set l.number
