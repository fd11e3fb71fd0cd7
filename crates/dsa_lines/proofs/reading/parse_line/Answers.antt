use Rattle.std.proofs.Common.{sym, subst, List, ℕ}
use Rattle.dsa_operations.specs.OperationFields.{operation_fields}
use Rattle.dsa_operations.proofs.Same.{listed_of}
use Rattle.dsa_lines.specs.Grammar.{Spells}
use Rattle.dsa_lines.proofs.RoundTrip.{line_spells}
use Rattle.dsa_lines.proofs.reading.parse_line.Goals as goal

pub returns-clause-again : goal.returns-clause-again
returns-clause-again c = λ o e. c.operation_of.ensures.only o (subst (λ (t : List ℕ). Spells t (operation_fields o)) (sym e) (line_spells (operation_fields o) (listed_of o)))
