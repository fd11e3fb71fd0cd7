use Rattle.std.proofs.Common.{rules, arith}
use Rattle.std.proofs.lemmas.Bool.{ne_eqb}
use Rattle.dsa_lines.proofs.RoundTrip.{number_is}
use Rattle.dsa_lines.proofs.writing.push_number.Goals as goal

pub returns : goal.returns
returns c = rw (number_is c.args.name.now c.args.number c.requires (ne_eqb _ _ c.if-number-eq0.false) (omega arith)) (search rules)
