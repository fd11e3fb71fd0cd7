use Rattle.std.proofs.Common.{arith}
use Rattle.dsa_conflicts.proofs.Levels.{none_stamped}
use Rattle.dsa_conflicts.proofs.stamps.Levels.new.Goals as goal

pub returns-clause-fits : goal.returns-clause-fits
returns-clause-fits c = record {
  places = omega (arith, c.in_ok-vec.ensures.len);
  blocks = omega (arith, c.div_ceil-blocks.ensures, c.in_ok-vec.ensures.len, c.in_ok-vec-2.ensures.len);
  tops = omega (arith, c.div_ceil-tops.ensures, c.in_ok-vec-2.ensures.len, c.in_ok-vec-3.ensures.len);
}

pub returns-clause-places : goal.returns-clause-places
returns-clause-places c = none_stamped c.in_ok-vec.field-0.items c.args.count (c.in_ok-vec.ensures.items_if_clones_equal (λ stamp is. is))

pub returns-clause-blocks : goal.returns-clause-blocks
returns-clause-blocks c = none_stamped c.in_ok-vec-2.field-0.items c.div_ceil-blocks.result (c.in_ok-vec-2.ensures.items_if_clones_equal (λ stamp is. is))

pub returns-clause-tops : goal.returns-clause-tops
returns-clause-tops c = none_stamped c.in_ok-vec-3.field-0.items c.div_ceil-tops.result (c.in_ok-vec-3.ensures.items_if_clones_equal (λ stamp is. is))
