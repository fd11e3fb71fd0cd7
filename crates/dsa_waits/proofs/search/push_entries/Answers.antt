use Rattle.std.proofs.Common.{ℕ, ◌+◌, sym, subst, arith}
use Rattle.dsa_waits.specs.Steps.{AreBelow, WithRange}
use Rattle.dsa_waits.proofs.Rising.{below_push, range_push}
use Rattle.dsa_waits.proofs.search.push_entries.Goals as goal

pub loop-entry-preserved : goal.loop-entry-preserved
loop-entry-preserved c =
    let is = c.in_ok-push.ensures.items in
    record {
      range =
          subst (WithRange c.args.outstanding.now.items c.args.from (c.loop-entry.entry + 1)) (sym is)
          (range_push c.args.outstanding.now.items c.loop-entry.outstanding.items c.args.from c.loop-entry.entry (omega arith) c.loop-entry.invariant.range c.loop-entry.invariant.below);
      below =
          subst (AreBelow (c.loop-entry.entry + 1)) (sym is)
          (below_push c.loop-entry.entry c.loop-entry.outstanding.items c.loop-entry.invariant.below);
    }

pub returns : goal.returns
returns c =
    subst (λ (n : ℕ). WithRange c.args.outstanding.now.items c.args.from n c.loop-entry.outstanding.items) (omega (arith, c.requires.begun)) c.loop-entry.invariant.range
