use Rattle.std.proofs.Common.{◌<◌, ℕ, Some, subst, arith}
use Rattle.std.specs.Int.{bit_at}
use Rattle.std.proofs.lemmas.Option.{same_Some}
use Rattle.dsa_tracker.proofs.Asked.{conflicts_one, no_addresses}
use Rattle.dsa_tracker.proofs.Noting.{all_low, may_conflict}
use Rattle.dsa_tracker.proofs.asking.slots_against_one.Goals as goal

pub returns-then-span-eq0 : goal.returns-then-span-eq0
returns-then-span-eq0 c = λ covered k. no_addresses c.args.shape.width c.args.stores.now c.args.others.among c.args.span c.if-span-eq0.true c.args.is_written k

pub returns : goal.returns
returns c = λ covered k.
    let same = conflicts_one c.args.shape.width c.args.stores.now (λ i. let fits = c.type_inv.stores i in fits.fits) c.args.span c.saturating_add-last.result c.if-span-eq0.false (omega (arith, c.saturating_add-last.ensures)) c.args.is_written k in
    let exact = c.slots_in_conflict.ensures k in
    let sought = c.candidates-sought.ensures k in (
      λ h. let e = exact.0 h in ((sought.0 e.0).0, same.0 e.1),
      λ h.
          let here = same.1 h.1 in
          exact.1 (
            sought.1 (
              h.0,
              may_conflict c.args.shape.width c.args.stores.now c.args.shape.grid c.args.rows.now c.args.others.wide c.args.is_written c.args.span.first c.saturating_add-last.result k (Some c.look_at_units-noted.result)
                  (λ n is a from to seen. subst (λ (m : ℕ). 0 < bit_at m k) (same_Some c.look_at_units-noted.result n is) (c.look_at_units-noted.ensures a k (all_low c.args.others.among (omega arith) k h.0) from to seen))
                  (covered k h.0) here,
            ),
            here,
          ),
    )
