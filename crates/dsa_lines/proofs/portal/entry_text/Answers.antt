use Rattle.std.proofs.Common.{refl, sym, arith}
use Rattle.std.proofs.lemmas.Bool.{eq-eqb, ne_eqb}
use Rattle.std.proofs.lemmas.Result.{IfOk-weaker}
use Rattle.dsa_descriptor.proofs.Bytes.{IsBytes, u32_at-lt, u64_at-lt}
use Rattle.dsa_lines.specs.Portals.Submission.{Batch, Lone, Other}
use Rattle.dsa_lines.proofs.portal.entry_text.Goals as goal

pub returns-then-entry-eq-BATCH : goal.returns-then-entry-eq-BATCH
returns-then-entry-eq-BATCH c =
    let bytes : IsBytes c.args.entry.now = c.fits-entry in
    IfOk-weaker c.batch_text.result _ _ (λ line is. (
      Batch c.u32_at.result c.u64_at-list_at.result c.u64_at-record_at.result,
      record {
        code = eq-eqb _ _ c.if-entry-eq-BATCH.true;
        count_there = sym c.u32_at.ensures;
        list_there = sym c.u64_at-list_at.ensures;
        record_there = sym c.u64_at-record_at.ensures;
        count_fits = omega (arith, c.u32_at.ensures, u32_at-lt 32 c.args.entry.now bytes);
        list_fits = omega (arith, c.u64_at-list_at.ensures, u64_at-lt 16 c.args.entry.now bytes);
        record_fits = omega (arith, c.u64_at-record_at.ensures, u64_at-lt 8 c.args.entry.now bytes);
      },
      is,
    )) c.batch_text.ensures

pub returns-in-Ok : goal.returns-in-Ok
returns-in-Ok c = IfOk-weaker c.line_of.result _ _ (λ line is. (Lone c.in-Ok.operation, c.in-Ok.ensures.found, is)) c.line_of.ensures

pub returns-in-Err : goal.returns-in-Err
returns-in-Err c =
    IfOk-weaker c.other_text.result _ _ (λ line is. (
      Other c.args.entry.now c.in-Err.fault,
      (
        refl,
        record {
          no_batch = ne_eqb _ _ c.if-entry-eq-BATCH.false;
          fault_is = (c.in-Err.ensures.fault c.in-Err.fault).0 refl;
          whole = c.told-entry;
          are_bytes = c.fits-entry;
        },
      ),
      is,
    )) c.other_text.ensures
