use Rattle.std.proofs.Common.{refl}
use Rattle.dsa_prepared.proofs.RowChecks.{rows_sound, staged_lie}
use Rattle.dsa_prepared.proofs.reading.are_prepared.Goals as goal

pub returns : goal.returns
returns c =
    let rs = c.region_rows-regions.ensures.value in
    let header = c.if-not-have_header.ensures.0 refl in
    let units = c.if-not-are_units.ensures.0 refl in
    let ties = c.if-not-ties_lie.ensures.0 refl in
    let portal = c.if-not-entries_lie.ensures.0 refl in (
      λ yes. record {
        header = header;
        sound = rows_sound c.args.rows.now c.region_rows-regions.result.now c.tie_rows.result.now c.portal_rows.result.now c.staging_rows.result.now
            rs c.tie_rows.ensures.value c.portal_rows.ensures.value c.staging_rows.ensures.value header units ties portal (c.entries_lie-2.ensures.0 yes);
      },
      λ are. c.entries_lie-2.ensures.1 (staged_lie c.args.rows.now c.region_rows-regions.result.now c.staging_rows.result.now rs c.staging_rows.ensures.value are),
    )
