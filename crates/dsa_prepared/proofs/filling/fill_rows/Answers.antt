use Rattle.std.proofs.Common.{◌≡◌, ℕ, List, length, sym, ap, ◌∙◌}
use Rattle.std.specs.Prelude.{Err}
use Rattle.dsa_prepared.specs.Templates.{Template}
use Rattle.dsa_prepared.specs.Filling.{written}
use Rattle.dsa_prepared.proofs.OneFault.{one_fault, no_fault}
use Rattle.dsa_prepared.proofs.AnyPlanned.{filled_any_is_planned}
use Rattle.dsa_prepared.proofs.Planned.{filled_is_planned}
use Rattle.dsa_prepared.proofs.Put.{buffers_written}
use Rattle.dsa_prepared.proofs.RowParts.{put_of}
use Rattle.dsa_prepared.specs.declared.row.Row.{Row}
use Rattle.dsa_prepared.specs.Rows.{entry_in, portal_rows, staging_rows, template_in}
use Rattle.std.proofs.lemmas.List.{length-map}
use Rattle.dsa_prepared.proofs.filling.fill_rows.Goals as goal

pub returns-in-Some-clause-refused : goal.returns-in-Some-clause-refused
returns-in-Some-clause-refused c = λ fault first.
    ap Err (one_fault (template_in c.args.rows.now) c.args.bases.now c.args.staging (length c.args.portal.now) (length c.args.area.now) c.in-Some.fault fault (c.in-Some.ensures c.args.staging) first)

pub returns-in-Some-base_fault-clause-refused : goal.returns-in-Some-base_fault-clause-refused
returns-in-Some-base_fault-clause-refused c = λ fault first.
    ap Err (one_fault (template_in c.args.rows.now) c.args.bases.now c.args.staging (length c.args.portal.now) (length c.args.area.now) c.in-Some-base_fault.fault fault
    (c.in-Some-base_fault.ensures (length c.args.portal.now) (length c.args.area.now) c.in-None.ensures.1) first)

pub returns-clause-refused : goal.returns-clause-refused
returns-clause-refused c = λ fault first.
    absurd (no_fault (template_in c.args.rows.now) c.args.bases.now c.args.staging (length c.args.portal.now) (length c.args.area.now) fault c.in-None.ensures c.in-None-base_fault.ensures first)

pub returns-clause-written : goal.returns-clause-written
returns-clause-written c =
    let rows : List Row = c.args.rows.now in
    let t : Template = template_in rows in
    let bases : List ℕ = c.args.bases.now in
    let count : length c.staging_rows-staged.result.now ≡ length t.staging = ap length c.staging_rows-staged.ensures.value ∙ sym (length-map (staging_rows rows) entry_in) in
    let batches : c.header_word.result ≡ t.batches = c.header_word.ensures in
    let put = put_of bases c.args.staging c.portal_rows.result.now (portal_rows rows) c.args.portal.now c.put_entries.new.buffer c.portal_rows.ensures.value c.put_entries.ensures in
    let put' = put_of bases c.args.staging c.staging_rows-staged.result.now (staging_rows rows) c.args.area.now c.put_entries-2.new.buffer c.staging_rows-staged.ensures.value c.put_entries-2.ensures in
    let both = buffers_written t bases c.args.staging c.args.portal.now c.put_entries.new.buffer c.args.area.now c.put_entries-2.new.buffer c.put_zeros.new.buffer (length c.staging_rows-staged.result.now) c.header_word.result put put' count batches c.put_zeros.ensures in
    both

pub returns-clause-planned : goal.returns-clause-planned
returns-clause-planned c = λ list s ds prepared.
    let t : Template = template_in c.args.rows.now in
    let both = returns-clause-written c in
    let h = filled_is_planned list s t.regions ds t c.args.bases.now c.args.staging prepared c.in-None.ensures.0 c.in-None-base_fault.ensures in
    record {
      submission = h.0;
      planned = h.1;
      portal_is = both.0 ∙ ap (λ (bytes : List ℕ). written bytes c.args.portal.now) (sym h.2);
      staging_is = both.1 ∙ ap (λ (bytes : List ℕ). written bytes c.args.area.now) (sym h.3);
    }

pub returns-clause-planned_any : goal.returns-clause-planned_any
returns-clause-planned_any c = λ list s operations prepared.
    let t : Template = template_in c.args.rows.now in
    let both = returns-clause-written c in
    let h = filled_any_is_planned list s t.regions operations t c.args.bases.now c.args.staging prepared c.in-None.ensures.0 c.in-None-base_fault.ensures in
    record {
      submission = h.0;
      planned = h.1;
      portal_is = both.0 ∙ ap (λ (bytes : List ℕ). written bytes c.args.portal.now) (sym h.2);
      staging_is = both.1 ∙ ap (λ (bytes : List ℕ). written bytes c.args.area.now) (sym h.3);
    }
