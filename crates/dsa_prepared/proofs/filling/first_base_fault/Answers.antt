use Rattle.std.proofs.Common.{◌≡◌, ◌*◌, ℕ, List, map, length, sym, ap, subst, ◌∙◌}
use Rattle.std.proofs.lemmas.Bool.{false≢true}
use Rattle.std.proofs.lemmas.List.{get_or-map}
use Rattle.dsa_descriptor.specs.declared.span.Span.{Span}
use Rattle.dsa_descriptor.specs.Spans.{span}
use Rattle.dsa_prepared.specs.declared.row.Row.{Row}
use Rattle.dsa_prepared.specs.declared.tie.Tie.{Tie}
use Rattle.dsa_prepared.proofs.RowChecks.{no_row}
use Rattle.dsa_prepared.specs.Filling.{AllBelow, tie_at, FitsAt, IsAlignedBase, IsTiedAt, AreApartAt, IsApartFromEarlier, IsClearAt, IsFirstNot, AllFit, AllAligned, AllTied, AllApart, AllClear}
use Rattle.dsa_prepared.specs.Rows.{region_in, unit_in, tie_in, region_rows, tie_rows, header_word, template_in}
use Rattle.dsa_prepared.proofs.RowParts.{all_of, first_of}
use Rattle.dsa_prepared.proofs.filling.first_base_fault.Goals as goal

pub returns-in-Some : goal.returns-in-Some
returns-in-Some c =
    let rows : List Row = c.args.rows.now in
    let bases : List ℕ = c.args.bases.now in
    let found : List Row = c.region_rows-regions.result.now in
    let whole : List Row = region_rows rows in
    let is : found ≡ whole = c.region_rows-regions.ensures.value in
    let first = first_of (λ (rs : List Row). FitsAt (map region_in rs) bases) region_in found whole c.in-Some.region is c.in-Some.ensures in
    λ portal_len staging_len room. ((c.requires.based, room), first)

pub returns-in-Some-first_misaligned : goal.returns-in-Some-first_misaligned
returns-in-Some-first_misaligned c =
    let rows : List Row = c.args.rows.now in
    let bases : List ℕ = c.args.bases.now in
    let found : List Row = c.region_rows-regions.result.now in
    let whole : List Row = region_rows rows in
    let is : found ≡ whole = c.region_rows-regions.ensures.value in
    let fit : AllFit (template_in rows) bases = all_of (λ (rs : List Row). FitsAt (map region_in rs) bases) region_in found whole is c.in-None.ensures in
    let first = first_of (λ (rs : List Row). IsAlignedBase (map region_in rs) (map unit_in rs) bases) region_in found whole c.in-Some-first_misaligned.region is c.in-Some-first_misaligned.ensures in
    λ portal_len staging_len room. ((c.requires.based, room), fit, first)

pub returns-in-Some-first_untied : goal.returns-in-Some-first_untied
returns-in-Some-first_untied c =
    let rows : List Row = c.args.rows.now in
    let bases : List ℕ = c.args.bases.now in
    let found : List Row = c.region_rows-regions.result.now in
    let whole : List Row = region_rows rows in
    let is : found ≡ whole = c.region_rows-regions.ensures.value in
    let fit : AllFit (template_in rows) bases = all_of (λ (rs : List Row). FitsAt (map region_in rs) bases) region_in found whole is c.in-None.ensures in
    let aligned : AllAligned (template_in rows) bases = all_of (λ (rs : List Row). IsAlignedBase (map region_in rs) (map unit_in rs) bases) region_in found whole is c.in-None-first_misaligned.ensures in
    let ties : c.tie_rows-ties.result.now ≡ tie_rows rows = c.tie_rows-ties.ensures.value in
    let k : ℕ = c.in-Some-first_untied.k in
    let first = first_of (λ (ts : List Row). IsTiedAt (map tie_in ts) bases) tie_in c.tie_rows-ties.result.now (tie_rows rows) k ties c.in-Some-first_untied.ensures in
    let here : c.tie-tie.result ≡ tie_at (map tie_in (tie_rows rows)) k =
    c.tie-tie.ensures ∙ sym (get_or-map tie_in c.tie_rows-ties.result.now k no_row (record { region = 0; offset = 0; other = 0; other_offset = 0 }) c.in-Some-first_untied.ensures.0)
    ∙ ap (λ (ts : List Row). tie_at (map tie_in ts) k) ties in
    λ portal_len staging_len room. ((c.requires.based, room), fit, aligned, (k, first, ap (λ (tie : Tie). tie.region) here, ap (λ (tie : Tie). tie.other) here))

pub returns-in-Some-first_meeting : goal.returns-in-Some-first_meeting
returns-in-Some-first_meeting c =
    let rows : List Row = c.args.rows.now in
    let bases : List ℕ = c.args.bases.now in
    let found : List Row = c.region_rows-regions.result.now in
    let whole : List Row = region_rows rows in
    let is : found ≡ whole = c.region_rows-regions.ensures.value in
    let fit : AllFit (template_in rows) bases = all_of (λ (rs : List Row). FitsAt (map region_in rs) bases) region_in found whole is c.in-None.ensures in
    let aligned : AllAligned (template_in rows) bases = all_of (λ (rs : List Row). IsAlignedBase (map region_in rs) (map unit_in rs) bases) region_in found whole is c.in-None-first_misaligned.ensures in
    let tied : AllTied (template_in rows) bases = all_of (λ (ts : List Row). IsTiedAt (map tie_in ts) bases) tie_in c.tie_rows-ties.result.now (tie_rows rows) c.tie_rows-ties.ensures.value c.in-None-first_untied.ensures in
    let first = c.in-Some-first_meeting.ensures in
    let one = first_of (λ (rs : List Row). IsApartFromEarlier (map region_in rs) bases) region_in found whole c.in-Some-first_meeting.region is first.0 in
    let two = subst (λ (rs : List Row). IsFirstNot c.in-Some-first_meeting.region (AreApartAt (map region_in rs) bases c.in-Some-first_meeting.region) c.in-Some-first_meeting.earlier) is first.1 in
    λ portal_len staging_len room. ((c.requires.based, room), fit, aligned, tied, one, two)

pub returns-in-Some-first_in_area : goal.returns-in-Some-first_in_area
returns-in-Some-first_in_area c =
    let rows : List Row = c.args.rows.now in
    let bases : List ℕ = c.args.bases.now in
    let found : List Row = c.region_rows-regions.result.now in
    let whole : List Row = region_rows rows in
    let is : found ≡ whole = c.region_rows-regions.ensures.value in
    let fit : AllFit (template_in rows) bases = all_of (λ (rs : List Row). FitsAt (map region_in rs) bases) region_in found whole is c.in-None.ensures in
    let aligned : AllAligned (template_in rows) bases = all_of (λ (rs : List Row). IsAlignedBase (map region_in rs) (map unit_in rs) bases) region_in found whole is c.in-None-first_misaligned.ensures in
    let tied : AllTied (template_in rows) bases = all_of (λ (ts : List Row). IsTiedAt (map tie_in ts) bases) tie_in c.tie_rows-ties.result.now (tie_rows rows) c.tie_rows-ties.ensures.value c.in-None-first_untied.ensures in
    let apart : AllApart (template_in rows) bases = all_of (λ (rs : List Row). IsApartFromEarlier (map region_in rs) bases) region_in found whole is c.in-None-first_meeting.ensures in
    let here = subst (λ (area : Span). IsFirstNot (length found) (IsClearAt (map region_in found) bases area) c.in-Some-first_in_area.region) c.area_of-area.ensures c.in-Some-first_in_area.ensures in
    let first = first_of (λ (rs : List Row). IsClearAt (map region_in rs) bases (span c.args.staging (96 * header_word rows 6))) region_in found whole c.in-Some-first_in_area.region is here in
    λ portal_len staging_len room. ((c.requires.based, room), fit, aligned, tied, apart, first)

pub returns-then-allows : goal.returns-then-allows
returns-then-allows c =
    let rows : List Row = c.args.rows.now in
    let bases : List ℕ = c.args.bases.now in
    let found : List Row = c.region_rows-regions.result.now in
    let whole : List Row = region_rows rows in
    let is : found ≡ whole = c.region_rows-regions.ensures.value in
    let fit : AllFit (template_in rows) bases = all_of (λ (rs : List Row). FitsAt (map region_in rs) bases) region_in found whole is c.in-None.ensures in
    let aligned : AllAligned (template_in rows) bases = all_of (λ (rs : List Row). IsAlignedBase (map region_in rs) (map unit_in rs) bases) region_in found whole is c.in-None-first_misaligned.ensures in
    let tied : AllTied (template_in rows) bases = all_of (λ (ts : List Row). IsTiedAt (map tie_in ts) bases) tie_in c.tie_rows-ties.result.now (tie_rows rows) c.tie_rows-ties.ensures.value c.in-None-first_untied.ensures in
    let apart : AllApart (template_in rows) bases = all_of (λ (rs : List Row). IsApartFromEarlier (map region_in rs) bases) region_in found whole is c.in-None-first_meeting.ensures in
    let clear : AllClear (template_in rows) bases c.args.staging = all_of (λ (rs : List Row). IsClearAt (map region_in rs) bases (span c.args.staging (96 * header_word rows 6))) region_in found whole is
    (subst (λ (area : Span). AllBelow (length found) (IsClearAt (map region_in found) bases area)) c.area_of-area.ensures c.in-None-first_in_area.ensures) in
    record { fit = fit; aligned = aligned; tied = tied; apart = apart; clear = clear; address = c.allows.ensures.0 c.if-allows.true }

pub returns-else-allows : goal.returns-else-allows
returns-else-allows c =
    let rows : List Row = c.args.rows.now in
    let bases : List ℕ = c.args.bases.now in
    let found : List Row = c.region_rows-regions.result.now in
    let whole : List Row = region_rows rows in
    let is : found ≡ whole = c.region_rows-regions.ensures.value in
    let fit : AllFit (template_in rows) bases = all_of (λ (rs : List Row). FitsAt (map region_in rs) bases) region_in found whole is c.in-None.ensures in
    let aligned : AllAligned (template_in rows) bases = all_of (λ (rs : List Row). IsAlignedBase (map region_in rs) (map unit_in rs) bases) region_in found whole is c.in-None-first_misaligned.ensures in
    let tied : AllTied (template_in rows) bases = all_of (λ (ts : List Row). IsTiedAt (map tie_in ts) bases) tie_in c.tie_rows-ties.result.now (tie_rows rows) c.tie_rows-ties.ensures.value c.in-None-first_untied.ensures in
    let apart : AllApart (template_in rows) bases = all_of (λ (rs : List Row). IsApartFromEarlier (map region_in rs) bases) region_in found whole is c.in-None-first_meeting.ensures in
    let clear : AllClear (template_in rows) bases c.args.staging = all_of (λ (rs : List Row). IsClearAt (map region_in rs) bases (span c.args.staging (96 * header_word rows 6))) region_in found whole is
    (subst (λ (area : Span). AllBelow (length found) (IsClearAt (map region_in found) bases area)) c.area_of-area.ensures c.in-None-first_in_area.ensures) in
    λ portal_len staging_len room. ((c.requires.based, room), fit, aligned, tied, apart, clear, λ at. absurd (false≢true (sym c.if-allows.false ∙ c.allows.ensures.1 at)))
