-- How many rows a prepared list has.
use Rattle.std.proofs.Common.{◌≡◌, ℕ, ◌<◌, ◌≤◌, ◌*◌, inl, inr, List, [], ◌∷◌, ◌++◌, length, map, ap, subst, sym, arith}
use Rattle.std.proofs.lemmas.Bool.{cases_lt}
use Rattle.std.proofs.lemmas.List.{length-append, length-map}
use Rattle.std.proofs.lemmas.List.Sums.{sum_by-cons}
use Rattle.dsa_descriptor.specs.declared.descriptor.Descriptor.{Descriptor}
use Rattle.dsa_descriptor.specs.declared.span.Span.{Span}
use Rattle.dsa_descriptor.specs.Descriptors.{fields}
use Rattle.dsa_descriptor.specs.Fields.{Fields}
use Rattle.dsa_image.specs.Lines.{quotient_up}
use Rattle.dsa_image.proofs.Rounds.{parts_reach}
use Rattle.dsa_settings.specs.Settings.{Limits}
use Rattle.dsa_operations.specs.declared.operation.Operation.{Operation}
use Rattle.dsa_operations.specs.declared.operation.Operation.TheVariants as operation
use Rattle.dsa_settings.specs.Plan.{Plan, piece_count}
use Rattle.dsa_splitter.specs.Pieces.{all_pieces}
use Rattle.dsa_splitter.specs.Rules.{piece_total}
use Rattle.dsa_splitter.proofs.Walks.{length_all}
use Rattle.dsa_calls.specs.Planned.{Submission}
use Rattle.dsa_prepared.specs.Preparing.{IsAnyCostedOf}
use Rattle.dsa_prepared.specs.Rows.{entry_row, region_rows_of, rows_of, tie_row}
use Rattle.dsa_prepared.specs.Templates.{Template, template_of, units_of}
use Rattle.dsa_prepared.proofs.SoundTemplates.{few_entries, few_ties}
use Rattle.dsa_c.specs.Preparing.{prepared_room}

-- a row for each region at most
few_regions : (rs : List Span) (units : List ℕ) → length (region_rows_of rs units) ≤ length rs
few_regions [] units = omega arith
few_regions (r ∷ rs) [] = omega arith
few_regions (r ∷ rs) (u ∷ units) = omega (arith, few_regions rs units)

-- each operation has a piece at least
some_piece : (size greatest : ℕ) → 0 < size → 0 < greatest → 1 ≤ quotient_up size greatest
some_piece size greatest some pos =
    elim (cases_lt 0 (quotient_up size greatest)) [
      | inl more ↦ omega (arith, more)
      | inr few ↦
          let none : quotient_up size greatest ≡ 0 = omega (arith, few) in
          let reach : size ≤ greatest * 0 = subst (λ (q : ℕ). size ≤ greatest * q) none (parts_reach greatest size pos) in
          absurd (omega (arith, reach, some))
    ]

many_pieces : (ds : List Descriptor) (greatest : ℕ) → 0 < greatest → length ds ≤ piece_total greatest (map fields ds)
many_pieces [] greatest pos = omega arith
many_pieces (d ∷ ds) greatest pos =
    omega (
      arith,
      some_piece d.size greatest d.listed.size_positive pos,
      many_pieces ds greatest pos,
      sum_by-cons (λ (f : Fields). quotient_up f.size greatest) (fields d) (map fields ds),
    )

-- the rows of a template of pieces
rows_of_parts : (rs : List Span) (t : Template) (operations pieces : ℕ) → length (region_rows_of t.regions t.units) ≤ length rs → length t.ties ≤ operations → operations ≤ pieces
    → length t.portal ≤ pieces → length t.staging ≤ pieces → length (rows_of t) ≤ prepared_room (length rs) pieces
rows_of_parts rs t operations pieces regions ties more portal staging =
    let regions_of = region_rows_of t.regions t.units in
    let portal_rows = map entry_row t.portal in
    let staging_rows = map entry_row t.staging in
    let tie_rows = map tie_row t.ties in
    omega (
      arith,
      regions,
      ties,
      more,
      portal,
      staging,
      length-map t.ties tie_row,
      length-map t.portal entry_row,
      length-map t.staging entry_row,
      length-append portal_rows staging_rows,
      length-append tie_rows (portal_rows ++ staging_rows),
      length-append regions_of (tie_rows ++ (portal_rows ++ staging_rows)),
    )

few_of_template : (rs : List Span) (operations pieces : List Operation) (plan : Plan) → piece_count plan ≡ length pieces → length operations ≤ length pieces
    → length (rows_of (template_of rs operations plan pieces)) ≤ prepared_room (length rs) (length pieces)
few_of_template rs operations pieces plan covers more =
    let entries = few_entries rs plan pieces covers in
    rows_of_parts rs (template_of rs operations plan pieces) (length operations) (length pieces) (few_regions rs (units_of rs operations)) (few_ties rs operations) more entries.0 entries.1

few_kept : (s : Limits) (rs : List Span) (ds : List Descriptor) (p : Submission) (t : Template) → 8 ≤ s.greatest_transfer → map fields p.pieces ≡ all_pieces (map fields ds) s.greatest_transfer
    → piece_count p.plan ≡ length p.pieces → t ≡ template_of rs (map operation.Descriptor ds) p.plan (map operation.Descriptor p.pieces) → length (rows_of t) ≤ prepared_room (length rs) t.pieces
few_kept s rs ds p t least are covers is =
    let pos : 0 < s.greatest_transfer = omega (arith, least) in
    let count = length-map p.pieces operation.Descriptor in
    let more : length ds ≤ length p.pieces = omega (arith, many_pieces ds s.greatest_transfer pos, length_all (map fields ds) s.greatest_transfer, ap length are, length-map p.pieces fields) in
    let rows = few_of_template rs (map operation.Descriptor ds) (map operation.Descriptor p.pieces) p.plan (omega (arith, covers, count)) (omega (arith, more, count, length-map ds operation.Descriptor)) in
    subst (λ (x : Template). length (rows_of x) ≤ prepared_room (length rs) x.pieces) (sym is) rows

pub few_rows : (list : List ℕ) (s : Limits) (rs : List Span) (operations : List Operation) (t : Template) (cost : ℕ) → IsAnyCostedOf list s rs operations t cost
    → length (rows_of t) ≤ prepared_room (length rs) t.pieces
few_rows list s rs operations t cost (inl (of, (ds, (h, is), are))) = few_kept s rs ds h.submission t h.kept.limits.least_transfer h.planned.pieces_are h.planned.of_pieces.chosen.has_plan.covers h.kept.template
few_rows list s rs operations t cost (inr (none, (h, is))) =
    subst (λ (x : Template). length (rows_of x) ≤ prepared_room (length rs) x.pieces) (sym h.kept.template)
    (few_of_template rs operations operations h.submission.plan h.planned.chosen.has_plan.covers (omega arith))
