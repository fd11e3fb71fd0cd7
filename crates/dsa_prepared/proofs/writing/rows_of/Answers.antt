use Rattle.std.proofs.Common.{◌≡◌, List, [], ◌∷◌, ◌++◌, map, ap, subst, ◌∙◌}
use Rattle.dsa_prepared.specs.declared.entry.Entry.{Entry}
use Rattle.dsa_prepared.specs.declared.tie.Tie.{Tie}
use Rattle.dsa_prepared.specs.Sound.{IsSound}
use Rattle.dsa_prepared.specs.Templates.{Template}
use Rattle.dsa_prepared.specs.Rows.{entry_row, entry_in, tie_row, region_rows_of, rows_of}
use Rattle.dsa_prepared.proofs.RowLists.{rows_joined, rows_read}
use Rattle.dsa_prepared.proofs.writing.rows_of.Goals as goal

pub returns : goal.returns
returns c =
    let t : Template = c.args.parts.now in
    let regions = c.deref.ensures.value ∙ (ap (λ (x : Template). x.regions) c.parts.view_is) in
    let units = c.deref-2.ensures.value ∙ (ap (λ (x : Template). x.units) c.parts.view_is) in
    let ties : c.deref-3.result.now ≡ t.ties = c.deref-3.ensures.value ∙ (ap (λ (x : Template). x.ties) c.parts.view_is) in
    let portal : c.deref-4.result.now ≡ t.portal = c.deref-4.ensures.value ∙ (ap (λ (x : Template). x.portal) c.parts.view_is) in
    let staging : c.deref-5.result.now ≡ t.staging = c.deref-5.ensures.value ∙ (ap (λ (x : Template). x.staging) c.parts.view_is) in
    let first = c.in_ok-push.ensures.items ∙ (λ i. c.in_ok-rows.ensures.items i ++ (c.header_row.ensures i ∷ [])) in
    let all : c.push_entries-2.new.rows.items ≡ rows_of t =
    rows_joined t c.push.new.self.items c.push_regions.new.rows.items c.push_ties.new.rows.items c.push_entries.new.rows.items c.push_entries-2.new.rows.items
    first
    (c.in_ok-push_regions.ensures ∙ (λ i. c.push.new.self.items ++ region_rows_of (regions i) (units i)))
    (c.in_ok-push_ties.ensures ∙ ap (λ (xs : List Tie). c.push_regions.new.rows.items ++ map tie_row xs) ties)
    (c.in_ok-push_entries.ensures.0 ∙ ap (λ (xs : List Entry). c.push_ties.new.rows.items ++ map entry_row xs) portal)
    (c.in_ok-push_entries-2.ensures.0 ∙ ap (λ (xs : List Entry). c.push_entries.new.rows.items ++ map entry_row xs) staging) in
    let read = subst (λ (xs : List Entry). map entry_in (map entry_row xs) ≡ xs) portal c.in_ok-push_entries.ensures.1 in
    let read' = subst (λ (xs : List Entry). map entry_in (map entry_row xs) ≡ xs) staging c.in_ok-push_entries-2.ensures.1 in
    let sound = subst IsSound c.parts.view_is c.parts.invariant in
    let both = rows_read t c.push_entries-2.new.rows.items all sound read read' in
    (all, both.0, both.1)
