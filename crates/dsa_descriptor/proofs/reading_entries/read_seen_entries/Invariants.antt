use Rattle.std.proofs.Common.{◌≡◌, ◌&&◌, ◌*◌, ℕ, ◌<◌, length, eqb, not, take, vec_len, vec_capacity}
use Rattle.std.specs.Prelude.{IfSome}
use Rattle.std.specs.List.{flat_map, list_any}
use Rattle.dsa_descriptor.specs.Lists.{IsSoundAt}
use Rattle.dsa_descriptor.specs.Fences.{is_fenced, seen_list}
use Rattle.dsa_descriptor.proofs.reading_entries.read_seen_entries.Given as goal

-- each entry so far is sound, its fence is noted if there may be one, and the list, if there is one, has what it spells and room for the others
abbrev pub invariant-loop-index : goal.invariant-loop-index
invariant-loop-index g l =
    let spelling = g.E.Entry.spelling in
    record {
      sound : (j : ℕ) → j < l.index → IsSoundAt g.E.Entry.keeps (seen_list (not (eqb g.row.FENCED 0)) l.bytes) j;
      spelt : IfSome l.list (λ list. flat_map spelling list.items ≡ take (64 * l.index) (seen_list (not (eqb g.row.FENCED 0)) l.bytes));
      noted : l.fenced ≡ (not (eqb g.row.FENCED 0) && list_any is_fenced (take l.index l.all));
      room : IfSome l.list (λ list. (vec_len list ≡ l.index) × (vec_capacity list ≡ length l.all));
    }
