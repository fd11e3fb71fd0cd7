use Rattle.std.proofs.Common.{List, ℕ, ◌≡◌, ap, ◌∙◌, refl, arith}
use Rattle.std.specs.List.{sum_by}
use Rattle.dsa_settings.specs.Settings.{Limits}
use Rattle.dsa_descriptor.specs.Lists.{entries}
use Rattle.dsa_c.specs.Raw.{limits_of}
use Rattle.dsa_c.specs.Counting.{pieces_of}
use Rattle.dsa_c.proofs.Rooms.{planned_counted, has_room}
use Rattle.dsa_c.proofs.counting.dsa_count_pieces.Goals as goal

pub returns-in-Some-count : goal.returns-in-Some-count
returns-in-Some-count c =
    let s = c.args.settings.now in
    let table = c.args.table.now in
    let list = c.args.list.now in
    let greatest : c.greatest_transfer.result ≡ s.greatest_transfer = c.greatest_transfer.ensures.value ∙ ap (λ (l : Limits). l.greatest_transfer) c.in-Some.ensures.0 in
    let all = ap (λ (es : List (List ℕ)). sum_by (pieces_of c.greatest_transfer.result) es) c.as_chunks.ensures.front ∙ ap (λ (n : ℕ). sum_by (pieces_of n) (entries list)) greatest in
    let few = c.in-Some-count.ensures.0 in
    let total = c.in-Some-count.ensures.1 ∙ all in
    record {
      counted = record { no_settings = λ none. absurd (none c.in-Some.ensures.1); few = λ are less. total; many = λ are more. absurd (omega (arith, more, few, total)) };
      planned = λ p are planned. (total ∙ (planned_counted list (limits_of s table) p planned).count, has_room list (limits_of s table) p planned);
    }

pub returns-in-None : goal.returns-in-None
returns-in-None c =
    let s = c.args.settings.now in
    let table = c.args.table.now in
    let list = c.args.list.now in
    let greatest : c.greatest_transfer.result ≡ s.greatest_transfer = c.greatest_transfer.ensures.value ∙ ap (λ (l : Limits). l.greatest_transfer) c.in-Some.ensures.0 in
    let all = ap (λ (es : List (List ℕ)). sum_by (pieces_of c.greatest_transfer.result) es) c.as_chunks.ensures.front ∙ ap (λ (n : ℕ). sum_by (pieces_of n) (entries list)) greatest in
    let many = c.in-None.ensures in
    record {
      counted = record { no_settings = λ none. absurd (none c.in-Some.ensures.1); few = λ are less. absurd (omega (arith, many, all, less)); many = λ are more. refl };
      planned = λ p are planned.
          let are_counted = planned_counted list (limits_of s table) p planned in
          absurd (omega (arith, many, all, are_counted.count, are_counted.few));
    }
