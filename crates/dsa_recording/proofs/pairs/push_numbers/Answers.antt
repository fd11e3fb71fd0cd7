use Rattle.std.proofs.Common.{◌<◌, string_bytes, sym, subst}
use Rattle.dsa_recording.proofs.Fronts.{IsKeyAfter, IsNextText, LeftFrom, keys_fewer, keys_left, reached_next}
use Rattle.dsa_recording.proofs.pairs.push_numbers.Goals as goal

pub loop-rest-smaller : goal.loop-rest-smaller
loop-rest-smaller c =
    let accepted = c.args.accepted.now in
    let front = c.args.front.now in
    let found = c.in_ok-rest-2.rest in
    let next : IsNextText accepted front (string_bytes c.in_ok-next.next) found = subst (λ l. IsNextText accepted front l found) c.deref.ensures c.in_ok-rest-2.ensures in
    subst (λ r. keys_left accepted front found < keys_left accepted front r) (sym c.in-Some.is)
    (keys_fewer accepted front c.in-Some.text.now (string_bytes c.in_ok-next.next) found (subst (IsKeyAfter accepted front) c.in-Some.is c.loop-rest.invariant.begins) c.in_ok-next.ensures.above next)

pub loop-rest-preserved : goal.loop-rest-preserved
loop-rest-preserved c =
    let accepted = c.args.accepted.now in
    let front = c.args.front.now in
    let found = c.in_ok-rest-2.rest in
    let next : IsNextText accepted front (string_bytes c.in_ok-next.next) found = subst (λ l. IsNextText accepted front l found) c.deref.ensures c.in_ok-rest-2.ensures in
    reached_next accepted front c.args.numbers.now.items c.loop-rest.numbers.items c.push_number.new.numbers.items c.in-Some.text.now (string_bytes c.in_ok-next.next) c.loop-rest.rest found
    (λ other left. subst (λ r. LeftFrom r other) c.in-Some.is left)
    c.loop-rest.invariant c.in_ok-push_number.ensures c.in_ok-next.ensures.others next
