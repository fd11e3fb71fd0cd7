use Rattle.std.proofs.Common.{◌≡◌, ◌<◌, length, Some, None, arith}
use Rattle.std.proofs.lemmas.Result.{on_ok_weaker}
use Rattle.json.specs.Json.{after_end_array, read_key}
use Rattle.json.proofs.Grammar.{read_key-shorter}
use Rattle.serde_json.specs.Data.{Members, null, boolean, number, string, array, object, no_items, item, no_members, put}
use Rattle.serde_json.specs.Find.{as_u64}
use Rattle.serde_json.specs.Read.{number_of}
use Rattle.dsa_tokens.specs.Taken.{Takes, TakesNoMembers}
use Rattle.dsa_tokens.proofs.Grammar.{takes_null, takes_boolean, takes_string, takes_number, refuses_number, refuses_end_object, refuses_end_array, refuses_key, refuses_bad, takes_array, refuses_array, takes_object, refuses_object, refuses_deep_array, refuses_deep_object, items_over, items_next, items_stop, items_later, members_over, members_stop, member_stop, members_next, members_later, on_err_any, on_err_weaker, number_read, number_missed}
use Rattle.dsa_tokens.proofs.passing.+pass.Goals as goal

-- ---- a value

pub pass_value-returns-in_err-token-clause-err : goal.pass_value-returns-in_err-token-clause-err
pass_value-returns-in_err-token-clause-err t c =
    on_err_any _ (c.in_err-token.ensures.err.1 c.args.depth)

pub pass_rest-returns-in-String-clause-ok : goal.pass_rest-returns-in-String-clause-ok
pass_rest-returns-in-String-clause-ok t c = (string c.in-String.field-0.now, rw c.in-String.is (takes_string c.args.depth c.in-String.field-0.now c.args.reader.now))

pub pass_rest-returns-in-Bool-clause-ok : goal.pass_rest-returns-in-Bool-clause-ok
pass_rest-returns-in-Bool-clause-ok t c = (boolean c.in-Bool.field-0, rw c.in-Bool.is (takes_boolean c.args.depth c.in-Bool.field-0 c.args.reader.now))

pub pass_rest-returns-in-Null-clause-ok : goal.pass_rest-returns-in-Null-clause-ok
pass_rest-returns-in-Null-clause-ok t c = (null, rw c.in-Null.is (takes_null c.args.depth c.args.reader.now))

pub pass_rest-returns-in-Some-clause-ok : goal.pass_rest-returns-in-Some-clause-ok
pass_rest-returns-in-Some-clause-ok t c =
    let s = c.in-Number.text.now in
    let found = number_read as_u64 (number_of s) c.in-Some.field-0 c.in-Some.ensures in
    (number found.0, rw c.in-Number.is (takes_number c.args.depth s found.0 c.args.reader.now found.1))

pub pass_rest-returns-in-None-clause-err : goal.pass_rest-returns-in-None-clause-err
pass_rest-returns-in-None-clause-err t c =
    let s = c.in-Number.text.now in
    rw c.in-Number.is (refuses_number c.args.depth s c.args.reader.now (number_missed as_u64 (number_of s) c.in-None.ensures))

pub pass_rest-returns-in-EndObject-clause-err : goal.pass_rest-returns-in-EndObject-clause-err
pass_rest-returns-in-EndObject-clause-err t c = rw c.in-EndObject.is (refuses_end_object c.args.depth c.args.reader.now)

pub pass_rest-returns-in-EndArray-clause-err : goal.pass_rest-returns-in-EndArray-clause-err
pass_rest-returns-in-EndArray-clause-err t c = rw c.in-EndArray.is (refuses_end_array c.args.depth c.args.reader.now)

pub pass_rest-returns-in-Key-clause-err : goal.pass_rest-returns-in-Key-clause-err
pass_rest-returns-in-Key-clause-err t c = rw c.in-Key.is (refuses_key c.args.depth c.in-Key.field-0.now c.args.reader.now)

pub pass_rest-returns-in-Bad-clause-err : goal.pass_rest-returns-in-Bad-clause-err
pass_rest-returns-in-Bad-clause-err t c = rw c.in-Bad.is (refuses_bad c.args.depth c.args.reader.now)

pub pass_rest-returns-then-depth-eq0-clause-err : goal.pass_rest-returns-then-depth-eq0-clause-err
pass_rest-returns-then-depth-eq0-clause-err t c = rw c.in-BeginArray.is (refuses_deep_array c.args.depth c.args.reader.now (omega arith))

pub pass_rest-returns-then-depth-eq0-2-clause-err : goal.pass_rest-returns-then-depth-eq0-2-clause-err
pass_rest-returns-then-depth-eq0-2-clause-err t c = rw c.in-BeginObject.is (refuses_deep_object c.args.depth c.args.reader.now (omega arith))

pub pass_rest-returns-else-depth-eq0-clause-ok : goal.pass_rest-returns-else-depth-eq0-clause-ok
pass_rest-returns-else-depth-eq0-clause-ok t c =
    on_ok_weaker c.pass_items.result (λ w. (array w.0, rw c.in-BeginArray.is (takes_array c.args.depth c.args.reader.now w.0 c.pass_items.new.reader (omega arith) w.1))) c.pass_items.ensures.ok

pub pass_rest-returns-else-depth-eq0-clause-err : goal.pass_rest-returns-else-depth-eq0-clause-err
pass_rest-returns-else-depth-eq0-clause-err t c =
    on_err_weaker c.pass_items.result (λ none. rw c.in-BeginArray.is (refuses_array c.args.depth c.args.reader.now (omega arith) none)) c.pass_items.ensures.err

pub pass_rest-returns-else-depth-eq0-2-clause-ok : goal.pass_rest-returns-else-depth-eq0-2-clause-ok
pass_rest-returns-else-depth-eq0-2-clause-ok t c =
    on_ok_weaker c.pass_members.result
    (λ w. let all = w no_members in (object all.0, rw c.in-BeginObject.is (takes_object c.args.depth c.args.reader.now all.0 c.pass_members.new.reader (omega arith) all.1))) c.pass_members.ensures.ok

pub pass_rest-returns-else-depth-eq0-2-clause-err : goal.pass_rest-returns-else-depth-eq0-2-clause-err
pass_rest-returns-else-depth-eq0-2-clause-err t c =
    on_err_weaker c.pass_members.result (λ none. rw c.in-BeginObject.is (refuses_object c.args.depth c.args.reader.now (omega arith) (none no_members))) c.pass_members.ensures.err

-- ---- items

pub pass_items-items-preserved : goal.pass_items-items-preserved
pass_items-items-preserved t c =
    let l = c.items in
    let depth = c.args.depth in
    let s = c.pass_value.new.reader in
    let going : (after_end_array l.reader ≡ None) × (c.take_end_array.new.self ≡ l.reader) = grind arith in
    let first = c.in_ok-pass_value.ensures.ok in
    let taken : Takes depth l.reader first.0 s = rw (← going.1) first.1 in
    let less : length s < length l.reader = rw (← going.1) c.in_ok-pass_value.ensures.shorter in record {
      goes_on = λ ds r rest. l.invariant.goes_on (item first.0 ds) r (items_next depth l.reader s r first.0 ds going.0 taken less rest);
      stops = λ none. l.invariant.stops (items_later depth l.reader s first.0 going.0 taken less none);
      shorter = omega (arith, l.invariant.shorter);
    }

pub pass_items-returns-in_err-pass_value-clause-err : goal.pass_items-returns-in_err-pass_value-clause-err
pass_items-returns-in_err-pass_value-clause-err t c =
    let l = c.items in
    let going : (after_end_array l.reader ≡ None) × (c.take_end_array.new.self ≡ l.reader) = grind arith in
    on_err_any _ (l.invariant.stops (items_stop c.args.depth l.reader going.0 (rw (← going.1) c.in_err-pass_value.ensures.err)))

pub pass_items-returns-clause-ok : goal.pass_items-returns-clause-ok
pass_items-returns-clause-ok t c =
    let l = c.items in
    let r = c.take_end_array.new.self in
    let over : after_end_array l.reader ≡ Some r = grind arith in
    l.invariant.goes_on no_items r (items_over c.args.depth l.reader r over)

-- ---- members

pub pass_members-members-init : goal.pass_members-members-init
pass_members-members-init t c = record { goes_on = λ found. (found, λ all r e. e, λ none. none); shorter = omega arith }

pub pass_members-returns-in_err-next_key-clause-err : goal.pass_members-returns-in_err-next_key-clause-err
pass_members-returns-in_err-next_key-clause-err t c =
    let l = c.members in
    let none : (found : Members) → TakesNoMembers c.args.depth c.args.reader.now found =
    λ found. let before = l.invariant.goes_on found in before.2 (members_stop c.args.depth l.reader before.0 c.in_err-next_key.ensures.1) in
    on_err_any _ none

pub pass_members-members-preserved : goal.pass_members-members-preserved
pass_members-members-preserved t c =
    let l = c.members in
    let depth = c.args.depth in
    let k = c.in-Some.field-0.now in
    let s = c.next_key.new.reader in
    let u = c.pass_value.new.reader in
    let named : read_key l.reader ≡ Some (Some k, s) = grind arith in
    let first = c.in_ok-pass_value.ensures.ok in
    let less = c.in_ok-pass_value.ensures.shorter in record {
      goes_on = λ found. let before = l.invariant.goes_on found in (
        put k first.0 before.0,
        λ all r rest. before.1 all r (members_next depth l.reader s u r k first.0 before.0 all named first.1 less rest),
        λ none. before.2 (members_later depth l.reader s u k first.0 before.0 named first.1 less none),
      );
      shorter = omega (arith, l.invariant.shorter, read_key-shorter l.reader (Some k) s named, less);
    }

pub pass_members-returns-in_err-pass_value-clause-err : goal.pass_members-returns-in_err-pass_value-clause-err
pass_members-returns-in_err-pass_value-clause-err t c =
    let l = c.members in
    let k = c.in-Some.field-0.now in
    let s = c.next_key.new.reader in
    let named : read_key l.reader ≡ Some (Some k, s) = grind arith in
    let none : (found : Members) → TakesNoMembers c.args.depth c.args.reader.now found =
    λ found. let before = l.invariant.goes_on found in before.2 (member_stop c.args.depth l.reader s k before.0 named c.in_err-pass_value.ensures.err) in
    on_err_any _ none

pub pass_members-returns-clause-ok : goal.pass_members-returns-clause-ok
pass_members-returns-clause-ok t c =
    let l = c.members in
    let r = c.next_key.new.reader in
    let over : read_key l.reader ≡ Some (None, r) = grind arith in
    λ found. let before = l.invariant.goes_on found in (before.0, before.1 before.0 r (members_over c.args.depth l.reader r before.0 over))
