use Rattle.std.proofs.Common.{◌≡◌, Some, None, arith}
use Rattle.std.proofs.lemmas.Result.{err_from_is_err_and}
use Rattle.json.specs.Json.{read_key}
use Rattle.json.proofs.Grammar.{read_key-shorter}
use Rattle.serde_json.specs.Data.{put}
use Rattle.dsa_tokens.specs.declared.unread.Unread.TheVariants.{Json}
use Rattle.dsa_tokens.proofs.Grammar.{members_over, members_stop, member_stop, members_next, members_later}
use Rattle.dsa_tokens.proofs.Order.{put_in_order}
use Rattle.dsa_tokens.proofs.Read.{json_none}
use Rattle.dsa_tokens.proofs.objects.members_into.Goals as goal

pub members-init : goal.members-init
members-init g c = record { goes_on = λ found. (found, λ held. held, λ order. order, λ all r e. e, λ none. none); shorter = omega arith }

pub returns-in_err-key-clause-err : goal.returns-in_err-key-clause-err
returns-in_err-key-clause-err g c = λ json found.
    let l = c.members in
    let before = l.invariant.goes_on found in
    before.4 (members_stop c.args.depth l.reader before.0 c.in_err-key.ensures.1)

pub members-smaller : goal.members-smaller
members-smaller g c =
    let k = c.in-Some.key.now in
    let s = c.next_key.new.reader in
    let named : read_key c.members.reader ≡ Some (Some k, s) = grind arith in
    let first = c.in_ok-take.ensures in
    omega (arith, read_key-shorter c.members.reader (Some k) s named, first.3)

pub members-preserved : goal.members-preserved
members-preserved g c =
    let l = c.members in
    let depth = c.args.depth in
    let k = c.in-Some.key.now in
    let s = c.next_key.new.reader in
    let u = c.take.new.reader in
    let named : read_key l.reader ≡ Some (Some k, s) = grind arith in
    let first = c.in_ok-take.ensures in record {
      goes_on = λ found. let before = l.invariant.goes_on found in (
        put k first.0 before.0,
        λ held. first.2 before.0 (before.1 held),
        λ order. put_in_order k first.0 before.0 (before.2 order),
        λ all r rest. before.3 all r (members_next depth l.reader s u r k first.0 before.0 all named first.1 first.3 rest),
        λ none. before.4 (members_later depth l.reader s u k first.0 before.0 named first.1 first.3 none),
      );
      shorter = omega (arith, l.invariant.shorter, read_key-shorter l.reader (Some k) s named, first.3);
    }

pub returns-in_err-take-clause-err : goal.returns-in_err-take-clause-err
returns-in_err-take-clause-err g c = λ json found.
    let l = c.members in
    let k = c.in-Some.key.now in
    let s = c.next_key.new.reader in
    let named : read_key l.reader ≡ Some (Some k, s) = grind arith in
    let before = l.invariant.goes_on found in
    let e = err_from_is_err_and c.from_residual-in_err-take.result c.from_residual-in_err-take.ensures.1 in
    let is = e.1 in
    let cause = e.2 in
    let same : c.in_err-take.field-0.0 ≡ Json = cc in
    before.4 (member_stop c.args.depth l.reader s k before.0 named (json_none c.args.depth s c.in_err-take.field-0.0 c.in_err-take.ensures same))

pub returns-clause-ok : goal.returns-clause-ok
returns-clause-ok g c =
    let l = c.members in
    let r = c.next_key.new.reader in
    let over : read_key l.reader ≡ Some (None, r) = grind arith in
    λ found. let before = l.invariant.goes_on found in (before.0, before.3 before.0 r (members_over c.args.depth l.reader r before.0 over), before.1, before.2)

pub returns-clause-shorter : goal.returns-clause-shorter
returns-clause-shorter g c =
    let l = c.members in
    let r = c.next_key.new.reader in
    let over : read_key l.reader ≡ Some (None, r) = grind arith in
    omega (arith, l.invariant.shorter, read_key-shorter l.reader None r over)
