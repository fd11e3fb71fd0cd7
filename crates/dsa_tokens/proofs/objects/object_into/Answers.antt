use Rattle.std.proofs.Common.{◌∷◌, Err, length, refl, ap, arith}
use Rattle.std.proofs.lemmas.Result.{err_from_is_err_and}
use Rattle.json.specs.Reads.{token_of}
use Rattle.std.specs.List.Sorted.{IsStrictlySortedBy}
use Rattle.serde_json.specs.Data.{object, no_members}
use Rattle.dsa_tokens.proofs.Grammar.{takes_object}
use Rattle.dsa_tokens.proofs.Read.{object_refused}
use Rattle.dsa_tokens.proofs.objects.object_into.Goals as goal

pub returns-in_err-members_into : goal.returns-in_err-members_into
returns-in_err-members_into g c =
    let begun = rw c.if-not-branch.false at c.in_ok-begin_object.ensures in
    let e = err_from_is_err_and c.from_residual-in_err-members_into.result c.from_residual-in_err-members_into.ensures.1 in
    rw (e.1, e.2)
    (object_refused c.args.depth (token_of c.args.first ∷ c.args.reader.now) c.begin_object.new.reader c.in_err-members_into.field-0.0 begun.0 begun.1
    (λ same. c.in_err-members_into.ensures.err (ap Err same) no_members))

pub returns : goal.returns
unfolding IsStrictlySortedBy
returns g c =
    let begun = rw c.if-not-branch.false at c.in_ok-begin_object.ensures in
    let all = c.in_ok-members_into.ensures.ok no_members in (
      object all.0,
      rw begun.0 (takes_object c.args.depth c.begin_object.new.reader all.0 c.members_into.new.reader begun.1 all.1),
      (refl, all.3 tt, all.2),
      omega (arith, ap length begun.0, c.in_ok-members_into.ensures.shorter),
    )
