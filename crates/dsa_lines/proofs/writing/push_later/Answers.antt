use Rattle.std.proofs.Common.{sym, ◌∙◌}
use Rattle.std.specs.Prelude.{string_bytes}
use Rattle.std.proofs.lemmas.Result.{on_ok_weaker}
use Rattle.dsa_lines.proofs.RoundTrip.{later_is}
use Rattle.dsa_lines.proofs.writing.push_later.Goals as goal

pub returns : goal.returns
returns c =
    on_ok_weaker c.push_number-3.result (λ is.
    is
    ∙ rw (
      c.from.ensures,
      c.in_ok-push_number-2.ensures,
      c.in_ok-push_name-2.ensures,
      c.in_ok-push_name.ensures,
      c.in_ok-push_number.ensures,
      c.in_ok-push_record.ensures,
    ) (sym (later_is (string_bytes c.args.line.now) c.args.record_at c.args.pasid c.args.privileged c.args.flags c.args.int_handle))) c.push_number-3.ensures
