use Rattle.std.proofs.Common.{◌≡◌, string_bytes}
use Rattle.std.proofs.lemmas.Result.{IfOk-at_ok}
use Rattle.std.proofs.lemmas.Map.Text.{btree_set_updates_text}
use Rattle.dsa_recording.proofs.accepted.Accepted.add.Goals as goal

pub returns : goal.returns
returns c other =
    let line_is = IfOk-at_ok (λ s. string_bytes s ≡ c.args.key.now) c.in_ok-from_str.was c.from_str.ensures.ok in
    let sets = btree_set_updates_text (string_bytes c.in_ok-from_str.field-0) c.args.self.now.keys c.insert.new.self _ c.in_ok-insert.ensures.updates other in
    rw line_is at sets
