use Rattle.std.proofs.Common.{List, ℕ, ◌++◌, ap, ◌∙◌}
use Rattle.dsa_lines.proofs.RecordingLemmas.{batch_written}
use Rattle.dsa_lines.proofs.recording.push_batch.Goals as goal

pub returns : goal.returns
returns c =
    batch_written c.args.bytes.now.items c.push_entry.new.bytes.items c.push_entry-2.new.bytes.items c.push_entry-3.new.bytes.items c.push_entry-4.new.bytes.items
    c.push_entry-5.new.bytes.items c.push_entry-6.new.bytes.items c.push_entry-7.new.bytes.items c.args.owner.now c.args.batch.record_at c.args.batch.list_at c.args.batch.count
    c.in_ok-push_entry.ensures
    (c.in_ok-push_entry-2.ensures ∙ ap (λ (x : List ℕ). c.push_entry.new.bytes.items ++ x) c.to_le_bytes.ensures)
    (c.in_ok-push_entry-3.ensures ∙ ap (λ (x : List ℕ). c.push_entry-2.new.bytes.items ++ x) c.to_le_bytes-2.ensures)
    (c.in_ok-push_entry-4.ensures ∙ ap (λ (x : List ℕ). c.push_entry-3.new.bytes.items ++ x) c.to_le_bytes-3.ensures)
    c.in_ok-push_entry-5.ensures
    (c.in_ok-push_entry-6.ensures ∙ ap (λ (x : List ℕ). c.push_entry-5.new.bytes.items ++ x) c.to_le_bytes-4.ensures)
    c.in_ok-push_entry-7.ensures
