use Rattle.std.proofs.Common.{List, [], ◌∷◌, ℕ, ◌++◌, ap, ◌∙◌}
use Rattle.dsa_lines.specs.declared.recording.Recorded.TheVariants.{Batch, Entry}
use Rattle.dsa_lines.specs.Recordings.{owned_bytes}
use Rattle.dsa_lines.specs.Words.{words_of}
use Rattle.dsa_lines.proofs.RecordingLemmas.{more_batch, more_entry, said_line}
use Rattle.dsa_lines.proofs.recording.push_recorded.Goals as goal

pub returns-in_ok-push_pending-in-Ok-Some-Batch : goal.returns-in_ok-push_pending-in-Ok-Some-Batch
returns-in_ok-push_pending-in-Ok-Some-Batch c =
    let batch = c.in-Ok-Some-Batch.batch in
    let h = rw (c.in-Ok-Some-Batch.field-0-is, c.in-Ok-Some-Batch.field-0-0-is) at c.in-Ok-Some-Batch.ensures in (
      Batch batch ∷ [],
      said_line (words_of c.args.line.now) (Batch batch) h.0 h.1,
      more_batch c.args.bytes.now.items c.push_pending.new.bytes.items c.args.pending batch c.in_ok-push_pending-in-Ok-Some-Batch.ensures,
    )

pub returns-in_ok-push_entry-in-Ok-Some-Entry : goal.returns-in_ok-push_entry-in-Ok-Some-Entry
returns-in_ok-push_entry-in-Ok-Some-Entry c =
    let entry = c.in-Ok-Some-Entry.entry in
    let h = rw (c.in-Ok-Some-Entry.field-0-is, c.in-Ok-Some-Entry.field-0-0-is) at c.in-Ok-Some-Entry.ensures in
    let owned = c.in_ok-push_pending-in-Ok-Some-Entry.ensures ∙ ap (λ (owner : List ℕ). c.args.bytes.now.items ++ owned_bytes c.args.pending owner) c.owner_of.ensures in (
      Entry entry ∷ [],
      said_line (words_of c.args.line.now) (Entry entry) h.0 h.1,
      more_entry c.args.bytes.now.items c.push_pending-in-Ok-Some-Entry.new.bytes.items c.push_entry.new.bytes.items entry c.args.pending owned c.in_ok-push_entry-in-Ok-Some-Entry.ensures,
    )
