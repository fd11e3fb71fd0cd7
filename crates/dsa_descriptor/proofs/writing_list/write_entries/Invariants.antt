use Rattle.std.proofs.Common.{◌≡◌, take}
use Rattle.dsa_descriptor.specs.Fences.{fenced_entries}
use Rattle.dsa_descriptor.proofs.writing_list.write_entries.Given as goal

-- the bytes of the entries so far
abbrev pub invariant-loop-index : goal.invariant-loop-index
invariant-loop-index g l = l.bytes.items ≡ fenced_entries g.E.Entry.spelling (take l.index l.entries) l.barriers
