use Rattle.std.proofs.Common.{◌≡◌, ◌*◌, ◌++◌, List, length, take}
use Rattle.std.specs.Prelude.{string_bytes}
use Rattle.std.specs.List.{AllByRecursion, flat_map}
use Rattle.dsa_lines.specs.Stagings.{StagedEntry, IsEntry, entry_bytes, entries_text}
use Rattle.dsa_lines.proofs.staging.push_entries.Given as goal

-- the entries so far, and their text
abbrev pub invariant-loop-number : goal.invariant-loop-number
invariant-loop-number l = record {
  done : List StagedEntry;
  count : length done ≡ l.number;
  bytes_are : take (64 * l.number) l.bytes ≡ flat_map entry_bytes done;
  each : AllByRecursion IsEntry done;
  text : string_bytes l.text ≡ string_bytes l.initial.text ++ entries_text done;
}
