use Rattle.std.proofs.Common.{◌≡◌, List, take}
use Rattle.std.specs.Prelude.{string_bytes}
use Rattle.std.specs.List.{AllZip}
use Rattle.dsa_lines.specs.Portals.{Submission, Submits, portal_text}
use Rattle.dsa_lines.proofs.portal.text_of_portal.Given as goal

-- what the entries so far submit, and its text
abbrev pub invariant-loop-entry : goal.invariant-loop-entry
invariant-loop-entry l = record {
  done : List Submission;
  each : AllZip Submits (take l.entry-index l.all) done;
  text : string_bytes l.text ≡ portal_text done;
}
