use Rattle.std.proofs.Common.{◌≡◌, ◌++◌, ◌∙◌, sym}
use Rattle.std.specs.Prelude.{codes, slice_index, string_bytes}
use Rattle.hex.specs.Hex.{encode_lower}
use Rattle.dsa_lines.specs.Numbers.{hex}
use Rattle.dsa_lines.specs.Portals.{why}
use Rattle.dsa_lines.proofs.PortalLemmas.{other_is}
use Rattle.dsa_lines.proofs.portal.other_text.Goals as goal

pub returns : goal.returns
returns c =
    let line : string_bytes c.push_str-2.new.self
    ≡ ((codes "unknown " ++ (hex (slice_index c.args.entry.now 7) ++ (codes " " ++ why c.args.fault))) ++ codes ", 64 bytes ") ++ encode_lower c.args.entry.now =
    cc (c.in_ok-push_str-2.ensures.bytes, c.in_ok-push_str.ensures.bytes, c.in_ok-line.ensures, c.deref.ensures, c.in_ok-digits.ensures) in
    line ∙ sym (other_is c.args.entry.now c.args.fault c.told-entry)
