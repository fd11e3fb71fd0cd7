use Rattle.std.proofs.Common.{◌≤◌, ◌∙◌, length, ap, arith}
use Rattle.dsa_cert.proofs.Spelled.{all_written}
use Rattle.dsa_tokens.specs.Spelled.{array_of}
use Rattle.dsa_explain.proofs.Names.{same_names, spelled_name}
use Rattle.dsa_explain.proofs.document.names_json.Goals as goal

pub returns : goal.returns
returns c =
    let at_end : length c.args.names.now ≤ c.loop-name.name-index = omega arith in
    all_written spelled_name c.loop-name.values c.args.names.now c.loop-name.name-index at_end c.loop-name.invariant
    ∙ ap array_of (same_names c.args.names.now)
