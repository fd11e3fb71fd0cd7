use Rattle.std.proofs.Common.{◌≡◌, ◌++◌, map, take, string_bytes}
use Rattle.serde_json.specs.View.{members_view}
use Rattle.dsa_tokens.specs.Spelled.{member_names}
use Rattle.dsa_cert.proofs.members.are_named.Given as goal

abbrev pub invariant-loop-name : goal.invariant-loop-name
invariant-loop-name l = member_names (members_view l.members.entries) ≡ map (λ name. name.now) (take l.name-index l.names) ++ map string_bytes l.keys
