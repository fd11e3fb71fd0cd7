use Rattle.std.proofs.Common.{rules, arith}
use Rattle.serde_json.specs.View.{view}
use Rattle.dsa_cert.proofs.Pairs.{no_pair}
use Rattle.dsa_cert.proofs.document.pair_of.Goals as goal

pub returns-in_default-as_slice : goal.returns-in_default-as_slice
returns-in_default-as_slice c = no_pair (view c.args.value.now) c.as_slice.result.now (search rules) (λ two. let few = c.in_default-as_slice.len_below in omega arith)

pub returns-in_default-as_slice-2 : goal.returns-in_default-as_slice-2
returns-in_default-as_slice-2 c = no_pair (view c.args.value.now) c.as_slice.result.now (search rules) (λ two. let many = c.in_default-as_slice.len_at_least in omega arith)
