use Rattle.dsa_cert.proofs.Documents.{all_held, is_document, other_members}
use Rattle.dsa_cert.proofs.reading.Held.into_certificate.Goals as goal

pub returns-then-has_others : goal.returns-then-has_others
returns-then-has_others c = λ ms are order. other_members c.args.self ms are c.if-has_others.true

pub returns-in_default : goal.returns-in_default
returns-in_default c = λ ms are order certificate documents.
    let version = (all_held c.args.self ms are certificate documents).0 in c.in_default.not-Held version.0 version.1

pub returns-in_default-prices : goal.returns-in_default-prices
returns-in_default-prices c = λ ms are order certificate documents.
    let prices = (all_held c.args.self ms are certificate documents).1 in c.in_default-prices.not-Held prices.0 prices.1

pub returns-in_default-pairs : goal.returns-in_default-pairs
returns-in_default-pairs c = λ ms are order certificate documents.
    let pairs = (all_held c.args.self ms are certificate documents).2 in c.in_default-pairs.not-Held pairs.0 pairs.1

pub returns : goal.returns
returns c = λ ms are order.
    is_document c.args.self ms are c.in-Held.version c.in-Held-prices.prices c.in-Held-pairs.pairs order c.if-has_others.false c.in-Held.is c.in-Held-prices.is c.in-Held-pairs.is
