use Rattle.std.proofs.Common.{ℕ, List, Option, ◌++◌, ap, ◌∙◌}
use Rattle.serde_json.specs.Written.{compact_text}
use Rattle.dsa_plan.specs.Certificate.{contents}
use Rattle.dsa_cert.specs.Document.{pairs_value, prices_value}
use Rattle.dsa_report.proofs.Opened.{certificate_added}
use Rattle.dsa_report.proofs.planned_line.push_certificate.Goals as goal

pub returns : goal.returns
returns c =
    let named_pairs = c.extend_from_slice.new.self.items in
    let named_prices = c.extend_from_slice-2.new.self.items in
    let pairs = ap (λ (xs : List (Option (ℕ × ℕ))). named_pairs ++ compact_text (pairs_value xs)) c.deref.ensures.value in
    let prices = ap (λ (xs : List ℕ). named_prices ++ compact_text (prices_value xs)) c.deref-2.ensures.value in
    certificate_added (contents c.args.certificate.now) c.args.line.now.items named_pairs c.push_pairs.new.line.items named_prices c.push_prices.new.line.items
    c.extend_from_slice-3.new.self.items c.push_number.new.line.items c.push.new.self.items
    c.in_ok-extend_from_slice.ensures.items (c.in_ok-push_pairs.ensures ∙ pairs) c.in_ok-extend_from_slice-2.ensures.items (c.in_ok-push_prices.ensures ∙ prices)
    c.in_ok-extend_from_slice-3.ensures.items c.in_ok-push_number.ensures c.in_ok-push.ensures.items
