-- A value is the document of one certificate at most.
use Rattle.std.proofs.Common.{◌≡◌, ℕ, [], ◌∷◌, codes, Option, Some, None, refl, ap}
use Rattle.std.proofs.lemmas.Option.{same_Some}
use Rattle.serde_json.specs.Find.{get}
use Rattle.dsa_tokens.specs.Spelled.{whole}
use Rattle.dsa_plan.specs.Certificate.{Contents}
use Rattle.dsa_cert.specs.Document.{pair_value, document}
use Rattle.dsa_cert.proofs.Arrays.{same_items, same_array, same_whole}

same_pair : (p q : Option (ℕ × ℕ)) → pair_value p ≡ pair_value q → p ≡ q
same_pair None None e = refl
same_pair None (Some q) e = cc
same_pair (Some p) None e = cc
same_pair (Some p) (Some q) e =
    let items = same_items (whole p.0 ∷ whole p.1 ∷ []) (whole q.0 ∷ whole q.1 ∷ []) cc in
    let first : whole p.0 ≡ whole q.0 = cc in
    let second : whole p.1 ≡ whole q.1 = cc in
    let a = same_whole p.0 q.0 first in
    let b = same_whole p.1 q.1 second in
    λ i. Some (a i, b i)

pub one_document : (c d : Contents) → document c ≡ document d → c ≡ d
one_document c d e =
    let version = same_whole c.version d.version (same_Some _ _ (ap (get (codes "version")) e)) in
    let prices = same_array whole same_whole c.prices d.prices (same_Some _ _ (ap (get (codes "prices")) e)) in
    let pairs = same_array pair_value same_pair c.pairs d.pairs (same_Some _ _ (ap (get (codes "pairs")) e)) in
    λ i. record { version = version i; prices = prices i; pairs = pairs i }
