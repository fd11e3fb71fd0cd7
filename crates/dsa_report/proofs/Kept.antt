-- The line of an answer that keeps bytes, and the text in which their digits are strings.
use Rattle.std.proofs.Common.{◌≡◌, ℕ, List, [], ◌∷◌, ◌++◌, codes, append_assoc, append-nil, sym, ap, ◌∙◌}
use Rattle.serde_json.specs.Data.{string}
use Rattle.serde_json.specs.Written.{compact_text}
use Rattle.hex.specs.Hex.{encode_lower}
use Rattle.dsa_report.proofs.Digits.{digits-nil}

nothing_after : (text : List ℕ) → text ++ ([] ++ ([] ++ ([] ++ []))) ≡ text
nothing_after text = append-nil text

-- with no bytes that are kept
pub text_alone : (text : List ℕ) → text ++ (encode_lower [] ++ ([] ++ (encode_lower [] ++ []))) ≡ text
text_alone text = rw digits-nil (nothing_after text)

member_joined : (text digits : List ℕ) → (text ++ 34 ∷ []) ++ (digits ++ (codes "\"}\n" ++ [])) ≡ (text ++ 34 ∷ (digits ++ 34 ∷ [])) ++ codes "}\n"
member_joined text digits = simp append_assoc

-- with the bytes of the last member
pub member_kept : (text front bytes none : List ℕ) → compact_text (string (encode_lower bytes)) ≡ 34 ∷ (encode_lower bytes ++ 34 ∷ []) → front ≡ text ++ 34 ∷ []
    → none ≡ []
    → front ++ (encode_lower bytes ++ (codes "\"}\n" ++ (encode_lower none ++ []))) ≡ (text ++ compact_text (string (encode_lower bytes))) ++ codes "}\n"
member_kept text front bytes none plain quoted empty =
    let digits = encode_lower bytes in
    ap (λ (t : List ℕ). t ++ (digits ++ (codes "\"}\n" ++ (encode_lower none ++ [])))) quoted
    ∙ ap (λ (t : List ℕ). (text ++ 34 ∷ []) ++ (digits ++ (codes "\"}\n" ++ (t ++ [])))) (ap encode_lower empty ∙ digits-nil)
    ∙ member_joined text digits
    ∙ ap (λ (t : List ℕ). (text ++ t) ++ codes "}\n") (sym plain)

emission_joined : (text portal staging : List ℕ) → (text ++ 34 ∷ []) ++ (portal ++ (codes "\",\"staging\":\"" ++ (staging ++ codes "\"}\n")))
    ≡ (((text ++ 34 ∷ (portal ++ 34 ∷ [])) ++ codes ",\"staging\":") ++ 34 ∷ (staging ++ 34 ∷ [])) ++ codes "}\n"
emission_joined text portal staging = simp append_assoc

-- with the bytes of the last two members
pub emission_kept : (text front portal staging : List ℕ) → compact_text (string (encode_lower portal)) ≡ 34 ∷ (encode_lower portal ++ 34 ∷ [])
    → compact_text (string (encode_lower staging)) ≡ 34 ∷ (encode_lower staging ++ 34 ∷ []) → front ≡ text ++ 34 ∷ []
    → front ++ (encode_lower portal ++ (codes "\",\"staging\":\"" ++ (encode_lower staging ++ codes "\"}\n")))
    ≡ (((text ++ compact_text (string (encode_lower portal))) ++ codes ",\"staging\":") ++ compact_text (string (encode_lower staging))) ++ codes "}\n"
emission_kept text front portal staging portal_plain staging_plain quoted =
    let last = codes "\",\"staging\":\"" ++ (encode_lower staging ++ codes "\"}\n") in
    ap (λ (t : List ℕ). t ++ (encode_lower portal ++ last)) quoted
    ∙ emission_joined text (encode_lower portal) (encode_lower staging)
    ∙ ap (λ (t : List ℕ). (((text ++ t) ++ codes ",\"staging\":") ++ 34 ∷ (encode_lower staging ++ 34 ∷ [])) ++ codes "}\n") (sym portal_plain)
    ∙ ap (λ (t : List ℕ). (((text ++ compact_text (string (encode_lower portal))) ++ codes ",\"staging\":") ++ t) ++ codes "}\n") (sym staging_plain)
