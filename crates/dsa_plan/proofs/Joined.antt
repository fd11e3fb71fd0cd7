-- Chains that go on from one piece to the next.
use Rattle.std.proofs.Common.{ℕ, zero, suc, ◌≡◌, ◌+◌, ◌<◌, ◌≤◌, refl, subst, arith}
use Rattle.dsa_plan.specs.Chain.{Pairs, GoForward, LeadsTo, Reaches, IsLastBelow, HasCountBelow}
use Rattle.dsa_plan.proofs.Together.{Reaches-far}

-- a chain goes on from a piece that it reaches as that piece's own chain
pub Reaches-add : (pairs : Pairs) (i m k x y : ℕ) → Reaches pairs i m x → Reaches pairs x k y → Reaches pairs i (m + k) y
Reaches-add pairs i m zero x y r here =
    let none : m + 0 ≡ m = omega arith in
    rw none (subst (λ (z : ℕ). Reaches pairs i m z) here r)
Reaches-add pairs i m (suc k) x y r (z, s, step) =
    let one : m + suc k ≡ suc (m + k) = omega arith in
    rw one (z, Reaches-add pairs i m k x z r s, step)

pub last_joined : (pairs : Pairs) (i j m k x y : ℕ) → Reaches pairs i m x → IsLastBelow pairs x j k y → IsLastBelow pairs i j (m + k) y
last_joined pairs i j m k x y r h = record { reached = Reaches-add pairs i m k x y r h.reached; below = h.below; no_more = h.no_more }

-- the pair of a piece leads to another: one pair more
pub last_led : (pairs : Pairs) (x next j k y : ℕ) → LeadsTo pairs x next → IsLastBelow pairs next j k y → IsLastBelow pairs x j (k + 1) y
last_led pairs x next j k y leads h =
    let one : k + 1 ≡ 1 + k = omega arith in
    rw one (last_joined pairs x j 1 k next y (x, refl, leads) h)

-- the last piece below an end is so for a later end too, up to where it leads
pub last_further : (pairs : Pairs) (start end to count piece : ℕ) → end ≤ to → ((b : ℕ) → LeadsTo pairs piece b → to ≤ b) → IsLastBelow pairs start end count piece → IsLastBelow pairs start to count piece
last_further pairs start end to count piece le far h = record { reached = h.reached; below = omega (arith, h.below); no_more = far }

-- the count of a piece whose pair leads below the end, and of one whose pair doesn't
module _ (pairs : Pairs) (piece end : ℕ) where
  pub count_one_more : (second count : ℕ) → LeadsTo pairs piece second → HasCountBelow pairs second end count → HasCountBelow pairs piece end (count + 1)
  count_one_more second count leads (x, h) = (x, last_led pairs piece second end count x leads h)

  pub count_none : piece < end → ((b : ℕ) → LeadsTo pairs piece b → end ≤ b) → HasCountBelow pairs piece end 0
  count_none lt far = (piece, record { reached = refl; below = lt; no_more = far })

-- what a chain counts fits between its pieces
pub last_fits : (pairs : Pairs) → GoForward pairs → (start end count piece : ℕ) → IsLastBelow pairs start end count piece → count + start < end
last_fits pairs forward start end count piece h = omega (arith, Reaches-far pairs forward start count piece h.reached, h.below)
