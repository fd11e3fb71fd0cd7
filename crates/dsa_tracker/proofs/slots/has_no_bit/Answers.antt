use Rattle.std.proofs.Common.{eq-eqb, nat_eq, IsTrue, ◌≡◌, ℕ}
use Rattle.std.proofs.lemmas.Bool.Decides.{nat_tests}
use Rattle.std.proofs.Common.{arith}
use Rattle.dsa_tracker.proofs.Bits.{none_set, zero_has_none}
use Rattle.dsa_tracker.proofs.slots.has_no_bit.Goals as goal

is_zero : (n : ℕ) → IsTrue (nat_eq n 0) → n ≡ 0
is_zero n h = grind (arith, nat_tests)

pub returns : goal.returns
returns c = (λ h. λ s. zero_has_none c.args.word s (is_zero c.args.word h), λ none. eq-eqb c.args.word 0 (none_set c.args.word none))
