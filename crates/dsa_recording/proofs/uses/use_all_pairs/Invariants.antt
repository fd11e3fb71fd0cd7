use Rattle.std.proofs.Common.{◌≡◌, ◌↔◌, ℕ, true, List, drop}
use Rattle.dsa_recording.specs.Pairs.{has_key}
use Rattle.dsa_recording.specs.Uses.{TakesSomeOut}
use Rattle.dsa_recording.proofs.Using.{LeftKeys}
use Rattle.dsa_recording.proofs.uses.use_all_pairs.Given as goal

-- the keys so far, and those of the submissions that are left, are all
abbrev pub invariant-loop-number : goal.invariant-loop-number
invariant-loop-number l =
    (key : List ℕ) → LeftKeys (λ k. (has_key l.accepted k ≡ true) × TakesSomeOut l.all (drop l.number l.report.submissions.items) (drop l.number l.report.audits.items) k) l.used key
    ↔ LeftKeys (λ k. (has_key l.accepted k ≡ true) × TakesSomeOut l.all l.report.submissions.items l.report.audits.items k) l.fn.used key
