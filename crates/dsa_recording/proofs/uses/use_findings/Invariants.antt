use Rattle.std.proofs.Common.{◌≡◌, ◌↔◌, ℕ, true, List, drop}
use Rattle.dsa_recording.specs.Pairs.{has_key}
use Rattle.dsa_recording.specs.Reports.{reported_by}
use Rattle.dsa_recording.specs.Uses.{ExcusesSome}
use Rattle.dsa_recording.proofs.Using.{LeftKeys}
use Rattle.dsa_recording.proofs.uses.use_findings.Given as goal

-- the keys so far, and those of the findings that are left, are all
abbrev pub invariant-loop-number : goal.invariant-loop-number
invariant-loop-number l =
    (key : List ℕ) → LeftKeys (λ k. (has_key l.options.accepted.now k ≡ true) × ExcusesSome l.options l.all (reported_by l.report) (drop l.number l.report.findings.items) k) l.used key
    ↔ LeftKeys (λ k. (has_key l.options.accepted.now k ≡ true) × ExcusesSome l.options l.all (reported_by l.report) l.report.findings.items k) l.fn.used key
