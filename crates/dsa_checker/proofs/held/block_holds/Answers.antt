use Rattle.std.proofs.Common.{◌≡◌, ◌+◌, ◌-◌, max, inl, inr, length, arith}
use Rattle.std.proofs.lemmas.Bool.{cases_lt, cases_eq}
use Rattle.dsa_plan.proofs.Chains.{IsLastBelow-start}
use Rattle.dsa_plan.proofs.Joined.{last_fits}
use Rattle.dsa_checker.proofs.Blocks.{chains_one, chains_others}
use Rattle.dsa_checker.proofs.held.block_holds.Goals as goal

pub look-requires-clause-chain : goal.look-requires-clause-chain
look-requires-clause-chain c =
    let start = c.loop-start.start in
    elim (cases_lt start c.args.first) [
      | inl early ↦
          let at : max c.args.first (start + 1) ≡ c.args.first = omega (arith, early) in
          let (piece, fences) = c.chain_of-chain.ensures.left early in
          rw (at, piece, fences) (c.loop-start.invariant.waiting start (omega arith) early)
      | inr late ↦
          let at : max c.args.first (start + 1) ≡ start + 1 = omega (arith, late) in
          let (piece, fences) = c.chain_of-chain.ensures.begun late in
          rw (at, piece, fences) (IsLastBelow-start c.args.sheet.now.pairs.now c.requires.sheet.forward start)
    ]

pub overflow_cast-chains-in-loop-start : goal.overflow_cast-chains-in-loop-start
overflow_cast-chains-in-loop-start c =
    let fits = last_fits c.args.sheet.now.pairs.now c.requires.sheet.forward c.loop-start.start c.args.past c.in-Some.fences c.in-Some.piece c.in-Some.ensures.chain in
    omega (arith, fits, c.requires.sheet.few, c.requires.within)

pub loop-start-preserved : goal.loop-start-preserved
loop-start-preserved c =
    let pairs = c.args.sheet.now.pairs.now in
    let s = c.loop-start.start in
    let least = c.args.first - length c.args.sheet.now.table.now in
    let fences = c.loop-start.chains.fences in
    let pieces = c.loop-start.chains.pieces in
    let begun = c.loop-start.auto.start in
    let on = c.loop-start-test.true in
    let one = chains_one pairs c.args.past s c.in-Some.fences c.in-Some.piece fences pieces (omega arith) (omega arith) c.in-Some.ensures.chain in
    let gone = chains_others pairs c.args.past s c.in-Some.fences c.in-Some.piece fences pieces (omega arith) (omega arith) least s c.loop-start.invariant.gone
    (λ i low lt. (omega arith, omega arith, omega (arith, low, on, c.requires.size, c.requires.sheet.sizes))) in
    record {
      held = λ i low lt.
          elim (cases_eq i s) [
            | inl same ↦ rw same c.in-Some.ensures.held
            | inr other ↦ c.loop-start.invariant.held i low (omega arith)
          ];
      gone = λ i low lt.
          elim (cases_eq i s) [
            | inl same ↦ one i (omega arith) (omega arith)
            | inr other ↦ gone i low (omega arith)
          ];
      waiting = chains_others pairs c.args.first s c.in-Some.fences c.in-Some.piece fences pieces (omega arith) (omega arith) (s + 1) c.args.first
          (λ i low lt. c.loop-start.invariant.waiting i (omega arith) lt) (λ i low lt. (omega arith, omega (arith, lt, begun, c.saturating_sub-start.ensures, c.requires.sheet.sizes), omega arith));
    }
