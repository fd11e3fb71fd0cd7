use Rattle.std.proofs.Common.{ℕ, ◌≡◌, ◌+◌, ◌-◌, ◌<◌, ◌≤◌, inl, inr, length, slice_index, slice_set, refl, arith, ◌∙◌}
use Rattle.std.proofs.lemmas.Bool.{cases_lt}
use Rattle.std.proofs.lemmas.List.{get_or-set_same, get_or-set_other}
use Rattle.dsa_plan.specs.Chain.{LeadsTo, IsLastBelow}
use Rattle.dsa_plan.proofs.Chains.{LeadsTo-same, LeadsTo-read, LeadsTo-read_none}
use Rattle.dsa_checker.specs.Blocks.{place}
use Rattle.dsa_plan.proofs.Joined.{last_led, count_one_more, count_none, last_fits}
use Rattle.dsa_checker.proofs.Blocks.{rows_more, less_none}
use Rattle.dsa_checker.proofs.block.fill_row.Goals.{in_default-via-in-Some+else-second-past, in_default-via-in_default}
use Rattle.dsa_checker.proofs.block.fill_row.Goals as goal

pub overflow_sub-next : goal.overflow_sub-next
overflow_sub-next c =
    let leads : LeadsTo c.args.pairs.now c.args.piece c.in-Some.second = LeadsTo-read c.args.pairs.now c.args.piece c.in-Some.field-0-0 c.in-Some.second (omega (arith, c.requires.inside, c.requires.within)) c.in-Some.is in
    let later : c.args.piece < c.in-Some.second = c.requires.forward c.args.piece c.in-Some.second leads in
    omega (arith, later, c.requires.begun)

pub overflow_add-block : goal.overflow_add-block
overflow_add-block c =
    let leads : LeadsTo c.args.pairs.now c.args.piece c.in-Some.second = LeadsTo-read c.args.pairs.now c.args.piece c.in-Some.field-0-0 c.in-Some.second (omega (arith, c.requires.inside, c.requires.within)) c.in-Some.is in
    let later : c.args.piece < c.in-Some.second = c.requires.forward c.args.piece c.in-Some.second leads in
    let last = c.requires.later.last c.in-Some.second (omega (arith, later)) c.if-second-past.true in
    let fits = last_fits c.args.pairs.now c.requires.forward c.in-Some.second c.args.past (slice_index c.args.block.now.counts (c.in-Some.second - c.args.first)) (slice_index c.args.block.now.lasts (c.in-Some.second - c.args.first)) last in
    omega (arith, fits, c.requires.few, c.requires.within)

pub lower_row-requires-clause-apart : goal.lower_row-requires-clause-apart
lower_row-requires-clause-apart c =
    let leads : LeadsTo c.args.pairs.now c.args.piece c.in-Some.second = LeadsTo-read c.args.pairs.now c.args.piece c.in-Some.field-0-0 c.in-Some.second (omega (arith, c.requires.inside, c.requires.within)) c.in-Some.is in
    let later : c.args.piece < c.in-Some.second = c.requires.forward c.args.piece c.in-Some.second leads in
    omega (arith, later, c.requires.begun)

pub returns-in-Some-clause-rows : goal.returns-in-Some-clause-rows
returns-in-Some-clause-rows c =
    let pairs = c.args.pairs.now in
    let x = c.args.piece in
    let y = c.in-Some.second in
    let first = c.args.first in
    let past = c.args.past in
    let fence = c.args.fence in
    let rows = c.args.block.now.rows in
    let lasts = c.args.block.now.lasts in
    let counts = c.args.block.now.counts in
    let h = c.requires.later in
    let leads : LeadsTo pairs x y = LeadsTo-read pairs x c.in-Some.field-0-0 y (omega (arith, c.requires.inside, c.requires.within)) c.in-Some.is in
    let later : x < y = c.requires.forward x y leads in
    let near : y < past = c.if-second-past.true in
    let here : x - first < 64 = omega (arith, c.requires.size, c.requires.inside, c.requires.begun) in
    let last : IsLastBelow pairs x past (slice_index counts (y - first) + 1) (slice_index lasts (y - first)) =
    last_led pairs x y past (slice_index counts (y - first)) (slice_index lasts (y - first)) leads (h.last y (omega (arith, later)) near) in
    rows_more pairs fence first past x rows lasts counts h c.requires.begun c.requires.inside c.requires.size
    (y - first) (omega (arith, later, c.requires.begun)) (omega (arith, near, c.requires.size))
    (λ end from le. h.before y end (omega (arith, later)) near from (omega (arith, le, later)))
    (λ end from le. elim (cases_lt y end) [
      | inr early ↦ (
        0,
        count_none pairs x end from (λ b l. omega (arith, LeadsTo-same pairs x y b leads l, early)),
        h.before y end (omega (arith, later)) near (omega (arith, from, c.requires.begun)) early ∙ less_none (slice_index rows (place first 64 end)) fence,
      )
      | inl late ↦ let (count, counted, is) = h.after y end (omega (arith, later)) near late le in (count + 1, count_one_more pairs x end y count leads counted, is)
    ])
    c.lower_row.new.rows (slice_set lasts (x - first) (slice_index lasts (y - first))) (slice_set counts (x - first) (slice_index counts (y - first) + 1))
    c.lower_row.ensures.kept c.lower_row.ensures.lowered c.lower_row.ensures.outside
    (rw (get_or-set_same lasts (x - first) (slice_index lasts (y - first)) 0 (omega (arith, here)), get_or-set_same counts (x - first) (slice_index counts (y - first) + 1) 0 (omega (arith, here))) last)
    (λ z other. get_or-set_other lasts (x - first) z (slice_index lasts (y - first)) 0 other)
    (λ z other. get_or-set_other counts (x - first) z (slice_index counts (y - first) + 1) 0 other)

pub returns-in_default-clause-rows : goal.returns-in_default-clause-rows
returns-in_default-clause-rows c =
    let pairs = c.args.pairs.now in
    let x = c.args.piece in
    let first = c.args.first in
    let past = c.args.past in
    let fence = c.args.fence in
    let rows = c.args.block.now.rows in
    let lasts = c.args.block.now.lasts in
    let counts = c.args.block.now.counts in
    let h = c.requires.later in
    let inside : x < length pairs = omega (arith, c.requires.inside, c.requires.within) in
    let here : x - first < 64 = omega (arith, c.requires.size, c.requires.inside, c.requires.begun) in
    let far : (b : ℕ) → LeadsTo pairs x b → past ≤ b = λ b l.
    elim c.in_default.branch [
      | in_default-via-in-Some+else-second-past w ↦
          let leads : LeadsTo pairs x w.in-Some.second = LeadsTo-read pairs x w.in-Some.field-0-0 w.in-Some.second inside w.in-Some.is in
          let same : w.in-Some.second ≡ b = LeadsTo-same pairs x w.in-Some.second b leads l in
          omega (arith, w.if-second-past.false, same)
      | in_default-via-in_default w ↦ absurd (LeadsTo-read_none pairs x inside w.in_default.is b l)
    ] in
    rows_more pairs fence first past x rows lasts counts h c.requires.begun c.requires.inside c.requires.size
    64 here (omega arith)
    (λ end from le. refl)
    (λ end from le. (0, count_none pairs x end from (λ b l. omega (arith, far b l, le)), less_none (slice_index rows (place first 64 end)) fence))
    c.lower_row-in_default.new.rows (slice_set lasts (x - first) x) (slice_set counts (x - first) 0)
    c.lower_row-in_default.ensures.kept c.lower_row-in_default.ensures.lowered c.lower_row-in_default.ensures.outside
    (rw (get_or-set_same lasts (x - first) x 0 (omega (arith, here)), get_or-set_same counts (x - first) 0 0 (omega (arith, here)))
    (record { reached = refl; below = c.requires.inside; no_more = far }))
    (λ z other. get_or-set_other lasts (x - first) z x 0 other)
    (λ z other. get_or-set_other counts (x - first) z 0 0 other)
