use Rattle.std.proofs.Common.{◌≡◌, ℕ, ◌<◌, inl, inr, true, false, List, Option, None, length, get_or, refl, sym, subst, ◌∙◌}
use Rattle.dsa_waits.proofs.Courses.{all_none, none_left}
use Rattle.dsa_waits.proofs.answer.status_of.Goals as goal

pub returns-then-are_none : goal.returns-then-are_none
returns-then-are_none c accepted es ss text are =
    inl (
      refl,
      none_left accepted es ss c.args.found.now.course c.args.found.now.left.items (are.recorded.members ∙ sym are.count_left) are.left
          (subst (λ (waits : List (Option ℕ)). (k : ℕ) → k < length waits → get_or waits k None ≡ None) c.deref.ensures.value (c.are_none.ensures.0 c.if-are_none.true)),
    )

pub returns : goal.returns
returns c accepted es ss text are =
    inr (
      refl,
      λ none.
          let all = all_none accepted es ss c.args.found.now.course c.args.found.now.left.items are.left none in
          let yes = c.are_none.ensures.1 (subst (λ (waits : List (Option ℕ)). (k : ℕ) → k < length waits → get_or waits k None ≡ None) (sym c.deref.ensures.value) all) in
          let no : true ≡ false = sym yes ∙ c.if-are_none.false in
          absurd cc,
    )
