use Rattle.std.proofs.Common.{◌≡◌, ◌⊎◌, inl, inr, refl, sym, ◌∙◌}
use Rattle.std.proofs.lemmas.Bool.{false≢true}
use Rattle.dsa_settings.specs.declared.setting.Setting.TheVariants.{Batch}
use Rattle.dsa_c.proofs.Splitting.{outside_prices}
use Rattle.dsa_c.proofs.settings.outside.Goals as goal

pub returns-then-not-is_known : goal.returns-then-not-is_known
returns-then-not-is_known c = λ table none. inl (refl, λ known. absurd (false≢true (sym c.if-not-is_known.true ∙ c.is_known.ensures.1 known)))

pub returns-in-Some : goal.returns-in-Some
returns-in-Some c =
    let known : (c.args.raw.now.version ≡ 1) ⊎ (c.args.raw.now.version ≡ 2) = c.is_known.ensures.0 c.if-not-is_known.false in
    λ table none. inr (c.in-Some.setting, c.number_of.ensures, known, c.in-Some.ensures table)

pub returns-in-None : goal.returns-in-None
returns-in-None c =
    let known : (c.args.raw.now.version ≡ 1) ⊎ (c.args.raw.now.version ≡ 2) = c.is_known.ensures.0 c.if-not-is_known.false in
    λ table none. inr (Batch, c.number_of-in-None.ensures, known, outside_prices c.args.raw.now table known c.in-None.ensures none)
