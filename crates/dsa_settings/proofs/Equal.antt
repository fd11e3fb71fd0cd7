-- Lists are equal where they have the same elements.
use Rattle.std.proofs.Common.{◌≡◌, ℕ, ◌<◌, List, length, slice_get, sym, ap, ◌∙◌}
use Rattle.std.specs.Prelude.{unwrap_or}
use Rattle.std.proofs.lemmas.List.{same_lists as same_elements}
use Rattle.std.proofs.lemmas.Option.{unwrap_or-slice_get}

-- lists of equal length with equal elements are equal
pub same_lists : {X : Type 0} (xs ys : List X) → length xs ≡ length ys → ((k : ℕ) → k < length xs → slice_get xs k ≡ slice_get ys k) → xs ≡ ys
same_lists xs ys e h =
    same_elements xs ys e (λ k d lt. sym (unwrap_or-slice_get xs k d) ∙ ap (λ o. unwrap_or o d) (h k lt) ∙ unwrap_or-slice_get ys k d)
