-- The fences of a plan, as they are found group by group.
use Rattle.std.proofs.Common.{◌≡◌, ℕ, suc, ◌+◌, ◌-◌, ◌<◌, Bool, true, false, cond, List, [], ◌∷◌, ◌++◌, length, get_or, drop, Some, refl, sym, ap, ◌∙◌, subst, append_assoc, arith}
use Rattle.std.specs.Prelude.{◌↔◌, IsTrue}
use Rattle.std.proofs.lemmas.List.{drop_more, map-append}
use Rattle.std.proofs.lemmas.Option.{slice_get-get_or}
use Rattle.std.proofs.lemmas.List.Elements.{All-append, All-cons, All-nil}
use Rattle.dsa_descriptor.specs.declared.span.Span.{Span}
use Rattle.dsa_settings.specs.Plan.{Group, Plan}
use Rattle.dsa_settings.specs.Barriers.{IsBarrier}
use Rattle.dsa_settings.specs.Legal.{IsFenced}
use Rattle.dsa_reasons.specs.declared.fences.Fence.{Fence}
use Rattle.dsa_reasons.specs.declared.fences.Detail.{Detail}
use Rattle.dsa_reasons.specs.Fences.{AddsExplained, HasReasons, IsExplained, fence_places, fenced_in, fenced_pieces}

-- ---- the loop over a group

fenced_next : (p i : ℕ) (b : Bool) (g : Group) → fenced_in (p + i) (b ∷ g) ≡ cond b ((p + i) ∷ fenced_in (p + (i + 1)) g) (fenced_in (p + (i + 1)) g)
fenced_next p i b g =
    let e : p + (i + 1) ≡ suc (p + i) = omega arith in rw e refl

pub fence_pushed : (fences : List Fence) (fence : Fence) (start i : ℕ) (g : Group) (all : List ℕ) → fence.piece ≡ start + i → i < length g
    → get_or g i false ≡ true → fence_places fences ++ fenced_in (start + i) (drop i g) ≡ all
    → fence_places (fences ++ fence ∷ []) ++ fenced_in (start + (i + 1)) (drop (i + 1) g) ≡ all
fence_pushed fences fence start i g all is within fenced so_far =
    let left : fenced_in (start + i) (drop i g) ≡ (start + i) ∷ fenced_in (start + (i + 1)) (drop (i + 1) g) =
    ap (fenced_in (start + i)) (drop_more g i false within)
    ∙ fenced_next start i (get_or g i false) (drop (i + 1) g)
    ∙ ap (λ (b : Bool). cond b ((start + i) ∷ fenced_in (start + (i + 1)) (drop (i + 1) g)) (fenced_in (start + (i + 1)) (drop (i + 1) g))) fenced in
    ap (λ (ps : List ℕ). ps ++ fenced_in (start + (i + 1)) (drop (i + 1) g)) (map-append (λ (f : Fence). f.piece) fences (fence ∷ []))
    ∙ append_assoc (fence_places fences) (fence.piece ∷ []) (fenced_in (start + (i + 1)) (drop (i + 1) g))
    ∙ ap (λ (p : ℕ). fence_places fences ++ p ∷ fenced_in (start + (i + 1)) (drop (i + 1) g)) is
    ∙ ap (λ (ps : List ℕ). fence_places fences ++ ps) (sym left)
    ∙ so_far

pub fence_passed : (before : List ℕ) (start i : ℕ) (g : Group) (all : List ℕ) → i < length g → get_or g i false ≡ false
    → before ++ fenced_in (start + i) (drop i g) ≡ all → before ++ fenced_in (start + (i + 1)) (drop (i + 1) g) ≡ all
fence_passed before start i g all within unfenced so_far =
    let left : fenced_in (start + i) (drop i g) ≡ fenced_in (start + (i + 1)) (drop (i + 1) g) =
    ap (fenced_in (start + i)) (drop_more g i false within)
    ∙ fenced_next start i (get_or g i false) (drop (i + 1) g)
    ∙ ap (λ (b : Bool). cond b ((start + i) ∷ fenced_in (start + (i + 1)) (drop (i + 1) g)) (fenced_in (start + (i + 1)) (drop (i + 1) g))) unfenced in
    ap (λ (ps : List ℕ). before ++ ps) (sym left) ∙ so_far

pub is_fenced : (start i : ℕ) (g : Group) → i < length g → get_or g i false ≡ true → IsFenced start g (start + i)
is_fenced start i g within fenced =
    let e : (start + i) - start ≡ i = omega arith in (omega arith, rw e (slice_get-get_or g i false within ∙ ap Some fenced))

pub explained_pushed : {P : Type 0} (detail : Detail) (reads writes : P → List Span) (fs : List P) (bs : List Bool) (start : ℕ) (g : Group) (before fences : List Fence) (fence : Fence)
    → IsFenced start g fence.piece → HasReasons detail reads writes fs start g fence → IsTrue fence.barrier ↔ IsBarrier bs fence.piece
    → AddsExplained detail reads writes fs bs start g before fences → AddsExplained detail reads writes fs bs start g before (fences ++ fence ∷ [])
explained_pushed detail reads writes fs bs start g before fences fence fenced reasons barrier adds plan number there begins all =
    All-append (IsExplained detail reads writes fs bs plan) fences (fence ∷ []) (adds plan number there begins all)
    (All-cons (IsExplained detail reads writes fs bs plan) fence []
    (record {
      number = number;
      group = g;
      is_group = there;
      fenced = subst (λ (s : ℕ). IsFenced s g fence.piece) begins fenced;
      reasons = subst (λ (s : ℕ). HasReasons detail reads writes fs s g fence) begins reasons;
      barrier = barrier;
    })
    (All-nil (IsExplained detail reads writes fs bs plan)))

-- ---- the loop over a plan

pub group_pushed : (before after : List ℕ) (start i : ℕ) (g : Group) (plan : Plan) (all : List ℕ) → i < length plan → g ≡ get_or plan i g
    → after ≡ before ++ fenced_in start g → before ++ fenced_pieces start (drop i plan) ≡ all → after ++ fenced_pieces (start + length g) (drop (i + 1) plan) ≡ all
group_pushed before after start i g plan all within is pushed so_far =
    let left : drop i plan ≡ g ∷ drop (i + 1) plan = drop_more plan i g within ∙ ap (λ (h : Group). h ∷ drop (i + 1) plan) (sym is) in
    ap (λ (ps : List ℕ). ps ++ fenced_pieces (start + length g) (drop (i + 1) plan)) pushed
    ∙ append_assoc before (fenced_in start g) (fenced_pieces (start + length g) (drop (i + 1) plan))
    ∙ ap (λ (p : Plan). before ++ fenced_pieces start p) (sym left)
    ∙ so_far
