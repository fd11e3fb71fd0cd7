-- The pieces of a list that is planned, and why there is no room for what is said of its plan.
use Rattle.std.proofs.Common.{◌≡◌, inl, inr, ℕ, ◌<◌, ◌≤◌, Bool, List, length, map, ap, ◌∙◌, arith}
use Rattle.std.proofs.lemmas.List.{length-map}
use Rattle.dsa_descriptor.specs.Descriptors.{fields}
use Rattle.dsa_descriptor.specs.Pieces.{most_pieces}
use Rattle.dsa_settings.specs.Plan.{Plan, piece_count}
use Rattle.dsa_settings.specs.Settings.{Limits}
use Rattle.dsa_splitter.proofs.Walks.{length_all}
use Rattle.dsa_lists.specs.AnyLists.{AreAnyPieces, IsAnyPlan}
use Rattle.dsa_operations.specs.declared.operation.Operation.{Operation}
use Rattle.dsa_operations.specs.declared.operation.Operation.TheVariants as operation
use Rattle.dsa_lists.proofs.AnyLists.{any_plan_is_checked, any_plan_is_least}
use Rattle.dsa_c.specs.declared.refusal.RawRefusal.{RawRefusal}
use Rattle.dsa_c.specs.declared.settings.RawSettings.{RawSettings}
use Rattle.dsa_c.specs.Planning.{About, AreOfPlan, IsPlannedList, RefusesOfPlan}
use Rattle.dsa_c.specs.Preparing.{refusal_at}
use Rattle.dsa_c.specs.Raw.{AreSettings, limits_of}
use Rattle.dsa_c.proofs.Refusing.{as_many}

-- the pieces are few
few_of_list : (list : List ℕ) (l : Limits) (pieces : List Operation) (barriers : List Bool) → AreAnyPieces list l pieces barriers → length pieces ≤ most_pieces
few_of_list list l pieces barriers (inl (of, (ds, are, is))) =
    omega (arith, are.split.few.few, length_all (map fields are.operations) l.greatest_transfer, ap length are.pieces_are, length-map ds fields, ap length is, length-map ds operation.Descriptor)
few_of_list list l pieces barriers (inr (none, (ready, is))) = ready.can.few

module _ (list : List ℕ) (l : Limits) (pieces : List Operation) (barriers : List Bool) (plan : Plan) (h : IsAnyPlan list l pieces barriers plan) where
  pub few_pieces : length pieces ≤ most_pieces
  few_pieces = few_of_list list l pieces barriers h.are_pieces

  -- the plan is one of as many
  pub all_pieces : piece_count plan ≡ length pieces
  all_pieces = ap piece_count h.plan_is ∙ as_many list l h.submission (any_plan_is_least list l h.submission h.planned) ∙ h.count

-- planning the list answers it
plan_listed : (s : RawSettings) (table list : List ℕ) (pieces : List Operation) (barriers : List Bool) (plan : Plan) → AreSettings s table → (h : IsAnyPlan list (limits_of s table) pieces barriers plan)
    → IsPlannedList s table list h.submission
plan_listed s table list pieces barriers plan are h = record {
  settings = are;
  planned = h.planned;
  least = any_plan_is_least list (limits_of s table) h.submission h.planned;
  checks = any_plan_is_checked list (limits_of s table) h.submission h.planned;
}

-- the items that are said of it are those of the list's plan
pub said_of_plan : {X : Type 0} (Are : About X) (s : RawSettings) (table list : List ℕ) (pieces : List Operation) (barriers : List Bool) (plan : Plan) (items : List X) → AreSettings s table
    → IsAnyPlan list (limits_of s table) pieces barriers plan → Are pieces barriers plan items → AreOfPlan Are s table list items
said_of_plan Are s table list pieces barriers plan items settings h are = record {
  pieces = pieces;
  barriers = barriers;
  plan = plan;
  of_list = h;
  planned = plan_listed s table list pieces barriers plan settings h;
  are = are;
}

-- the array is too small
pub refuses_room : {X : Type 0} (Are : About X) (number : ℕ) (s : RawSettings) (table list : List ℕ) (room : ℕ) (items : List X) (r : RawRefusal) (count : ℕ)
    → AreOfPlan Are s table list items → room < length items → r ≡ refusal_at number count 0 → count ≡ length items → RefusesOfPlan Are number s table list room r
refuses_room Are number s table list room items r count of_plan short value is =
    inr (items, of_plan, short, value ∙ ap (λ (n : ℕ). refusal_at number n 0) is)
