-- What explaining a plan of pieces answers (this project's choice).
use Rattle.std.specs.Prelude.{◌≡◌, ◌+◌, ◌-◌, ◌<◌, ◌≤◌, ℕ, nat_lt, Bool, List, [], ◌∷◌, ◌++◌, codes, decimal, length, string_bytes, Option, if◌then◌else◌}
use Rattle.dsa_operations.specs.declared.operation.Operation.{Operation}
use Rattle.dsa_sentences.specs.declared.causes.TextCause.TheVariants.{Picture as Large}
use Rattle.dsa_sentences.specs.Endings.{ending_of}
use Rattle.dsa_settings.specs.Plan.{Plan}
use Rattle.dsa_settings.specs.Settings.{Limits}
use Rattle.dsa_reasons.specs.declared.fences.Detail.{Detail}
use Rattle.dsa_reasons.specs.declared.fences.Detail.TheVariants.{First, All as Every}
use Rattle.dsa_explain.specs.declared.picture.PieceRange.{PieceRange}
use Rattle.dsa_explain.specs.declared.explanation.Explanation.{Explanation}
use Rattle.dsa_explain.specs.Explained.{CanBeExplained, IsExplanationOf}
use Rattle.dsa_drawing.specs.Pictures.{IsPicture}
use Rattle.dsa_explain.specs.Runs.{Labelling, labelling}
use Rattle.dsa_explain.specs.Words.{explanation_words}
use Rattle.dsa_explain.specs.Document.{explanation_line}
use Rattle.dsa_explain.specs.declared.waits.WaitsFault.TheVariants.{Track}
use Rattle.dsa_explain.specs.Waits.{AreWaits, RefusesWaits, waits_words}
use Rattle.dsa_tracker.specs.declared.fault.TrackFault.{TrackFault}
use Rattle.dsa_tracker.specs.declared.slots.Slots.{Slots}
use Rattle.dsa_tracker.specs.Causes.{track_name, track_number}
use Rattle.dsa_advice.specs.declared.answer.Answer.{Answer}
use Rattle.dsa_advice.specs.declared.shown.Subject.{Subject}
use Rattle.dsa_advice.specs.declared.form.Form.{Form}
use Rattle.dsa_advice.specs.declared.form.Form.TheVariants.{Words, Picture, Json, Waits}

-- ---- forms

-- the form that flags ask for: a picture of these pieces, JSON, what groups wait for, words with all conflicts; else words with the first ones
abbrev pub form_of : PieceRange → Bool → Bool → Bool → Bool → Form
form_of range svg json waits all =
    if svg then Picture range else (if json then Json else (if waits then Waits else (if all then Words Every else Words First)))

-- ---- what is shown

-- the most groups that are drawn
abbrev pub most_rows : ℕ
most_rows = 1024

-- how many groups have one of the pieces from the first to the last, both counted from the first group on
abbrev pub drawn_groups : ℕ → ℕ → Plan → ℕ
drawn_groups first last [] = 0
drawn_groups first last (group ∷ groups) =
    if nat_lt last (length group) then (if nat_lt last first then 0 else 1)
    else ((if nat_lt first (length group) then 1 else 0) + drawn_groups (first - length group) (last - length group) groups)

-- the labels of pieces that are of no known operations
abbrev pub unlabelled : Labelling
unlabelled = record { origins = []; names = [] }

-- the text is the explanation of the plan in words, and the plan can be explained
pub record TellsPlan (s : Limits) (detail : Detail) (plan : Plan) (pieces : List Operation) (barriers : List Bool) (labels : Labelling) (text : List ℕ) : Type 0 where
  pub can : CanBeExplained s pieces barriers plan
  pub explanation : Explanation
  pub is : IsExplanationOf s detail pieces barriers plan explanation
  pub words : text ≡ explanation_words s detail explanation pieces labels

-- the text is the line of the explanation in JSON, with all conflicts and what a least plan costs, if that is known
pub record SpellsPlan (s : Limits) (plan : Plan) (pieces : List Operation) (barriers : List Bool) (labels : Labelling) (least : Option ℕ) (text : List ℕ) : Type 0 where
  pub can : CanBeExplained s pieces barriers plan
  pub explanation : Explanation
  pub is : IsExplanationOf s Every pieces barriers plan explanation
  pub line : text ≡ explanation_line explanation pieces labels least

-- the text is a picture, the plan can be explained, and few of its groups are drawn
pub record DrawsPlan (range : PieceRange) (s : Limits) (plan : Plan) (pieces : List Operation) (barriers : List Bool) (text : List ℕ) : Type 0 where
  pub can : CanBeExplained s pieces barriers plan
  pub few : drawn_groups range.first range.last plan ≤ most_rows
  pub picture : IsPicture text

-- the text says what each group waits for, and the plan can be explained
pub record TellsWaits (s : Limits) (plan : Plan) (pieces : List Operation) (barriers : List Bool) (text : List ℕ) : Type 0 where
  pub can : CanBeExplained s pieces barriers plan
  pub slots : List ℕ
  pub sets : List Slots
  pub are : AreWaits s.staging plan pieces slots sets
  pub words : text ≡ waits_words slots sets

-- the plan in a form
abbrev pub ShowsPlan : Form → Limits → Plan → List Operation → List Bool → Labelling → Option ℕ → List ℕ → Type 0
ShowsPlan (Words detail) s plan pieces barriers labels least text = TellsPlan s detail plan pieces barriers labels text
ShowsPlan (Picture range) s plan pieces barriers labels least text = DrawsPlan range s plan pieces barriers text
ShowsPlan Json s plan pieces barriers labels least text = SpellsPlan s plan pieces barriers labels least text
ShowsPlan Waits s plan pieces barriers labels least text = TellsWaits s plan pieces barriers text

-- the message if too many groups are to be drawn
abbrev pub too_many_groups : ℕ → List ℕ
too_many_groups groups =
    codes "error: " ++ (decimal groups ++ (codes " groups, a picture has 1024 at most (--from N --to M draws some)" ++ ending_of Large))

-- the message if a tracker refuses the groups
abbrev pub untracked : TrackFault → List ℕ
untracked fault =
    codes "error: a tracker with 64 slots refuses the groups" ++ (codes " [" ++ (decimal (track_number fault) ++ (codes " " ++ (track_name fault ++ codes "]\n"))))

-- A plan that can be explained is shown, with status 0. It is refused if too many of its groups are to be drawn, or if a
-- tracker refuses its groups.
pub data AnswersPlan (s : Limits) (plan : Plan) (pieces : List Operation) (barriers : List Bool) (labels : Labelling) (least : Option ℕ) (form : Form) (a : Answer) : Type 0 where
  is_shown : a.status ≡ 0 → ShowsPlan form s plan pieces barriers labels least (string_bytes a.text) → AnswersPlan s plan pieces barriers labels least form a
  is_too_large : (range : PieceRange) → form ≡ Picture range → CanBeExplained s pieces barriers plan → most_rows < drawn_groups range.first range.last plan → a.status ≡ 1
      → string_bytes a.text ≡ too_many_groups (drawn_groups range.first range.last plan) → AnswersPlan s plan pieces barriers labels least form a
  is_untracked : (fault : TrackFault) → form ≡ Waits → CanBeExplained s pieces barriers plan → RefusesWaits s.staging plan pieces (Track fault)
      → a.status ≡ 1 → string_bytes a.text ≡ untracked fault → AnswersPlan s plan pieces barriers labels least form a

-- the plan that is to be shown can be explained
abbrev pub CanBeShown : Limits → Subject → Type 0
CanBeShown s x = CanBeExplained s x.pieces.now x.barriers.now x.plan.now

-- the plan that is shown in a form
abbrev pub AnswersSubject : Limits → Subject → Form → Answer → Type 0
AnswersSubject s x form a = AnswersPlan s x.plan.now x.pieces.now x.barriers.now (labelling x.labels) x.least form a
