-- What `explain` answers to an input and options (this project's choice).
use Rattle.std.specs.Prelude.{◌≡◌, ℕ, Bool, true, false, List, [], ◌++◌, codes, string_bytes, Option, Some, None}
use Rattle.clap.specs.declared.parser.matches.ArgMatches.{ArgMatches}
use Rattle.dsa_sentences.specs.declared.causes.TextCause.TheVariants.{Options}
use Rattle.dsa_sentences.specs.Endings.{ending_of}
use Rattle.dsa_settings.specs.Settings.{Limits}
use Rattle.dsa_explain.specs.declared.picture.PieceRange.{PieceRange}
use Rattle.dsa_calls.specs.declared.fault.PlanFault.TheVariants.{Hex, Settings as Outside}
use Rattle.dsa_forms.specs.declared.kinds.InputKind.{InputKind}
use Rattle.dsa_forms.specs.declared.kinds.InputKind.TheVariants.{Bytes, Job, Dump, Lines}
use Rattle.dsa_forms.specs.Forms.{SpellsBytes, SpellsNone}
use Rattle.dsa_forms.specs.Kinds.{is_binary, kind_of}
use Rattle.dsa_advice.specs.declared.answer.Answer.{Answer}
use Rattle.dsa_advice.specs.declared.form.Form.{Form}
use Rattle.dsa_advice.specs.declared.settings.SettingsWords.{SettingsWords}
use Rattle.dsa_text.specs.declared.taken.Content.{Content}
use Rattle.dsa_text.specs.declared.taken.Content.TheVariants.{Text, List as Listed, Recording}
use Rattle.dsa_advice.specs.Refusals.{IsRefusal}
use Rattle.dsa_advice.specs.SettingsWords.{GivesSettings}
use Rattle.dsa_text.specs.Options.{AreSettingsGiven, AreWords, IsFlag, range_of}
use Rattle.dsa_advice.specs.Explained.{ExplainsList, ExplainsText}
use Rattle.dsa_advice.specs.Jobs.{ExplainsJobText}
use Rattle.dsa_text.specs.Recorded.{ExplainsRecording}
use Rattle.dsa_advice.specs.Shown.{form_of}
use Rattle.dsa_text.specs.Taken.{content_in, said_in}

-- the message if an option gives settings beside a job
abbrev pub options_message : List ℕ
options_message = codes "error: a job has settings of its own, so no option gives any" ++ ending_of Options

-- a job is refused if some option of settings is given; else it is explained
pub data ExplainsWithOptions (m : ArgMatches) (text : List ℕ) (form : Form) (a : Answer) : Type 0 where
  has_options : AreSettingsGiven m → a.status ≡ 1 → string_bytes a.text ≡ options_message → ExplainsWithOptions m text form a
  has_none : ¬ AreSettingsGiven m → ExplainsJobText text form a → ExplainsWithOptions m text form a

-- what explaining operations answers, by what they are in: a text, the bytes of a list, whose fences are barriers, or those
-- of a recording
abbrev pub ExplainsContent : Content → List ℕ → Bool → Limits → Form → Answer → Type 0
ExplainsContent Text text keep s form a = ExplainsText text keep s form a
ExplainsContent Listed bytes keep s form a = ExplainsList bytes s form a
ExplainsContent Recording bytes keep s form a = ExplainsRecording bytes s form a

-- operations are refused if the options spell no settings; else they are explained with these
-- settings, and the fences of a text are kept as barriers if the flag for that is set
pub data ExplainsOperations (content : Content) (m : ArgMatches) (input : List ℕ) (form : Form) (a : Answer) : Type 0 where
  spells_none : (w : SettingsWords) → AreWords m w → GivesSettings w None → IsRefusal Outside a → ExplainsOperations content m input form a
  spells_settings :
      (w : SettingsWords) (s : Limits) (keep : Bool) → AreWords m w → GivesSettings w (Some s) → IsFlag m (codes "keep-fences") keep →
      ExplainsContent content input keep s form a → ExplainsOperations content m input form a

-- an input that is not in lines is explained by its bytes, as what is said or as what they are: by its own, if it is binary;
-- else by those that it spells as a dump, and refused if it spells none
pub data ExplainsBytes (said : Option Content) (m : ArgMatches) (input : List ℕ) (form : Form) (a : Answer) : Type 0 where
  are_own : is_binary input ≡ true → ExplainsOperations (content_in said input) m input form a → ExplainsBytes said m input form a
  are_dumped :
      (bytes : List ℕ) → is_binary input ≡ false → SpellsBytes input bytes → ExplainsOperations (content_in said bytes) m bytes form a →
      ExplainsBytes said m input form a
  are_none : is_binary input ≡ false → SpellsNone input → IsRefusal Hex a → ExplainsBytes said m input form a

-- an input is explained as what it is
abbrev pub ExplainsSeen : InputKind → ArgMatches → List ℕ → Form → Answer → Type 0
ExplainsSeen Job m input form a = ExplainsWithOptions m input form a
ExplainsSeen Lines m input form a = ExplainsOperations Text m input form a
ExplainsSeen Bytes m input form a = ExplainsBytes None m input form a
ExplainsSeen Dump m input form a = ExplainsBytes None m input form a

-- as what is said, also if it is another
abbrev pub ExplainsAs : Content → ArgMatches → List ℕ → Form → Answer → Type 0
ExplainsAs Text m input form a = ExplainsOperations Text m input form a
ExplainsAs Listed m input form a = ExplainsBytes (Some Listed) m input form a
ExplainsAs Recording m input form a = ExplainsBytes (Some Recording) m input form a

-- as what the option `as` says, or, without it, as what it is; it is refused if the option names nothing
abbrev pub ExplainsSaid : Option (Option Content) → ArgMatches → List ℕ → Form → Answer → Type 0
ExplainsSaid None m input form a = IsRefusal Outside a
ExplainsSaid (Some None) m input form a = ExplainsSeen (kind_of input) m input form a
ExplainsSaid (Some (Some content)) m input form a = ExplainsAs content m input form a

-- an input is refused if options name no pieces to draw; else it is explained in the form that the flags ask for
pub data ExplainsInput (m : ArgMatches) (input : List ℕ) (a : Answer) : Type 0 where
  names_none : range_of m ≡ None → IsRefusal Outside a → ExplainsInput m input a
  names_pieces :
      (range : PieceRange) (svg json waits all : Bool) → range_of m ≡ Some range → IsFlag m (codes "svg") svg → IsFlag m (codes "json") json →
      IsFlag m (codes "waits") waits → IsFlag m (codes "all") all → ExplainsSaid (said_in m) m input (form_of range svg json waits all) a → ExplainsInput m input a
