-- How the message of a refused text ends (this project's choice).
use Rattle.std.specs.Prelude.{ℕ, List, codes}
use Rattle.dsa_sentences.specs.declared.causes.TextCause.{TextCause}
use Rattle.dsa_sentences.specs.declared.causes.TextCause.TheVariants.{Line, Picture, Options}

-- the number and the name of the cause, in brackets
abbrev pub ending_of : TextCause → List ℕ
ending_of Line = codes " [130 Line]\n"
ending_of Picture = codes " [131 Picture]\n"
ending_of Options = codes " [132 Options]\n"
