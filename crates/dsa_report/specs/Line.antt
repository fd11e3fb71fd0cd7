-- The bytes of the line of an answer.
use Rattle.std.specs.Prelude.{ℕ, List, ◌++◌}
use Rattle.hex.specs.Hex.{encode_lower}
use Rattle.dsa_report.specs.declared.answer_line.AnswerLine.{AnswerLine}

-- its text, with the digits of the bytes that it keeps, in lower-case hexadecimal; only private clauses cite this
abbrev pub line_bytes : AnswerLine → List ℕ
line_bytes line = line.front.items ++ (encode_lower line.first.items ++ (line.middle.now ++ (encode_lower line.second.items ++ line.end.now)))
