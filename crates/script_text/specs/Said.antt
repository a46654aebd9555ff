-- What one line says, wherever it stands.
use Rattle.std.specs.Prelude.{ℕ, if◌then◌else◌, List, Option, None}
use Rattle.cm_document.specs.Grammars.{whole_grammar}
use Rattle.cm_document.specs.LineGrammar.{line_of}
use Rattle.cm_document.specs.Lines.{bare, words, is_skipped}
use Rattle.cm_document.specs.declared.script.ScriptLine.{ScriptLine}

-- nothing if it is skipped, else what its words say
abbrev pub said_by : List ℕ → Option ScriptLine
said_by line = if is_skipped (words (bare line)) then None else line_of whole_grammar (words (bare line))
