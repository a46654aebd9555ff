-- The parts of a line: what stands before the reply, and which replies print in words.
use Rattle.std.specs.Prelude.{ℕ, Bool, true, false, List, ◌++◌, codes}
use Rattle.cm_document.specs.CallText.{call_text}
use Rattle.cm_document.specs.declared.script.SessionText.{SessionText}
use Rattle.cm_model.specs.Items.{Names}
use Rattle.cm_model.specs.Trace.{caller_text, reply_text}
use Rattle.cm_model.specs.declared.entry.Entry.{Entry}
use Rattle.cm_model.specs.declared.reply.Reply.{Reply}
use Rattle.cm_model.specs.declared.reply.Reply.TheVariants as reply

-- whether a reply is no record of a cycle
abbrev pub is_in_words : Reply → Bool
is_in_words (reply.Cycle _) = false
is_in_words _ = true

-- caller and call, as `a load mk`
abbrev pub head_text : List SessionText → Entry → List ℕ
head_text sessions e = caller_text sessions e.who ++ codes " " ++ call_text e.call

-- what stands behind them, with the end of the line
abbrev pub rest_text : Names → Reply → List ℕ
rest_text names reply = codes ": " ++ reply_text names reply ++ codes "\n"
