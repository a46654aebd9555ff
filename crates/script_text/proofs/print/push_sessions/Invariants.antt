use Rattle.std.proofs.Common.{◌≡◌, ◌++◌, drop, string_bytes}
use Rattle.std.specs.Prelude.{flat_map}
use Rattle.cm_document.specs.CallText.{session_text}
use Rattle.script_text.proofs.print.push_sessions.Given as goal

-- the text so far, and the sessions that are left, are all sessions
abbrev pub invariant-loop-session : goal.invariant-loop-session
invariant-loop-session l = string_bytes l.text ++ flat_map session_text (drop l.session-index l.sessions)
    ≡ string_bytes l.fn.text ++ flat_map session_text l.sessions
