use Rattle.std.proofs.Common.{◌≡◌, ◌++◌, drop, string_bytes}
use Rattle.std.specs.Prelude.{flat_map, codes}
use Rattle.cm_document.specs.CallText.{call_text}
use Rattle.script_text.proofs.print.push_calls.Given as goal

-- the text so far, and the calls that are left, are all calls
abbrev pub invariant-loop-call : goal.invariant-loop-call
invariant-loop-call l =
    string_bytes l.text ++ flat_map (λ call. call_text call ++ codes "\n") (drop l.call-index l.calls)
    ≡ string_bytes l.fn.text ++ flat_map (λ call. call_text call ++ codes "\n") l.calls
