-- Who can make which calls.
use Rattle.std.proofs.Common.{◌≡◌, ℕ, ◌<◌, Bool, true, false, arith}
use Rattle.std.specs.Prelude.{◌==◌, ◌&&◌}
use Rattle.std.proofs.lemmas.Bool.Decides.{nat_tests}
use Rattle.cm_document.specs.declared.call.Call.{Call}
use Rattle.cm_document.specs.declared.call.Call.TheVariants.{Begin, End, Close}
use Rattle.cm_model.specs.State.{State}
use Rattle.cm_model.specs.Machine.{is_loop, is_enabled, can_begin, can_end, can_close}
use Rattle.cm_model.specs.Sessions.{IsConsole}

-- a session is not the loop
loop_only : (s : State) (who : ℕ) (b : Bool) → who < s.sessions → (is_loop s who && b) ≡ true → ⊥
loop_only s who b less enabled =
    let no : (who == s.sessions) ≡ false = grind (arith, nat_tests) in
    let wrong : false ≡ true = rw no at enabled in
    cc

-- what a session can make is a console call
pub enabled-IsConsole : (s : State) (who : ℕ) (call : Call) → who < s.sessions → is_enabled s who call ≡ true
    → IsConsole call
enabled-IsConsole s who (Begin cycle) less enabled = loop_only s who (can_begin s cycle) less enabled
enabled-IsConsole s who (End cycle) less enabled = loop_only s who (can_end s cycle) less enabled
enabled-IsConsole s who Close less enabled = loop_only s who (can_close s) less enabled
enabled-IsConsole s who _ less enabled = tt
