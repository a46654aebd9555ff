-- What an advance over a console comes to.
use Rattle.std.proofs.Common.{◌≡◌, ℕ, zero, suc, ◌≤◌, List, [], ◌∷◌, length, drop}
use Rattle.std.proofs.Common.{None, false, Result, Ok, Err, refl, ap, ◌∙◌, arith}
use Rattle.std.specs.Prelude.{IfOk, nat_eq, is_none}
use Rattle.std.proofs.lemmas.Bool.Decides.{nat_tests}
use Rattle.fixed_num.specs.declared.memory.Memory.{Memory}
use Rattle.cm_document.specs.declared.call.Call.{Call}
use Rattle.cm_model.specs.Scheduled.{advance, next_call, with_entry}
use Rattle.cm_model.specs.Ports.{Console}
use Rattle.console_session.specs.Sessions.{SessionState, HasRun, HasWaited, HasEnded, Advances, AdvancesAsWritten}
use Rattle.console_session.specs.declared.session.Progress.{Progress}
use Rattle.console_session.specs.declared.session.Progress.TheVariants as progress

-- ---- The written advance

-- an entry that was made is the written advance
pub ran_written : (old new : Console) (x x' : SessionState) → HasRun old new x x'
    → AdvancesAsWritten progress.Ran old new x x'
unfolding advance
ran_written old new x x' ran = λ h told.
    let grown = rw told at ran.made.behind in
    (with_entry h old.who ran.call ran.reply, grown.0, rw (ran.next, grown.1, ran.left) refl)

-- where the session waits there is none
pub waited_written : (old new : Console) (x x' : SessionState) → HasWaited old new x x'
    → AdvancesAsWritten progress.Waits old new x x'
unfolding advance
waited_written old new x x' waited = λ h told.
    let none = rw told at waited.not_yet.behind in
    (h, waited.not_yet.none.behind ∙ told, (rw (waited.next, none) refl, refl))

-- nor where it has ended
pub ended_written : (old new : Console) (x x' : SessionState) → HasEnded old new x x'
    → AdvancesAsWritten progress.Ended old new x x'
unfolding advance
ended_written old new x x' ended =
    λ h told. (h, ap (λ (c : Console). c.whole) ended.none ∙ told, (rw (ended.next) refl, refl))

-- so an advance is the written one, whatever it came to
pub advance_written : (old new : Console) (x x' : SessionState) (r : Result Progress Memory)
    → IfOk r (λ p. Advances p old new x x') → IfOk r (λ p. AdvancesAsWritten p old new x x')
advance_written old new x x' (Ok progress.Ran) advanced = ran_written old new x x' advanced
advance_written old new x x' (Ok progress.Waits) advanced = waited_written old new x x' advanced
advance_written old new x x' (Ok progress.Ended) advanced = ended_written old new x x' advanced
advance_written old new x x' (Err e) advanced = tt

-- ---- The end

same_next : (m n : ℕ) → nat_eq (suc m) (suc n) ≡ nat_eq m n
same_next m n = grind (arith, nat_tests)

zero_other : (n : ℕ) → nat_eq 0 (suc n) ≡ false
zero_other n = grind (arith, nat_tests)

-- a session without a ticket has a next call where it has a line left
pub none_left : (line : ℕ) (lines : List Call) → line ≤ length lines
    → nat_eq line (length lines) ≡ is_none (next_call None (drop line lines))
none_left zero [] within = refl
none_left zero (call ∷ lines) within = zero_other (length lines)
none_left (suc line) [] within = absurd (omega (arith, within))
none_left (suc line) (call ∷ lines) within =
    same_next line (length lines) ∙ none_left line lines (omega (arith, within))
