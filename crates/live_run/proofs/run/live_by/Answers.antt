use Rattle.std.proofs.Common.{◌≡◌, true, All, length, subst, sym, arith}
use Rattle.std.specs.Prelude.{is_none}
use Rattle.std.proofs.lemmas.List.{with_items_is}
use Rattle.console_session.specs.Sessions.{next_of}
use Rattle.live_run.specs.Sessions.{IsAtItsStart, EachHasRun}
use Rattle.live_run.proofs.SessionLemmas.{ports_have_followed}
use Rattle.live_run.proofs.run.live_by.Goals as goal

-- each session is at its start, as the caller says
pub run_all-requires-clause-sessions : goal.run_all-requires-clause-sessions
run_all-requires-clause-sessions g c κs within =
    subst (All (λ s. IsAtItsStart (g.P.Port.tells s.1) s.0)) (sym c.as_mut_slice.ensures.value) c.requires.sessions

-- all sessions have ended, so their ports are those of sessions that followed their lines
pub returns-clause-ports : goal.returns-clause-ports
returns-clause-ports g c =
    let before = c.args.sessions.items in
    let after = c.run_all.new.sessions in
    let ran : EachHasRun g.P.Port.footing g.P.Port.tells before after =
    subst (λ first. EachHasRun g.P.Port.footing g.P.Port.tells first after) c.as_mut_slice.ensures.value
    c.run_all.ensures.sessions in
    let long : length after ≡ c.args.sessions.len =
    omega (arith, c.run_all.auto.sessions, c.as_mut_slice.ensures.len) in
    ports_have_followed g.P.Port.footing g.P.Port.tells before after _ _ c.ports_of.result.items
    (with_items_is c.args.sessions after long)
    c.in_ok-ports.ensures.items c.ports_of.ensures ran
    (subst (All (λ s. is_none (next_of s.0) ≡ true)) c.as_slice.ensures.value (c.have_all_ended.ensures cc))
