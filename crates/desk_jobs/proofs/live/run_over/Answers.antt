use denote.Exit as exit
use denote.Param.{param}
use denote.Param.Send.{sendable, param_send, param_sync, arg_send, arg_sync}
use Rattle.std.proofs.Common.{◌≡◌, length, refl, sym, ap, subst, ◌∙◌, arith}
use Rattle.std.proofs.lemmas.List.{length-map}
use Rattle.std.proofs.lemmas.Slice.Zip.{AllZip-long}
use Rattle.cm_desk.specs.Desk.{IsAtHand}
use Rattle.cm_desk.proofs.BegunLemmas.{computed_at_hand}
use Rattle.live_run.specs.Loops.{IsAtFirst}
use Rattle.shared_desk.specs.Passes.{history_of}
use Rattle.shared_desk.specs.Ports.{ground_of, loop_console_of}
use Rattle.shared_desk.proofs.PortCrossing.{port_send, loop_end_send}
use Rattle.desk_jobs.proofs.LiveLemmas.{can_start-as_many, has_run, loop_at_first}
use Rattle.desk_jobs.proofs.LiveLemmas.{loop_back, sessions_at_first, sessions_back}
use Rattle.desk_jobs.proofs.live.run_over.Goals as goal

-- there is a pass for each session
pub with_ports-requires-clause-as_many : goal.with_ports-requires-clause-as_many
with_ports-requires-clause-as_many g c = can_start-as_many _ _ _ _ _ _ c.requires

-- consoles may cross threads, where boxes may
pub live_by-requires-send-P : goal.live_by-requires-send-P
live_by-requires-send-P g c κs within =
    param_send 1 _
    (arg_send _ exit.no _
    (port_send _ (param 0 g.row.R) (param 3 g.row.C) g.C.Controller (search (sendable, c.type_bounds.sync-R))
    (search (sendable, c.type_bounds.send-C))))

pub live_by-requires-send-L : goal.live_by-requires-send-L
live_by-requires-send-L g c κs within =
    param_send 2 _
    (arg_send _ exit.no _
    (loop_end_send _ (param 0 g.row.R) (param 3 g.row.C) g.C.Controller (search (sendable, c.type_bounds.sync-R))
    (search (sendable, c.type_bounds.send-C))))

-- each session is before its first line, and the loop before its first cycle; and a flight that workers computed may
-- land
pub live_by-requires-clause-sessions : goal.live_by-requires-clause-sessions
live_by-requires-clause-sessions g c = λ κs lives.
    sessions_at_first (λ p. p.desk.now.lock) (λ p. p.desk.now.at_first.value) (λ p. p.pass) _ _ _ _ _ _
    c.in_ok-pairs.pairs.items c.requires
    c.in_ok-pairs.ensures.sessions c.in_ok-pairs.ensures.passes

pub live_by-requires-clause-looping : goal.live_by-requires-clause-looping
live_by-requires-clause-looping g c =
    let first : IsAtFirst c.args.cycles
    (loop_console_of c.make-end.result.desk.now.at_first.value c.make-end.result.pass.pass) =
    rw (c.make-end.ensures.desk, c.make-end.ensures.pass) (loop_at_first _ _ _ _ _ _ c.requires) in
    λ κs lives. record {
      first = first;
      computes = record {
        takes = λ l x is. (
          (is.0.before is.1).not_yet.0,
          (
            param_send 1 _ (arg_send _ exit.no _ c.type_bounds.send-C),
            param_sync 0 _ (arg_sync _ exit.no _ c.type_bounds.sync-R),
          ),
        );
        leaves = λ l k x y is call. record {
          out = subst (λ p. IsAtHand (history_of p.desk.now.at_first.value.opening p.pass.pass) y.now) (sym call.0)
              (computed_at_hand _ x.now y.now (is.0.before is.1) call.1.cycle call.1.computed);
          computed = call.1.computed;
          tells = ap (λ p. loop_console_of p.desk.now.at_first.value p.pass.pass) call.0;
          still = ap (λ p. ground_of p.desk.now.at_first.value p.pass.pass) call.0;
        };
      };
    }

-- there is room for as many passes as there were
pub passes_of-requires : goal.passes_of-requires
passes_of-requires g c =
    let pairs = sym (length-map c.in_ok-pairs.pairs.items (λ s. s.1.pass)) ∙ ap length c.in_ok-pairs.ensures.passes in
    let ports = AllZip-long _ _ _ c.in_ok-ports.ensures.ports in
    record {
      room =
          omega (
            arith,
            pairs,
            ports,
            c.in_ok-room.ensures.len,
            c.in_ok-room.ensures.capacity,
            c.len.ensures,
            c.args.passes.ok.0,
          );
    }

-- all passes came back
pub returns : goal.returns
returns g c =
    let handed_in : ground_of c.make-end.result.desk.now.at_first.value c.make-end.result.pass.pass
    ≡ ground_of c.args.shared.now.at_first.value c.args.looping.pass =
    rw (c.make-end.ensures.desk, c.make-end.ensures.pass) refl in
    let still = c.in_ok-ports.ensures.looping.still ∙ handed_in in
    let loop = loop_back _ _ _ _ _ _ _ c.requires.shares.looping_is c.live_by.new.looping.looping still
    c.in_ok-ports.ensures.looping.made c.in_ok-ports.ensures.looping.closed in
    let sessions =
    sessions_back (λ p. p.desk.now.lock) (λ p. p.desk.now.at_first.value) (λ p. p.pass) _ _ _ _ _ _ _
    c.in_ok-ports.ports.items c.requires
    c.in_ok-pairs.ensures.sessions c.in_ok-pairs.ensures.passes c.passes_of.ensures.theirs
    c.in_ok-ports.ensures.ports in
    rw (c.into_pass.ensures.pass, c.passes_of.ensures.passes, c.in_ok-room.ensures.items)
    (has_run _ _ _ _ _ _ _ _ c.requires loop sessions)
