use denote.Exit as exit
use denote.Param.Send.{param_sync, arg_sync}
use Rattle.std.proofs.Common.{◌≡◌, ℕ, [], sym, ap, subst, ◌∙◌}
use Rattle.cm_desk.specs.Desk.{History}
use Rattle.cm_document.specs.declared.description.Description.{Description}
use Rattle.cm_model.specs.Sessions.{calls_of, loop_calls}
use Rattle.cm_model.specs.State.{boot}
use Rattle.desk_turns.specs.Ports.{loop_console}
use Rattle.live_run.specs.Loops.{IsAtFirst}
use Rattle.desk_jobs.proofs.AloneLemmas.{alone_at_first, looped_alone}
use Rattle.desk_jobs.proofs.alone.made_alone.Goals as goal

-- the loop is before its first cycle
pub live_alone-requires : goal.live_alone-requires
live_alone-requires g c =
    let booted : c.in_ok-desk.desk ≡ record { opening = boot c.args.checked c.args.stock 0; made = [] } =
    c.in_ok-desk.ensures in (
      param_sync 2 _ (arg_sync _ exit.yes _ c.type_bounds.sync-G),
      subst (λ (n : ℕ). IsAtFirst n (loop_console c.over-looping.result.desk))
          (ap (λ (x : Description). x.cycles) (sym c.description.ensures.same))
          (alone_at_first c.args.checked c.args.stock c.over-looping.result.desk (c.over-looping.ensures ∙ booted)),
    )

-- it made all cycles and closed
pub returns : goal.returns
returns g c =
    let booted : c.in_ok-desk.desk ≡ record { opening = boot c.args.checked c.args.stock 0; made = [] } =
    c.in_ok-desk.ensures in
    let back = c.into_desk-desk.ensures in
    let cycles = ap (λ (x : Description). loop_calls x.cycles) c.description.ensures.same in
    looped_alone c.args.checked c.args.stock c.over-looping.result.desk c.into_desk-desk.result
    (c.over-looping.ensures ∙ booted) c.is_right.ensures
    (ap (λ (h : History). h.opening) back ∙ c.in_ok-live_alone.ensures.still)
    (ap (λ (h : History). calls_of (loop_console h).made) back ∙ c.in_ok-live_alone.ensures.made ∙ cycles)
    (ap (λ (h : History). (loop_console h).closed) back ∙ c.in_ok-live_alone.ensures.closed)
