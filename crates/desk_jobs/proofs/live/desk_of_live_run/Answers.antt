use Rattle.std.proofs.Common.{◌≡◌, ◌<◌, ◌^◌, ℕ, List, [], length, map, All, rules, ap, subst, sym, ◌∙◌}
use Rattle.std.specs.Prelude.{◌==◌}
use Rattle.cm_desk.specs.Desk.{History}
use Rattle.cm_document.specs.declared.document.Document.{Document}
use Rattle.cm_document.specs.declared.script.SessionText.{SessionText}
use Rattle.cm_document.specs.declared.description.Description.{Description}
use Rattle.cm_model.specs.State.{boot}
use Rattle.console_session.specs.Sessions.{AreLines}
use Rattle.desk_jobs.specs.Live.{CanStart, HasRun}
use Rattle.desk_jobs.proofs.AloneLemmas.{alone_if_none}
use Rattle.desk_jobs.proofs.LiveLemmas.{can_start, live_done}
use Rattle.desk_turns.proofs.NumberLemmas.{as_many}
use Rattle.desk_turns.proofs.RulesLemmas.{rules_few, rules_lines}
use Rattle.desk_jobs.proofs.live.desk_of_live_run.Goals as goal

-- a script that meets the rules has few sessions, with lines that they can make
pub waiting-requires : goal.waiting-requires
waiting-requires g c = record {
  few = subst (λ (texts : List SessionText). length texts < 2 ^ 32) (sym c.as_slice-texts.ensures)
      (rules_few _ c.requires.rules);
  lines = subst (λ (texts : List SessionText). All (λ t. AreLines t.lines) texts) (sym c.as_slice-texts.ensures)
      (rules_lines _ c.requires.rules);
}

-- the desk was booted and shared, and no session has made a line
pub run_over-requires-after_bounds : goal.run_over-requires-after_bounds
run_over-requires-after_bounds g c =
    let d : Document = record { description = c.args.checked; script = c.args.script.now } in
    let many : length c.in_ok-sessions.sessions.items ≡ length c.args.script.now.sessions =
    as_many _ _ c.in_ok-sessions.ensures.lines ∙ ap length c.as_slice-texts.ensures in
    let booted : c.in_ok-desk.desk
    ≡ record { opening = boot d.description c.args.stock (length d.script.sessions); made = [] } =
    rw (c.in_ok-desk.ensures, c.as_slice-texts.ensures) (search rules) in
    λ κs lives. subst
    (λ (n : ℕ). CanStart n c.in_ok-shared.shared.lock c.in_ok-shared.shared.at_first.value
    c.in_ok-sessions.sessions.items c.in_ok-shared.looping.pass c.in_ok-shared.passes.items)
    (ap (λ (x : Description). x.cycles) (sym c.description.ensures.same))
    (can_start d c.args.stock c.in_ok-desk.desk _ _ _ _ _ booted c.in_ok-shared.ensures.shared
    c.in_ok-sessions.ensures.first many)

-- without sessions the loop alone makes a whole history
pub returns-then-workers-le1 : goal.returns-then-workers-le1
returns-then-workers-le1 g c =
    alone_if_none (record { description = c.args.checked; script = c.args.script.now }) c.args.stock c.made_alone.result
    (ap (λ (texts : List SessionText). length texts == 0) (sym c.as_slice-texts.ensures) ∙ sym c.is_empty.ensures
    ∙ c.if-is_empty.true) c.made_alone.ensures

-- what came home is the desk of a live run that is done
pub returns : goal.returns
returns g c =
    let d : Document = record { description = c.args.checked; script = c.args.script.now } in
    let booted : c.in_ok-desk.desk
    ≡ record { opening = boot d.description c.args.stock (length d.script.sessions); made = [] } =
    rw (c.in_ok-desk.ensures, c.as_slice-texts.ensures) (search rules) in
    let opening = ap (λ (h : History). h.opening) (c.in_ok-shared.ensures.shared.first_is ∙ booted) in
    let lines = c.in_ok-sessions.ensures.lines
    ∙ ap (λ (texts : List SessionText). map (λ (t : SessionText). t.lines) texts) c.as_slice-texts.ensures in
    let run = subst
    (λ (n : ℕ). HasRun n c.in_ok-shared.shared.lock c.in_ok-shared.shared.at_first.value c.in_ok-sessions.sessions.items
    c.in_ok-looping.looping.pass c.in_ok-looping.passes.items)
    (ap (λ (x : Description). x.cycles) c.description.ensures.same) c.in_ok-looping.ensures in
    live_done d c.args.stock _ _ c.home.result _ _ _ opening c.in_ok-sessions.ensures.first lines run
    c.home.ensures.home
