use Rattle.std.proofs.Common.{◌≡◌, Option, sym, ap, subst, ◌∙◌}
use Rattle.std.specs.Prelude.{option_map, unwrap_or}
use Rattle.cm_document.specs.declared.life.Life.TheVariants.{Active}
use Rattle.cm_model.specs.Controllers.{activated}
use Rattle.cm_model.specs.State.{Loaded}
use Rattle.cm_model.specs.declared.data.CtlData.{CtlData}
use Rattle.cm_slots.specs.Lives.{IsKept}
use Rattle.cm_slots.proofs.StepLemmas.{kept_once_activated}
use Rattle.cm_slots.proofs.slot.Slot.activate.Goals as goal

-- the box that comes to run is the one of which the slot keeps the data
pub keep-requires : goal.keep-requires
keep-requires g c =
    let a = c.self.inside in
    let before = g.C.Controller.meaning a.ctl.value in
    let can = rw (← c.self.view_is) at c.requires.can in
    let kept = kept_once_activated a.life before _ c.args.states.now c.args.chained c.self.invariant.0 can in
    let here : before ≡ c.args.self.now.ctl = ap (λ (l : Loaded). l.ctl) c.self.view_is in
    let own : c.args.self.now.ctl ≡ g.C.Controller.meaning c.in-Some.ctl =
    ap (λ (o : Option CtlData). unwrap_or o before)
    (sym c.requires.home ∙ ap (option_map g.C.Controller.meaning) c.in-Some.is) in
    subst (λ (ctl : CtlData). IsKept Active ctl)
    (ap (λ (ctl : CtlData). activated ctl c.args.states.now c.args.chained) (here ∙ own) ∙ sym c.activate.ensures) kept
