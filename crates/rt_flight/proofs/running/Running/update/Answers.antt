use Rattle.std.proofs.Common.{◌≡◌, sym, ap, ◌∙◌, arith}
use Rattle.cm_document.specs.declared.life.Life.TheVariants.{Active}
use Rattle.cm_model.specs.Controllers.{Stepped, ctl_step, update_step, put_out}
use Rattle.cm_model.specs.declared.data.CtlData.{CtlData}
use Rattle.cm_slots.proofs.StepLemmas.{step_is, kept_once_stepped, published_is, erred_gives_none}
use Rattle.rt_flight.proofs.running.Running.update.Goals as goal

-- it runs as before
pub invariant_of-self : goal.invariant_of-self
invariant_of-self g c =
    rw (c.update.ensures.after, c.hand.ensures)
    (kept_once_stepped Active (g.C.Controller.meaning c.self.inside.ctl) c.args.tick c.args.states.now
    c.args.references.now c.args.mail _ _ _ c.self.invariant
    (rw (← c.self.view_is) at c.requires.counts))

-- and took the step
pub returns : goal.returns
returns g c =
    let ctl : CtlData = g.C.Controller.meaning c.self.inside.ctl in
    let step : Stepped = ctl_step ctl c.args.tick c.args.states.now c.args.references.now c.args.mail in
    let same : update_step (g.C.Controller.meaning c.hand.new.ctl) c.args.tick c.args.states.now c.args.references.now
    ≡ step =
    ap (λ (d : CtlData). update_step d c.args.tick c.args.states.now c.args.references.now) c.hand.ensures
    ∙ sym (step_is ctl c.args.tick c.args.states.now c.args.references.now c.args.mail) in
    let answer = c.update.ensures.answer ∙ ap (λ (st : Stepped). st.done) same in
    rw (← c.self.view_is)
    (record {
      ctl = c.update.ensures.after ∙ ap (λ (st : Stepped). st.after) same;
      outputs = c.update.ensures.outputs ∙ ap (λ (st : Stepped). put_out st c.args.outs.now) same;
      width = omega (arith, c.update.auto.outs);
      answer = answer;
      published = published_is Active ctl c.args.tick c.args.states.now c.args.references.now c.args.mail _ _ _
          c.self.invariant (rw (← c.self.view_is) at c.requires.counts);
      erred = λ e. erred_gives_none ctl c.args.tick c.args.states.now c.args.references.now c.args.mail
          (sym answer ∙ e);
    })
