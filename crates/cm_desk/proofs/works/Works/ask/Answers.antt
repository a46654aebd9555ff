use Rattle.std.proofs.Common.{refl}
use Rattle.cm_desk.specs.Works.{state_with}
use Rattle.cm_desk.proofs.AnswerLemmas.{asked_so, unasked_so}
use Rattle.cm_desk.proofs.KeptLemmas.{kept_after_ask}
use Rattle.cm_desk.proofs.Insides.{base_in, state_of}
use Rattle.cm_desk.proofs.works.Works.ask.Goals as goal

-- the requests alone may change
pub invariant_of-self : goal.invariant_of-self
invariant_of-self g c =
    let a = c.self.inside in
    let s = state_of a in
    let t = state_with a.checked a.blanks a.sessions a.loads a.slots c.ask.new.self (base_in a) a.ended a.closed in
    kept_after_ask s t a.names.items (base_in a) a.active_set c.self.invariant refl c.self.invariant.unclosed

pub returns-clause-made : goal.returns-clause-made
returns-clause-made g c =
    let a = c.self.inside in
    let s = state_of a in
    rw (← c.self.view_is) (asked_so s a.requests c.ask.new.self a.closed c.args.request c.ask.result c.ask.ensures.made)

pub returns-clause-kept : goal.returns-clause-kept
returns-clause-kept g c =
    let a = c.self.inside in
    let s = state_of a in
    rw (← c.self.view_is) (unasked_so s a.requests c.ask.new.self a.closed c.ask.result c.ask.ensures.kept)
