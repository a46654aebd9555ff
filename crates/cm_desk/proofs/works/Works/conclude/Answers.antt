use Rattle.std.proofs.Common.{refl, ap, ◌∙◌}
use Rattle.cm_model.specs.Boundary.{concluded}
use Rattle.request_plan.specs.Requests.{Asked}
use Rattle.cm_desk.specs.Works.{state_with}
use Rattle.cm_desk.proofs.ActingLemmas.{can_act}
use Rattle.cm_desk.proofs.BeginLemmas.{still_undecided, concluded_so}
use Rattle.cm_desk.proofs.KeptLemmas.{kept_after_ask}
use Rattle.cm_desk.proofs.Insides.{base_in, state_of}
use Rattle.cm_desk.proofs.works.Works.conclude.Goals as goal

pub act-requires-clause-can : goal.act-requires-clause-can
act-requires-clause-can g c =
    let p = c.requires.next in
    ((concluded c.args.self.now p.0).state, can_act c.args.self.now p.0 p.1 c.args.conclusion c.requires.steady p.2)

-- it has no outcome yet
pub decide-requires : goal.decide-requires
decide-requires g c =
    let a = c.self.inside in
    let t = state_of a in
    let p = c.requires.next in
    still_undecided c.args.self.now t p.0 p.1 p.2.first
    (c.self.view_is
    ∙ c.act.ensures (concluded c.args.self.now p.0).state
    (can_act c.args.self.now p.0 p.1 c.args.conclusion c.requires.steady p.2))

-- the outcomes alone change then
pub invariant_of-self : goal.invariant_of-self
invariant_of-self g c =
    let a = c.self.inside in
    let s = state_of a in
    let t = state_with a.checked a.blanks a.sessions a.loads a.slots c.decide.new.self (base_in a) a.ended a.closed in
    kept_after_ask s t a.names.items (base_in a) a.active_set c.self.invariant refl c.self.invariant.unclosed

pub returns : goal.returns
returns g c = λ asked later next.
    let a = c.self.inside in
    let t = state_of a in
    ap (λ (all : Asked). state_with a.checked a.blanks a.sessions a.loads a.slots all (base_in a) a.ended a.closed)
    c.decide.ensures
    ∙ concluded_so c.args.self.now t asked c.args.conclusion
    (c.self.view_is
    ∙ c.act.ensures (concluded c.args.self.now asked).state
    (can_act c.args.self.now asked later c.args.conclusion c.requires.steady next)) next.concluded.outcome
