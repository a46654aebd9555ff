use Rattle.std.proofs.Common.{◌≡◌, Bool, true, false, refl, sym, ap, ◌∙◌}
use Rattle.cm_model.specs.Boundary.{close_effect, close_reply}
use Rattle.cm_model.specs.State.{State}
use Rattle.cm_desk.specs.Works.{state_with}
use Rattle.cm_desk.proofs.BeginLemmas.{closes_down}
use Rattle.cm_desk.proofs.KeptLemmas.{kept_after_ask}
use Rattle.cm_desk.proofs.RecordLemmas.{open_where}
use Rattle.cm_desk.proofs.Insides.{base_in, state_of}
use Rattle.cm_desk.proofs.works.Works.close.Goals as goal

-- the requests change, and the loop is closed
pub invariant_of-self : goal.invariant_of-self
invariant_of-self g c =
    let a = c.self.inside in
    let s = state_of a in
    let t = state_with a.checked a.blanks a.sessions a.loads a.slots c.close_all.new.self (base_in a) a.ended true in
    kept_after_ask s t a.names.items (base_in a) a.active_set c.self.invariant refl
    (λ aloft. let no : true ≡ false = sym aloft ∙ closes_down s (rw (← c.self.view_is) at c.requires) in cc)

pub returns-clause-closed : goal.returns-clause-closed
returns-clause-closed g c =
    let a = c.self.inside in
    let s : Bool
    → State = λ closed. state_with a.checked a.blanks a.sessions a.loads a.slots a.requests (base_in a) a.ended
    closed in
    let open_before : a.closed ≡ false = open_where (s a.closed) (rw (← c.self.view_is) at c.requires) in
    rw (← c.self.view_is) (c.close_all.ensures.left (s a.closed) ∙ ap close_effect (ap s (sym open_before)))

pub returns-clause-told : goal.returns-clause-told
returns-clause-told g c =
    let a = c.self.inside in
    let s : Bool
    → State = λ closed. state_with a.checked a.blanks a.sessions a.loads a.slots a.requests (base_in a) a.ended
    closed in
    let open_before : a.closed ≡ false = open_where (s a.closed) (rw (← c.self.view_is) at c.requires) in
    rw (← c.self.view_is) (c.close_all.ensures.told (s a.closed) ∙ ap close_reply (ap s (sym open_before)))
