use Rattle.std.proofs.Common.{map, subst}
use Rattle.cm_desk.specs.Calls.Answers.{IsHandedOver}
use Rattle.cm_desk.specs.Desk.{History}
use Rattle.shared_desk.specs.Calls.Home.{ComesHome}
use Rattle.shared_desk.proofs.HomeLemmas.{as_book}
use Rattle.shared_desk.proofs.shared.SharedDesk.finish.Goals as goal

pub finish-requires : goal.finish-requires
finish-requires g c = record { closed = c.home.ensures.home.closed }

pub returns-clause-home : goal.returns-clause-home
returns-clause-home g c =
    subst (ComesHome c.args.self.at_first.value c.args.looping.pass c.args.passes.items)
    (as_book c.home.result c.args.self.at_first.value c.finish.result.history.items c.home.ensures.home.opening
    c.finish.ensures.history) c.home.ensures.home

pub returns-clause-book : goal.returns-clause-book
returns-clause-book g c =
    subst (λ (h : History). IsHandedOver h c.finish.result.history.items
    (map g.C.Controller.meaning c.finish.result.boxes.items))
    (as_book c.home.result c.args.self.at_first.value c.finish.result.history.items c.home.ensures.home.opening
    c.finish.ensures.history) c.finish.ensures
