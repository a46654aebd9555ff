use Rattle.std.proofs.Common.{refl, subst, sym}
use Rattle.shared_desk.specs.Calls.Home.{ComesHome}
use Rattle.shared_desk.proofs.HomeLemmas.{comes_home}
use Rattle.shared_desk.proofs.shared.SharedDesk.home.Goals as goal

pub returns : goal.returns
returns g c = record {
  home =
      subst (ComesHome c.args.self.at_first.value c.args.looping.pass c.args.passes.items) (sym c.into_desk.ensures)
      (comes_home c.args.self.lock c.args.self.at_first.value c.args.looping.pass c.args.passes.items
      c.finish-kept.result c.finish-kept.result refl refl refl refl
      c.requires.looping_is c.requires.closed c.args.self.seats c.finish-kept.ensures.finished c.is_right.ensures);
}
