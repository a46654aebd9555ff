use Rattle.std.proofs.Common.{ap, sym, ◌+◌, ◌∙◌}
use Rattle.cm_desk.specs.Desk.{History}
use Rattle.shared_desk.proofs.ShareLemmas.{made_here, shares_first, some_pass}
use Rattle.shared_desk.proofs.shared.SharedDesk.share.Goals as goal

-- there is a pass for the loop
pub unreachable-requires : goal.unreachable-requires
unreachable-requires g c =
    some_pass c.in_ok-lock.lock c.args.desk c.in_ok-lock.passes.items
    (made_here c.in_ok-lock.lock c.args.desk c.in_ok-kept.kept.opening _ c.in_ok-lock.passes.items
    (ap (λ (h : History). h.opening) c.in_ok-kept.ensures) (ap (λ n. n + 1) c.sessions-sessions.ensures)
    c.in_ok-lock.ensures.made)
    (sym c.in_ok-lock.passes.ok.0 ∙ c.in_default.ensures.cases.0)

-- the last one is its, and the others are those of the sessions
pub returns : goal.returns
returns g c =
    let kept = c.in_ok-kept.ensures in
    let made = made_here c.in_ok-lock.lock c.args.desk c.in_ok-kept.kept.opening _ c.in_ok-lock.passes.items
    (ap (λ (h : History). h.opening) kept) (ap (λ n. n + 1) c.sessions-sessions.ensures) c.in_ok-lock.ensures.made in
    record {
      shared = shares_first c.in_ok-lock.lock c.args.desk c.of-at_first.result.value c.in_ok-lock.passes.items
          c.pop.new.self.items c.in-Some.pass (c.of-at_first.ensures ∙ kept) c.in-Some.ensures.items made;
    }
