use Rattle.std.proofs.Common.{sym, ◌∙◌, inl, inr}
use Rattle.std.proofs.lemmas.List.{nil_from_length}
use Rattle.shared_desk.specs.Passes.{IsSessionPass}
use Rattle.desk_jobs.proofs.LiveLemmas.{both_walked, one_of, whichever}
use Rattle.desk_jobs.proofs.live.with_ports.Goals as goal

-- the pass is one of those that were handed in
pub make-requires : goal.make-requires
make-requires g c =
    one_of (IsSessionPass c.args.shared.now.lock c.args.shared.now.at_first.value) _ _ _ _ c.in-Some.pass
    c.loop-session.invariant.passes
    c.in-Some.ensures.steps.1.0 c.requires.passes

-- at the end of one list both are walked
pub returns-clause-sessions : goal.returns-clause-sessions
returns-clause-sessions g c =
    let sessions = c.loop-session.session-iterator.a.rest in
    let passes = c.loop-session.session-iterator.b.rest in
    (both_walked _ _ _ _ _ _ _ c.loop-session.invariant.sessions c.loop-session.invariant.passes c.requires.as_many
    (whichever c.in-None.ensures.steps (λ end. inl (nil_from_length sessions.items (sym sessions.ok.0 ∙ end.1.0)))
    (λ end. inr (nil_from_length passes.items (sym passes.ok.0 ∙ end.1.0))))).0

pub returns-clause-passes : goal.returns-clause-passes
returns-clause-passes g c =
    let sessions = c.loop-session.session-iterator.a.rest in
    let passes = c.loop-session.session-iterator.b.rest in
    (both_walked _ _ _ _ _ _ _ c.loop-session.invariant.sessions c.loop-session.invariant.passes c.requires.as_many
    (whichever c.in-None.ensures.steps (λ end. inl (nil_from_length sessions.items (sym sessions.ok.0 ∙ end.1.0)))
    (λ end. inr (nil_from_length passes.items (sym passes.ok.0 ∙ end.1.0))))).1
