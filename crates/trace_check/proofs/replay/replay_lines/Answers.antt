use Rattle.std.proofs.Common.{◌≡◌, ◌∷◌, ◌++◌, [], List, Some, None, ap, subst, sym, ◌∙◌}
use Rattle.cm_document.specs.declared.document.Document.{Document}
use Rattle.cm_model.specs.declared.entry.Entry.{Entry}
use Rattle.trace_check.specs.Standing.{KnowsNames}
use Rattle.trace_check.specs.Steps.{HasReplayedLine}
use Rattle.trace_check.proofs.ReplayLoopLemmas.{HasCome, come_more, come_wrong, come_through, come_short, nothing_left}
use Rattle.trace_check.proofs.replay.replay_lines.Goals as goal

pub returns-in-Some : goal.returns-in-Some
returns-in-Some g c =
    let document : Document = record { description = c.args.checked.now; script = c.args.script.now } in
    let blanks = c.args.job.now.desk.opening.blanks in
    let old = c.loop-rest.job in
    let come = c.loop-rest.invariant.come in
    let new = c.wrong_line.new.job in
    let line = c.first_line.result.0.now in
    let more = c.first_line.result.1.now in
    let same : old.desk.opening.blanks ≡ blanks = ap (λ s. s.blanks) come.stands.opening in
    let at = c.in_ok-expected.ensures in
    let its : HasReplayedLine document blanks line old new c.wrong_line.new.lines (Some c.in-Some.expected) =
    subst (λ b. HasReplayedLine document b line old new c.wrong_line.new.lines (Some c.in-Some.expected)) same
    (subst (λ o. HasReplayedLine document old.desk.opening.blanks line old new c.wrong_line.new.lines o) c.in-Some.is
    at) in
    come_wrong document blanks c.args.text.now c.loop-rest.rest.now line more c.in-Some.expected c.loop-rest.told old
    new c.wrong_behind.result come c.first_line.ensures.cut its.0 its.1 its.2
    c.wrong_behind.ensures.0 c.wrong_behind.ensures.1

pub loop-rest-preserved : goal.loop-rest-preserved
loop-rest-preserved g c =
    let document : Document = record { description = c.args.checked.now; script = c.args.script.now } in
    let blanks = c.args.job.now.desk.opening.blanks in
    let old = c.loop-rest.job in
    let come = c.loop-rest.invariant.come in
    let new = c.wrong_line.new.job in
    let line = c.first_line.result.0.now in
    let more = c.first_line.result.1.now in
    let same : old.desk.opening.blanks ≡ blanks = ap (λ s. s.blanks) come.stands.opening in
    let at = c.in_ok-expected.ensures in
    let its : HasReplayedLine document blanks line old new c.wrong_line.new.lines None =
    subst (λ b. HasReplayedLine document b line old new c.wrong_line.new.lines None) same
    (subst (λ o. HasReplayedLine document old.desk.opening.blanks line old new c.wrong_line.new.lines o) c.in_default.is
    at) in
    let made : new.desk.made ≡ old.desk.made ++ its.0 ∷ [] = ap (λ p. p.made) its.2.progress in
    record {
      come =
          come_more document blanks c.args.text.now c.loop-rest.rest.now line more c.loop-rest.told old new its.0 come
          c.first_line.ensures.cut c.first_line.ensures.whole c.first_line.ensures.shorter
          its.1 its.2;
      knows = subst (λ (l : List Entry). KnowsNames document l c.wrong_line.new.lines) (sym made) its.3;
    }

pub returns-then-is_through : goal.returns-then-is_through
returns-then-is_through g c =
    let document : Document = record { description = c.args.checked.now; script = c.args.script.now } in
    let blanks = c.args.job.now.desk.opening.blanks in
    let old = c.loop-rest.job in
    let come = c.loop-rest.invariant.come in
    let empty : c.loop-rest.rest.now ≡ [] = nothing_left c.loop-rest.rest.now (sym c.loop-rest-test.ensures) in
    let ended = subst (λ rest. HasCome document blanks c.args.text.now rest c.loop-rest.told old) empty come in
    come_through document blanks c.args.text.now c.loop-rest.told old ended
    (sym c.is_through.ensures ∙ c.if-is_through.true)

pub returns : goal.returns
returns g c =
    let document : Document = record { description = c.args.checked.now; script = c.args.script.now } in
    let blanks = c.args.job.now.desk.opening.blanks in
    let old = c.loop-rest.job in
    let come = c.loop-rest.invariant.come in
    let empty : c.loop-rest.rest.now ≡ [] = nothing_left c.loop-rest.rest.now (sym c.loop-rest-test.ensures) in
    let ended = subst (λ rest. HasCome document blanks c.args.text.now rest c.loop-rest.told old) empty come in
    come_short document blanks c.args.text.now c.loop-rest.told old ended c.wrong_behind-2.result
    (sym c.is_through.ensures ∙ c.if-is_through.false) c.wrong_behind-2.ensures.0
    (c.wrong_behind-2.ensures.1 ∙ c.new.ensures)
