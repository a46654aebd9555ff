use Rattle.std.proofs.Common.{◌++◌, string_bytes, ap, ◌∙◌}
use Rattle.cm_model.specs.declared.cause.Cause.TheVariants as cause
use Rattle.draw_causes.specs.Words.{cause_words}
use Rattle.draw_causes.proofs.WordLemmas.{at_case}
use Rattle.draw_causes.proofs.causes.push_cause.Goals as goal

pub returns-in_ok-write-in-Conflict : goal.returns-in_ok-write-in-Conflict
returns-in_ok-write-in-Conflict c =
    at_case _ (λ cause. cause_words c.args.name.now cause) c.in-Conflict.is
    (c.in_ok-write-in-Conflict.ensures.bytes
    ∙ ap (λ interface. string_bytes c.args.text.now
    ++ cause_words c.args.name.now (cause.Conflict interface c.in-Conflict.owner)) c.get-it-in-Conflict.ensures)

pub returns-in_ok-write-in-ModeRefused : goal.returns-in_ok-write-in-ModeRefused
returns-in_ok-write-in-ModeRefused c =
    at_case _ (λ cause. cause_words c.args.name.now cause) c.in-ModeRefused.is
    c.in_ok-write-in-ModeRefused.ensures.bytes

pub returns-in_ok-write-in-NotReady : goal.returns-in_ok-write-in-NotReady
returns-in_ok-write-in-NotReady c =
    at_case _ (λ cause. cause_words c.args.name.now cause) c.in-NotReady.is c.in_ok-write-in-NotReady.ensures.bytes
