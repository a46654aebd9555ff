use Rattle.cm_top.specs.Tasks.{task_of}
use Rattle.cm_top.proofs.TopLemmas.{done-RanDocument}
use Rattle.cm_top.proofs.accepted.run_document.Goals as goal

-- the desk's text was written and its book handed out
pub returns-in-Ok-clause-ran : goal.returns-in-Ok-clause-ran
returns-in-Ok-clause-ran g c =
    done-RanDocument (task_of c.args.asked c.args.stock) c.args.document c.args.stock c.in-Ok.desk _ _ _ c.in-Ok.ensures
    c.write_out.ensures.wrote c.write_out.ensures.book
