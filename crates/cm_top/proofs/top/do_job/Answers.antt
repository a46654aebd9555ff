use Rattle.std.proofs.Common.{◌≡◌, None, refl}
use Rattle.cm_document.specs.declared.document.Document.{Document}
use Rattle.cm_model.specs.declared.blanks.Blanks.{Blanks}
use Rattle.cm_words.specs.declared.job.JobKind.{JobKind}
use Rattle.cm_words.specs.declared.job.JobKind.TheVariants.{Upgrade}
use Rattle.cm_top.specs.Answering.{DidJob, WroteAnswer, answering_of, untraced, upgrading}
use Rattle.cm_top.specs.Tasks.{Task, task_of}
use Rattle.cm_top.specs.Status.{Written}
use Rattle.cm_top.specs.declared.status.Status.{Status}
use Rattle.cm_top.proofs.top.do_job.Goals as goal

-- an upgrade answers without a book
upgraded : (kind : JobKind) (task : Task) (d : Document) (blanks : Blanks) (w : Written) (ended : Status)
    → kind ≡ Upgrade → WroteAnswer upgrading blanks (untraced d) w ended
    → DidJob (answering_of kind) task d blanks w ended None
upgraded kind task d blanks w ended is wrote = rw is (refl, wrote)

pub returns-in-Upgrade-clause-did : goal.returns-in-Upgrade-clause-did
returns-in-Upgrade-clause-did g c =
    upgraded c.args.job.now.kind (task_of c.args.job.now c.args.stock) c.args.document c.args.stock _
    c.upgrade_document.result c.in-Upgrade.is (c.upgrade_document.ensures.wrote c.args.stock)
