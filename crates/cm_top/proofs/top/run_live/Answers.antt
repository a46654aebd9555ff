use Rattle.cm_words.specs.declared.job.JobKind.TheVariants.{Live}
use Rattle.cm_top.specs.Tasks.{task_of}
use Rattle.cm_top.proofs.ReadLemmas.{ran-MindsFaults, ran-RunsFrom, reads-Rules}
use Rattle.cm_top.proofs.ReadLemmas.{unread-MindsFaults, unread-RunsFrom, RanDocument-late}
use Rattle.cm_top.proofs.top.run_live.Goals as goal

-- the script of a document that was read meets the rules
pub run_document_live-requires-clause-rules : goal.run_document_live-requires-clause-rules
run_document_live-requires-clause-rules g c = λ κs lives. reads-Rules _ _ _ _ c.in-Ok.ensures.reads

-- its run is that of its source
pub returns-in-Ok-clause-runs : goal.returns-in-Ok-clause-runs
returns-in-Ok-clause-runs g c =
    ran-RunsFrom c.args.make
    (task_of (record { kind = Live; make = c.args.make; workers = c.args.workers }) c.args.stock) _ _ _ _ _ _ _ _
    c.requires c.in-Ok.ensures.reads c.run_document_live.ensures.ran c.run_document_live.ensures.outside.write_fault

pub returns-in-Ok-clause-outside : goal.returns-in-Ok-clause-outside
returns-in-Ok-clause-outside g c =
    ran-MindsFaults (task_of (record { kind = Live; make = c.args.make; workers = c.args.workers }) c.args.stock)
    c.args.stock _ _ _ _ _ _ _ c.in-Ok.ensures.outside c.run_document_live.ensures.ran
    c.run_document_live.ensures.outside

pub returns-in-Ok-clause-spared : goal.returns-in-Ok-clause-spared
returns-in-Ok-clause-spared g c = record {
  unread = c.in-Ok.ensures.unread;
  untouched = λ before. absurd
      (RanDocument-late (task_of (record { kind = Live; make = c.args.make; workers = c.args.workers }) c.args.stock) _
      _ (record { old = _; new = _; flushed = g.K.Sink.flushed c.run_document_live.new.sink }) _ _
      c.run_document_live.ensures.ran before);
}

-- without a document it ends with nothing written
pub returns-in-Err-clause-runs : goal.returns-in-Err-clause-runs
returns-in-Err-clause-runs g c =
    unread-RunsFrom c.args.make
    (task_of (record { kind = Live; make = c.args.make; workers = c.args.workers }) c.args.stock) _ _ _ _ _ c.requires
    c.in-Err.ensures.reads c.in-Err.ensures.outside

pub returns-in-Err-clause-outside : goal.returns-in-Err-clause-outside
returns-in-Err-clause-outside g c =
    unread-MindsFaults c.args.make _ _ _ _ c.in-Err.ensures.reads c.in-Err.ensures.outside
