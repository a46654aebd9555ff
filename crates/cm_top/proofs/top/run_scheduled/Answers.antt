use Rattle.cm_words.specs.declared.job.JobKind.{JobKind}
use Rattle.cm_words.specs.declared.job.JobKind.TheVariants.{Run, Steps, Live, Upgrade, Check, Plan}
use Rattle.cm_words.specs.Words.{can_make}
use Rattle.std.proofs.Common.{◌≡◌, ◌≢◌, true, false, None, refl, sym, ◌∙◌, true≢false}
use Rattle.cm_top.specs.Answering.{answering_of}
use Rattle.desk_jobs.specs.Book.{RunsAlone}
use Rattle.cm_top.specs.Tasks.{task_of}
use Rattle.cm_top.proofs.ReadLemmas.{ran-MindsFaults, ran-RunsFrom, reads-Rules}
use Rattle.cm_top.proofs.ReadLemmas.{unread-MindsFaults, unread-RunsFrom, RanDocument-late}
use Rattle.cm_top.proofs.top.run_scheduled.Goals as goal

-- a job of this kind is not live, has a book, and can make its document
not_live : (kind : JobKind) → RunsAlone kind → kind ≢ Live
not_live Run runs = λ e. cc
not_live Steps runs = λ e. cc
not_live Live runs = absurd runs
not_live Upgrade runs = absurd runs
not_live Check runs = absurd runs
not_live Plan runs = absurd runs

makes : (kind : JobKind) → RunsAlone kind → can_make kind ≡ true
makes Run runs = refl
makes Steps runs = refl
makes Live runs = absurd runs
makes Upgrade runs = absurd runs
makes Check runs = absurd runs
makes Plan runs = absurd runs

books : (kind : JobKind) → RunsAlone kind → answering_of kind ≡ None
books Run runs = refl
books Steps runs = refl
books Live runs = absurd runs
books Upgrade runs = absurd runs
books Check runs = absurd runs
books Plan runs = absurd runs

-- one worker runs it alone
pub run_alone-requires : goal.run_alone-requires
run_alone-requires g c = record {
  alone = not_live c.args.job.now.kind c.requires.0;
  one = c.if-job-eq1.true;
  rounds = c.requires.1.rounds;
  unmade = λ no. absurd (true≢false (sym (makes c.args.job.now.kind c.requires.0) ∙ no));
}

-- the script of a document that was read meets the rules
pub run_document_by-requires-clause-rules : goal.run_document_by-requires-clause-rules
run_document_by-requires-clause-rules g c = λ κs lives. reads-Rules _ _ _ _ c.in-Ok.ensures.reads

-- its run is that of its source
pub returns-in-Ok-clause-runs : goal.returns-in-Ok-clause-runs
returns-in-Ok-clause-runs g c =
    rw (books c.args.job.now.kind c.requires.0)
    (ran-RunsFrom c.args.job.now.make (task_of c.args.job.now c.args.stock) _ _ _ _ _ _ _ _ c.requires.1.rounds
    c.in-Ok.ensures.reads c.run_document_by.ensures.ran c.run_document_by.ensures.outside.write_fault)

pub returns-in-Ok-clause-outside : goal.returns-in-Ok-clause-outside
returns-in-Ok-clause-outside g c =
    ran-MindsFaults (task_of c.args.job.now c.args.stock) c.args.stock _ _ _ _ _ _ _ c.in-Ok.ensures.outside
    c.run_document_by.ensures.ran
    c.run_document_by.ensures.outside

pub returns-in-Ok-clause-spared : goal.returns-in-Ok-clause-spared
returns-in-Ok-clause-spared g c = record {
  unread = c.in-Ok.ensures.unread;
  untouched = λ before. absurd
      (RanDocument-late (task_of c.args.job.now c.args.stock) _ _
      (record { old = _; new = _; flushed = g.K.Sink.flushed c.run_document_by.new.sink }) _ _
      c.run_document_by.ensures.ran before);
}

-- without a document it ends with nothing written
pub returns-in-Err-clause-runs : goal.returns-in-Err-clause-runs
returns-in-Err-clause-runs g c =
    rw (books c.args.job.now.kind c.requires.0)
    (unread-RunsFrom c.args.job.now.make (task_of c.args.job.now c.args.stock) _ _ _ _ _ c.requires.1.rounds
    c.in-Err.ensures.reads c.in-Err.ensures.outside)

pub returns-in-Err-clause-outside : goal.returns-in-Err-clause-outside
returns-in-Err-clause-outside g c =
    unread-MindsFaults c.args.job.now.make _ _ _ _ c.in-Err.ensures.reads c.in-Err.ensures.outside
