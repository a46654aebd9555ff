use Rattle.cm_words.specs.declared.job.JobKind.{JobKind}
use Rattle.cm_words.specs.declared.job.JobKind.TheVariants.{Run, Steps, Live, Upgrade, Check, Plan}
use Rattle.cm_words.specs.Words.{can_make}
use Rattle.std.proofs.Common.{◌≡◌, ◌≢◌, ℕ, false, Option, None, refl, ap}
use Rattle.cm_top.specs.Answering.{answering_of, checking, planning}
use Rattle.cm_top.specs.Tasks.{task_of}
use Rattle.cm_top.specs.Calls.Run.{ReadsPlainly}
use Rattle.cm_top.proofs.AnswerLemmas.{ReadsItself, answers-DoesJob, answers-SparesAlone}
use Rattle.cm_top.proofs.AnswerLemmas.{did-DoesJob, did-MindsFaults, did-late, unread-DoesJob}
use Rattle.cm_top.proofs.ReadLemmas.{reads-Rules, unread-MindsFaults}
use Rattle.cm_top.proofs.top.run_alone.Goals as goal

-- a check and a plan answer without a book, and make no document
pub returns-in-Check-clause-runs : goal.returns-in-Check-clause-runs
returns-in-Check-clause-runs g c =
    answers-DoesJob checking c.args.job.now c.args.job.now.kind c.args.stock c.blanks.result _ _ _ _
    c.answer_alone.result None (ap answering_of c.in-Check.is) c.blanks.ensures
    c.answer_alone.ensures.answers

pub returns-in-Check-clause-spared : goal.returns-in-Check-clause-spared
returns-in-Check-clause-spared g c =
    answers-SparesAlone c.args.job.now c.answer_alone.result _ _ _ _ (c.requires.unmade (ap can_make c.in-Check.is))
    c.answer_alone.ensures.untouched

pub returns-in-Plan-clause-runs : goal.returns-in-Plan-clause-runs
returns-in-Plan-clause-runs g c =
    answers-DoesJob planning c.args.job.now c.args.job.now.kind c.args.stock c.blanks-in-Plan.result _ _ _ _
    c.answer_alone-in-Plan.result None (ap answering_of c.in-Plan.is) c.blanks-in-Plan.ensures
    c.answer_alone-in-Plan.ensures.answers

pub returns-in-Plan-clause-spared : goal.returns-in-Plan-clause-spared
returns-in-Plan-clause-spared g c =
    answers-SparesAlone c.args.job.now c.answer_alone-in-Plan.result _ _ _ _
    (c.requires.unmade (ap can_make c.in-Plan.is)) c.answer_alone-in-Plan.ensures.untouched

-- another job reads its document plainly; one that answers without a book reads it itself
plainly : (kind : JobKind) → kind ≢ Live → kind ≢ Check → kind ≢ Plan → ReadsPlainly kind
plainly Run alone other another = tt
plainly Steps alone other another = tt
plainly Live alone other another = absurd (alone refl)
plainly Upgrade alone other another = tt
plainly Check alone other another = absurd (other refl)
plainly Plan alone other another = absurd (another refl)

itself : (kind : JobKind) (make : Option ℕ) → kind ≢ Check → kind ≢ Plan → (can_make kind ≡ false → make ≡ None)
    → ReadsItself (answering_of kind) make
itself Run make other another unmade = tt
itself Steps make other another unmade = tt
itself Live make other another unmade = tt
itself Upgrade make other another unmade = unmade refl
itself Check make other another unmade = absurd (other refl)
itself Plan make other another unmade = absurd (another refl)

pub do_job-requires-clause-plain : goal.do_job-requires-clause-plain
do_job-requires-clause-plain g c =
    plainly c.args.job.now.kind c.requires.alone c.in_default.not-Check c.in_default.not-Plan

-- the script of a document that was read meets the rules
pub do_job-requires-clause-rules : goal.do_job-requires-clause-rules
do_job-requires-clause-rules g c = reads-Rules _ _ _ _ c.in-Ok.ensures.reads

-- what is done with it is what the job promises of its source
pub returns-in-Ok-clause-runs : goal.returns-in-Ok-clause-runs
returns-in-Ok-clause-runs g c =
    did-DoesJob (answering_of c.args.job.now.kind) c.args.job.now c.args.stock _ _ _ _ _ _ _
    (itself c.args.job.now.kind c.args.job.now.make c.in_default.not-Check c.in_default.not-Plan c.requires.unmade)
    c.requires.rounds c.in-Ok.ensures.reads c.do_job.ensures.did c.do_job.ensures.outside.write_fault

pub returns-in-Ok-clause-outside : goal.returns-in-Ok-clause-outside
returns-in-Ok-clause-outside g c =
    did-MindsFaults (answering_of c.args.job.now.kind) (task_of c.args.job.now c.args.stock) c.args.stock _ _ _ _ _ _ _
    c.in-Ok.ensures.outside c.do_job.ensures.did
    c.do_job.ensures.outside

pub returns-in-Ok-clause-spared : goal.returns-in-Ok-clause-spared
returns-in-Ok-clause-spared g c = record {
  unread = c.in-Ok.ensures.unread;
  untouched = λ before. absurd
      (did-late (answering_of c.args.job.now.kind) (task_of c.args.job.now c.args.stock) _ _
      (record { old = _; new = _; flushed = g.K.Sink.flushed c.do_job.new.sink }) _ _ c.do_job.ensures.did before);
}

-- without a document it ends with nothing written
pub returns-in-Err-clause-runs : goal.returns-in-Err-clause-runs
returns-in-Err-clause-runs g c =
    unread-DoesJob (answering_of c.args.job.now.kind) c.args.job.now c.args.stock _ _ _ _
    (itself c.args.job.now.kind c.args.job.now.make c.in_default.not-Check c.in_default.not-Plan c.requires.unmade)
    c.requires.rounds c.in-Err.ensures.reads c.in-Err.ensures.outside

pub returns-in-Err-clause-outside : goal.returns-in-Err-clause-outside
returns-in-Err-clause-outside g c =
    unread-MindsFaults c.args.job.now.make _ _ _ _ c.in-Err.ensures.reads c.in-Err.ensures.outside
