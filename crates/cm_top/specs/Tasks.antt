-- What is to be done with a document: the history that is made of it, and the text that is written.
use Rattle.std.specs.Prelude.{ℕ, List, Option, Some, None}
use Rattle.cm_document.specs.declared.document.Document.{Document}
use Rattle.cm_model.specs.Trace.{output}
use Rattle.cm_model.specs.declared.blanks.Blanks.{Blanks}
use Rattle.cm_model.specs.declared.entry.Entry.{Entry}
use Rattle.cm_words.specs.declared.job.Job.{Job}
use Rattle.desk_jobs.specs.Book.{Histories, made_by}
use Rattle.summary_text.specs.Summary.{summary}

-- the text that is written of a document's history: its trace, and of a made document its summary
abbrev pub text_by : Option ℕ → Document → List Entry → List ℕ
text_by None d history = output d history
text_by (Some rounds) d history = summary d.description history

-- What is to be done with each document: the history that is made of it, and the text that is written of a history.
pub record Task : Type 0 where
  pub history : Histories
  pub text : Document → List Entry → List ℕ

-- the task of a job over these blanks
abbrev pub task_of : Job → Blanks → Task
task_of job blanks = record { history = made_by job.kind blanks; text = text_by job.make }
