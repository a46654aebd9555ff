-- From what a job without a run did with the bytes of a source to what it promises.
use Rattle.std.proofs.Common.{◌≡◌, ℕ, ◌<◌, List, length, Option, Some, None, Ok}
use Rattle.std.proofs.Common.{true, refl, sym, ap, ◌∙◌, inl, inr, ◌⊎◌, arith}
use Rattle.std.specs.Prelude.{nat_lt, IfSome, Result, Err}
use Rattle.std.specs.Io.KnownBytes.{Keeps}
use Rattle.std.proofs.lemmas.Bool.Decides.{nat_tests}
use Rattle.std.proofs.KnownBytes.{Keeps-refl}
use Rattle.outside_io.specs.Bytes.{GivesAll, IsLonger}
use Rattle.outside_io.specs.Faults.{Rose, one_more}
use Rattle.cm_document.specs.declared.faults.DescProblem.{DescProblem}
use Rattle.cm_document.specs.declared.faults.DocumentFault.{DocumentFault}
use Rattle.cm_document.specs.declared.faults.DocumentFault.TheVariants as fault
use Rattle.cm_document.specs.declared.faults.ScriptFault.{ScriptFault}
use Rattle.cm_document.specs.declared.limits.TheConstants.{LONGEST_DOCUMENT}
use Rattle.cm_model.specs.declared.blanks.Blanks.{Blanks}
use Rattle.cm_top.specs.Answering.{Answering, upgrading, checking, planning, accepted_by, AnsweredWith}
use Rattle.cm_top.specs.Answering.{IsAnswer, Refuses, status_for, status_of_accepted, status_of_given}
use Rattle.cm_top.specs.Status.{IsShort}
use Rattle.cm_top.specs.Calls.Answer.{AnswersGiven, AnswersBytes}
use Rattle.cm_top.specs.Calls.Run.{SourceFacts, SinkFacts, MindsSink, AnswersFrom, written}
use Rattle.cm_top.specs.Status.{Written, Wrote, ComesOfBytes, IsPlain, status_of_fault}
use Rattle.document_text.specs.Plain.{IsPlainFault}
use Rattle.document_text.specs.Traced.{Given}
use Rattle.cm_top.specs.declared.status.Status.{Status}
use Rattle.cm_top.specs.declared.status.Status.TheVariants as status
use Rattle.cm_top.proofs.AnswerLemmas.{answer-AnsweredWith, answer-OfBytes, answered-Answers, short_for}
use Rattle.cm_top.proofs.ReadLemmas.{told-Rose, some_known, read-EndedWith, read-end, unwritten_minds_sink}

-- ---- Of what was given

-- what writing can come to
wrote_ends : (text : List ℕ) (w : Written) (ended : Status) → Wrote text w ended
    → (ended ≡ status.Ok) ⊎ ((ended ≡ status.Memory) ⊎ (ended ≡ status.WriteFault))
wrote_ends text w status.Ok wrote = inl refl
wrote_ends text w status.Memory wrote = inr (inl refl)
wrote_ends text w status.WriteFault wrote = inr (inr refl)
wrote_ends text w _ wrote = absurd wrote

-- an answer is written
pub answer_written : (job : Answering) (blanks : Blanks) (given : Given) (w : Written) (ended : Status) (text : List ℕ)
    → IsAnswer job blanks given text → status_of_given job blanks given ≡ status.Ok
    → Wrote text w ended → AnswersGiven job blanks given w ended
answer_written job blanks given w ended text is well wrote = record {
  answered = inl (inr (text, is, wrote));
  by_given = elim (wrote_ends text w ended wrote) [
    | inl fine ↦ inl (fine ∙ sym well)
    | inr cut ↦ inr cut
  ];
  plain = (answer-OfBytes job blanks given w ended (inr (text, is, wrote))).1;
}

-- what is given is refused
pub refusal_told : (job : Answering) (blanks : Blanks) (given : Given) (w : Written) (ended : Status)
    → Refuses job blanks given ended → status_of_given job blanks given ≡ ended → IsPlain ended
    → AnswersGiven job blanks given w ended
refusal_told job blanks given w ended refuses is plain =
    record { answered = inr refuses; by_given = inl (sym is); plain = plain }

-- without memory nothing is told of it
pub memory_told : (job : Answering) (blanks : Blanks) (given : Given) (w : Written) → Keeps w.old w.new
    → AnswersGiven job blanks given w status.Memory
memory_told job blanks given w kept =
    record { answered = inl (inl (refl, kept)); by_given = inr (inl refl); plain = tt }

-- ---- Of bytes

-- a fault that does not tell of memory is the one that was looked for
pub told_fault : {A : Type 0} (expected : Result A DocumentFault) (e : DocumentFault) → (e ≡ fault.Memory → ⊥)
    → (e ≡ fault.Memory) ⊎ (expected ≡ Err e) → expected ≡ Err e
told_fault expected e other (inl memory) = absurd (other memory)
told_fault expected e other (inr is) = is

-- Two statuses refuse what is accepted.
abbrev IsRefusal : Status → Type 0
IsRefusal (status.NotLegal line expected) = Unit {0}
IsRefusal (status.CannotSpawn reason) = Unit {0}
IsRefusal _ = ⊥

is_refusal : (job : Answering) (blanks : Blanks) (given : Given) (ended : Status) → Refuses job blanks given ended
    → IsRefusal ended
is_refusal upgrading blanks given ended refuses = absurd refuses
is_refusal checking blanks given (status.NotLegal line expected) refuses = tt
is_refusal checking blanks given _ refuses = absurd refuses
is_refusal planning blanks given (status.CannotSpawn reason) refuses = tt
is_refusal planning blanks given _ refuses = absurd refuses

refusal-OfBytes : (ended : Status) → IsRefusal ended → ComesOfBytes ended
refusal-OfBytes (status.NotLegal line expected) is = tt
refusal-OfBytes (status.CannotSpawn reason) is = tt
refusal-OfBytes _ is = absurd is

refusal-AnsweredWith : (job : Answering) (blanks : Blanks) (bytes : List ℕ) (given : Given) (w : Written)
    (ended : Status) → IsShort bytes → accepted_by job bytes ≡ Ok given
    → Refuses job blanks given ended → IsRefusal ended → AnsweredWith job blanks bytes w ended
refusal-AnsweredWith job blanks bytes given w (status.NotLegal line expected) short accepted refuses is =
    record { given = given; short = short; accepted = accepted; refuses = refuses }
refusal-AnsweredWith job blanks bytes given w (status.CannotSpawn reason) short accepted refuses is =
    record { given = given; short = short; accepted = accepted; refuses = refuses }
refusal-AnsweredWith job blanks bytes given w _ short accepted refuses is = absurd is

-- bytes that are accepted
pub given_answered : (job : Answering) (blanks : Blanks) (bytes : List ℕ) (given : Given) (w : Written) (ended : Status)
    → IsShort bytes → accepted_by job bytes ≡ Ok given
    → AnswersGiven job blanks given w ended → AnswersBytes job blanks bytes w ended
given_answered job blanks bytes given w ended short accepted answers = record {
  answered = elim answers.answered [
    | inl wrote ↦ answer-AnsweredWith job blanks bytes given w ended short accepted wrote
    | inr refuses ↦ refusal-AnsweredWith job blanks bytes given w ended short accepted refuses
        (is_refusal job blanks given ended refuses)
  ];
  by_bytes = elim answers.by_given [
    | inl is ↦ inl (is ∙ sym (short_for job blanks bytes short ∙ ap (status_of_accepted job blanks) accepted))
    | inr other ↦ inr other
  ];
  of_bytes = elim answers.answered [
    | inl wrote ↦ (answer-OfBytes job blanks given w ended wrote).0
    | inr refuses ↦ refusal-OfBytes ended (is_refusal job blanks given ended refuses)
  ];
  plain = answers.plain;
}

-- bytes whose description is refused, and whose script is
pub description_refused : (job : Answering) (blanks : Blanks) (bytes : List ℕ) (w : Written) (p : DescProblem)
    → IsShort bytes → accepted_by job bytes ≡ Err (fault.Description p)
    → IsPlainFault (fault.Description p) → AnswersBytes job blanks bytes w (status.BadDescription p)
description_refused job blanks bytes w p short refused plain = record {
  answered = (short, refused);
  by_bytes = inl (sym (short_for job blanks bytes short ∙ ap (status_of_accepted job blanks) refused));
  of_bytes = tt;
  plain = plain;
}

pub script_refused : (job : Answering) (blanks : Blanks) (bytes : List ℕ) (w : Written) (f : ScriptFault)
    → IsShort bytes → accepted_by job bytes ≡ Err (fault.Script f) → IsPlainFault (fault.Script f)
    → AnswersBytes job blanks bytes w (status.BadScript f)
script_refused job blanks bytes w f short refused plain = record {
  answered = (short, refused);
  by_bytes = inl (sym (short_for job blanks bytes short ∙ ap (status_of_accepted job blanks) refused));
  of_bytes = tt;
  plain = plain;
}

pub memory_wanted : (job : Answering) (blanks : Blanks) (bytes : List ℕ) (w : Written) → Keeps w.old w.new
    → AnswersBytes job blanks bytes w status.Memory
memory_wanted job blanks bytes w kept =
    record { answered = inl kept; by_bytes = inr (inl refl); of_bytes = tt; plain = tt }

-- so whichever fault they have
pub fault_answered : (job : Answering) (blanks : Blanks) (bytes : List ℕ) (w : Written) (f : DocumentFault)
    → IsShort bytes → ((f ≡ fault.Memory → ⊥) → accepted_by job bytes ≡ Err f) → IsPlainFault f → Keeps w.old w.new
    → AnswersBytes job blanks bytes w (status_of_fault f)
fault_answered job blanks bytes w (fault.Description p) short refused plain kept =
    description_refused job blanks bytes w p short (refused (λ memory. cc)) plain
fault_answered job blanks bytes w (fault.Script f) short refused plain kept =
    script_refused job blanks bytes w f short (refused (λ memory. cc)) plain
fault_answered job blanks bytes w fault.Memory short refused plain kept = memory_wanted job blanks bytes w kept

-- and none is one of writing
pub fault_minds_sink : (sink : SinkFacts) (f : DocumentFault) → MindsSink sink sink (status_of_fault f)
fault_minds_sink sink (fault.Description p) = unwritten_minds_sink sink (status.BadDescription p) (λ failed. cc)
fault_minds_sink sink (fault.Script f) = unwritten_minds_sink sink (status.BadScript f) (λ failed. cc)
fault_minds_sink sink fault.Memory = unwritten_minds_sink sink status.Memory (λ failed. cc)

-- ---- Of a source

-- a source that was read whole was answered as its bytes were
pub bytes-AnswersFrom : (job : Answering) (blanks : Blanks) (source source' : SourceFacts) (bytes : List ℕ)
    (sink sink' : SinkFacts) (ended : Status) → GivesAll source.left source'.left bytes
    → AnswersBytes job blanks bytes (written sink sink') ended → MindsSink sink sink' ended
    → AnswersFrom job blanks source source' sink sink' ended None
bytes-AnswersFrom job blanks source source' bytes sink sink' ended whole said minds = record {
  no_book = refl;
  ran = read-EndedWith source.left source'.left bytes
      (λ (known : List ℕ). AnsweredWith job blanks known (written sink sink') ended) whole said.answered;
  answers = answered-Answers job blanks bytes (written sink sink') ended said.answered;
  never_words = λ words. rw words at said.of_bytes;
  read_whole = λ well told. read-end source.left source'.left bytes whole told;
  plain = said.plain;
  exact = read-EndedWith source.left source'.left bytes
      (λ (known : List ℕ). ¬ (Rose source.faults source'.faults) → ¬ (Rose sink.faults sink'.faults)
      → (ended ≡ status_for job blanks known) ⊎ (ended ≡ status.Memory)) whole
      (λ still kept. elim said.by_bytes [
        | inl is ↦ inl is
        | inr other ↦ elim other [
          | inl memory ↦ inr memory
          | inr failed ↦ absurd
              (kept (told-Rose status.WriteFault ended sink.faults sink'.faults minds.write_fault failed))
        ]
      ]);
}

-- what holds of any bytes holds of those that are known
all_known : (known : Option (List ℕ)) (P : List ℕ → Type 0) → ((bytes : List ℕ) → P bytes) → IfSome known P
all_known None P each = tt
all_known (Some bytes) P each = each bytes

longer_known : (left : Option (List ℕ)) (n : ℕ) → IsLonger left n → IfSome left (λ (bytes : List ℕ). n < length bytes)
longer_known None n longer = tt
longer_known (Some bytes) n longer = longer

-- one that failed
pub failed_Rose : (before now : ℕ) → now ≡ one_more before → Rose before now
failed_Rose before now counted = rw counted (omega arith)

pub failed-AnswersFrom : (job : Answering) (blanks : Blanks) (source source' : SourceFacts) (sink : SinkFacts)
    → Rose source.faults source'.faults
    → AnswersFrom job blanks source source' sink sink status.ReadFault None
failed-AnswersFrom job blanks source source' sink rose = record {
  no_book = refl;
  ran = all_known source.left (λ (bytes : List ℕ). Unit {0}) (λ bytes. tt);
  answers = tt;
  never_words = λ words. cc;
  read_whole = λ well. cc;
  plain = tt;
  exact = all_known source.left
      (λ (bytes : List ℕ). ¬ (Rose source.faults source'.faults) → ¬ (Rose sink.faults sink.faults)
      → (status.ReadFault ≡ status_for job blanks bytes) ⊎ (status.ReadFault ≡ status.Memory))
      (λ bytes still kept. absurd (still rose));
}

-- one that is longer than a document may be
pub long-AnswersFrom : (job : Answering) (blanks : Blanks) (source source' : SourceFacts) (sink : SinkFacts)
    → IsLonger source.left LONGEST_DOCUMENT
    → AnswersFrom job blanks source source' sink sink status.TooLong None
long-AnswersFrom job blanks source source' sink longer = record {
  no_book = refl;
  ran = longer_known source.left LONGEST_DOCUMENT longer;
  answers = tt;
  never_words = λ words. cc;
  read_whole = λ well. cc;
  plain = tt;
  exact = some_known source.left (λ (bytes : List ℕ). LONGEST_DOCUMENT < length bytes)
      (λ (bytes : List ℕ). ¬ (Rose source.faults source'.faults) → ¬ (Rose sink.faults sink.faults)
      → (status.TooLong ≡ status_for job blanks bytes) ⊎ (status.TooLong ≡ status.Memory))
      (λ bytes long still kept. inl
      (let over : nat_lt LONGEST_DOCUMENT (length bytes) ≡ true = grind (arith, nat_tests) in rw over refl))
      (longer_known source.left LONGEST_DOCUMENT longer);
}

-- and one for which memory ran out
pub memory-AnswersFrom : (job : Answering) (blanks : Blanks) (source source' : SourceFacts) (sink : SinkFacts)
    → AnswersFrom job blanks source source' sink sink status.Memory None
memory-AnswersFrom job blanks source source' sink = record {
  no_book = refl;
  ran = all_known source.left (λ (bytes : List ℕ). AnsweredWith job blanks bytes (written sink sink) status.Memory)
      (λ bytes. inl (Keeps-refl sink.taken));
  answers = inl (Keeps-refl sink.taken);
  never_words = λ words. cc;
  read_whole = λ well. cc;
  plain = tt;
  exact = all_known source.left
      (λ (bytes : List ℕ). ¬ (Rose source.faults source'.faults) → ¬ (Rose sink.faults sink.faults)
      → (status.Memory ≡ status_for job blanks bytes) ⊎ (status.Memory ≡ status.Memory))
      (λ bytes still kept. inr refl);
}
