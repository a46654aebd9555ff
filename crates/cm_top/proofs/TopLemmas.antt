-- From the parts of a run to what it promises.
use Rattle.std.proofs.Common.{◌≡◌, ℕ, ◌+◌, ◌≤◌, List, length, Option, Some, None}
use Rattle.std.proofs.Common.{Ok, sym, subst, ◌∙◌, inl, inr, ◌⊎◌}
use Rattle.std.specs.Io.KnownBytes.{Keeps, Appends}
use Rattle.std.proofs.KnownBytes.{Appends-kept}
use Rattle.outside_io.specs.Bytes.{AllFlushed}
use Rattle.outside_io.proofs.Prefixes.{AppendsPrefix-all}
use Rattle.cm_document.specs.declared.limits.TheConstants.{LONGEST_DOCUMENT}
use Rattle.cm_document.specs.Grammars.{whole_grammar}
use Rattle.cm_document.specs.Document.{document}
use Rattle.cm_model.specs.State.{State}
use Rattle.cm_document.specs.declared.document.Document.{Document}
use Rattle.cm_model.specs.declared.blanks.Blanks.{Blanks}
use Rattle.cm_desk.specs.Desk.{History}
use Rattle.desk_jobs.specs.Book.{BookFacts, IsDone, book_of}
use Rattle.cm_top.specs.Tasks.{Task}
use Rattle.cm_top.specs.Calls.Run.{SinkFacts, RunsBytes}
use Rattle.cm_top.specs.Status.{Written, EndedWith, HandsOut, Wrote, RanDocument, IsPlain, ComesOfBytes}
use Rattle.cm_top.specs.declared.status.Status.{Status}
use Rattle.cm_top.specs.declared.status.Status.TheVariants as status

-- What was written of a desk that is done, and the book that it handed out, are those of the document's run.
pub done-RanDocument : (task : Task) (d : Document) (blanks : Blanks) (h : History) (w : Written) (ended : Status)
    (book : Option BookFacts)
    → IsDone task.history blanks d h
    → Wrote (task.text (record { description = h.opening.description; script = d.script }) h.made) w ended
    → book ≡ Some (book_of h)
    → RanDocument task d blanks w ended book
done-RanDocument task d blanks h w ended book done wrote is =
    let text : Wrote (task.text d h.made) w ended =
    subst (λ (s : State). Wrote (task.text (record { description = s.description; script = d.script }) h.made) w ended)
    done.opening wrote in
    subst (λ (b : Option BookFacts). RanDocument task d blanks w ended b) (sym is) (done.book_is, text)

-- what a run of an accepted document came to says what its run promises
pub RanDocument-EndedWith : (task : Task) (bytes : List ℕ) (d : Document) (blanks : Blanks) (w : Written)
    (ended : Status) (book : Option BookFacts)
    → length bytes ≤ LONGEST_DOCUMENT → document whole_grammar bytes ≡ Ok d → RanDocument task d blanks w ended book
    → EndedWith task bytes blanks w ended book
RanDocument-EndedWith task bytes d blanks w ended None short accepted ran = rw ran.0 ran.1
RanDocument-EndedWith task bytes d blanks w status.Ok (Some book) short accepted ran = record {
  document_is = d;
  short = short;
  accepted = accepted;
  book_is = ran.0;
  taken = ran.1.0;
  all_flushed = ran.1.1;
}
RanDocument-EndedWith task bytes d blanks w status.Memory (Some book) short accepted ran =
    record { document_is = d; short = short; accepted = accepted; book_is = ran.0; taken = ran.1 }
RanDocument-EndedWith task bytes d blanks w status.WriteFault (Some book) short accepted ran =
    record { document_is = d; short = short; accepted = accepted; book_is = ran.0; taken = ran.1 }
RanDocument-EndedWith task bytes d blanks w _ (Some book) short accepted ran = absurd ran.1

-- and hands out its book, of these bytes
pub RanDocument-HandsOut : (task : Task) (bytes : List ℕ) (d : Document) (blanks : Blanks) (w : Written)
    (ended : Status) (book : Option BookFacts)
    → length bytes ≤ LONGEST_DOCUMENT → document whole_grammar bytes ≡ Ok d → RanDocument task d blanks w ended book
    → HandsOut task blanks w ended book
RanDocument-HandsOut task bytes d blanks w ended None short accepted ran = rw ran.0 ran.1
RanDocument-HandsOut task bytes d blanks w status.Ok (Some book) short accepted ran =
    (bytes, RanDocument-EndedWith task bytes d blanks w status.Ok (Some book) short accepted ran)
RanDocument-HandsOut task bytes d blanks w status.Memory (Some book) short accepted ran =
    (bytes, RanDocument-EndedWith task bytes d blanks w status.Memory (Some book) short accepted ran)
RanDocument-HandsOut task bytes d blanks w status.WriteFault (Some book) short accepted ran =
    (bytes, RanDocument-EndedWith task bytes d blanks w status.WriteFault (Some book) short accepted ran)
RanDocument-HandsOut task bytes d blanks w _ (Some book) short accepted ran = absurd ran.1

-- what was written comes of the bytes
Wrote-OfBytes : (text : List ℕ) (w : Written) (ended : Status) → Wrote text w ended → ComesOfBytes ended × IsPlain ended
Wrote-OfBytes text w status.Ok wrote = (tt, tt)
Wrote-OfBytes text w status.Memory wrote = (tt, tt)
Wrote-OfBytes text w status.WriteFault wrote = (tt, tt)
Wrote-OfBytes text w _ wrote = absurd wrote

-- it comes of the bytes, and carries no want of memory in a refusal
pub RanDocument-OfBytes : (task : Task) (d : Document) (blanks : Blanks) (w : Written) (ended : Status)
    (book : Option BookFacts)
    → RanDocument task d blanks w ended book → ComesOfBytes ended × IsPlain ended
RanDocument-OfBytes task d blanks w ended None ran = rw ran.0 (tt, tt)
RanDocument-OfBytes task d blanks w ended (Some book) ran = Wrote-OfBytes (task.text d book.history) w ended ran.1

-- so its run is one of its bytes
pub RanDocument-RunsBytes : (task : Task) (blanks : Blanks) (bytes : List ℕ) (d : Document) (sink sink' : SinkFacts)
    (ended : Status) (book : Option BookFacts)
    → length bytes ≤ LONGEST_DOCUMENT → document whole_grammar bytes ≡ Ok d
    → RanDocument task d blanks (record { old = sink.taken; new = sink'.taken; flushed = sink'.flushed }) ended book
    → RunsBytes task blanks bytes sink sink' ended book
RanDocument-RunsBytes task blanks bytes d sink sink' ended book short accepted ran =
    let w : Written = record { old = sink.taken; new = sink'.taken; flushed = sink'.flushed } in
    let comes = RanDocument-OfBytes task d blanks w ended book ran in
    record {
      ran = RanDocument-EndedWith task bytes d blanks w ended book short accepted ran;
      handed_out = RanDocument-HandsOut task bytes d blanks w ended book short accepted ran;
      of_bytes = comes.0;
      plain = comes.1;
    }

-- a text that was taken, and then a flush
pub flush-Wrote : (text : List ℕ) (old mid new : Option (List ℕ)) (flushed : Option ℕ) (ended : Status) (fault : Type 0)
    → Appends old mid text → Keeps mid new
    → ((ended ≡ status.Ok) × AllFlushed new flushed) ⊎ ((ended ≡ status.WriteFault) × fault)
    → Wrote text (record { old = old; new = new; flushed = flushed }) ended
flush-Wrote text old mid new flushed ended fault taken kept (inl (went_well, all)) =
    rw went_well (Appends-kept old mid new text taken kept, all)
flush-Wrote text old mid new flushed ended fault taken kept (inr (failed, rose)) =
    rw failed (AppendsPrefix-all old new text (Appends-kept old mid new text taken kept))
