-- A desk that has made the history of its job is done.
use Rattle.std.proofs.Common.{◌≡◌, List, length, map, true, refl, sym, ap, subst, ◌∙◌}
use Rattle.std.specs.Prelude.{IfSome}
use Rattle.cm_document.specs.ScriptLaws.{MeetsRules}
use Rattle.cm_document.specs.declared.document.Document.{Document}
use Rattle.cm_model.specs.Machine.{IsLegal, LegalFrom}
use Rattle.cm_model.specs.Scheduled.{Progress, start, cycles, cycles_left, landed}
use Rattle.cm_model.specs.Scheduled.{turns, finish, scheduled, scheduled_in_steps}
use Rattle.cm_model.specs.Sessions.{IsWhole}
use Rattle.cm_model.specs.Sound.{moments, AreSound}
use Rattle.cm_model.specs.State.{State, Loaded, boot}
use Rattle.cm_model.specs.declared.blanks.Blanks.{Blanks}
use Rattle.cm_model.specs.declared.entry.Entry.{Entry}
use Rattle.cm_model.proofs.HistoryLemmas.{whole-closed}
use Rattle.cm_model.proofs.WholeLemmas.{scheduled-IsWhole, steps-IsWhole}
use Rattle.cm_desk.specs.Desk.{History, IsRight, now_of}
use Rattle.cm_words.specs.declared.job.JobKind.{JobKind}
use Rattle.cm_words.specs.declared.job.JobKind.TheVariants as kind
use Rattle.desk_turns.specs.Jobs.{JobFacts, progress_of}
use Rattle.desk_jobs.specs.Book.{Histories, IsDone, made_by}

-- the history of a job that leaves nothing to threads is whole, where the script meets the rules
pub made_by-IsWhole : (k : JobKind) (d : Document) (blanks : Blanks) → MeetsRules d.script
    → IfSome (made_by k blanks) (λ history_of. IsWhole d (history_of d))
made_by-IsWhole kind.Run d blanks rules = scheduled-IsWhole d blanks rules
made_by-IsWhole kind.Steps d blanks rules = steps-IsWhole d blanks rules
made_by-IsWhole kind.Live d blanks rules = tt
made_by-IsWhole kind.Upgrade d blanks rules = tt
made_by-IsWhole kind.Check d blanks rules = tt
made_by-IsWhole kind.Plan d blanks rules = tt

-- A desk that has made this history, which is whole for the document, is done.
done_with : (made : Histories) (d : Document) (blanks : Blanks) (h : History) (history : List Entry)
    → IfSome made (λ history_of. history ≡ history_of d)
    → IsWhole d history → h.opening ≡ boot d.description blanks (length d.script.sessions) → IsRight h
    → h.made ≡ history → IsDone made blanks d h
done_with made d blanks h history made_is whole opening right is =
    let legal : IsLegal d.description blanks (length d.script.sessions) h.made =
    subst (λ (s : State). LegalFrom s h.made) opening right.legal in
    let all : IsWhole d h.made = subst (IsWhole d) (sym is) whole in
    record {
      opening = opening;
      closed = subst (λ (s : State). (now_of (record { opening = s; made = h.made })).closed ≡ true) (sym opening)
          (whole-closed d h.made (boot d.description blanks (length d.script.sessions)) legal all);
      book_is = record {
        history = subst (λ (es : List Entry). IfSome made (λ history_of. es ≡ history_of d)) (sym is) made_is;
        legal = legal;
        sound = subst (λ (s : State). AreSound (moments s h.made)) opening right.sound;
        whole = all;
        boxes = ap (λ (s : State). map (λ (l : Loaded). l.ctl) (now_of (record { opening = s; made = h.made })).loaded)
            opening;
      };
    }

-- so is the desk of a job that settled before each cycle,
pub run_done : (d : Document) (blanks : Blanks) (j : JobFacts) (h : History) → MeetsRules d.script
    → j.desk.opening ≡ boot d.description blanks (length d.script.sessions)
    → progress_of j ≡ finish (cycles d.description.cycles (start d blanks)) → h ≡ j.desk → IsRight h
    → IsDone (made_by kind.Run blanks) blanks d h
unfolding scheduled
run_done d blanks j h rules opening ran same right =
    done_with (made_by kind.Run blanks) d blanks h (scheduled d blanks) refl (scheduled-IsWhole d blanks rules)
    (ap (λ (k : History). k.opening) same ∙ opening) right
    (ap (λ (k : History). k.made) same ∙ ap (λ (p : Progress). p.made) ran)

-- and that of one whose turns came first
pub steps_done : (d : Document) (blanks : Blanks) (j : JobFacts) (h : History) → MeetsRules d.script
    → j.desk.opening ≡ boot d.description blanks (length d.script.sessions)
    → progress_of j ≡ finish (cycles_left d.description.cycles (landed (turns d.script.schedule (start d blanks))))
    → h ≡ j.desk → IsRight h
    → IsDone (made_by kind.Steps blanks) blanks d h
unfolding scheduled_in_steps
steps_done d blanks j h rules opening ran same right =
    done_with (made_by kind.Steps blanks) d blanks h (scheduled_in_steps d blanks) refl (steps-IsWhole d blanks rules)
    (ap (λ (k : History). k.opening) same ∙ opening) right
    (ap (λ (k : History). k.made) same ∙ ap (λ (p : Progress). p.made) ran)
