-- A cycle of a made run: it begins and it ends.
use Rattle.std.proofs.Common.{◌≡◌, ℕ, suc, ◌+◌, ◌<◌, Bool, true, List, [], ◌∷◌}
use Rattle.std.proofs.Common.{map, filter_map, Some, refl, ap, ap₂, ◌∙◌, arith}
use Rattle.std.specs.Prelude.{◌&&◌}
use Rattle.std.specs.List.{AllByRecursion}
use Rattle.std.proofs.lemmas.Bool.{eq-eqb, lt-ltb}
use Rattle.cm_document.specs.declared.call.Call.TheVariants as call
use Rattle.cm_model.specs.Boundary.{boundary, decisions_between, begin_effect, begin_reply}
use Rattle.cm_model.specs.Cycle.{cycle, after_cycle, begun}
use Rattle.cm_model.specs.Scheduled.{Session, Advanced, Progress, with_entry, settle, settle_all, looped}
use Rattle.cm_model.specs.State.{State, Loaded, MailAloft}
use Rattle.cm_model.specs.declared.cause.Decision.{Decision}
use Rattle.cm_model.specs.declared.entry.Entry.{Entry}
use Rattle.cm_model.specs.declared.reply.Reply.TheVariants as reply
use Rattle.made_laws.proofs.CountingLemmas.{plus, Counts, Adds, entry_counts, cycle_adds}
use Rattle.made_laws.proofs.DueLemmas.{step_when, looped_on, cycle_of_all, mail_of, without_mail, all_without, all_off}
use Rattle.made_laws.proofs.Standing.{Held, held_in, Asked, between, aloft_with, ComesTo}

-- how far a run of one session has come
abbrev pub stage : State → List Entry → Session → Progress
stage s made session = record { state = s; made = made; sessions = session ∷ [] }

-- its session settles
pub settled_to : (s : State) (made : List Entry) (session : Session) (a : Advanced)
    → settle 0 (record { state = s; made = made; session = session }) ≡ a
    → settle_all (stage s made session) ≡ stage a.state a.made a.session
unfolding settle_all
settled_to s made session a is = ap (λ (a : Advanced). stage a.state a.made a.session) is

-- A run has come so far: these controllers and requests, so many entries, updates and requests that are carried out.
pub record Stands (cycles n : ℕ) (loaded : List Loaded) (asked : Asked) (session : Session) (entries updates done : ℕ)
    (p : Progress) : Type 0 where
  pub held : Held
  pub made : List Entry
  pub is : p ≡ stage (between cycles loaded held asked n) made session
  pub counts : Counts made n entries updates done

-- the mail of controllers that are due in each cycle goes aloft
pub begun_is : (s : State) → AllByRecursion (λ (l : Loaded). l.divisor ≡ Some 1) s.loaded
    → begun s ≡ record s { loaded = map without_mail s.loaded; aloft = true; mails = filter_map mail_of s.loaded }
begun_is s all =
    ap₂ (λ (loaded : List Loaded) (mails : List MailAloft). record s { loaded = loaded; aloft = true; mails = mails })
    (all_without s s.loaded all) (all_off s s.loaded all)

module _ (cycles n : ℕ) (made : List Entry) (session : Session) where
  begin_on : (loaded : List Loaded) (h : Held) (asked : Asked) → n < cycles
      → looped (call.Begin n) (stage (between cycles loaded h asked n) made session)
      ≡ stage (begin_effect (between cycles loaded h asked n))
      (with_entry made 1 (call.Begin n) (begin_reply (between cycles loaded h asked n))) session
  begin_on loaded h asked more =
      let s = between cycles loaded h asked n in
      looped_on (call.Begin n) (stage s made session) (begin_effect s) (begin_reply s)
      (step_when s 1 (call.Begin n) (ap₂ (λ (a b : Bool). a && b) (eq-eqb n n refl) (lt-ltb n cycles more)))

  end_on : (loaded : List Loaded) (h : Held) (asked : Asked) (mails : List MailAloft)
      → looped (call.End n) (stage (aloft_with mails (between cycles loaded h asked n)) made session)
      ≡ stage (after_cycle (aloft_with mails (between cycles loaded h asked n))
      (cycle (aloft_with mails (between cycles loaded h asked n))))
      (with_entry made 1 (call.End n)
      (reply.Cycle (cycle (aloft_with mails (between cycles loaded h asked n))).happened)) session
  end_on loaded h asked mails =
      let s = aloft_with mails (between cycles loaded h asked n) in
      looped_on (call.End n) (stage s made session) (after_cycle s (cycle s)) (reply.Cycle (cycle s).happened)
      (step_when s 1 (call.End n) (eq-eqb n n refl))

-- A cycle begins with these decisions, is flown with these controllers and mails, and leaves these controllers.
pub record Flies (cycles n : ℕ) (loaded : List Loaded) (h : Held) (asked : Asked) (after : List Loaded) (told : Asked)
    (updated done : ℕ) : Type 0 where
  pub flying : List Loaded
  pub holding : Held
  pub mails : List MailAloft
  pub decisions : List Decision
  pub begins : begin_effect (between cycles loaded h asked n) ≡ aloft_with mails (between cycles flying holding told n)
  pub tells : decisions_between (between cycles loaded h asked n) (boundary (between cycles loaded h asked n))
      ≡ decisions
  pub adds : Adds (reply.Decisions decisions) 0 0 done
  pub ends : ComesTo cycles (aloft_with mails (between cycles flying holding told n)) after told n updated

-- a cycle more
pub flown_on : (cycles n : ℕ) (made : List Entry) (session : Session) (loaded : List Loaded) (h : Held) (asked : Asked)
    (after : List Loaded) (told : Asked)
    (entries updates done u d : ℕ) → n < cycles → Flies cycles n loaded h asked after told u d
    → Counts made n entries updates done
    → Stands cycles (suc n) after told session (suc (suc entries)) (plus u updates) (plus d done)
    (looped (call.End n) (looped (call.Begin n) (stage (between cycles loaded h asked n) made session)))
flown_on cycles n made session loaded h asked after told entries updates done u d more flies counts =
    let aloft : State = aloft_with flies.mails (between cycles flies.flying flies.holding told n) in
    let begun_made : List Entry = with_entry made 1 (call.Begin n) (reply.Decisions flies.decisions) in
    let ended_made : List Entry = with_entry begun_made 1 (call.End n) (reply.Cycle (cycle aloft).happened) in
    let next : n + 1 ≡ suc n = omega arith in
    let begins : looped (call.Begin n) (stage (between cycles loaded h asked n) made session)
    ≡ stage aloft begun_made session =
    begin_on cycles n made session loaded h asked more
    ∙ ap₂ (λ (s : State) (ds : List Decision). stage s (with_entry made 1 (call.Begin n) (reply.Decisions ds)) session)
    flies.begins flies.tells in
    let first = entry_counts made 1 (call.Begin n) (reply.Decisions flies.decisions) n entries updates done 0 0 d
    flies.adds counts in
    let second =
    entry_counts begun_made 1 (call.End n) (reply.Cycle (cycle aloft).happened) n (suc entries) updates (plus d done) 1
    u 0
    (cycle_adds (cycle aloft).happened u flies.ends.count) first in
    record {
      held = held_in (after_cycle aloft (cycle_of_all aloft));
      made = ended_made;
      is = ap (looped (call.End n)) begins
          ∙ end_on cycles n begun_made session flies.flying flies.holding told flies.mails
          ∙ ap (λ (s : State). stage s ended_made session) flies.ends.state
          ∙ ap (λ k. stage (between cycles after (held_in (after_cycle aloft (cycle_of_all aloft))) told k) ended_made
          session) next;
      counts = second;
    }
