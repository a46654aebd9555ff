-- The cycles before a start: components alone change.
use Rattle.std.proofs.Common.{◌≡◌, ℕ, suc, ◌+◌, ◌<◌, true, false, List, [], ◌∷◌, map}
use Rattle.std.proofs.Common.{Some, None, refl, sym, ◌∙◌, ap, ap₂, subst, arith, lt-ltb}
use Rattle.std.specs.Prelude.{◌==◌, ◌&&◌, not, nat_lt, zip}
use Rattle.std.specs.List.{AllByRecursion}
use Rattle.std.proofs.lemmas.Bool.{and_from, eq-eqb}
use Rattle.cm_document.specs.declared.call.Call.{Call}
use Rattle.cm_document.specs.declared.call.Call.TheVariants.{Begin, End}
use Rattle.cm_document.specs.declared.description.CompDesc.{CompDesc}
use Rattle.cm_document.specs.declared.description.Description.{Description}
use Rattle.cm_document.specs.declared.life.Life.{Life}
use Rattle.cm_model.specs.Components.{life_after}
use Rattle.cm_model.specs.Cycle.{cycle, landed, lives_after, fallbacks_after}
use Rattle.cm_model.specs.Machine.{is_loop, can_begin, can_end, is_enabled, step}
use Rattle.cm_model.specs.Scheduled.{with_entry, looped}
use Rattle.cm_model.specs.State.{State, Loaded, is_active, IsStill}
use Rattle.cm_model.specs.declared.entry.Entry.{Entry}
use Rattle.cm_model.specs.declared.reply.Reply.TheVariants as reply
use Rattle.cm_model.proofs.LegalLemmas.{Leads, Leads-step}
use Rattle.cm_model.proofs.QuietLemmas.{quiet_begin, quiet_begin_reply}
use Rattle.cm_model.proofs.StillLemmas.{cycle_is_idle}
use Rattle.spawn_plan.specs.Fitting.{life_by}
use Rattle.spawn_laws.proofs.GoLemmas.{step_to, point, looped_on}

-- Before a start these controllers are loaded and none is active, nobody has asked for anything, and so many cycles
-- have ended.
pub record IsBefore (d : Description) (ls : List Loaded) (n : ℕ) (s : State) : Type 0 where
  pub description : s.description ≡ d
  pub sessions : s.sessions ≡ 1
  pub loaded : s.loaded ≡ ls
  pub lives : s.lives ≡ map (λ c. life_by c n) d.components
  pub requests : s.requests ≡ []
  pub outcomes : s.outcomes ≡ []
  pub fallbacks : s.fallbacks ≡ []
  pub ended : s.ended ≡ n
  pub home : s.aloft ≡ false
  pub not_closed : s.closed ≡ false
  pub mails : s.mails ≡ []

-- the components go on each by itself
lives_on : (f : CompDesc → Life → Life) (g : CompDesc → Life) (cs : List CompDesc)
    → map (λ each. f each.0 each.1) (zip cs (map g cs)) ≡ map (λ c. f c (g c)) cs
lives_on f g [] = refl
lives_on f g (c ∷ cs) = ap (λ lives. f c (g c) ∷ lives) (lives_on f g cs)

pub still_is : (d : Description) (ls : List Loaded) (n : ℕ) (s : State) → IsBefore d ls n s
    → AllByRecursion (λ (l : Loaded). is_active l ≡ false) ls → IsStill s
still_is d ls n s is still = subst (AllByRecursion (λ (l : Loaded). is_active l ≡ false)) (sym is.loaded) still

-- a cycle can begin
pub begins : (d : Description) (n : ℕ) (s : State) → s.aloft ≡ false → s.closed ≡ false → s.ended ≡ n
    → s.description ≡ d → n < d.cycles → is_enabled s s.sessions (Begin n) ≡ true
begins d n s home not_closed ended description below =
    and_from (is_loop s s.sessions) (can_begin s n) (eq-eqb s.sessions s.sessions refl)
    (and_from ((not s.aloft && not s.closed) && s.ended == n) (nat_lt n s.description.cycles)
    (and_from (not s.aloft && not s.closed) (s.ended == n) (ap₂ (λ a b. not a && not b) home not_closed)
    (eq-eqb s.ended n ended))
    (ap (λ (e : Description). nat_lt n e.cycles) description ∙ lt-ltb n d.cycles below))

-- The n-th cycle begins and ends, and so many more have ended.
pub record IsFlown (d : Description) (ls : List Loaded) (n : ℕ) (from s : State) (made : List Entry)
    (lines : List Call) : Type 0 where
  pub state : State
  pub entries : List Entry
  pub before : IsBefore d ls (suc n) state
  pub leads : Leads from entries state
  pub flown : looped (End n) (looped (Begin n) (point s made lines None)) ≡ point state entries lines None

module _ (d : Description) (ls : List Loaded) (still : AllByRecursion (λ (l : Loaded). is_active l ≡ false) ls) (n : ℕ)
    (below : n < d.cycles) (from s : State) (made : List Entry) (lines : List Call)
    (is : IsBefore d ls n s) (leads : Leads from made s) where
  abbrev aloft : State
  aloft = record s { aloft = true }

  begun : step s s.sessions (Begin n) ≡ Some (aloft, reply.Decisions [])
  begun =
      step_to s aloft s.sessions (Begin n) (reply.Decisions [])
      (begins d n s is.home is.not_closed is.ended is.description below)
      (ap (λ r. Some r) (quiet_begin_reply s is.requests is.outcomes is.fallbacks))
      (quiet_begin s is.requests is.outcomes is.fallbacks (still_is d ls n s is still) is.mails)

  stills : IsStill aloft
  stills = still_is d ls n s is still

  abbrev flew : State
  flew = landed aloft (cycle aloft)

  ended : step aloft aloft.sessions (End n) ≡ Some (flew, reply.Cycle (cycle aloft).happened)
  ended =
      step_to aloft flew aloft.sessions (End n) (reply.Cycle (cycle aloft).happened)
      (and_from (is_loop aloft aloft.sessions) (can_end aloft n) (eq-eqb s.sessions s.sessions refl)
      (eq-eqb s.ended n is.ended)) refl
      (cycle_is_idle aloft stills).ended

  -- nobody is to stand in
  nobody : fallbacks_after aloft (cycle aloft).happened.ran ≡ []
  nobody = ap (fallbacks_after aloft) (cycle_is_idle aloft stills).none_ran

  lives_then : lives_after aloft ≡ map (λ c. life_by c (suc n)) d.components
  lives_then =
      ap₂ (λ (e : Description) (lives : List Life). map (λ each. life_after each.0 each.1 s.ended)
      (zip e.components lives)) is.description is.lives
      ∙ ap (λ k. map (λ each. life_after each.0 each.1 k) (zip d.components (map (λ c. life_by c n) d.components)))
      is.ended
      ∙ lives_on (λ c life. life_after c life n) (λ c. life_by c n) d.components

  one_more : s.ended + 1 ≡ suc n
  one_more = omega (arith, is.ended)

  abbrev made_begin : List Entry
  made_begin = with_entry made s.sessions (Begin n) (reply.Decisions [])

  abbrev made_end : List Entry
  made_end = with_entry made_begin s.sessions (End n) (reply.Cycle (cycle aloft).happened)

  pub flown_on : IsFlown d ls n from s made lines
  flown_on = record {
    state = flew;
    entries = made_end;
    before = record {
      description = is.description;
      sessions = is.sessions;
      loaded = (cycle_is_idle aloft stills).loaded ∙ is.loaded;
      lives = lives_then;
      requests = is.requests;
      outcomes = is.outcomes;
      fallbacks = nobody;
      ended = one_more;
      home = refl;
      not_closed = is.not_closed;
      mails = refl;
    };
    leads = Leads-step made_begin from aloft s.sessions (End n) flew (reply.Cycle (cycle aloft).happened)
        (Leads-step made from s s.sessions (Begin n) aloft (reply.Decisions []) leads begun) ended;
    flown = ap (looped (End n)) (looped_on (Begin n) (point s made lines None) aloft (reply.Decisions []) begun)
        ∙ looped_on (End n) (point aloft made_begin lines None) flew (reply.Cycle (cycle aloft).happened) ended;
  }
