-- The state of a made run between two cycles and aloft, whatever the controllers hold, and a cycle of it.
use Rattle.std.proofs.Common.{◌≡◌, ℕ, zero, suc, ◌+◌, true, false, List, [], ◌∷◌, length, Some, None, refl, ap, ◌∙◌}
use Rattle.std.specs.Prelude.{◌==◌, if◌then◌else◌}
use Rattle.std.specs.Fmt.{digits}
use Rattle.std.specs.List.{AllByRecursion}
use Rattle.fixed_num.specs.declared.value.BodyState.{BodyState}
use Rattle.fixed_num.specs.declared.value.Value.{Value}
use Rattle.cm_document.specs.declared.call.Mail.{Mail}
use Rattle.cm_document.specs.declared.description.CtlKind.TheVariants as kind
use Rattle.cm_document.specs.declared.description.Params.TheVariants as params
use Rattle.cm_document.specs.declared.life.Life.TheVariants.{Active}
use Rattle.cm_model.specs.BestEffort.{stays_within}
use Rattle.cm_model.specs.Blanks.{with_one_less}
use Rattle.cm_model.specs.declared.blanks.Blanks.{Blanks}
use Rattle.cm_model.specs.Commit.{commit}
use Rattle.cm_model.specs.Cycle.{reaches, active_order, is_held_off, cycle, after_cycle}
use Rattle.cm_model.specs.Order.{rank_within}
use Rattle.cm_model.specs.State.{State, Loaded, MailAloft}
use Rattle.cm_model.specs.Values.{InterfaceValue}
use Rattle.cm_model.specs.declared.cause.Outcome.{Outcome}
use Rattle.cm_model.specs.declared.data.RunData.TheVariants as run
use Rattle.cm_model.specs.declared.request.Request.{Request}
use Rattle.make_document.specs.Meant.{robot_meant}
use Rattle.made_laws.specs.Runs.{stocked}
use Rattle.made_laws.proofs.DueLemmas.{cycle_of_all, cycle_is}

-- ---- The state

-- the controller of this number, which runs and holds these values
abbrev pub running : (ℕ → List Value) → ℕ → Loaded
running held i = record {
  serial = i;
  place = i;
  rate = 0;
  divisor = Some 1;
  ctl = record { kind = kind.Forward; params = Some (params.Forward 1); run = Some (run.Set false (held i)) };
  mail = None;
}

-- one of them does not run
abbrev pub but_stopped : ℕ → (ℕ → Loaded) → ℕ → Loaded
but_stopped b of i =
    if i == b then record (of i) { ctl = record { kind = kind.Forward; params = Some (params.Forward 1); run = None } }
    else of i

-- mail waits for one of them
abbrev pub but_sent : ℕ → Mail → (ℕ → Loaded) → ℕ → Loaded
but_sent a mail of i = if i == a then record (of i) { mail = Some mail } else of i

-- what the eight of them are
abbrev pub eight : (ℕ → Loaded) → List Loaded
eight of = of 0 ∷ of 1 ∷ of 2 ∷ of 3 ∷ of 4 ∷ of 5 ∷ of 6 ∷ of 7 ∷ []

-- what does not count: what the interfaces hold, and the bodies
pub record Held : Type 0 where
  pub values : List InterfaceValue
  pub bodies : List BodyState

abbrev pub held_in : State → Held
held_in s = record { values = s.values; bodies = s.bodies }

-- the requests so far, and what became of them
pub record Asked : Type 0 where
  pub requests : List Request
  pub outcomes : List Outcome

-- the stock after so many forwards were loaded
abbrev pub taken : ℕ → Blanks
taken zero = stocked
taken (suc n) = with_one_less (taken n) kind.Forward

-- The state of a run of so many cycles, after so many, between two.
abbrev pub between : ℕ → List Loaded → Held → Asked → ℕ → State
between cycles loaded held asked n = record {
  description = robot_meant cycles;
  sessions = 1;
  blanks = taken 8;
  loads = 8;
  loaded = loaded;
  lives = Active ∷ [];
  bodies = held.bodies;
  values = held.values;
  requests = asked.requests;
  outcomes = asked.outcomes;
  fallbacks = [];
  ended = n;
  aloft = false;
  mails = [];
  closed = false;
}

-- and while a cycle is aloft, with these mails
abbrev pub aloft_with : List MailAloft → State → State
aloft_with mails s = record s { aloft = true; mails = mails }

-- ---- A cycle

-- A cycle of this state comes to a state of this list of controllers, and updates so many.
pub record ComesTo (cycles : ℕ) (s : State) (loaded : List Loaded) (asked : Asked) (n updated : ℕ) : Type 0 where
  pub state : after_cycle s (cycle s) ≡ between cycles loaded (held_in (after_cycle s (cycle_of_all s))) asked (n + 1)
  pub count : length (cycle s).happened.ran ≡ updated

-- A cycle in which all are due that are active, computed.
pub comes_to : (cycles : ℕ) (s : State) (loaded : List Loaded) (asked : Asked) (n updated : ℕ)
    → AllByRecursion (λ (l : Loaded). (l.divisor ≡ Some 1) × (is_held_off s l ≡ false)) (active_order s)
    → after_cycle s (cycle_of_all s) ≡ between cycles loaded (held_in (after_cycle s (cycle_of_all s))) asked (n + 1)
    → length (cycle_of_all s).happened.ran ≡ updated
    → ComesTo cycles s loaded asked n updated
comes_to cycles s loaded asked n updated due state count =
    let all = cycle_is s due in
    record { state = ap (after_cycle s) all ∙ state; count = ap (λ c. length c.happened.ran) all ∙ count }

-- all eight run
pub plain_cycle : (cycles n : ℕ) (held : ℕ → List Value) (h : Held) (asked : Asked)
    → ComesTo cycles (aloft_with [] (between cycles (eight (running held)) h asked n)) (eight (running held)) asked n 8
unfolding rank_within stays_within reaches commit after_cycle digits
plain_cycle cycles n held h asked =
    comes_to _ _ _ _ _ _ (
      (refl, refl),
      (
        (refl, refl),
        ((refl, refl), ((refl, refl), ((refl, refl), ((refl, refl), ((refl, refl), ((refl, refl), tt)))))),
      ),
    ) refl refl
