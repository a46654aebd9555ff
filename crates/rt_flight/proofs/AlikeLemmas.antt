-- That a flight is that of each state with the same core.
use Rattle.std.proofs.Common.{◌≡◌, List, [], ◌∷◌, map, refl, sym, ap, subst, ◌∙◌}
use Rattle.std.specs.Prelude.{filter}
use Rattle.cm_document.specs.Valid.{IsValid}
use Rattle.cm_model.specs.Cycle.{period}
use Rattle.cm_model.specs.Sound.{Configuration, configuration}
use Rattle.cm_model.specs.State.{State, Loaded, is_active}
use Rattle.cm_hardware.specs.Holding.{Runner, runner_of, runners}
use Rattle.cm_hardware.proofs.SameLemmas.{running_hardware}
use Rattle.cm_places.specs.Placed.{placed_of}
use Rattle.sound_laws.proofs.CoreLemmas.{core_configuration}
use Rattle.sound_laws.specs.Core.{bare, core}
use Rattle.switch_plan.specs.Relations.{relations_of}
use Rattle.rt_flight.specs.Flights.{FlightFacts, IsAloft, IsAlike, AreCellsOf}

-- who runs is read off without what waits for them
bare_runners : (ls : List Loaded) → map runner_of (map bare ls) ≡ map runner_of ls
bare_runners [] = refl
bare_runners (l ∷ ls) = ap (λ (rs : List Runner). runner_of l ∷ rs) (bare_runners ls)

-- so the same run where the core is the same
same_runners : (s t : State) → core s ≡ core t → runners s ≡ runners t
same_runners s t same =
    sym (bare_runners (filter is_active s.loaded)) ∙ ap (λ (c : State). map runner_of c.loaded) same
    ∙ bare_runners (filter is_active t.loaded)

pub stays_aloft : (begun s : State) (f : FlightFacts) → IsAloft begun f → IsAlike s begun → IsAloft s f
stays_aloft begun s f is alike =
    let same : core s ≡ core begun = alike.same in
    let description : s.description ≡ begun.description = ap (λ (c : State). c.description) same in
    let ended : s.ended ≡ begun.ended = ap (λ (c : State). c.ended) same in
    let lives = ap (λ (c : State). c.lives) same in
    let bodies = ap (λ (c : State). c.bodies) same in
    let values = ap (λ (c : State). c.values) same in
    let flown : configuration s ≡ configuration begun =
    sym (core_configuration s) ∙ ap configuration same ∙ core_configuration begun in
    record {
      over = record {
        valid = subst IsValid (sym description) is.over.valid;
        steady = alike.steady;
        once = alike.once;
        number = is.over.number ∙ sym ended;
        placed = is.over.placed ∙ ap placed_of (sym description);
        related = is.over.related ∙ ap relations_of (sym description);
        timed = is.over.timed ∙ ap period (sym description);
        hardware = running_hardware begun s description lives (same_runners s begun same) f.robot.hardware
            is.over.hardware bodies values;
        cells = subst (λ (k : Configuration). AreCellsOf k.mails k.running f.cells) (sym flown) is.over.cells;
      };
      not_yet = is.not_yet;
    }
