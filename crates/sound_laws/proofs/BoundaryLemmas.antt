-- What is decided between two cycles keeps a state steady, and so does the begin of a cycle.
use Rattle.std.proofs.Common.{ℕ, Bool, true, false, List, [], ◌∷◌}
use Rattle.cm_document.specs.Picks.{flat}
use Rattle.cm_document.specs.declared.call.SwitchRequest.{SwitchRequest}
use Rattle.cm_model.proofs.SteadyLemmas.{begun_steady}
use Rattle.cm_model.specs.BestEffort.{flat_decided}
use Rattle.cm_model.specs.Boundary.{waiting, standing_in, after_standing_in, after_fallbacks}
use Rattle.cm_model.specs.Boundary.{component_place, with_switch, Concluded, concluded}
use Rattle.cm_model.specs.Boundary.{with_outcome, all_concluded, boundary, begin_effect}
use Rattle.cm_model.specs.Commit.{scene_of}
use Rattle.cm_model.specs.State.{State}
use Rattle.cm_model.specs.Steady.{IsSteady}
use Rattle.cm_model.specs.declared.request.Request.{Request}
use Rattle.cm_model.specs.declared.request.Request.TheVariants as request
use Rattle.sound_laws.proofs.BestLemmas.{best_steady}
use Rattle.sound_laws.proofs.RequestLemmas.{hardware_steady}
use Rattle.sound_laws.proofs.StrictLemmas.{strict_steady}

pub switch_steady : (s : State) (r : SwitchRequest) → IsSteady s → IsSteady (concluded s (request.Switch r)).state
switch_steady s r steady = either r.strict
  where
    either : (whole : Bool)
        → IsSteady (with_switch s
        (flat_decided (scene_of s) whole (flat s.description r.off) (flat s.description r.on))).state
    either true = strict_steady s steady (flat s.description r.off) (flat s.description r.on)
    either false = best_steady s steady (flat s.description r.off) (flat s.description r.on)

pub concluded_steady : (s : State) (r : Request) → IsSteady s → IsSteady (concluded s r).state
concluded_steady s (request.Switch r) steady = switch_steady s r steady
concluded_steady s (request.Hardware component target) steady =
    hardware_steady s steady component target (component_place s.description component)

pub outcome_steady : (c : Concluded) → IsSteady c.state → IsSteady (with_outcome c)
outcome_steady c steady = record { in_order = steady.in_order; together = steady.together }

all_steady : (s : State) (rs : List Request) → IsSteady s → IsSteady (all_concluded s rs)
unfolding all_concluded
all_steady s [] steady = steady
all_steady s (r ∷ rs) steady =
    all_steady (with_outcome (concluded s r)) rs (outcome_steady (concluded s r) (concluded_steady s r steady))

-- so do those that stand in
pub emptied_steady : (s : State) → IsSteady s → IsSteady (record s { fallbacks = [] })
emptied_steady s steady = record { in_order = steady.in_order; together = steady.together }

pub standing_steady : (s : State) (names : List (List ℕ)) → IsSteady s → IsSteady (after_standing_in s names)
standing_steady s [] steady = steady
standing_steady s (name ∷ names) steady =
    concluded_steady (record s { fallbacks = [] }) (standing_in (name ∷ names)) (emptied_steady s steady)

pub boundary_steady : (s : State) → IsSteady s → IsSteady (boundary s)
boundary_steady s steady =
    all_steady (after_fallbacks s) (waiting (after_fallbacks s)) (standing_steady s s.fallbacks steady)

-- The begin of a cycle leaves a steady state.
pub begin_steady : (s : State) → IsSteady s → IsSteady (begin_effect s)
begin_steady s steady = begun_steady (boundary s) (boundary_steady s steady)
