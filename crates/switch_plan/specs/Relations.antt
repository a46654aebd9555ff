-- Which described controllers have to do with which, and with which components, by place.
use Rattle.std.specs.Prelude.{ℕ, Bool, not, ◌&&◌, ◌||◌, ◌==◌, List, ◌++◌, length, map, filter_map, slice_index_or}
use Rattle.std.specs.List.{list_any}
use Rattle.cm_document.specs.declared.description.CtlDesc.{CtlDesc}
use Rattle.cm_document.specs.declared.description.Description.{Description}
use Rattle.cm_document.specs.declared.life.Life.{Life}
use Rattle.cm_document.specs.declared.life.Life.TheVariants.{Unconfigured}
use Rattle.cm_model.specs.Order.{Places, controller_at, height}
use Rattle.cm_model.specs.Components.{is_available}
use Rattle.cm_model.specs.Scene.{Scene, claims_at, is_ready}
use Rattle.cm_model.specs.Faults.{component_with, is_beside}
use Rattle.chain_order.specs.Links.{each_below, rows_of, links_of, leaders_of, linked}

-- Two controllers are at odds: both claim one interface, or they claim different command interfaces of one joint. A
-- controller is at odds with itself in the latter way alone.
abbrev pub at_odds : List CtlDesc → ℕ → ℕ → Bool
at_odds controllers p q =
    list_any
    (λ i. (not (q == p) && claims_at controllers q i)
    || list_any (is_beside i) (controller_at controllers q).claims) (controller_at controllers p).claims

-- for each controller, by place, the places of those that it is at odds with
abbrev pub odds_of : List CtlDesc → List (List ℕ)
odds_of controllers = rows_of (λ q p. at_odds controllers p q) (length controllers)

-- the components of what a controller claims and reads
abbrev pub components_at : Description → ℕ → List ℕ
components_at d p =
    filter_map (component_with d.components) (controller_at d.controllers p).claims
    ++ filter_map (component_with d.components) (controller_at d.controllers p).reads

-- for each controller, by place: its name, those that precede it, those that it precedes, those that it is at odds
-- with, its components, and its height
pub record Related : Type 0 where
  pub names : List (List ℕ)
  pub leaders : List (List ℕ)
  pub followers : List (List ℕ)
  pub odds : List (List ℕ)
  pub components : List (List ℕ)
  pub heights : List ℕ

-- those of a description
abbrev pub relations_of : Description → Related
relations_of d = record {
  names = map (λ c. c.name) d.controllers;
  leaders = leaders_of d.controllers;
  followers = links_of d.controllers;
  odds = odds_of d.controllers;
  components = each_below (components_at d) (length d.controllers);
  heights = each_below (height d.controllers) (length d.controllers);
}

-- the component at a place has no available interfaces
abbrev pub is_down : List Life → ℕ → Bool
is_down components k = not (is_available (slice_index_or components k Unconfigured))

-- a controller could start beside a set: it is at odds with no member, its components are available, and it is ready
abbrev pub may_start : Scene → Related → Places → ℕ → Bool
may_start scene w set p =
    not (list_any set (linked w.odds p))
    && (not (list_any (is_down scene.components) (linked w.components p)) && is_ready scene p)

-- It is seen at once that nothing counts against a controller: it is no member; or all that it precedes are members,
-- and it could start if it is to.
abbrev pub is_clear : Scene → Related → Places → Places → ℕ → Bool
is_clear scene w set on p =
    not (set p) || (not (list_any (λ q. not (set q)) (linked w.followers p)) && (not (on p) || may_start scene w set p))
