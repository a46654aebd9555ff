-- What requests are decided by.
use Rattle.std.specs.Prelude.{◌≡◌, ℕ, ◌<◌, ◌==◌, List, length, map}
use Rattle.std.specs.List.{All, IsDistinct}
use Rattle.cm_document.specs.declared.description.Description.{Description}
use Rattle.cm_document.specs.declared.life.Life.{Life}
use Rattle.cm_model.specs.Commit.{scene_of}
use Rattle.cm_model.specs.Components.{is_listed}
use Rattle.cm_model.specs.Order.{Places}
use Rattle.cm_model.specs.Scene.{Scene, has_seen, is_running}
use Rattle.cm_model.specs.State.{State}
use Rattle.cm_model.specs.Steady.{IsSteady}
use Rattle.cm_model.specs.declared.seen.Seen.{Seen}
use Rattle.request_plan.specs.declared.situation.Situation.{Situation}

-- the scene of what is seen
abbrev pub scene_with : Description → List Seen → List Life → Scene
scene_with d loaded lives = record { description = d; loaded = loaded; components = lives }

-- each loaded controller has its place in the description, and each component its lifecycle state
pub record IsSituation (d : Description) (situation : Situation) : Type 0 where
  pub within : All (λ l. l.place < length d.controllers) situation.loaded.items
  pub counted : length situation.lives.items ≡ length d.components

-- This is seen of a state that is steady and whose serials differ.
pub record IsSeenOf (s : State) (d : Description) (situation : Situation) : Type 0 where
  pub steady : IsSteady s
  pub once : IsDistinct (λ m n. m == n) (map (λ l. l.serial) s.loaded)
  pub scene : scene_of s ≡ scene_with d situation.loaded.items situation.lives.items

-- the controllers that are loaded under one of these serials
abbrev pub of_serials : List Seen → List ℕ → Places
of_serials loaded serials = has_seen (λ l. is_listed serials l.serial) loaded

-- the active ones
abbrev pub running : List Seen → Places
running loaded = has_seen (λ l. is_running l.life) loaded
