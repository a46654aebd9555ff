-- What a view shows.
use Rattle.std.specs.Prelude.{◌≡◌, ℕ, ◌<◌, Bool, List, length}
use Rattle.std.specs.List.{All}
use Rattle.cm_model.specs.Scene.{Scene, controllers_in}
use Rattle.cm_model.specs.declared.member.Member.{Member}
use Rattle.switch_plan.specs.declared.view.View.{View}

-- the scene of a view
abbrev pub scene_of : View → Scene
scene_of v = record { description = v.checked.now; loaded = v.loaded.now; components = v.components.now }

-- each loaded controller has its place in the description
abbrev pub IsView : View → Type 0
IsView v = All (λ l. l.place < length v.checked.now.controllers) v.loaded.now

-- a described controller has this place
abbrev pub IsPlace : Scene → ℕ → Type 0
IsPlace scene p = p < length (controllers_in scene)

-- each of these has its place
abbrev pub HavePlaces : Scene → List Member → Type 0
HavePlaces scene members = All (λ m. m.place < length (controllers_in scene)) members

-- there is a flag for each place
abbrev pub HasFlags : Scene → List Bool → Type 0
HasFlags scene flags = length flags ≡ length (controllers_in scene)
