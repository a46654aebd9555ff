-- The wanted controllers: where they are described, and what speaks against them whatever else is wanted.
use Rattle.std.specs.Prelude.{◌≡◌, ℕ, ◌==◌, if◌then◌else◌, List, [], ◌∷◌, ◌++◌, position, Some, None, Option}
use Rattle.std.specs.Prelude.{Result, Ok, Err}
use Rattle.std.specs.List.{list_any}
use Rattle.iface_names.specs.Names.{same_name}
use Rattle.cm_document.specs.Params.{kind_of}
use Rattle.cm_document.specs.Valid.{repeated_after}
use Rattle.cm_document.specs.declared.description.CtlDesc.{CtlDesc}
use Rattle.cm_model.specs.Blanks.{blanks_of, with_one_less}
use Rattle.cm_model.specs.Kinds.{is_refused}
use Rattle.cm_model.specs.Order.{Places, controller_at}
use Rattle.cm_model.specs.declared.blanks.Blanks.{Blanks}
use Rattle.spawn_plan.specs.declared.fault.SpawnFault.{SpawnFault}
use Rattle.spawn_plan.specs.declared.fault.SpawnFault.TheVariants as fault

-- ---- Places

-- the place of the described controller of this name
abbrev pub place_in : List CtlDesc → List ℕ → Option ℕ
place_in controllers name = position (λ c. same_name c.name name) controllers

-- the places of these names behind those that were found, in order; else the first name that is not described
abbrev pub places_after : List CtlDesc → List ℕ → List (List ℕ) → Result (List ℕ) SpawnFault
places_after controllers found [] = Ok found
places_after controllers found (name ∷ names) =
    elim (place_in controllers name) [
      | None ↦ Err (fault.NotDescribed name)
      | Some place ↦ places_after controllers (found ++ place ∷ []) names
    ]

-- the places of the wanted controllers, in the wanted order
abbrev pub places_in : List CtlDesc → List (List ℕ) → Result (List ℕ) SpawnFault
places_in controllers wanted = places_after controllers [] wanted

-- the wanted controllers, as a set
abbrev pub is_wanted : List ℕ → Places
is_wanted places p = list_any (λ place. place == p) places

-- ---- What speaks against them

-- no name is wanted twice: else the first that stands earlier too
abbrev pub each_once : List (List ℕ) → Result (Unit {0}) SpawnFault
each_once wanted = elim (repeated_after same_name [] wanted) [ None ↦ Ok tt | Some name ↦ Err (fault.Twice name) ]

-- each takes a blank of its kind: else the first for which those before it have used them up
abbrev pub have_blanks : List CtlDesc → Blanks → List ℕ → Result (Unit {0}) SpawnFault
have_blanks controllers blanks [] = Ok tt
have_blanks controllers blanks (place ∷ places) =
    let c = controller_at controllers place in
    if blanks_of blanks (kind_of c.params) == 0 then Err (fault.NoBlank c.name)
    else have_blanks controllers (with_one_less blanks (kind_of c.params)) places

-- These are the places of names of which each is described and wanted once.
pub record AreWanted (controllers : List CtlDesc) (wanted : List (List ℕ)) (places : List ℕ) : Type 0 where
  pub described : places_in controllers wanted ≡ Ok places
  pub once : each_once wanted ≡ Ok tt

-- none refuses to be configured: else the first that does
abbrev pub can_be_configured : List CtlDesc → List ℕ → Result (Unit {0}) SpawnFault
can_be_configured controllers [] = Ok tt
can_be_configured controllers (place ∷ places) =
    let c = controller_at controllers place in
    if is_refused c.params then Err (fault.RefusesConfig c.name) else can_be_configured controllers places
