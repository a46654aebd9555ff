-- What calls that conclude a request ask and promise.
use Rattle.std.specs.Prelude.{◌≡◌, ◌<◌, List, length}
use Rattle.std.specs.List.{All}
use Rattle.cm_document.specs.declared.description.Description.{Description}
use Rattle.cm_model.specs.State.{State}
use Rattle.cm_model.specs.declared.request.Request.{Request}
use Rattle.cm_model.specs.declared.seen.Seen.{Seen}
use Rattle.switch_plan.specs.Relations.{Related, relations_of}
use Rattle.request_plan.specs.Acts.{IsConclusionOf, IsActWithin}
use Rattle.request_plan.specs.Situations.{IsSituation, IsSeenOf}
use Rattle.request_plan.specs.declared.acts.Conclusion.{Conclusion}
use Rattle.request_plan.specs.declared.situation.Situation.{Situation}

-- It can be decided by these: the relations are those of the description, and the situation fits it.
pub record CanDecide (d : Description) (related : Related) (now : Situation) : Type 0 where
  pub relations : related ≡ relations_of d
  pub situation : IsSituation d now

-- A switch can be carried out by these: the relations are those of the description, and each loaded controller has its
-- place in it.
pub record CanSwitch (d : Description) (related : Related) (loaded : List Seen) : Type 0 where
  pub relations : related ≡ relations_of d
  pub within : All (λ l. l.place < length d.controllers) loaded

-- This is concluded of a request in each state of which this is seen, and it moves no component but one that is seen.
pub record Concludes (d : Description) (now : Situation) (asked : Request) (c : Conclusion) : Type 0 where
  pub concluded : (s : State) → IsSeenOf s d now → IsConclusionOf s asked c
  pub within : IsActWithin (length now.lives.items) c.act
