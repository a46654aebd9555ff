-- What a switch of best effort comes to, part by part.
use Rattle.std.proofs.Common.{◌≡◌, ℕ, List, [], ◌++◌, ◌∙◌, ap, ap₂}
use Rattle.std.specs.Prelude.{◌&&◌, not, filter_map}
use Rattle.cm_document.specs.declared.call.Pick.{Pick}
use Rattle.cm_model.specs.Order.{Places, places_of}
use Rattle.cm_model.specs.Scene.{Scene, loaded_all}
use Rattle.cm_model.specs.Switches.{on_fault, done, planned}
use Rattle.cm_model.specs.BestEffort.{faulty, faultless, stays, kept_drop, joining}
use Rattle.cm_model.specs.BestEffort.{best_joined, best_leaving, best_asked}
use Rattle.cm_model.specs.declared.cause.Dropped.{Dropped}
use Rattle.cm_model.specs.declared.member.Member.{Member}

module _ (scene : Scene) (ms : List Member) (leaving staying kept : Places) (is : leaving ≡ places_of ms)
    (stay : staying ≡ stays scene leaving) (rest : kept ≡ (λ p. leaving p && not (staying p))) where
  stay_of : staying ≡ stays scene (places_of ms)
  stay_of = stay ∙ ap (stays scene) is

  -- the plan of those that were asked is that of those that leave
  pub asked-made : (dropped after : List Dropped) (on : List Pick)
      → after ≡ dropped ++ filter_map (kept_drop scene staying) ms
      → planned scene (best_leaving scene kept after on) ≡ planned scene (best_asked scene ms dropped on)
  asked-made dropped after on drops =
      ap₂ (λ l d. planned scene (best_leaving scene l d on))
      (rest ∙ ap₂ (λ (l s : Places). let both : Places = λ p. l p && not (s p) in both) is stay_of)
      (drops ∙ ap (λ s. dropped ++ filter_map (kept_drop scene s) ms) stay_of)

-- the plan of what joined is that of those that leave
pub leaving-made : (scene : Scene) (leaving set again : Places) (before after all : List Dropped) (coming : List Member)
    (on : List Pick)
    → coming ≡ loaded_all scene (faultless (on_fault scene leaving) [] on)
    → after ≡ before ++ faulty (on_fault scene leaving) [] on
    → record { set = set; dropped = all } ≡ joining scene leaving after coming → again ≡ (λ p. leaving p && set p)
    → planned scene (done all set again) ≡ planned scene (best_leaving scene leaving before on)
leaving-made scene leaving set again before after all coming on members drops joined both =
    ap (λ r. planned scene (done all set r)) both
    ∙ ap (λ j. planned scene (best_joined leaving j)) (joined ∙ ap₂ (λ d ms. joining scene leaving d ms) drops members)
