-- What a strict switch comes to, part by part.
use Rattle.std.proofs.Common.{◌≡◌, ℕ, List, [], Some, None, sym, ◌∙◌, ap, ap₂}
use Rattle.std.specs.Prelude.{◌&&◌, ◌||◌, not}
use mathlib.Core.Path.{fun_ext}
use Rattle.cm_document.specs.Picks.{picked_names}
use Rattle.cm_document.specs.declared.call.Pick.{Pick}
use Rattle.cm_model.specs.Order.{Places}
use Rattle.cm_model.specs.Scene.{Scene, active, named}
use Rattle.cm_model.specs.Switches.{off_fault, on_fault, first_fault, switched, first_member_fault}
use Rattle.cm_model.specs.Switches.{refused, done, unless_because, strict_between, strict, planned}
use Rattle.cm_model.specs.declared.cause.Dropped.{Dropped}

-- the set that a switch leads to, made in two steps
pub switched-made : (scene : Scene) (idle old leaving coming set : Places) → ((p : ℕ) → old p ≡ active scene p)
    → idle ≡ (λ p. old p && not (leaving p))
    → set ≡ (λ p. idle p || coming p) → set ≡ switched scene leaving coming
switched-made scene idle old leaving coming set was without either =
    fun_ext (λ p. ap (λ f. f p) either
    ∙ ap (λ a. a || coming p) (ap (λ f. f p) without ∙ ap (λ a. a && not (leaving p)) (was p)))

module _ (scene : Scene) (leaving coming set : Places) (is : set ≡ switched scene leaving coming) where
  -- refused because of a member
  pub between-refused : (d : Dropped) → first_member_fault scene set coming ≡ Some d
      → planned scene (strict_between scene leaving coming) ≡ planned scene (refused d)
  between-refused d found =
      ap (λ o. planned scene (unless_because o (done [] (switched scene leaving coming) (λ p. leaving p && coming p))))
      (ap (λ s. first_member_fault scene s coming) (sym is) ∙ found)

  -- done
  pub between-done : (again : Places) → again ≡ (λ p. leaving p && coming p)
      → first_member_fault scene set coming ≡ None
      → planned scene (strict_between scene leaving coming) ≡ planned scene (done [] set again)
  between-done again both none =
      ap (λ o. planned scene (unless_because o (done [] (switched scene leaving coming) (λ p. leaving p && coming p))))
      (ap (λ s. first_member_fault scene s coming) (sym is) ∙ none)
      ∙ ap₂ (λ s r. planned scene (done [] s r)) (sym is) (sym both)

module _ (scene : Scene) (off on : List Pick) where
  -- refused because of a name to deactivate
  pub strict-off : (d : Dropped) → first_fault (off_fault scene) [] off ≡ Some d
      → planned scene (strict scene off on) ≡ planned scene (refused d)
  strict-off d found =
      ap (λ o. planned scene
      (unless_because o
      (unless_because (first_fault (on_fault scene (named scene (picked_names off))) [] on)
      (strict_between scene (named scene (picked_names off)) (named scene (picked_names on)))))) found

  -- refused because of a name to activate
  pub strict-on : (leaving : Places) (d : Dropped) → leaving ≡ named scene (picked_names off)
      → first_fault (off_fault scene) [] off ≡ None → first_fault (on_fault scene leaving) [] on ≡ Some d
      → planned scene (strict scene off on) ≡ planned scene (refused d)
  strict-on leaving d is none found =
      ap (λ o. planned scene
      (unless_because o
      (unless_because (first_fault (on_fault scene (named scene (picked_names off))) [] on)
      (strict_between scene (named scene (picked_names off)) (named scene (picked_names on)))))) none
      ∙ ap (λ o. planned scene
      (unless_because o (strict_between scene (named scene (picked_names off)) (named scene (picked_names on)))))
      (ap (λ l. first_fault (on_fault scene l) [] on) (sym is) ∙ found)

  -- decided by the sets
  pub strict-sets : (leaving coming : Places) → leaving ≡ named scene (picked_names off)
      → coming ≡ named scene (picked_names on) → first_fault (off_fault scene) [] off ≡ None
      → first_fault (on_fault scene leaving) [] on ≡ None
      → planned scene (strict scene off on) ≡ planned scene (strict_between scene leaving coming)
  strict-sets leaving coming is are none neither =
      ap (λ o. planned scene
      (unless_because o
      (unless_because (first_fault (on_fault scene (named scene (picked_names off))) [] on)
      (strict_between scene (named scene (picked_names off)) (named scene (picked_names on)))))) none
      ∙ ap (λ o. planned scene
      (unless_because o (strict_between scene (named scene (picked_names off)) (named scene (picked_names on)))))
      (ap (λ l. first_fault (on_fault scene l) [] on) (sym is) ∙ neither)
      ∙ ap₂ (λ l c. planned scene (strict_between scene l c)) (sym is) (sym are)
