-- Controllers that the names of a list met so far.
use Rattle.std.proofs.Common.{◌≡◌, ℕ, Bool, true, false, List, [], ◌∷◌, ◌++◌, Option, Some, None, refl, sym, ◌∙◌, ap}
use Rattle.std.proofs.Math.Path.{fun_ext}
use Rattle.std.specs.Prelude.{◌==◌, ◌||◌, option_map}
use Rattle.std.specs.Cmp.{both_ways}
use Rattle.std.specs.List.{list_any, cons_option}
use Rattle.std.specs.Option.{option_map_or}
use Rattle.iface_names.specs.Names.{same_name}
use Rattle.cm_model.specs.Order.{Places}
use Rattle.cm_model.specs.Scene.{Scene, described, loaded_of, loaded_all, member, named}
use Rattle.cm_model.specs.Switches.{off_cause, on_cause}
use Rattle.cm_model.specs.Order.{set_of}
use Rattle.cm_model.specs.declared.member.Member.{Member}
use Rattle.cm_model.specs.declared.seen.Seen.{Seen}
use Rattle.switch_plan.specs.Lists.{fault_met, list_fault}
use Rattle.switch_plan.proofs.CauseLemmas.{same_names, name_itself, loaded_called, named_back, named_from}
use Rattle.switch_plan.proofs.ElementLemmas.{any_from, some_of}

swap : (a t b : Bool) → (a || (t || b)) ≡ (t || (a || b))
swap true true b = refl
swap true false b = refl
swap false true b = refl
swap false false b = refl

-- the controller of a name has this place
abbrev pub is_at : ℕ → Option Seen → Bool
is_at p seen = option_map_or (λ l. l.place == p) seen false

last_named : (o : Option Seen) (p : ℕ)
    → list_any (λ m. m.place == p) (cons_option (option_map member o) []) ≡ (is_at p o || false)
last_named None p = refl
last_named (Some l) p = refl

one_before : (o : Option Seen) (t : Bool) (ms more : List Member) (p : ℕ)
    → list_any (λ m. m.place == p) more ≡ (t || list_any (λ m. m.place == p) ms)
    → list_any (λ m. m.place == p) (cons_option (option_map member o) more)
    ≡ (t || list_any (λ m. m.place == p) (cons_option (option_map member o) ms))
one_before None t ms more p e = e
one_before (Some l) t ms more p e =
    ap (λ b. l.place == p || b) e ∙ swap (l.place == p) t (list_any (λ m. m.place == p) ms)

named_push : (scene : Scene) (before : List (List ℕ)) (name : List ℕ) (p : ℕ)
    → named scene (before ++ name ∷ []) p ≡ (is_at p (loaded_of scene name) || named scene before p)
named_push scene [] name p = last_named (loaded_of scene name) p
named_push scene (n ∷ before) name p =
    one_before (loaded_of scene n) (is_at p (loaded_of scene name)) (loaded_all scene before)
    (loaded_all scene (before ++ name ∷ [])) p (named_push scene before name p)

-- with the controller of one more name, these are the controllers of all
pub met_push : (scene : Scene) (name : List ℕ) (seen : Option Seen) (before : List (List ℕ))
    → seen ≡ loaded_of scene name
    → (λ p. option_map_or (λ l. l.place == p) seen false || named scene before p) ≡ named scene (before ++ name ∷ [])
met_push scene name seen before e =
    fun_ext (λ p. ap (λ o. is_at p o || named scene before p) e ∙ sym (named_push scene before name p))

-- the name of a loaded controller stands among these where one of them names it
met_twice : (scene : Scene) (before : List (List ℕ)) (name : List ℕ) (l : Seen) → loaded_of scene name ≡ Some l
    → named scene before l.place ≡ list_any (same_name name) before
met_twice scene before name l is = both_ways (named scene before l.place) (list_any (same_name name) before)
    (λ met. any_from (same_name name) before (described scene l.place).name (named_back scene before l.place met)
    (ap (same_name name) (loaded_called scene name l is).name_is ∙ name_itself name))
    (λ any. let r = some_of (same_name name) before any in
    named_from scene before r.0 l r.1 (ap (loaded_of scene) (sym (same_names name r.0 r.2)) ∙ is))

-- so what speaks against it is told by the controllers that were met
pub met_fault : (scene : Scene) (leaving : Option (List Bool)) (before : List (List ℕ)) (name : List ℕ)
    (seen : Option Seen) (met : Places)
    → seen ≡ loaded_of scene name → met ≡ named scene before
    → fault_met leaving met seen ≡ list_fault scene leaving before name
met_fault scene None before name None met e same = rw (← e) refl
met_fault scene (Some leaving) before name None met e same = rw (← e) refl
met_fault scene None before name (Some l) met e same =
    rw (← e) (ap (λ (m : Places). off_cause (m l.place) l) same
    ∙ ap (λ b. off_cause b l) (met_twice scene before name l (sym e)))
met_fault scene (Some leaving) before name (Some l) met e same =
    rw (← e) (ap (λ (m : Places). on_cause (set_of leaving) (m l.place) l) same
    ∙ ap (λ b. on_cause (set_of leaving) b l) (met_twice scene before name l (sym e)))
