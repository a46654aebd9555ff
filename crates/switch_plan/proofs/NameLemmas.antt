-- Controllers by the places of their names.
use Rattle.std.proofs.Common.{◌≡◌, ℕ, ◌+◌, ◌<◌, Bool, true, false, cond, List, [], ◌∷◌, ◌++◌, length, map, get_or, take}
use Rattle.std.proofs.Common.{Some, None, refl, sym, ◌∙◌, ap, ap₂, arith, length-take}
use Rattle.std.specs.Prelude.{position, ◌==◌, slice_get}
use Rattle.std.specs.Cmp.{both_ways}
use Rattle.std.specs.List.{All, Contains, IsDistinct, list_any, find}
use Rattle.std.proofs.lemmas.Bool.{eqb-true, eq-eqb, true≢false, false_from_ne_true}
use Rattle.std.proofs.lemmas.List.{take_more, take-map, get_or-take, get_or-map, map-append, length-map}
use Rattle.std.proofs.lemmas.List.Elements.{All-contains}
use Rattle.std.proofs.lemmas.List.Folds.{list_any_none}
use Rattle.std.proofs.lemmas.List.Quantifiers.{position-Some}
use Rattle.std.proofs.lemmas.Map.Keys.{apart_from_distinct}
use Rattle.std.proofs.lemmas.Option.{slice_get-get_or}
use Rattle.indexmap.specs.IndexSet.{insert_key}
use Rattle.iface_names.specs.Names.{same_name}
use Rattle.iface_names.proofs.PlaceLemmas.{none_passes}
use Rattle.cm_document.specs.declared.description.CtlDesc.{CtlDesc}
use Rattle.cm_document.proofs.DistinctLemmas.{one_place}
use Rattle.cm_model.specs.Order.{nobody}
use Rattle.cm_model.specs.Scene.{Scene, controllers_in, described, loaded_of}
use Rattle.cm_model.specs.declared.seen.Seen.{Seen}
use Rattle.switch_plan.proofs.CauseLemmas.{same_names, name_itself}
use Rattle.switch_plan.proofs.ElementLemmas.{here, later, none_found}

-- the names of these controllers
abbrev pub names_of : List CtlDesc → List (List ℕ)
names_of cs = map (λ c. c.name) cs

-- names that differ do so either way
differ_back : (a b : List ℕ) → same_name a b ≡ false → same_name b a ≡ false
differ_back a b apart =
    false_from_ne_true (same_name b a)
    (λ same. true≢false (sym (ap (same_name a) (same_names b a same) ∙ name_itself a) ∙ apart))

-- tests that answer alike find the same
find_alike : {A : Type 0} (test other : A → Bool) (xs : List A) → ((x : A) → Contains xs x → test x ≡ other x)
    → find test xs ≡ find other xs
find_alike test other [] alike = refl
find_alike test other (x ∷ xs) alike =
    ap₂ (λ found rest. cond found (Some x) rest) (alike x (here x xs))
    (find_alike test other xs (λ y inside. alike y (later x xs y inside)))

-- ---- One more name

module _ (cs : List CtlDesc) (distinct : IsDistinct same_name (names_of cs)) (i : ℕ) (c : CtlDesc)
    (below : i < length cs) (is : c ≡ get_or cs i c) where
  apart_from_earlier : (k : ℕ) (d : List ℕ) → k < length (names_of (take i cs))
      → same_name c.name (get_or (names_of (take i cs)) k d) ≡ false
  apart_from_earlier k d earlier =
      let long : length (names_of (take i cs)) ≡ length (take i cs) = length-map (take i cs) (λ c. c.name) in
      let before : k < i = omega (arith, earlier, long, length-take i cs) in
      let all : length (names_of cs) ≡ length cs = length-map cs (λ c. c.name) in
      let there : i < length (names_of cs) = omega (arith, below, all) in
      let one : get_or (names_of (take i cs)) k d ≡ get_or (names_of cs) k d =
      ap (λ names. get_or names k d) (sym (take-map (λ c. c.name) i cs)) ∙ get_or-take i (names_of cs) k d before in
      let other : get_or (names_of cs) i d ≡ c.name =
      get_or-map (λ c. c.name) cs i c d below ∙ ap (λ (c : CtlDesc). c.name) (sym is) in
      differ_back (get_or (names_of (take i cs)) k d) c.name
      (ap₂ same_name one (sym other) ∙ apart_from_distinct same_name (names_of cs) k i d distinct before there)

  -- the name of one more controller is none of those before it, and goes last
  pub name_last : (name : List ℕ) → name ≡ c.name
      → insert_key same_name (names_of (take i cs)) name ≡ names_of (take (i + 1) cs)
  name_last name same =
      let new : list_any (same_name c.name) (names_of (take i cs)) ≡ false =
      list_any_none (same_name c.name) (names_of (take i cs)) apart_from_earlier in
      ap (insert_key same_name (names_of (take i cs))) same
      ∙ ap (λ known. cond known (names_of (take i cs)) (names_of (take i cs) ++ c.name ∷ [])) new
      ∙ sym (ap names_of (take_more cs i c below ∙ ap (λ c. take i cs ++ c ∷ []) (sym is))
      ∙ map-append (λ c. c.name) (take i cs) (c ∷ []))

-- ---- Loaded controllers

module _ (scene : Scene) (within : All (λ l. l.place < length (controllers_in scene)) scene.loaded) where
  -- the name at the place of a loaded controller is its own
  name_there : (l : Seen) → Contains scene.loaded l
      → (l.place < length (names_of (controllers_in scene)))
      × (get_or (names_of (controllers_in scene)) l.place [] ≡ (described scene l.place).name)
  name_there l inside =
      let below : l.place < length (controllers_in scene) =
      All-contains (λ (l : Seen). l.place < length (controllers_in scene)) scene.loaded l within inside in
      let all : length (names_of (controllers_in scene)) ≡ length (controllers_in scene) =
      length-map (controllers_in scene) (λ c. c.name) in (
        omega (arith, below, all),
        get_or-map (λ c. c.name) (controllers_in scene) l.place nobody [] below,
      )

  -- where a name has no place, none is loaded of it
  pub none_of_name : (name : List ℕ) → position (same_name name) (names_of (controllers_in scene)) ≡ None
      → loaded_of scene name ≡ None
  none_of_name name none =
      none_found (λ l. same_name (described scene l.place).name name) scene.loaded
      (λ l inside. let at = name_there l inside in
      differ_back name (described scene l.place).name
      (ap (same_name name) (sym at.1)
      ∙ none_passes (same_name name) (names_of (controllers_in scene)) none l.place [] at.0))

  -- where names differ, the loaded controller of a name is the one at its place
  pub found_at_place : IsDistinct same_name (names_of (controllers_in scene)) → (name : List ℕ) (p : ℕ)
      → position (same_name name) (names_of (controllers_in scene)) ≡ Some p
      → find (λ l. l.place == p) scene.loaded ≡ loaded_of scene name
  found_at_place distinct name p is =
      let names = names_of (controllers_in scene) in
      let first = position-Some (same_name name) names p [] is in
      let same : name ≡ get_or names p [] = same_names name (get_or names p []) first.1 in
      find_alike (λ l. l.place == p) (λ l. same_name (described scene l.place).name name) scene.loaded
      (λ l inside. let at = name_there l inside in
      both_ways (l.place == p) (same_name (described scene l.place).name name)
      (λ here. ap (λ n. same_name n name)
      (sym at.1 ∙ ap (λ q. get_or names q []) (eqb-true l.place p here) ∙ sym same) ∙ name_itself name)
      (λ alike. eq-eqb l.place p
      (one_place same_name name_itself names distinct name l.place p
      (slice_get-get_or names l.place [] at.0
      ∙ ap Some (at.1 ∙ same_names (described scene l.place).name name alike))
      (slice_get-get_or names p [] first.0 ∙ ap Some (sym same)))))
