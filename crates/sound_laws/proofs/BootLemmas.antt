-- The state at boot is steady.
use Rattle.std.proofs.Common.{◌≡◌, ℕ, ◌+◌, ◌<◌, ◌≤◌, Bool, false, List, [], ◌∷◌, ◌++◌, length}
use Rattle.std.proofs.Common.{map, refl, sym, ◌∙◌, subst, ap, ap₂, true≢false, arith}
use Rattle.std.specs.Prelude.{flat_map}
use Rattle.std.specs.List.{AllByRecursion, IsDistinct}
use Rattle.std.proofs.lemmas.List.{length-append, length-map}
use Rattle.fixed_num.specs.declared.value.BodyState.{BodyState}
use Rattle.sequence.proofs.ListLemmas.{all_append}
use Rattle.iface_names.specs.declared.interface.IfaceName.{IfaceName}
use Rattle.iface_names.specs.declared.kind.Kind.{Kind}
use Rattle.cm_document.proofs.DistinctLemmas.{all_of, all_so, all_map}
use Rattle.cm_document.specs.Links.{joints_of}
use Rattle.cm_document.specs.Places.{Called, a_state, a_command, Interface, at_joint, at_joints}
use Rattle.cm_document.specs.Places.{at_components, at_controllers, interfaces_of}
use Rattle.cm_document.specs.declared.description.CompDesc.{CompDesc}
use Rattle.cm_document.specs.declared.description.Description.{Description}
use Rattle.cm_document.specs.declared.description.JointDesc.{JointDesc}
use Rattle.cm_model.proofs.InterfaceLemmas.{controllers_all}
use Rattle.cm_model.specs.Components.{body_at_start, bodies_at_start}
use Rattle.cm_model.specs.Loans.{IsEmptyUnless, IsUnsetUnlessClaimed}
use Rattle.cm_model.specs.State.{available_in, boot, lives_at_start, all_bodies_at_start}
use Rattle.cm_model.specs.Steady.{HoldsNumber, HasBody, IsSteady}
use Rattle.cm_model.specs.Values.{unset, running, is_state_of}
use Rattle.cm_model.specs.declared.blanks.Blanks.{Blanks}
use Rattle.sound_laws.proofs.ReadLemmas.{read_same, reads_same, reads_hold, reads_empty, reads_unclaimed}

-- ---- Joints of interfaces

module _ (call : IfaceName → Called) (kinds : JointDesc → List Kind) (n : ℕ) where
  joints_below : (component place : ℕ) (js : List JointDesc) → place + length js ≤ n
      → AllByRecursion (λ x. HasBody n x.whose) (at_joints call kinds component place js)
  joints_below component place [] most = tt
  joints_below component place (j ∷ js) most =
      let here : place < n = omega (arith, most) in
      all_append (λ x. HasBody n x.whose) (at_joint call kinds component place j)
      (at_joints call kinds component (place + 1) js)
      (all_map (λ x. HasBody n x.whose) _ (kinds j) (all_of _ (λ kind. here) (kinds j)))
      (joints_below component (place + 1) js (omega (arith, most)))

  components_below : (component place : ℕ) (cs : List CompDesc) → place + length (joints_of cs) ≤ n
      → AllByRecursion (λ x. HasBody n x.whose) (at_components call kinds component place cs)
  components_below component place [] most = tt
  components_below component place (c ∷ cs) most =
      let long : length (c.joints ++ joints_of cs) ≡ length c.joints + length (joints_of cs) =
      length-append c.joints (joints_of cs) in
      all_append (λ x. HasBody n x.whose) (at_joints call kinds component place c.joints)
      (at_components call kinds (component + 1) (place + length c.joints) cs)
      (joints_below component place c.joints (omega (arith, most, long)))
      (components_below (component + 1) (place + length c.joints) cs (omega (arith, most, long)))

-- Each listed interface is of one of the described joints, or a reference.
pub interfaces_below : (d : Description)
    → AllByRecursion (λ x. HasBody (length (joints_of d.components)) x.whose) (interfaces_of d)
interfaces_below d =
    let n = length (joints_of d.components) in
    all_append (λ x. HasBody n x.whose) (at_components a_state (λ j. j.states) 0 0 d.components)
    (at_components a_command (λ j. j.commands) 0 0 d.components ++ at_controllers 0 d.controllers)
    (components_below a_state (λ j. j.states) n 0 0 d.components (omega arith))
    (all_append (λ x. HasBody n x.whose) (at_components a_command (λ j. j.commands) 0 0 d.components)
    (at_controllers 0 d.controllers)
    (components_below a_command (λ j. j.commands) n 0 0 d.components (omega arith))
    (controllers_all (λ x. HasBody n x.whose) (λ p name. tt) 0 d.controllers))

-- ---- At start

bodies_count : (cs : List CompDesc) → length (flat_map bodies_at_start cs) ≡ length (joints_of cs)
bodies_count [] = refl
bodies_count (c ∷ cs) =
    length-append (bodies_at_start c) (flat_map bodies_at_start cs)
    ∙ ap₂ (λ m n. m + n) (length-map c.joints body_at_start) (bodies_count cs)
    ∙ sym (length-append c.joints (joints_of cs))

unset_same : (xs : List Interface) → map (λ v. v.interface) (map unset xs) ≡ xs
unset_same [] = refl
unset_same (x ∷ xs) = ap (λ ys. x ∷ ys) (unset_same xs)

module _ (d : Description) (blanks : Blanks) (sessions : ℕ) where
  abbrev bodies : List BodyState
  bodies = all_bodies_at_start d

  abbrev up : ℕ → Bool
  up = running (lives_at_start d)

  below : AllByRecursion (λ x. HasBody (length bodies) x.whose) (interfaces_of d)
  below = subst (λ n. AllByRecursion (λ x. HasBody n x.whose) (interfaces_of d)) (sym (bodies_count d.components))
      (interfaces_below d)

  unset_below : AllByRecursion (λ v. HasBody (length bodies) v.interface.whose) (map unset (interfaces_of d))
  unset_below = all_map (λ v. HasBody (length bodies) v.interface.whose) unset (interfaces_of d) below

  -- The state at boot is steady.
  pub boot_steady : IsSteady (boot d blanks sessions)
  unfolding IsDistinct
  boot_steady = record {
    in_order = record {
      once = tt;
      own = tt;
      marked = tt;
      counted = length-map d.components (λ (c : CompDesc). c.initial);
      described = reads_same up bodies (map unset (interfaces_of d)) ∙ unset_same (interfaces_of d);
      embodied = all_map (λ v. HasBody (length bodies) v.interface.whose) _ (map unset (interfaces_of d))
          (all_so (λ v. HasBody (length bodies) v.interface.whose) _
          (λ v has. subst (λ i. HasBody (length bodies) i.whose) (sym (read_same up bodies v)) has)
          (map unset (interfaces_of d)) unset_below);
      numbers = reads_hold up up bodies (map unset (interfaces_of d)) unset_below
          (all_map (λ v. is_state_of up v.interface ≡ false → HoldsNumber up v) unset (interfaces_of d)
          (all_of _ (λ x not_read state. absurd (true≢false (sym state ∙ not_read))) (interfaces_of d)));
      empty = reads_empty up (lives_at_start d) (λ p. false) bodies (λ c runs. runs) (map unset (interfaces_of d))
          (all_map (IsEmptyUnless (available_in (lives_at_start d) (λ p. false))) unset (interfaces_of d)
          (all_of _ (λ x gone. refl) (interfaces_of d)));
      unclaimed = reads_unclaimed up d.controllers (λ p. false) bodies (map unset (interfaces_of d))
          (all_map (IsUnsetUnlessClaimed d.controllers (λ p. false)) unset (interfaces_of d)
          (all_of _ (λ x command none. refl) (interfaces_of d)));
    };
    together = record {
      exclusive = λ p q i inside. absurd (true≢false (sym inside));
      one_mode = λ p q i j inside. absurd (true≢false (sym inside));
      available = λ p i inside. absurd (true≢false (sym inside));
      followed = λ p i inside. absurd (true≢false (sym inside));
    };
  }
