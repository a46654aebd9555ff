-- Bodies as they are kept, and as contracts see them.
use Rattle.std.proofs.Common.{◌≡◌, ℕ, zero, suc, ◌+◌, ◌<◌, ◌^◌, List, [], ◌∷◌, length, map, get_or, take}
use Rattle.std.proofs.Common.{drop, replicate, set, Option, None, refl, sym, ap, ap₂, ◌++◌, ◌∙◌, arith}
use Rattle.std.specs.Prelude.{zip, Bool, true, false}
use Rattle.std.specs.List.{range_with_len}
use Rattle.std.proofs.lemmas.Simd.{map-map}
use Rattle.std.proofs.lemmas.List.{append_assoc, drop_more, length-map, length-replicate}
use Rattle.std.proofs.lemmas.Slice.Zip.{length-zip, get_or-zip}
use Rattle.iface_names.specs.declared.kind.Kind.{Kind}
use Rattle.sequence.proofs.ListLemmas.{written_more, not_yet_written}
use Rattle.fixed_num.specs.Bodies.{stopped, stepped}
use Rattle.fixed_num.specs.declared.value.Value.{Value}
use Rattle.fixed_num.specs.declared.value.Value.TheVariants.{Unset}
use Rattle.joint_body.specs.Simulated.{Simulated}
use Rattle.cm_document.specs.declared.description.CompDesc.{CompDesc}
use Rattle.cm_document.specs.declared.description.JointDesc.{JointDesc}
use Rattle.cm_model.specs.declared.component.JointInterface.{JointInterface}
use Rattle.cm_model.specs.Components.{write_runs, plant_of, interfaces_from, state_interfaces, command_interfaces}
use Rattle.cm_model.specs.Components.{claim_on, mode_of, command_of, driven_bodies, bodies_after_step}
use Rattle.hw_component.specs.Hardware.{Hardware, at_start, after_step}
use Rattle.hw_component.specs.Drives.{states_in, plants_in, body_made, driven, each_driven}
use Rattle.hw_component.specs.Drives.{at_rest, each_stepped, FitsDescription}

-- the states after a step of bodies that are those of joints
pub driven_states : (commands : List JointInterface) (values : List Value) (dt_us : ℕ) (joints : List JointDesc)
    (claimed : List (Option ℕ)) (bodies : List Simulated)
    → plants_in bodies ≡ map plant_of joints → length claimed ≡ length joints
    → states_in (each_driven commands values dt_us claimed bodies)
    ≡ driven_bodies commands values dt_us joints claimed (states_in bodies)
driven_states commands values dt_us [] [] bodies plants long = refl
driven_states commands values dt_us [] (claim ∷ claimed) bodies plants long = absurd (omega (arith, long))
driven_states commands values dt_us (j ∷ js) [] bodies plants long = absurd (omega (arith, long))
driven_states commands values dt_us (j ∷ js) (claim ∷ claimed) [] plants long = cc
driven_states commands values dt_us (j ∷ js) (claim ∷ claimed) (body ∷ bodies) plants long =
    let here : body.plant ≡ plant_of j = cc in
    let others : plants_in bodies ≡ map plant_of js = cc in
    rw here (ap (λ l. stepped (plant_of j) (mode_of commands claim) (command_of values claim) dt_us body.state ∷ l)
    (driven_states commands values dt_us js claimed bodies others (omega (arith, long))))

-- what stays of bodies stays in a step
pub driven_plants : (commands : List JointInterface) (values : List Value) (dt_us : ℕ) (claimed : List (Option ℕ))
    (bodies : List Simulated)
    → length claimed ≡ length bodies → plants_in (each_driven commands values dt_us claimed bodies) ≡ plants_in bodies
driven_plants commands values dt_us [] [] long = refl
driven_plants commands values dt_us [] (body ∷ bodies) long = absurd (omega (arith, long))
driven_plants commands values dt_us (claim ∷ claimed) [] long = absurd (omega (arith, long))
driven_plants commands values dt_us (claim ∷ claimed) (body ∷ bodies) long =
    ap (λ l. body.plant ∷ l) (driven_plants commands values dt_us claimed bodies (omega (arith, long)))

-- the same where nobody commands them
pub rest_states : (bodies : List Simulated) → states_in (map at_rest bodies) ≡ map stopped (states_in bodies)
rest_states [] = refl
rest_states (body ∷ bodies) = ap (λ l. stopped body.state ∷ l) (rest_states bodies)

pub rest_plants : (bodies : List Simulated) → plants_in (map at_rest bodies) ≡ plants_in bodies
rest_plants [] = refl
rest_plants (body ∷ bodies) = ap (λ l. body.plant ∷ l) (rest_plants bodies)

-- what is kept fits the description after a step
pub steps_fit : (is_commanded : Bool) (dt_us : ℕ) (c : CompDesc) (bodies : List Simulated) (claimed : List (Option ℕ))
    (states commands : List JointInterface) (applied : List Value)
    → FitsDescription c bodies claimed states commands applied
    → FitsDescription c (each_stepped is_commanded commands applied dt_us claimed bodies) claimed states commands
    applied
steps_fit true dt_us c bodies claimed states commands applied fits =
    let same = driven_plants commands applied dt_us claimed bodies (fits.each_claim ∙ sym fits.each_body) in
    record {
      few = fits.few;
      each_body = sym (length-map (each_driven commands applied dt_us claimed bodies) (λ body. body.plant))
          ∙ (ap length same ∙ (length-map bodies (λ body. body.plant) ∙ fits.each_body));
      plants = same ∙ fits.plants;
      each_claim = fits.each_claim;
      states_are = fits.states_are;
      commands_are = fits.commands_are;
      each_value = fits.each_value;
    }
steps_fit false dt_us c bodies claimed states commands applied fits = record {
  few = fits.few;
  each_body = length-map bodies at_rest ∙ fits.each_body;
  plants = rest_plants bodies ∙ fits.plants;
  each_claim = fits.each_claim;
  states_are = fits.states_are;
  commands_are = fits.commands_are;
  each_value = fits.each_value;
}

-- and the bodies are then what a step makes of them
pub steps_seen : (is_commanded : Bool) (dt_us : ℕ) (c : CompDesc) (bodies : List Simulated) (claimed : List (Option ℕ))
    (states commands : List JointInterface) (applied : List Value)
    → FitsDescription c bodies claimed states commands applied
    → states_in (each_stepped is_commanded commands applied dt_us claimed bodies)
    ≡ bodies_after_step c is_commanded claimed applied dt_us (states_in bodies)
steps_seen true dt_us c bodies claimed states commands applied fits =
    rw fits.commands_are
    (driven_states (command_interfaces c) applied dt_us c.joints claimed bodies fits.plants fits.each_claim)
steps_seen false dt_us c bodies claimed states commands applied fits = rest_states bodies

-- ---- At start

-- nothing is claimed of as many joints
nothing_claimed : (commands : List JointInterface) (joint n : ℕ)
    → ◌≡◌ {A = List (Option ℕ)} (replicate n None) (map (claim_on commands []) (range_with_len joint n))
nothing_claimed commands joint zero = refl
nothing_claimed commands joint (suc n) = ap (λ l. None ∷ l) (nothing_claimed commands (joint + 1) n)

-- what is kept at start fits the description
pub made_fits : (c : CompDesc) → length c.joints < 2 ^ 32
    → FitsDescription c (map body_made c.joints) (replicate (length c.joints) None) (state_interfaces c)
    (command_interfaces c) (replicate (length (command_interfaces c)) Unset)
made_fits c few = record {
  few = few;
  each_body = length-map c.joints body_made;
  plants = map-map (λ body. body.plant) body_made c.joints;
  each_claim = length-replicate (length c.joints) None;
  states_are = refl;
  commands_are = refl;
  each_value = length-replicate (length (command_interfaces c)) Unset;
}

-- and is seen as the component at start
pub made_seen : (c : CompDesc) → ◌≡◌ {A = Hardware} (record {
  description = c;
  life = c.initial;
  bodies = states_in (map body_made c.joints);
  claimed = replicate (length c.joints) None;
  commands = replicate (length (command_interfaces c)) Unset;
  written = false;
}) (at_start c)
made_seen c =
    rw (map-map (λ body. body.state) body_made c.joints, nothing_claimed (command_interfaces c) 0 (length c.joints))
    refl

-- in a step of a component that is not active each joint stands still
pub not_active : (h : Hardware) (dt_us : ℕ) → write_runs h.life ≡ false
    → (after_step h dt_us).bodies ≡ map stopped h.bodies
not_active h dt_us idle = rw idle refl

-- ---- Loops

-- the interfaces of one joint more
pub interfaces_more : (kinds : JointDesc → List Kind) (joints : List JointDesc) (n : ℕ) (j : JointDesc)
    (old new all : List JointInterface) → n < length joints
    → j ≡ get_or joints n j → new ≡ old ++ map (λ kind. record { joint = n; kind = kind }) (kinds j)
    → old ++ interfaces_from kinds n (drop n joints) ≡ all
    → new ++ interfaces_from kinds (n + 1) (drop (n + 1) joints) ≡ all
interfaces_more kinds joints n j old new all within is pushed so_far =
    let here : drop n joints ≡ j ∷ drop (n + 1) joints =
    drop_more joints n j within ∙ ap (λ x. x ∷ drop (n + 1) joints) (sym is) in
    rw pushed (append_assoc old (map (λ kind. record { joint = n; kind = kind }) (kinds j))
    (interfaces_from kinds (n + 1) (drop (n + 1) joints))
    ∙ (sym (ap (λ l. old ++ interfaces_from kinds n l) here) ∙ so_far))

-- one body more makes its step
pub driven_more : (commands : List JointInterface) (values : List Value) (dt_us : ℕ) (claimed : List (Option ℕ))
    (old now : List Simulated) (j : ℕ) (claim : Option ℕ) (body next : Simulated)
    → j < length claimed → length claimed ≡ length old
    → now ≡ map (λ p. driven commands values dt_us p.0 p.1) (take j (zip claimed old)) ++ drop j old
    → claim ≡ get_or claimed j claim → body ≡ get_or now j body → next ≡ driven commands values dt_us claim body
    → set now j next
    ≡ map (λ p. driven commands values dt_us p.0 p.1) (take (j + 1) (zip claimed old)) ++ drop (j + 1) old
driven_more commands values dt_us claimed old now j claim body next within same so_far is_claim is_body is_next =
    let f = λ (p : Option ℕ × Simulated). driven commands values dt_us p.0 p.1 in
    let pairs = length-zip claimed old in
    let inside : j < length (zip claimed old) = omega (arith, pairs, within, same) in
    let as_many : length old ≡ length (zip claimed old) = omega (arith, pairs, same) in
    let was : body ≡ get_or old j body =
    is_body ∙ not_yet_written f (zip claimed old) now old j body inside as_many so_far in
    let pair : (claim, body) ≡ get_or (zip claimed old) j (claim, body)
    = ap₂ (λ a b. (a, b)) is_claim was
    ∙ sym (get_or-zip claimed old j (claim, body) within (omega (arith, within, same))) in
    rw is_next (written_more f (zip claimed old) now old j (claim, body) inside as_many so_far pair)
