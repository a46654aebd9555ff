-- The outputs of a controller go to the places of its claims, one after the other.
use Rattle.std.proofs.Common.{◌≡◌, ℕ, zero, suc, Bool, true, false, List, [], ◌∷◌, length, map}
use Rattle.std.proofs.Common.{set, get_or, Some, None, inl, inr, refl, sym, ap, ap₂, ◌∙◌, arith}
use Rattle.std.specs.Prelude.{if◌then◌else◌, slice_get, filter_map}
use Rattle.std.specs.List.{AllByRecursion, IsDistinct}
use Rattle.std.specs.Option.{option_map}
use Rattle.std.proofs.lemmas.Bool.{and_parts, cases_Bool, false_from_ne_true}
use Rattle.std.proofs.lemmas.Option.{slice_get-map}
use Rattle.fixed_num.specs.declared.value.Value.{Value}
use Rattle.iface_names.specs.Interfaces.{same_interface}
use Rattle.iface_names.specs.Sameness.{same_interface-Decides, same_interface-IsEquivalence}
use Rattle.iface_names.specs.declared.interface.IfaceName.{IfaceName}
use Rattle.cm_document.specs.Places.{Interface, interfaces_of, called_in, EachStandsOnce}
use Rattle.cm_document.specs.Valid.{IsValid}
use Rattle.cm_document.specs.declared.description.Description.{Description}
use Rattle.cm_document.proofs.PlaceLemmas.{IsValid-EachStandsOnce}
use Rattle.cm_model.specs.Claims.{is_command_named, output_for, given_of, given}
use Rattle.cm_model.specs.Order.{controller_at}
use Rattle.cm_model.specs.Values.{InterfaceValue}
use Rattle.chain_order.specs.Links.{linked}
use Rattle.cm_places.specs.Placed.{command_place, placed_of, AreValuesOf, with_value, with_outputs}
use Rattle.cm_places.proofs.ExistLemmas.{claims_found, claims_apart}
use Rattle.cm_places.proofs.FirstLemmas.{IsFound, found_at}
use Rattle.cm_places.proofs.PlacedLemmas.{called_as, claims_row, value_found}

-- ---- One place

pub with_value-interfaces : (values : List InterfaceValue) (place : ℕ) (x : Value)
    → map (λ v. v.interface) (with_value values place x) ≡ map (λ v. v.interface) values
with_value-interfaces [] place x = refl
with_value-interfaces (v ∷ vs) zero x = refl
with_value-interfaces (v ∷ vs) (suc place) x = ap (λ is. v.interface ∷ is) (with_value-interfaces vs place x)

-- it holds this value
abbrev holding : Value → InterfaceValue → InterfaceValue
holding x v = record v { value = x }

pub with_value-same : (values : List InterfaceValue) (place : ℕ) (x : Value) (v : InterfaceValue)
    → slice_get values place ≡ Some v
    → slice_get (with_value values place x) place ≡ Some (record v { value = x })
with_value-same [] place x v at = cc
with_value-same (first ∷ vs) zero x v at = ap (option_map (holding x)) at
with_value-same (first ∷ vs) (suc place) x v at = with_value-same vs place x v at

pub with_value-other : (values : List InterfaceValue) (place other : ℕ) (x : Value) → (other ≡ place → ⊥)
    → slice_get (with_value values place x) other ≡ slice_get values other
with_value-other [] place other x differ = refl
with_value-other (v ∷ vs) zero zero x differ = absurd (differ refl)
with_value-other (v ∷ vs) zero (suc other) x differ = refl
with_value-other (v ∷ vs) (suc place) zero x differ = refl
with_value-other (v ∷ vs) (suc place) (suc other) x differ =
    with_value-other vs place other x (λ same. differ (ap suc same))

-- what is kept for each interface changes at that place alone
pub with_value-map : {B : Type 0} (f : InterfaceValue → B) (change : B → B) (x : Value) (none : B)
    → ((v : InterfaceValue) → f (record v { value = x }) ≡ change (f v))
    → (values : List InterfaceValue) (place : ℕ)
    → map f (with_value values place x) ≡ set (map f values) place (change (get_or (map f values) place none))
with_value-map f change x none changes [] place = refl
with_value-map f change x none changes (v ∷ vs) zero = ap (λ y. y ∷ map f vs) (changes v)
with_value-map f change x none changes (v ∷ vs) (suc place) =
    ap (λ ys. f v ∷ ys) (with_value-map f change x none changes vs place)

pub with_outputs-interfaces : (values : List InterfaceValue) (places : List ℕ) (outs : List Value)
    → map (λ v. v.interface) (with_outputs values places outs) ≡ map (λ v. v.interface) values
with_outputs-interfaces values [] outs = refl
with_outputs-interfaces values (place ∷ places) [] = refl
with_outputs-interfaces values (place ∷ places) (out ∷ outs) =
    with_outputs-interfaces (with_value values place out) places outs ∙ with_value-interfaces values place out

-- ---- One claim

-- what is no claim is given nothing
output_none : (claims : List IfaceName) (outs : List Value) (name : IfaceName)
    → AllByRecursion (λ claim. same_interface name claim ≡ false) claims → output_for claims outs name ≡ None
output_none [] outs name none = refl
output_none (claim ∷ claims) [] name none = refl
output_none (claim ∷ claims) (out ∷ outs) name none =
    rw (same_interface-IsEquivalence.symm claim name, none.0) (output_none claims outs name none.1)

module _ (claim : IfaceName) (claims : List IfaceName) (out : Value) (outs : List Value) where
  -- the interface of the first claim is given the first output, and no other claim is the same
  given_here : (v : InterfaceValue) → AllByRecursion (λ other. same_interface claim other ≡ false) claims
      → is_command_named claim v.interface.called ≡ true
      → given_of (claim ∷ claims) (out ∷ outs) v ≡ given_of claims outs (record v { value = out })
  given_here v apart named =
      let both = and_parts v.interface.called.is_command (same_interface v.interface.called.name claim) named in
      let same = (same_interface-Decides v.interface.called.name claim).0 both.1 in
      let itself = same_interface-IsEquivalence.refl claim in
      let none = output_none claims outs claim apart in
      rw (both.0, same, itself, none) refl

  -- to another interface the first claim gives nothing
  given_other : (v : InterfaceValue) → is_command_named claim v.interface.called ≡ false
      → given_of (claim ∷ claims) (out ∷ outs) v ≡ given_of claims outs v
  given_other v other =
      elim (cases_Bool v.interface.called.is_command) [
        | inl command ↦
            let differ : same_interface v.interface.called.name claim ≡ false = rw command at other in
            rw (command, same_interface-IsEquivalence.symm claim v.interface.called.name, differ) refl
        | inr state ↦ rw state refl
      ]

  given_others : (vs : List InterfaceValue)
      → ((j : ℕ) (v : InterfaceValue) → slice_get vs j ≡ Some v → is_command_named claim v.interface.called ≡ false)
      → map (given_of (claim ∷ claims) (out ∷ outs)) vs ≡ map (given_of claims outs) vs
  given_others [] others = refl
  given_others (v ∷ vs) others =
      ap₂ (λ y ys. y ∷ ys) (given_other v (others 0 v refl)) (given_others vs (λ j u at. others (suc j) u at))

  -- the place of the first claim holds the first output, and the other claims are given theirs
  given_first : AllByRecursion (λ other. same_interface claim other ≡ false) claims
      → (vs : List InterfaceValue) (k : ℕ) (v : InterfaceValue)
      → slice_get vs k ≡ Some v → is_command_named claim v.interface.called ≡ true
      → ((j : ℕ) (u : InterfaceValue) → slice_get vs j ≡ Some u → is_command_named claim u.interface.called ≡ true
      → j ≡ k)
      → map (given_of (claim ∷ claims) (out ∷ outs)) vs ≡ map (given_of claims outs) (with_value vs k out)
  given_first apart [] k v at named only = cc
  given_first apart (first ∷ vs) zero v at named only =
      let same : first ≡ v = cc in
      ap₂ (λ y ys. y ∷ ys) (given_here first apart (rw same named))
      (given_others vs
      (λ j u at. false_from_ne_true (is_command_named claim u.interface.called)
      (λ so. let e = only (suc j) u at so in cc)))
  given_first apart (first ∷ vs) (suc k) v at named only =
      ap₂ (λ y ys. y ∷ ys)
      (given_other first
      (false_from_ne_true (is_command_named claim first.interface.called) (λ so. let e = only 0 first refl so in cc)))
      (given_first apart vs k v at named (λ j u at so. let e = only (suc j) u at so in omega (arith, e)))

-- ---- All claims

stays : (b : Bool) (v : InterfaceValue) → (if b then record v { value = v.value } else v) ≡ v
stays true v = refl
stays false v = refl

-- where no output is for a claim, all stays
given_none : (names : List IfaceName) (outs : List Value)
    → ((v : InterfaceValue) → output_for names outs v.interface.called.name ≡ None) → (vs : List InterfaceValue)
    → map (given_of names outs) vs ≡ vs
given_none names outs none [] = refl
given_none names outs none (v ∷ vs) =
    let one : given_of names outs v ≡ v = rw (none v) (stays v.interface.called.is_command v) in
    ap₂ (λ y ys. y ∷ ys) one (given_none names outs none vs)

module _ (d : Description) (once : EachStandsOnce d) where
  -- an interface at a place is called as it is listed there
  called_at : (values : List InterfaceValue) → AreValuesOf d values → (k : ℕ) (v : InterfaceValue)
      → slice_get values k ≡ Some v
      → slice_get (called_in d) k ≡ Some v.interface.called
  called_at values are k v at =
      slice_get-map (λ (i : Interface). i.called) (interfaces_of d) k
      ∙ ap (λ is. option_map (λ (i : Interface). i.called) (slice_get is k)) (sym are)
      ∙ ap (option_map (λ (i : Interface). i.called))
      (slice_get-map (λ (v : InterfaceValue). v.interface) values k
      ∙ ap (option_map (λ (v : InterfaceValue). v.interface)) at)

  -- one command interface of a name stands at one place
  only_there : (values : List InterfaceValue) → AreValuesOf d values
      → (name : IfaceName) (j k : ℕ) (u v : InterfaceValue)
      → slice_get values j ≡ Some u → is_command_named name u.interface.called ≡ true → slice_get values k ≡ Some v
      → is_command_named name v.interface.called ≡ true → j ≡ k
  only_there values are name j k u v at_j named_j at_k named_k =
      once j k v.interface.called
      (called_at values are j u at_j
      ∙ ap Some (called_as name u.interface.called named_j ∙ sym (called_as name v.interface.called named_k)))
      (called_at values are k v at_k)

  given_placed : (names : List IfaceName) (outs : List Value) (values : List InterfaceValue)
      → AllByRecursion (IsFound (command_place d)) names → IsDistinct same_interface names → AreValuesOf d values
      → given names outs values ≡ with_outputs values (filter_map (command_place d) names) outs
  unfolding IsDistinct
  given_placed [] outs values found apart are = given_none [] outs (λ v. refl) values
  given_placed (name ∷ names) [] values found apart are = rw found.0.1 (given_none (name ∷ names) [] (λ v. refl) values)
  given_placed (name ∷ names) (out ∷ outs) values found apart are =
      let k = found.0.0 in
      let there = found_at (λ v. is_command_named name v.interface.called) values k
      (value_found d values are (is_command_named name) k found.0.1) in
      let first = given_first name names out outs apart.0 values k there.0 there.1 there.2
      (λ j u at so. only_there values are name j k u there.0 at so there.1 there.2) in
      let rest = given_placed names outs (with_value values k out) found.1 apart.1
      (with_value-interfaces values k out ∙ are) in
      rw found.0.1 (first ∙ rest)

-- The claims of a controller hold its outputs where each place of a claim holds its output, one after the other, as
-- many as there are.
pub given-any : (d : Description) → IsValid d → (values : List InterfaceValue) → AreValuesOf d values
    → (p : ℕ) (outs : List Value)
    → given (controller_at d.controllers p).claims outs values
    ≡ with_outputs values (linked (placed_of d).claims p) outs
given-any d ok values are p outs =
    given_placed d (IsValid-EachStandsOnce d ok) (controller_at d.controllers p).claims outs values
    (claims_found d ok p) (claims_apart d ok p) are
    ∙ ap (λ places. with_outputs values places outs) (sym (claims_row d p))

pub given-placed : (d : Description) → IsValid d → (values : List InterfaceValue) → AreValuesOf d values
    → (p : ℕ) (outs : List Value)
    → length outs ≡ length (controller_at d.controllers p).claims
    → given (controller_at d.controllers p).claims outs values
    ≡ with_outputs values (linked (placed_of d).claims p) outs
given-placed d ok values are p outs count = given-any d ok values are p outs
