-- What the places on the board tell of each described controller, and of each interface. A place past the last
-- controller is that of `nobody`, who has no interface.
use Rattle.std.proofs.Common.{◌≡◌, ℕ, zero, suc, ◌<◌, ◌≤◌, Bool, true, false, List, [], ◌∷◌, length}
use Rattle.std.proofs.Common.{map, get_or, Some, None, inl, inr, refl, sym, ap, ap₂, ◌∙◌, arith}
use Rattle.std.specs.Prelude.{◌==◌, ◌&&◌, ◌||◌, position, slice_get, slice_index_or, filter_map, All, Option}
use Rattle.std.specs.List.{AllByRecursion, list_any}
use Rattle.std.specs.Option.{option_map}
use Rattle.std.proofs.Math.ListN as math
use Rattle.std.proofs.lemmas.Bool.{and_parts, cases_Bool, cases_lt, cases_eq, eq-eqb, ne_eqb}
use Rattle.std.proofs.lemmas.List.{length-map, get_or_past}
use Rattle.std.proofs.lemmas.List.Elements.{All-from_recursion}
use Rattle.std.proofs.lemmas.Option.{slice_get_within, slice_get-map, get_or_from_slice_get}
use Rattle.iface_names.specs.Interfaces.{same_interface}
use Rattle.iface_names.specs.Sameness.{same_interface-Decides}
use Rattle.iface_names.specs.declared.interface.IfaceName.{IfaceName}
use Rattle.cm_document.specs.Links.{refs_of, is_among}
use Rattle.cm_document.specs.Places.{Called, a_command, Interface, interfaces_of}
use Rattle.cm_document.specs.Valid.{IsValid}
use Rattle.cm_document.specs.declared.description.CtlDesc.{CtlDesc}
use Rattle.cm_document.specs.declared.description.Description.{Description}
use Rattle.cm_model.specs.Claims.{is_state_named, is_command_named, value_where, number_in, states_for, refs_for}
use Rattle.cm_model.specs.Order.{Places, nobody, controller_at, some_below}
use Rattle.cm_model.specs.Scene.{claims_at, is_claimed_by}
use Rattle.cm_model.specs.Values.{InterfaceValue}
use Rattle.chain_order.specs.Links.{places_below, linked}
use Rattle.chain_order.proofs.PlaceLemmas.{any-places_below}
use Rattle.cm_places.specs.Placed.{state_place, command_place, claimers_of, exporter_of, placed_of}
use Rattle.cm_places.specs.Placed.{value_at, AreValuesOf, is_listed, AreFound, IsClaimOf, HasAllRows}
use Rattle.cm_places.proofs.ExistLemmas.{among_swapped, among_itself, reads_found, claims_found, references_found}
use Rattle.cm_places.proofs.FirstLemmas.{position-cons, position-map, moved_on, found_at}
use Rattle.cm_places.proofs.FirstLemmas.{IsFound, found_count, found_map, found_all}

-- ---- Rows

pub placed_of-HasAllRows : (d : Description) → HasAllRows d (placed_of d)
placed_of-HasAllRows d = record {
  reads = length-map d.controllers _;
  references = length-map d.controllers _;
  claims = length-map d.controllers _;
  claimers = length-map (interfaces_of d) _;
  exporters = length-map (interfaces_of d) _;
}

module _ (d : Description) (p : ℕ) where
  pub reads_row : linked (placed_of d).reads p ≡ filter_map (state_place d) (controller_at d.controllers p).reads
  reads_row = math.get_or-map (λ (c : CtlDesc). filter_map (state_place d) c.reads) d.controllers p nobody

  pub references_row : linked (placed_of d).references p
      ≡ filter_map (command_place d) (refs_of (controller_at d.controllers p))
  references_row = math.get_or-map (λ (c : CtlDesc). filter_map (command_place d) (refs_of c)) d.controllers p nobody

  pub claims_row : linked (placed_of d).claims p ≡ filter_map (command_place d) (controller_at d.controllers p).claims
  claims_row = math.get_or-map (λ (c : CtlDesc). filter_map (command_place d) c.claims) d.controllers p nobody

-- ---- Each has its place

-- what is found is a place of an interface
place_within : (d : Description) (test : Interface → Bool) (k : ℕ) → position test (interfaces_of d) ≡ Some k
    → k < length (interfaces_of d)
place_within d test k e =
    let found = found_at test (interfaces_of d) k e in slice_get_within (interfaces_of d) k found.0 found.1

module _ (d : Description) (h : IfaceName → Option ℕ)
    (inside : (name : IfaceName) (k : ℕ) → h name ≡ Some k → k < length (interfaces_of d)) where
  found-AreFound : (names : List IfaceName) (places : List ℕ) → places ≡ filter_map h names
      → AllByRecursion (IsFound h) names → AreFound d names places
  found-AreFound names places row found = record {
    count = ap length row ∙ found_count h names found;
    within = rw row
        (All-from_recursion _ _
        (found_all h (IsFound h) (λ k. k < length (interfaces_of d)) (λ name k _ e. inside name k e) names found));
  }

pub reads-AreFound : (d : Description) → IsValid d → (p : ℕ)
    → AreFound d (controller_at d.controllers p).reads (linked (placed_of d).reads p)
reads-AreFound d ok p =
    found-AreFound d (state_place d) (λ name k. place_within d (λ i. is_state_named name i.called) k)
    (controller_at d.controllers p).reads (linked (placed_of d).reads p) (reads_row d p) (reads_found d ok p)

pub references-AreFound : (d : Description) (p : ℕ)
    → AreFound d (refs_of (controller_at d.controllers p)) (linked (placed_of d).references p)
references-AreFound d p =
    found-AreFound d (command_place d) (λ name k. place_within d (λ i. is_command_named name i.called) k)
    (refs_of (controller_at d.controllers p)) (linked (placed_of d).references p) (references_row d p)
    (references_found d p)

pub claims-AreFound : (d : Description) → IsValid d → (p : ℕ)
    → AreFound d (controller_at d.controllers p).claims (linked (placed_of d).claims p)
claims-AreFound d ok p =
    found-AreFound d (command_place d) (λ name k. place_within d (λ i. is_command_named name i.called) k)
    (controller_at d.controllers p).claims (linked (placed_of d).claims p) (claims_row d p) (claims_found d ok p)

-- ---- What is claimed

abbrev called_so : Bool → IfaceName → Called
called_so is_command name = record { is_command = is_command; name = name }

-- a command interface of this name is called so
pub called_as : (name : IfaceName) (called : Called) → is_command_named name called ≡ true → called ≡ a_command name
called_as name called named =
    let both = and_parts called.is_command (same_interface called.name name) named in
    ap₂ called_so both.0 ((same_interface-Decides called.name name).0 both.1)

module _ (d : Description) (p : ℕ) where
  claim_stands : (name : IfaceName) (k : ℕ) → is_among name (controller_at d.controllers p).claims ≡ true
      → command_place d name ≡ Some k → IsClaimOf d p k
  claim_stands name k among e =
      let found = found_at (λ i. is_command_named name i.called) (interfaces_of d) k e in
      let so = called_as name found.0.called found.2 in
      record {
        interface = found.0;
        stands = found.1;
        command = ap (λ c. c.is_command) so;
        claimed = ap (λ c. claims_at d.controllers p c.name) so
            ∙ among_swapped name (controller_at d.controllers p).claims ∙ among;
      }

  -- what stands at the places of its claims is claimed by the controller
  pub claims-AreClaims : All (IsClaimOf d p) (linked (placed_of d).claims p)
  claims-AreClaims =
      rw (claims_row d p)
      (All-from_recursion _ _
      (found_all (command_place d) _ (IsClaimOf d p) claim_stands (controller_at d.controllers p).claims
      (among_itself (controller_at d.controllers p).claims)))

-- ---- What interfaces hold

-- what the first interface holds that passes is what its place holds
value_first : (test : Called → Bool) (vs : List InterfaceValue) (k : ℕ)
    → position (λ v. test v.interface.called) vs ≡ Some k → value_where test vs ≡ value_at vs k
value_first test [] k e = cc
value_first test (v ∷ vs) k e =
    elim (cases_Bool (test v.interface.called)) [
      | inl passes ↦
          let first : k ≡ 0 = (let h = rw (position-cons (λ v. test v.interface.called) v vs, passes) at e in cc) in
          rw (passes, first) refl
      | inr fails ↦
          let j = moved_on (position (λ v. test v.interface.called) vs) k
          (rw (position-cons (λ v. test v.interface.called) v vs, fails) at e) in
          rw (fails, j.2) (value_first test vs j.0 j.1)
    ]

module _ (d : Description) (values : List InterfaceValue) (are : AreValuesOf d values) where
  -- a place among the interfaces is one among what they hold
  pub value_found : (test : Called → Bool) (k : ℕ) → position (λ i. test i.called) (interfaces_of d) ≡ Some k
      → position (λ v. test v.interface.called) values ≡ Some k
  value_found test k e =
      sym (position-map (λ i. test i.called) (λ (v : InterfaceValue). v.interface) values)
      ∙ ap (position (λ i. test i.called)) are ∙ e

  value_placed : (test : Called → Bool) (k : ℕ) → position (λ i. test i.called) (interfaces_of d) ≡ Some k
      → value_where test values ≡ value_at values k
  value_placed test k e = value_first test values k (value_found test k e)

  -- the numbers that a controller reads, by the places of what it reads
  states_placed : IsValid d → (p : ℕ)
      → states_for values (controller_at d.controllers p)
      ≡ map (λ k. number_in (value_at values k)) (linked (placed_of d).reads p)
  states_placed ok p =
      found_map (state_place d) (λ name. number_in (value_where (is_state_named name) values))
      (λ k. number_in (value_at values k))
      (λ name k e. ap number_in (value_placed (is_state_named name) k e)) (controller_at d.controllers p).reads
      (reads_found d ok p)
      ∙ ap (map (λ k. number_in (value_at values k))) (sym (reads_row d p))

  -- and its references
  refs_placed : (p : ℕ)
      → refs_for values (controller_at d.controllers p) ≡ map (value_at values) (linked (placed_of d).references p)
  refs_placed p =
      found_map (command_place d) (λ name. value_where (is_command_named name) values) (value_at values)
      (λ name k e. value_placed (is_command_named name) k e) (refs_of (controller_at d.controllers p))
      (references_found d p)
      ∙ ap (map (value_at values)) (sym (references_row d p))

pub states_for-placed : (d : Description) → IsValid d → (values : List InterfaceValue) → AreValuesOf d values → (p : ℕ)
    → states_for values (controller_at d.controllers p)
    ≡ map (λ k. number_in (value_at values k)) (linked (placed_of d).reads p)
states_for-placed d ok values are p = states_placed d values are ok p

pub refs_for-placed : (d : Description) (values : List InterfaceValue) → AreValuesOf d values → (p : ℕ)
    → refs_for values (controller_at d.controllers p) ≡ map (value_at values) (linked (placed_of d).references p)
refs_for-placed d values are p = refs_placed d values are p

-- ---- Who claims and who exports

-- what stands in the row of an interface
row_of : {A B : Type 0} (f : A → B) (xs : List A) (k : ℕ) (x : A) (none : B) → slice_get xs k ≡ Some x
    → get_or (map f xs) k none ≡ f x
row_of f xs k x none at = get_or_from_slice_get (map f xs) k (f x) none (slice_get-map f xs k ∙ ap (option_map f) at)

module _ (d : Description) (k : ℕ) (i : Interface) (stands : slice_get (interfaces_of d) k ≡ Some i) where
  pub claimers_row : linked (placed_of d).claimers k ≡ claimers_of d.controllers i
  claimers_row = row_of (claimers_of d.controllers) (interfaces_of d) k i [] stands

  -- the controller that exports it
  pub exporter-placed : slice_index_or (placed_of d).exporters k None ≡ exporter_of i.whose
  exporter-placed = row_of (λ (i : Interface). exporter_of i.whose) (interfaces_of d) k i None stands

  module _ (command : i.called.is_command ≡ true) where
    claimers_are : linked (placed_of d).claimers k
        ≡ places_below (λ p. claims_at d.controllers p i.called.name) (length d.controllers)
    claimers_are = claimers_row ∙ rw command refl

    -- a member of a set claims it exactly where one of its claimers is a member
    pub claimed_by-placed : (set : Places)
        → list_any set (linked (placed_of d).claimers k) ≡ is_claimed_by d.controllers set i.called.name
    claimed_by-placed set =
        ap (list_any set) claimers_are
        ∙ any-places_below set (λ p. claims_at d.controllers p i.called.name) (length d.controllers)

-- at a number below the test of that number decides, and past it none
some_other : (test : ℕ → Bool) (p n : ℕ) → n ≤ p → some_below (λ q. q == p && test q) n ≡ false
some_other test p zero past = refl
some_other test p (suc n) past =
    rw (some_other test p n (omega (arith, past)), ne_eqb n p (λ same. omega (arith, past, same))) refl

some_at : (test : ℕ → Bool) (p n : ℕ) → p < n → some_below (λ q. q == p && test q) n ≡ test p
some_at test p zero below = absurd (omega (arith, below))
some_at test p (suc n) below =
    elim (cases_eq n p) [
      | inl same ↦ rw (some_other test p n (omega (arith, same)), eq-eqb n p same, same) refl
      | inr other ↦ rw (some_at test p n (omega (arith, below, other)), ne_eqb n p other) (or_false (test p))
    ]
  where
    or_false : (b : Bool) → (b || false) ≡ b
    or_false true = refl
    or_false false = refl

-- those that claim it are the controllers that stand there
pub claimers-placed : (d : Description) (k : ℕ) (i : Interface) → slice_get (interfaces_of d) k ≡ Some i
    → i.called.is_command ≡ true
    → (p : ℕ) → is_listed (linked (placed_of d).claimers k) p ≡ claims_at d.controllers p i.called.name
claimers-placed d k i stands command p =
    let claims : ℕ → Bool = λ q. claims_at d.controllers q i.called.name in
    claimed_by-placed d k i stands command (λ q. q == p)
    ∙ elim (cases_lt p (length d.controllers)) [
      | inl below ↦ some_at claims p (length d.controllers) below
      | inr past ↦ some_other claims p (length d.controllers) past
          ∙ sym (ap (λ (c : CtlDesc). list_any (λ claim. same_interface claim i.called.name) c.claims)
          (get_or_past d.controllers p nobody past))
    ]
