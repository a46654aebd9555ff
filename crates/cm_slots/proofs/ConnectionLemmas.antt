-- Where the loaded controllers of a steady state of a valid description stand.
use Rattle.std.proofs.Common.{◌≡◌, ℕ, suc, ◌<◌, ◌≤◌, Bool, true, false, List, [], ◌∷◌, length}
use Rattle.std.proofs.Common.{Option, Some, None, refl, sym, ap, ◌∙◌, true≢false, arith}
use Rattle.std.specs.Prelude.{◌||◌, if◌then◌else◌, IfSome}
use Rattle.std.specs.List.{AllByRecursion, IsDistinct}
use Rattle.std.proofs.lemmas.Option.{slice_get-get_or}
use Rattle.iface_names.specs.Interfaces.{same_interface}
use Rattle.iface_names.specs.Sameness.{same_interface-Decides}
use Rattle.iface_names.specs.declared.interface.IfaceName.{IfaceName}
use Rattle.cm_document.specs.Described.{states_of}
use Rattle.cm_document.specs.Links.{is_among, refs_of}
use Rattle.cm_document.specs.Places.{interfaces_of}
use Rattle.cm_document.specs.Valid.{IsValid}
use Rattle.cm_document.specs.declared.description.CtlDesc.{CtlDesc}
use Rattle.cm_document.specs.declared.description.Description.{Description}
use Rattle.cm_document.specs.declared.description.Params.{Params}
use Rattle.cm_document.specs.declared.limits.TheConstants.{MOST_STATES}
use Rattle.cm_document.proofs.DistinctLemmas.{all_so}
use Rattle.cm_model.specs.Controllers.{AreItsCounts}
use Rattle.cm_model.specs.Order.{controller_at, nobody}
use Rattle.cm_model.specs.State.{Loaded}
use Rattle.cm_model.specs.Steady.{IsOwn}
use Rattle.cm_document.proofs.ValidParts.{few_controllers, parts_of_valid}
use Rattle.chain_order.specs.Links.{linked}
use Rattle.sound_laws.proofs.ValidLemmas.{valid-IsChecked}
use Rattle.cm_places.specs.Placed.{placed_of, AreFound}
use Rattle.cm_places.proofs.ExistLemmas.{among_itself}
use Rattle.cm_places.proofs.PlacedLemmas.{placed_of-HasAllRows, reads-AreFound, references-AreFound, claims-AreFound}
use Rattle.cm_slots.specs.Connections.{IsConnected, HasRoom, widest}
use Rattle.cm_slots.proofs.ShapeLemmas.{IsWellShaped, described_shape}
use Rattle.cm_model.proofs.LinkedLemmas.{links_of_valid}

-- ---- Distinct names among others are no more than these

-- the others without the first that is the same
abbrev without_one : IfaceName → List IfaceName → List IfaceName
without_one x [] = []
without_one x (y ∷ ys) = if same_interface x y then ys else y ∷ without_one x ys

without_count : (x : IfaceName) (ys : List IfaceName) → is_among x ys ≡ true
    → length ys ≡ suc (length (without_one x ys))
without_count x [] among = absurd (true≢false (sym among))
without_count x (y ∷ ys) among = either (same_interface x y) among (without_count x ys)
  where
    either : (b : Bool) → (b || is_among x ys) ≡ true
        → (is_among x ys ≡ true → length ys ≡ suc (length (without_one x ys)))
        → suc (length ys) ≡ suc (length (if b then ys else y ∷ without_one x ys))
    either true among rest = refl
    either false among rest = ap suc (rest among)

without_keeps : (x z : IfaceName) (ys : List IfaceName) → same_interface x z ≡ false → is_among z ys ≡ true
    → is_among z (without_one x ys) ≡ true
without_keeps x z [] differ among = among
without_keeps x z (y ∷ ys) differ among =
    either (same_interface x y) refl (same_interface z y) refl among (without_keeps x z ys differ)
  where
    either : (b : Bool) → same_interface x y ≡ b → (c : Bool) → same_interface z y ≡ c → (c || is_among z ys) ≡ true
        → (is_among z ys ≡ true → is_among z (without_one x ys) ≡ true)
        → is_among z (if b then ys else y ∷ without_one x ys) ≡ true
    either true e true f among rest =
        let one : x ≡ y = (same_interface-Decides x y).0 e in
        let two : z ≡ y = (same_interface-Decides z y).0 f in
        absurd (true≢false (sym ((same_interface-Decides x z).1 (one ∙ sym two)) ∙ differ))
    either true e false f among rest = among
    either false e true f among rest = rw f refl
    either false e false f among rest = rw f (rest among)

pub distinct_most : (xs ys : List IfaceName) → IsDistinct same_interface xs
    → AllByRecursion (λ x. is_among x ys ≡ true) xs → length xs ≤ length ys
unfolding IsDistinct
distinct_most [] ys apart among = omega arith
distinct_most (x ∷ xs) ys apart among =
    let less = distinct_most xs (without_one x ys) apart.1 (others xs apart.0 among.1) in
    let one = without_count x ys among.0 in
    omega (arith, less, one)
  where
    others : (zs : List IfaceName) → AllByRecursion (λ z. same_interface x z ≡ false) zs
        → AllByRecursion (λ z. is_among z ys ≡ true) zs
        → AllByRecursion (λ z. is_among z (without_one x ys) ≡ true) zs
    others [] apart among = tt
    others (z ∷ zs) apart among = (without_keeps x z ys apart.0 among.0, others zs apart.1 among.1)

-- ---- Reads

-- A controller reads no more interfaces than there may be states.
few_reads : (d : Description) → IsValid d → (p : ℕ) → length (controller_at d.controllers p).reads ≤ MOST_STATES
few_reads d ok p =
    let reads = (controller_at d.controllers p).reads in
    let there = all_so (λ name. is_among name reads ≡ true) (λ name. is_among name (states_of d.components) ≡ true)
    (λ name. (valid-IsChecked d ok).reads p name) reads (among_itself reads) in
    let most = distinct_most reads (states_of d.components) (links_of_valid d ok p).reads_differ there in
    omega (arith, most, (parts_of_valid d ok).few.states)

-- ---- Connections

module _ (d : Description) (ok : IsValid d) (l : Loaded) (described : l.place < length d.controllers) where
  abbrev c : CtlDesc
  c = controller_at d.controllers l.place

  reads : AreFound d c.reads (linked (placed_of d).reads l.place)
  reads = reads-AreFound d ok l.place

  references : AreFound d (refs_of c) (linked (placed_of d).references l.place)
  references = references-AreFound d l.place

  claims : AreFound d c.claims (linked (placed_of d).claims l.place)
  claims = claims-AreFound d ok l.place

  shape : IsWellShaped c
  shape =
      let few = few_reads d ok l.place in
      described_shape d ok l.place c (slice_get-get_or d.controllers l.place nobody described) (omega (arith, few))

  own_counts : (o : Option Params) → IfSome o (λ params. params ≡ c.params)
      → IfSome o (λ params. AreItsCounts params (length (linked (placed_of d).reads l.place))
      (length (linked (placed_of d).references l.place)) (length (linked (placed_of d).claims l.place)))
  own_counts None own = tt
  own_counts (Some params) own = rw (own, reads.count, references.count, claims.count) shape.counts

  -- A loaded controller with its own parameters stands on the board of its description.
  pub own_connection : IsOwn d.controllers l → IsConnected (placed_of d) (length (interfaces_of d)) l
  own_connection own =
      let rows = placed_of-HasAllRows d in
      record {
        few = omega (arith, described, few_controllers d ok);
        few_reads = omega (arith, reads.count, few_reads d ok l.place);
        few_claims = omega (arith, claims.count, shape.few_claims);
        reads = omega (arith, rows.reads, described);
        references = omega (arith, rows.references, described);
        claims = omega (arith, rows.claims, described);
        read_there = reads.within;
        referred_there = references.within;
        claimed_there = claims.within;
        counts = own_counts l.ctl.params own.described;
      }

  -- And there is room for what it reads.
  pub own_room : HasRoom (placed_of d) widest l
  own_room = omega (arith, reads.count, few_reads d ok l.place)
