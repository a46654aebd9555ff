-- What goes by the active controllers alone: who is active, who owns what, what is available, and the order of updates.
use Rattle.std.proofs.Math.Path.{fun_ext}
use Rattle.std.proofs.Common.{◌≡◌, ℕ, zero, suc, Bool, true, false, cond, List, [], ◌∷◌, ◌++◌}
use Rattle.std.proofs.Common.{length, map, Option, Some, None, refl, sym, ap, ap₂, subst, ◌∙◌}
use Rattle.std.specs.Prelude.{◌==◌, ◌&&◌, ◌||◌, filter, find, option_map, slice_get, slice_set, remove, if◌then◌else◌}
use Rattle.std.specs.List.{list_any}
use Rattle.std.specs.Option.{option_map_or}
use Rattle.std.proofs.lemmas.List.{map-append}
use Rattle.std.proofs.lemmas.Option.{same_Some}
use Rattle.cm_document.specs.Links.{is_among}
use Rattle.cm_document.specs.Places.{Interface}
use Rattle.cm_document.specs.declared.description.CtlDesc.{CtlDesc}
use Rattle.cm_model.specs.Order.{Places, by_rank, depth}
use Rattle.cm_model.specs.State.{State, Loaded, is_active, active, owner, available, available_in}
use Rattle.cm_model.specs.declared.member.Member.{Member}
use Rattle.cm_hardware.specs.Holding.{IsHardwareOf}
use Rattle.cm_hardware.specs.Wiring.{Wired}
use Rattle.cm_hardware.proofs.SameLemmas.{same_hardware}
use Rattle.stop_plan.specs.Ending.{member_of, members_in_order}
use Rattle.cm_resources.specs.ActiveSet.{actives, serial_in}

-- ---- Tests of the active ones

-- the first active one at a place that passes
pub found_active : (test : ℕ → Bool) (ls : List Loaded)
    → option_map (λ (l : Loaded). l.serial) (find (λ (l : Loaded). is_active l && test l.place) ls)
    ≡ option_map (λ (m : Member). m.serial) (find (λ (m : Member). test m.place) (actives ls))
found_active test [] = refl
found_active test (l ∷ ls) =
    one (filter is_active ls) (find (λ (m : Loaded). is_active m && test m.place) ls) (is_active l)
    (found_active test ls)
  where
    at : (kept : List Member) (rest : Option Loaded) (passes : Bool)
        → option_map (λ (l : Loaded). l.serial) rest
        ≡ option_map (λ (m : Member). m.serial) (find (λ (m : Member). test m.place) kept)
        → option_map (λ (l : Loaded). l.serial) (cond passes (Some l) rest)
        ≡ option_map (λ (m : Member). m.serial)
        (cond passes (Some (member_of l)) (find (λ (m : Member). test m.place) kept))
    at kept rest true same = refl
    at kept rest false same = same

    one : (kept : List Loaded) (rest : Option Loaded) (b : Bool)
        → option_map (λ (l : Loaded). l.serial) rest
        ≡ option_map (λ (m : Member). m.serial) (find (λ (m : Member). test m.place) (map member_of kept))
        → option_map (λ (l : Loaded). l.serial) (cond (b && test l.place) (Some l) rest)
        ≡ option_map (λ (m : Member). m.serial)
        (find (λ (m : Member). test m.place) (map member_of (cond b (l ∷ kept) kept)))
    one kept rest true same = at (map member_of kept) rest (test l.place) same
    one kept rest false same = same

-- some active one at a place that passes
pub any_active : (test : ℕ → Bool) (ls : List Loaded)
    → list_any (λ (l : Loaded). is_active l && test l.place) ls ≡ list_any (λ (m : Member). test m.place) (actives ls)
any_active test [] = refl
any_active test (l ∷ ls) =
    one (filter is_active ls) (list_any (λ (m : Loaded). is_active m && test m.place) ls) (is_active l)
    (any_active test ls)
  where
    one : (kept : List Loaded) (others b : Bool) → others ≡ list_any (λ (m : Member). test m.place) (map member_of kept)
        → ((b && test l.place) || others)
        ≡ list_any (λ (m : Member). test m.place) (map member_of (cond b (l ∷ kept) kept))
    one kept others true same = ap (λ rest. test l.place || rest) same
    one kept others false same = same

-- ---- The order of updates

filtered : (test : ℕ → Bool) (ls : List Loaded)
    → map member_of (filter (λ (l : Loaded). test l.place) ls)
    ≡ filter (λ (m : Member). test m.place) (map member_of ls)
filtered test [] = refl
filtered test (l ∷ ls) = one (filter (λ (l : Loaded). test l.place) ls) (test l.place) (filtered test ls)
  where
    one : (kept : List Loaded) (b : Bool)
        → map member_of kept ≡ filter (λ (m : Member). test m.place) (map member_of ls)
        → map member_of (cond b (l ∷ kept) kept)
        ≡ cond b (member_of l ∷ filter (λ (m : Member). test m.place) (map member_of ls))
        (filter (λ (m : Member). test m.place) (map member_of ls))
    one kept true same = ap (λ ms. member_of l ∷ ms) same
    one kept false same = same

ranked : (rank : ℕ → ℕ) (n : ℕ) (ls : List Loaded)
    → map member_of (by_rank (λ (l : Loaded). rank l.place) n ls)
    ≡ by_rank (λ (m : Member). rank m.place) n (map member_of ls)
ranked rank zero ls = refl
ranked rank (suc n) ls =
    map-append member_of (by_rank (λ (l : Loaded). rank l.place) n ls) (filter (λ (l : Loaded). rank l.place == n) ls)
    ∙ ap₂ (λ xs ys. xs ++ ys) (ranked rank n ls) (filtered (λ p. rank p == n) ls)

-- the order of updates is one of the active controllers
pub order_is : (s : State)
    → members_in_order s
    ≡ by_rank (λ m. depth s.description.controllers (active s) m.place) (suc (length s.description.controllers))
    (actives s.loaded)
order_is s =
    ranked (λ p. depth s.description.controllers (active s) p) (suc (length s.description.controllers))
    (filter is_active s.loaded)

-- ---- From one state to another, in which the same controllers are active

module _ (s t : State) (same : actives t.loaded ≡ actives s.loaded) (described : t.description ≡ s.description) where
  -- the same places are active,
  pub same_active : active t ≡ active s
  same_active = fun_ext (λ p.
      any_active (λ q. q == p) t.loaded ∙ ap (list_any (λ (m : Member). m.place == p)) same
      ∙ sym (any_active (λ q. q == p) s.loaded))

  -- under the same serials,
  pub same_serial : (p : ℕ) → serial_in t.loaded p ≡ serial_in s.loaded p
  same_serial p =
      found_active (λ q. q == p) t.loaded
      ∙ ap (λ ms. option_map (λ (m : Member). m.serial) (find (λ (m : Member). m.place == p) ms)) same
      ∙ sym (found_active (λ q. q == p) s.loaded)

  -- updated in the same order,
  pub same_order : members_in_order t ≡ members_in_order s
  same_order =
      let rank : List CtlDesc → Places → ℕ → ℕ = λ cs set p. depth cs set p in
      ranked (rank t.description.controllers (active t)) (suc (length t.description.controllers))
      (filter is_active t.loaded)
      ∙ ap₂ (λ (cs : List CtlDesc) (set : Places). by_rank (λ (m : Member). rank cs set m.place) (suc (length cs))
      (actives t.loaded)) (ap (λ d. d.controllers) described) same_active
      ∙ ap (by_rank (λ (m : Member). rank s.description.controllers (active s) m.place)
      (suc (length s.description.controllers))) same
      ∙ sym (ranked (rank s.description.controllers (active s)) (suc (length s.description.controllers))
      (filter is_active s.loaded))

  -- and own the same.
  pub same_owner : (i : Interface) → owner t i ≡ owner s i
  same_owner i = of i.called.is_command
    where
      claims : List CtlDesc → ℕ → Bool
      claims cs p = option_map_or (λ (c : CtlDesc). is_among i.called.name c.claims) (slice_get cs p) false

      owned : option_map (λ (l : Loaded). l.serial)
          (find (λ (l : Loaded). is_active l && claims t.description.controllers l.place) t.loaded)
          ≡ option_map (λ (l : Loaded). l.serial)
          (find (λ (l : Loaded). is_active l && claims s.description.controllers l.place) s.loaded)
      owned =
          found_active (claims t.description.controllers) t.loaded
          ∙ ap₂ (λ (cs : List CtlDesc) (ms : List Member). option_map (λ (m : Member). m.serial)
          (find (λ (m : Member). claims cs m.place) ms)) (ap (λ d. d.controllers) described) same
          ∙ sym (found_active (claims s.description.controllers) s.loaded)

      of : (b : Bool)
          → (if b then option_map (λ (l : Loaded). l.serial)
          (find (λ (l : Loaded). is_active l && claims t.description.controllers l.place) t.loaded) else None)
          ≡ (if b then option_map (λ (l : Loaded). l.serial)
          (find (λ (l : Loaded). is_active l && claims s.description.controllers l.place) s.loaded) else None)
      of true = owned
      of false = refl

  -- Where the components are in the same states, the same is available,
  pub same_available : t.lives ≡ s.lives → (i : Interface) → available t i ≡ available s i
  same_available lives i = ap₂ (λ ls set. available_in ls set i.whose) lives same_active

  -- and the hardware is the same.
  pub hardware_stays : (w : Wired) → t.lives ≡ s.lives → t.bodies ≡ s.bodies → t.values ≡ s.values → IsHardwareOf s w
      → IsHardwareOf t w
  hardware_stays w lives bodies values h =
      same_hardware s t same_owner (same_available lives) w h described lives bodies values

-- ---- Changes that leave them

-- it stays active or not, under its serial and at its place
pub record IsSameOne (l after : Loaded) : Type 0 where
  pub serial : after.serial ≡ l.serial
  pub place : after.place ≡ l.place
  pub active : is_active after ≡ is_active l

with_one : (l after : Loaded) (ls ms : List Loaded) → IsSameOne l after → actives ms ≡ actives ls
    → actives (after ∷ ms) ≡ actives (l ∷ ls)
with_one l after ls ms one same =
    let member : member_of after ≡ member_of l =
    ap₂ (λ serial place. record { serial = serial; place = place }) one.serial one.place in
    either (is_active after) (is_active l) one.active member
  where
    either : (a b : Bool) → a ≡ b → member_of after ≡ member_of l
        → map member_of (cond a (after ∷ filter is_active ms) (filter is_active ms))
        ≡ map member_of (cond b (l ∷ filter is_active ls) (filter is_active ls))
    either true true e member = ap₂ (λ m kept. m ∷ kept) member same
    either false false e member = same
    either true false e member = cc
    either false true e member = cc

pub actives_map : (change : Loaded → Loaded) → ((l : Loaded) → IsSameOne l (change l)) → (ls : List Loaded)
    → actives (map change ls) ≡ actives ls
actives_map change keeps [] = refl
actives_map change keeps (l ∷ ls) = with_one l (change l) ls (map change ls) (keeps l) (actives_map change keeps ls)

pub actives_set : (ls : List Loaded) (i : ℕ) (l after : Loaded) → slice_get ls i ≡ Some l → IsSameOne l after
    → actives (slice_set ls i after) ≡ actives ls
actives_set [] i l after there one = refl
actives_set (m ∷ ms) zero l after there one =
    subst (λ k. actives (after ∷ ms) ≡ actives (k ∷ ms)) (same_Some l m (sym there)) (with_one l after ms ms one refl)
actives_set (m ∷ ms) (suc i) l after there one =
    with_one m m ms (slice_set ms i after) (record { serial = refl; place = refl; active = refl })
    (actives_set ms i l after there one)

pub actives_push : (ls : List Loaded) (l : Loaded) → is_active l ≡ false → actives (ls ++ l ∷ []) ≡ actives ls
actives_push [] l idle = rw idle refl
actives_push (m ∷ ms) l idle =
    with_one m m ms (ms ++ l ∷ []) (record { serial = refl; place = refl; active = refl }) (actives_push ms l idle)

pub actives_remove : (ls : List Loaded) (i : ℕ) (l : Loaded) → slice_get ls i ≡ Some l → is_active l ≡ false
    → actives (remove ls i) ≡ actives ls
actives_remove [] zero l there idle = refl
actives_remove [] (suc i) l there idle = refl
actives_remove (m ∷ ms) zero l there idle =
    let quiet : is_active m ≡ false = subst (λ k. is_active k ≡ false) (same_Some l m (sym there)) idle in rw quiet refl
actives_remove (m ∷ ms) (suc i) l there idle =
    with_one m m ms (remove ms i) (record { serial = refl; place = refl; active = refl })
    (actives_remove ms i l there idle)
