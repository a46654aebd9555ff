-- What a cycle rests on, and what it tells of: the active controllers, without what waits for them, and no other.
use Rattle.std.proofs.Common.{◌≡◌, ℕ, zero, suc, ◌+◌, Bool, true, false, List, [], ◌∷◌, ◌++◌, length}
use Rattle.std.proofs.Common.{map, take, drop, cond, Option, Some, None, refl, sym, ◌∙◌, ap, ap₂}
use Rattle.std.specs.Prelude.{◌==◌, ◌&&◌, ◌||◌, not, if◌then◌else◌, filter, find, is_some, option_map, slice_get}
use Rattle.std.specs.List.{list_any, range_with_len}
use Rattle.std.specs.Option.{option_map_or}
use Rattle.std.proofs.Math.Path.{fun_ext}
use Rattle.std.proofs.lemmas.List.{map-append}
use Rattle.fixed_num.specs.declared.value.BodyState.{BodyState}
use Rattle.cm_document.specs.Places.{Interface}
use Rattle.cm_document.specs.declared.description.CompDesc.{CompDesc}
use Rattle.cm_model.specs.Claims.{given_by}
use Rattle.cm_model.specs.Commit.{described_of}
use Rattle.cm_model.specs.Components.{read_succeeds, is_written, claimed_by, bodies_after_step}
use Rattle.cm_model.specs.Cycle.{period, component_is, failed_in, active_order, is_due_now, is_held_off, updated_in}
use Rattle.cm_model.specs.Cycle.{step_of, ran_by, Updates, with_step, with_updates, updates, is_struck, struck}
use Rattle.cm_model.specs.Cycle.{reaches, must_stop, stops, commands_at, claims_in, components_stepped, cycle}
use Rattle.cm_storage.specs.Happened.{Happened}
use Rattle.cm_model.specs.Order.{Places, precedes_at, by_rank, depth}
use Rattle.cm_storage.specs.Ran.{Ran}
use Rattle.cm_model.specs.Sound.{running_part, configuration}
use Rattle.cm_model.specs.State.{State, Loaded, is_active, active, claims_name, owner}
use Rattle.cm_model.specs.Values.{InterfaceValue, after_reads}
use Rattle.sound_laws.specs.Core.{bare, running_ones, core}

-- ---- Lists

-- a test of those that are active
core_any : (test : Loaded → Bool) → ((l : Loaded) → test (bare l) ≡ test l) → (ls : List Loaded)
    → list_any (λ (l : Loaded). is_active l && test l) (running_ones ls)
    ≡ list_any (λ (l : Loaded). is_active l && test l) ls
core_any test keeps [] = refl
core_any test keeps (l ∷ ls) =
    one l (filter is_active ls) (list_any (λ (m : Loaded). is_active m && test m) ls) (is_active l) refl
    (core_any test keeps ls)
  where
    one : (l : Loaded) (kept : List Loaded) (others b : Bool) → is_active l ≡ b
        → list_any (λ (m : Loaded). is_active m && test m) (map bare kept) ≡ others
        → list_any (λ (m : Loaded). is_active m && test m) (map bare (cond b (l ∷ kept) kept))
        ≡ ((b && test l) || others)
    one l kept others true is rest = ap₂ (λ a c. a || c) (ap₂ (λ a c. a && c) is (keeps l)) rest
    one l kept others false is rest = rest

-- a filter by what stays
filter_bare : (test : Loaded → Bool) → ((l : Loaded) → test (bare l) ≡ test l) → (ls : List Loaded)
    → filter test (map bare ls) ≡ map bare (filter test ls)
filter_bare test keeps [] = refl
filter_bare test keeps (l ∷ ls) =
    one l (filter test (map bare ls)) (filter test ls) (test (bare l)) (test l) (keeps l) (filter_bare test keeps ls)
  where
    one : (l : Loaded) (left right : List Loaded) (a b : Bool) → a ≡ b → left ≡ map bare right
        → cond a (bare l ∷ left) left ≡ map bare (cond b (l ∷ right) right)
    one l left right a true is rest = ap₂ (λ c xs. cond c (bare l ∷ xs) xs) is rest
    one l left right a false is rest = ap₂ (λ c xs. cond c (bare l ∷ xs) xs) is rest

filter_again : (ls : List Loaded) → filter is_active (filter is_active ls) ≡ filter is_active ls
filter_again [] = refl
filter_again (l ∷ ls) = one l (filter is_active ls) (is_active l) refl (filter_again ls)
  where
    one : (l : Loaded) (kept : List Loaded) (b : Bool) → is_active l ≡ b → filter is_active kept ≡ kept
        → filter is_active (cond b (l ∷ kept) kept) ≡ cond b (l ∷ kept) kept
    one l kept true is rest = ap₂ (λ c xs. cond c (l ∷ xs) xs) is rest
    one l kept false is rest = rest

by_rank_bare : (ranked : Loaded → ℕ) → ((l : Loaded) → ranked (bare l) ≡ ranked l) → (n : ℕ) (ls : List Loaded)
    → by_rank ranked n (map bare ls) ≡ map bare (by_rank ranked n ls)
by_rank_bare ranked keeps zero ls = refl
by_rank_bare ranked keeps (suc n) ls =
    ap₂ (λ xs ys. xs ++ ys) (by_rank_bare ranked keeps n ls)
    (filter_bare (λ l. ranked l == n) (λ l. ap (λ k. k == n) (keeps l)) ls)
    ∙ sym (map-append bare (by_rank ranked n ls) (filter (λ l. ranked l == n) ls))

map_bare : {A : Type 0} (read : Loaded → A) → ((l : Loaded) → read (bare l) ≡ read l) → (ls : List Loaded)
    → map read (map bare ls) ≡ map read ls
map_bare read keeps [] = refl
map_bare read keeps (l ∷ ls) = ap₂ (λ x xs. x ∷ xs) (keeps l) (map_bare read keeps ls)

-- something is found where something passes
found_any : (test : Loaded → Bool) (ls : List Loaded)
    → is_some (option_map (λ (l : Loaded). l.serial) (find test ls)) ≡ list_any test ls
found_any test [] = refl
found_any test (l ∷ ls) = one l (find test ls) (list_any test ls) (test l) (found_any test ls)
  where
    one : (l : Loaded) (rest : Option Loaded) (others b : Bool)
        → is_some (option_map (λ (l : Loaded). l.serial) rest) ≡ others
        → is_some (option_map (λ (l : Loaded). l.serial) (cond b (Some l) rest)) ≡ (b || others)
    one l rest others true same = refl
    one l rest others false same = same

module _ (s : State) where
  -- ---- The active controllers

  core_active : active (core s) ≡ active s
  core_active = fun_ext (λ p. core_any (λ (l : Loaded). l.place == p) (λ l. refl) s.loaded)

  core_order : active_order (core s) ≡ map bare (active_order s)
  core_order =
      let rank_in : Places → Loaded → ℕ = λ set l. depth s.description.controllers set l.place in
      let n = suc (length s.description.controllers) in
      ap₂ (λ set xs. by_rank (rank_in set) n xs) core_active
      (filter_bare is_active (λ l. refl) (filter is_active s.loaded) ∙ ap (map bare) (filter_again s.loaded))
      ∙ by_rank_bare (rank_in (active s)) (λ l. refl) n (filter is_active s.loaded)

  -- they run as they did
  pub core_configuration : configuration (core s) ≡ configuration s
  core_configuration =
      let running = ap (map running_part) core_order ∙ map_bare running_part (λ l. refl) (active_order s) in
      ap (λ rs. record { running = rs; mails = s.mails; lives = s.lives; bodies = s.bodies; values = s.values }) running

  -- ---- Updates

  core_updated : updated_in (core s) ≡ map bare (updated_in s)
  core_updated =
      ap (filter (λ (l : Loaded). is_due_now s l && not (is_held_off s l))) core_order
      ∙ filter_bare (λ (l : Loaded). is_due_now s l && not (is_held_off s l)) (λ l. refl) (active_order s)

  -- two updates told the same so far, over the same values
  record AreAlike (u v : Updates) : Type 0 where
    values : u.values ≡ v.values
    ran : u.ran ≡ v.ran

  updates_alike : (u v : Updates) → AreAlike u v → (ls : List Loaded)
      → AreAlike (with_updates (core s) u (map bare ls)) (with_updates s v ls)
  updates_alike u v alike [] = alike
  updates_alike u v alike (l ∷ ls) =
      updates_alike (with_step (core s) (bare l) (step_of (core s) u.values (bare l)) u)
      (with_step s l (step_of s v.values l) v) (record {
        values = ap (λ vs. given_by (described_of s l).claims (step_of s vs l) vs) alike.values;
        ran = ap₂ (λ told vs. told ++ ran_by l (step_of s vs l) ∷ []) alike.ran alike.values;
      }) ls

  abbrev read : List InterfaceValue
  read = after_reads (component_is read_succeeds s) s.bodies s.values

  core_updates : AreAlike (updates (core s) read) (updates s read)
  core_updates =
      let u : Updates = record { loaded = running_ones s.loaded; values = read; ran = [] } in
      let v : Updates = record { loaded = s.loaded; values = read; ran = [] } in
      let alike = updates_alike u v (record { values = refl; ran = refl }) (updated_in s) in
      record {
        values = ap (λ ls. (with_updates (core s) u ls).values) core_updated ∙ alike.values;
        ran = ap (λ ls. (with_updates (core s) u ls).ran) core_updated ∙ alike.ran;
      }

  -- ---- Bodies

  core_owned : (interface : Interface) → is_some (owner (core s) interface) ≡ is_some (owner s interface)
  core_owned interface = of interface.called.is_command
    where
      owns : Loaded → Bool
      owns l = is_active l && claims_name s.description.controllers interface.called.name l

      of : (b : Bool)
          → is_some (if b then option_map (λ (l : Loaded). l.serial) (find owns (running_ones s.loaded)) else None)
          ≡ is_some (if b then option_map (λ (l : Loaded). l.serial) (find owns s.loaded) else None)
      of true = found_any owns (running_ones s.loaded)
          ∙ core_any (claims_name s.description.controllers interface.called.name) (λ l. refl) s.loaded
          ∙ sym (found_any owns s.loaded)
      of false = refl

  core_claims : (commands : List InterfaceValue) → claims_in (core s) commands ≡ claims_in s commands
  core_claims commands =
      ap (λ test. filter test (range_with_len 0 (length commands))) (fun_ext (λ place. of (slice_get commands place)))
    where
      of : (o : Option InterfaceValue)
          → option_map_or (λ (v : InterfaceValue). is_some (owner (core s) v.interface)) o false
          ≡ option_map_or (λ (v : InterfaceValue). is_some (owner s v.interface)) o false
      of None = refl
      of (Some v) = core_owned v.interface

  core_bodies : (values : List InterfaceValue) (component : ℕ) (cs : List CompDesc) (bodies : List BodyState)
      → components_stepped (core s) values component cs bodies ≡ components_stepped s values component cs bodies
  core_bodies values component [] bodies = refl
  core_bodies values component (c ∷ cs) bodies =
      ap₂ (λ claims rest. bodies_after_step c (component_is is_written s component) (claimed_by c claims)
      (map (λ v. v.value) (commands_at component values)) (period s.description)
      (take (length c.joints) bodies) ++ rest) (core_claims (commands_at component values))
      (core_bodies values (component + 1) cs (drop (length c.joints) bodies))

  -- ---- Stops

  core_struck : (ran : List Ran) → struck (core s) ran ≡ struck s ran
  core_struck ran = fun_ext (λ p. core_any (λ (l : Loaded). l.place == p && is_struck s ran l) (λ l. refl) s.loaded)

  core_must : (ran : List Ran) → must_stop (core s) ran ≡ must_stop s ran
  core_must ran =
      let n = length s.description.controllers in
      ap₂ {C = Places}
      (λ (set hit : Places) (p : ℕ). set p
      && reaches (λ p q. set q && precedes_at s.description.controllers p q) hit n n p) core_active (core_struck ran)

  core_stops : (ran : List Ran) → stops (core s) ran ≡ stops s ran
  core_stops ran =
      ap₂ (λ (must : Places) (ls : List Loaded). map (λ (l : Loaded). l.serial)
      (filter (λ (l : Loaded). must l.place) ls)) (core_must ran) core_order
      ∙ ap (map (λ (l : Loaded). l.serial))
      (filter_bare (λ (l : Loaded). must_stop s ran l.place) (λ l. refl) (active_order s))
      ∙ map_bare (λ (l : Loaded). l.serial) (λ l. refl)
      (filter (λ (l : Loaded). must_stop s ran l.place) (active_order s))

  -- ---- The record

  abbrev told : List Ran → List BodyState → List ℕ → Happened
  told ran bodies stopped =
      record { cycle = s.ended; failed = failed_in s; ran = ran; bodies = bodies; stops = stopped }

  -- A cycle of the core tells what the cycle of the state tells.
  pub core_cycle : (cycle (core s)).happened ≡ (cycle s).happened
  unfolding cycle
  core_cycle =
      let u = updates (core s) read in
      let v = updates s read in
      ap₂ (λ ran stopped. told ran (components_stepped (core s) u.values 0 s.description.components s.bodies) stopped)
      core_updates.ran (ap (stops (core s)) core_updates.ran ∙ core_stops v.ran)
      ∙ ap (λ bodies. told v.ran bodies (stops s v.ran))
      (ap (λ values. components_stepped (core s) values 0 s.description.components s.bodies) core_updates.values
      ∙ core_bodies v.values 0 s.description.components s.bodies)
