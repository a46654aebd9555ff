-- How the wanted controllers are loaded and configured, one after the other.
use Rattle.std.proofs.Common.{◌≡◌, ℕ, suc, ◌+◌, ◌<◌, Bool, true, false, List, [], ◌∷◌, ◌++◌, length}
use Rattle.std.proofs.Common.{map, Some, None, refl, sym, ◌∙◌, ap, ap₂, subst, append_assoc}
use Rattle.std.proofs.Common.{append-nil, length-append, arith, get_or, cond, lt-ltb}
use Rattle.std.specs.Prelude.{◌==◌, ◌||◌, eqb, nat_lt, position, if◌then◌else◌}
use Rattle.std.specs.Prelude.{option_map, slice_get, slice_set, Result, Ok, Err}
use Rattle.std.specs.List.{AllByRecursion, IsDistinct, list_any, position_or_len}
use Rattle.std.specs.Option.{option_map_or}
use Rattle.std.proofs.lemmas.Bool.{or_from, eq-eqb}
use Rattle.std.proofs.Math.Seq.{get_or-append_seam, set-append_seam}
use Rattle.std.proofs.lemmas.List.{get_or_append_left}
use Rattle.std.proofs.lemmas.List.Elements.{Contains-get_or}
use Rattle.std.proofs.lemmas.List.Sums.{position_or_len_is}
use Rattle.std.proofs.lemmas.Option.{slice_get-get_or}
use Rattle.cm_document.specs.Params.{kind_of}
use Rattle.cm_document.specs.declared.call.Call.TheVariants.{Load, Configure}
use Rattle.cm_document.specs.declared.description.CtlDesc.{CtlDesc}
use Rattle.cm_document.specs.declared.description.Description.{Description}
use Rattle.cm_model.specs.Blanks.{blanks_of, with_one_less}
use Rattle.cm_model.specs.Console.{unless_refused, place_of, slot_at, slot_of, controller_in, reply_on}
use Rattle.cm_model.specs.Console.{configure_refusals, configured_with, after_configure, with_slot, with_changed}
use Rattle.cm_model.specs.Controllers.{configured}
use Rattle.cm_model.specs.Kinds.{is_refused}
use Rattle.cm_model.specs.Machine.{is_loaded_at, is_sold_out_at, load_refusals}
use Rattle.cm_model.specs.Machine.{with_controller, with_loaded, reply_of, step}
use Rattle.cm_model.specs.Order.{nobody, controller_at, divisor}
use Rattle.cm_model.specs.State.{State, Loaded, boot, newly_loaded}
use Rattle.cm_model.specs.declared.blanks.Blanks.{Blanks}
use Rattle.cm_model.specs.declared.entry.Entry.{Entry}
use Rattle.cm_model.specs.declared.reply.Reply.{Reply}
use Rattle.cm_model.specs.declared.reply.Reply.TheVariants as reply
use Rattle.cm_model.specs.declared.reply.Why.{Why}
use Rattle.cm_model.specs.declared.reply.Why.TheVariants as why
use Rattle.spawn_plan.specs.Wanted.{place_in, places_after, have_blanks, can_be_configured}
use Rattle.spawn_plan.specs.declared.fault.SpawnFault.{SpawnFault}
use Rattle.spawn_plan.specs.declared.fault.SpawnFault.TheVariants as fault
use Rattle.spawn_plan.proofs.WantedLemmas.{same_Ok, next_place, place_within}
use Rattle.switch_plan.proofs.ElementLemmas.{each_fails}
use Rattle.spawn_laws.proofs.GoLemmas.{step_to, Goes}

-- ---- Names with their places

-- each of these names has the place beside it
abbrev pub ArePlaced : List CtlDesc → List (List ℕ) → List ℕ → Type 0
ArePlaced cs [] [] = Unit {0}
ArePlaced cs (name ∷ names) (p ∷ ps) = (place_in cs name ≡ Some p) × ArePlaced cs names ps
ArePlaced cs _ _ = ⊥

placed_from : (cs : List CtlDesc) (found : List ℕ) (names : List (List ℕ)) (places : List ℕ)
    → places_after cs found names ≡ Ok places
    → (rest : List ℕ) × (places ≡ found ++ rest) × ArePlaced cs names rest
placed_from cs found [] places is = ([], sym (same_Ok found places is) ∙ sym (append-nil found), tt)
placed_from cs found (name ∷ names) places is =
    let next = next_place cs found name names places (place_in cs name) is in
    let r = placed_from cs (found ++ next.0 ∷ []) names places next.2 in
    (next.0 ∷ r.0, r.1 ∙ append_assoc found (next.0 ∷ []) r.0, (next.1, r.2))

pub are_placed : (cs : List CtlDesc) (names : List (List ℕ)) (places : List ℕ) → places_after cs [] names ≡ Ok places
    → ArePlaced cs names places
are_placed cs names places is = let r = placed_from cs [] names places is in subst (ArePlaced cs names) (sym r.1) r.2

-- ---- Places that differ

at_behind : {A : Type 0} (P : A → Type 0) (xs : List A) (y : A) (ys : List A) → AllByRecursion P (xs ++ y ∷ ys) → P y
at_behind P [] y ys all = all.0
at_behind P (x ∷ xs) y ys all = at_behind P xs y ys all.1

-- the next is none of those before
not_before : (xs : List ℕ) (p : ℕ) (ps : List ℕ) → IsDistinct eqb (xs ++ p ∷ ps) → list_any (λ q. q == p) xs ≡ false
unfolding IsDistinct
not_before [] p ps distinct = refl
not_before (x ∷ xs) p ps distinct =
    or_from (x == p) (list_any (λ q. q == p) xs) (at_behind (λ y. eqb x y ≡ false) xs p ps distinct.0)
    (not_before xs p ps distinct.1)

-- ---- Lists

position_here : {A : Type 0} (test : A → Bool) (xs : List A) (y : A) (ys : List A) → list_any test xs ≡ false
    → test y ≡ true → position test (xs ++ y ∷ ys) ≡ Some (length xs)
position_here test xs y ys none passes =
    let all = xs ++ y ∷ ys in
    let long : length all ≡ length xs + suc (length ys) = length-append xs (y ∷ ys) in
    let here : length xs < length all = omega (arith, long) in
    let first : position_or_len test all ≡ length xs =
    position_or_len_is test all (length xs) y (omega (arith, here))
    (λ k below. ap test (get_or_append_left xs (y ∷ ys) y k below)
    ∙ each_fails test xs none (get_or xs k y) (Contains-get_or xs k y below))
    (λ inside. ap test (get_or-append_seam xs y ys y) ∙ passes) in
    ap (λ n. cond (nat_lt n (length all)) (Some n) None) first
    ∙ ap (λ b. cond b (Some (length xs)) None) (lt-ltb (length xs) (length all) here)

get_here : {A : Type 0} (xs : List A) (y : A) (ys : List A) → slice_get (xs ++ y ∷ ys) (length xs) ≡ Some y
get_here xs y ys =
    let long : length (xs ++ y ∷ ys) ≡ length xs + suc (length ys) = length-append xs (y ∷ ys) in
    slice_get-get_or (xs ++ y ∷ ys) (length xs) y (omega (arith, long))
    ∙ ap (λ (x : _). Some x) (get_or-append_seam xs y ys y)

-- ---- Refusals

none_of_three : (b c : Bool) (x y z : Why) (r : Reply) → b ≡ false → c ≡ false
    → unless_refused ((false, x) ∷ (b, y) ∷ (c, z) ∷ []) r ≡ r
none_of_three false false x y z r first second = refl
none_of_three true c x y z r first second = cc
none_of_three false true x y z r first second = cc

none_of_two : (c : Bool) (y z : Why) (r : Reply) → c ≡ false → unless_refused ((false, y) ∷ (c, z) ∷ []) r ≡ r
none_of_two false y z r first = refl
none_of_two true y z r first = cc

module _ (d : Description) where
  abbrev cs : List CtlDesc
  cs = d.controllers

  abbrev at : ℕ → CtlDesc
  at p = controller_at cs p

  described_there : (p : ℕ) → p < length cs → slice_get cs p ≡ Some (at p)
  described_there p within = slice_get-get_or cs p nobody within

  -- ---- Loads

  -- these were loaded, the first under this serial
  abbrev pub loaded_from : ℕ → List ℕ → List Loaded
  loaded_from serial [] = []
  loaded_from serial (p ∷ ps) = newly_loaded serial p (at p) ∷ loaded_from (serial + 1) ps

  loaded_more : (serial : ℕ) (ps : List ℕ) (p : ℕ)
      → loaded_from serial (ps ++ p ∷ []) ≡ loaded_from serial ps ++ newly_loaded (serial + length ps) p (at p) ∷ []
  loaded_more serial [] p = let same : serial ≡ serial + 0 = omega arith in ap (λ n. newly_loaded n p (at p) ∷ []) same
  loaded_more serial (q ∷ ps) p =
      let same : serial + 1 + length ps ≡ serial + length (q ∷ ps) = omega arith in
      ap (λ ls. newly_loaded serial q (at q) ∷ ls)
      (loaded_more (serial + 1) ps p ∙ ap (λ n. loaded_from (serial + 1) ps ++ newly_loaded n p (at p) ∷ []) same)

  -- and so the next from the first on
  loaded_next : (ps : List ℕ) (p : ℕ)
      → loaded_from 0 (ps ++ p ∷ []) ≡ loaded_from 0 ps ++ newly_loaded (length ps) p (at p) ∷ []
  loaded_next ps p =
      let same : 0 + length ps ≡ length ps = omega arith in
      loaded_more 0 ps p ∙ ap (λ n. loaded_from 0 ps ++ newly_loaded n p (at p) ∷ []) same

  -- the places of these
  pub places_loaded : (serial : ℕ) (ps : List ℕ) → map (λ (l : Loaded). l.place) (loaded_from serial ps) ≡ ps
  places_loaded serial [] = refl
  places_loaded serial (p ∷ ps) = ap (λ qs. p ∷ qs) (places_loaded (serial + 1) ps)

  pub many_loaded : (serial : ℕ) (ps : List ℕ) → length (loaded_from serial ps) ≡ length ps
  many_loaded serial [] = refl
  many_loaded serial (p ∷ ps) = ap suc (many_loaded (serial + 1) ps)

  -- the state of a start with these blanks left, so many loads, and these controllers loaded
  abbrev pub with_these : Blanks → ℕ → List Loaded → State
  with_these blanks loads ls = record (boot d blanks 1) { blanks = blanks; loads = loads; loaded = ls }

  any_place : (serial : ℕ) (ps : List ℕ) (p : ℕ)
      → list_any (λ (l : Loaded). l.place == p) (loaded_from serial ps) ≡ list_any (λ q. q == p) ps
  any_place serial [] p = refl
  any_place serial (q ∷ ps) p = ap (λ b. (q == p) || b) (any_place (serial + 1) ps p)

  module _ (blanks : Blanks) (found : List ℕ) (name : List ℕ) (p : ℕ) (named : place_in cs name ≡ Some p) where
    abbrev before : State
    before = with_these blanks (length found) (loaded_from 0 found)

    abbrev less : Blanks
    less = with_one_less blanks (kind_of (at p).params)

    load_step : list_any (λ q. q == p) found ≡ false → (blanks_of blanks (kind_of (at p).params) == 0) ≡ false
        → step before 0 (Load name)
        ≡ Some (
          with_these less (length (found ++ p ∷ [])) (loaded_from 0 (found ++ p ∷ [])),
          reply.Serial (length found),
        )
    load_step apart left =
        let within : p < length cs = place_within cs name p named in
        let sold : is_sold_out_at before p ≡ false =
        ap (λ o. option_map_or (λ c. blanks_of blanks (kind_of c.params) == 0) o false) (described_there p within)
        ∙ left in
        let replied : reply_of before (Load name) ≡ Some (reply.Serial (length found)) =
        ap (λ o. Some (unless_refused (load_refusals before o) (reply.Serial (length found)))) named
        ∙ ap (λ r. Some r)
        (none_of_three (is_loaded_at before p) (is_sold_out_at before p) why.NotDescribed why.Loaded why.StockEmpty
        (reply.Serial (length found)) (any_place 0 found p ∙ apart) sold) in
        let many : length found + 1 ≡ length (found ++ p ∷ []) = sym (length-append found (p ∷ [])) in
        let serials : loaded_from 0 found ++ newly_loaded (length found) p (at p) ∷ []
        ≡ loaded_from 0 (found ++ p ∷ []) = sym (loaded_next found p) in
        let left_so : with_loaded before (place_of before name)
        ≡ with_these less (length (found ++ p ∷ [])) (loaded_from 0 (found ++ p ∷ [])) =
        ap (with_loaded before) named ∙ ap (with_controller before p) (described_there p within)
        ∙ ap₂ (λ n ls. with_these less n ls) many serials in
        step_to before _ 0 (Load name) (reply.Serial (length found)) refl replied left_so

  -- a blank for the next, and for those behind it
  blank_parts : (blanks : Blanks) (p : ℕ) (ps : List ℕ) → have_blanks cs blanks (p ∷ ps) ≡ Ok tt
      → ((blanks_of blanks (kind_of (at p).params) == 0) ≡ false)
      × (have_blanks cs (with_one_less blanks (kind_of (at p).params)) ps ≡ Ok tt)
  blank_parts blanks p ps have = either (blanks_of blanks (kind_of (at p).params) == 0) refl have
    where
      either : (b : Bool) → (blanks_of blanks (kind_of (at p).params) == 0) ≡ b
          → ◌≡◌ {A = Result (Unit {0}) SpawnFault}
          (if b then Err (fault.NoBlank (at p).name)
          else have_blanks cs (with_one_less blanks (kind_of (at p).params)) ps) (Ok tt)
          → ((blanks_of blanks (kind_of (at p).params) == 0) ≡ false)
          × (have_blanks cs (with_one_less blanks (kind_of (at p).params)) ps ≡ Ok tt)
      either true is have = cc
      either false is have = (is, have)

  -- All are loaded, one after the other.
  pub loads_go : (names : List (List ℕ)) (found rest : List ℕ) (blanks : Blanks) → ArePlaced cs names rest
      → IsDistinct eqb (found ++ rest) → have_blanks cs blanks rest ≡ Ok tt
      → (left : Blanks) × (es : List Entry)
      × Goes (with_these blanks (length found) (loaded_from 0 found)) (map Load names)
      (with_these left (length (found ++ rest)) (loaded_from 0 (found ++ rest))) es
  loads_go [] found [] blanks placed distinct have =
      (blanks, [], (ap (λ ps. with_these blanks (length ps) (loaded_from 0 ps)) (append-nil found), refl))
  loads_go (name ∷ names) found (p ∷ rest) blanks placed distinct have =
      let parts = blank_parts blanks p rest have in
      let less = with_one_less blanks (kind_of (at p).params) in
      let same : (found ++ p ∷ []) ++ rest ≡ found ++ p ∷ rest = append_assoc found (p ∷ []) rest in
      let r = loads_go names (found ++ p ∷ []) rest less placed.1 (subst (IsDistinct eqb) (sym same) distinct)
      parts.1 in
      let stepped = load_step blanks found name p placed.0 (not_before found p rest distinct) parts.0 in (
        r.0,
        _ ∷ r.1,
        (
          with_these less (length (found ++ p ∷ [])) (loaded_from 0 (found ++ p ∷ [])),
          reply.Serial (length found),
          r.1,
          stepped,
          refl,
          subst (λ all. Goes (with_these less (length (found ++ p ∷ [])) (loaded_from 0 (found ++ p ∷ [])))
              (map Load names) (with_these r.0 (length all) (loaded_from 0 all)) r.1) same r.2,
          refl,
        ),
      )
  loads_go [] found (p ∷ rest) blanks placed distinct have = absurd placed
  loads_go (name ∷ names) found [] blanks placed distinct have = absurd placed

  -- ---- Configures

  -- the same with its parameters
  abbrev pub ready : Loaded → Loaded
  ready l = record l { ctl = configured l.ctl (at l.place).params; divisor = Some (divisor d.update_rate l.rate) }

  -- the first of these are configured
  abbrev pub half_ready : List Loaded → List Loaded → List Loaded
  half_ready done left = map ready done ++ left

  any_ready : (done : List Loaded) (p : ℕ)
      → list_any (λ (l : Loaded). l.place == p) (map ready done) ≡ list_any (λ (l : Loaded). l.place == p) done
  any_ready [] p = refl
  any_ready (l ∷ done) p = ap (λ b. (l.place == p) || b) (any_ready done p)

  ready_more : (done left : List Loaded) (l : Loaded)
      → half_ready done (ready l ∷ left) ≡ half_ready (done ++ l ∷ []) left
  ready_more [] left l = refl
  ready_more (first ∷ done) left l = ap (λ ls. ready first ∷ ls) (ready_more done left l)

  -- One that was loaded is configured.
  module _ (blanks : Blanks) (loads serial : ℕ) (done left : List Loaded) (name : List ℕ) (p : ℕ)
      (named : place_in cs name ≡ Some p) where
    abbrev one : Loaded
    one = newly_loaded serial p (at p)

    abbrev half : State
    half = with_these blanks loads (half_ready done (one ∷ left))

    configure_step : list_any (λ (l : Loaded). l.place == p) done ≡ false → is_refused (at p).params ≡ false
        → step half 0 (Configure name) ≡ Some (with_these blanks loads (half_ready (done ++ one ∷ []) left), reply.Done)
    configure_step apart taken =
        let within : p < length cs = place_within cs name p named in
        let there = described_there p within in
        let slot : slot_of half name ≡ Some (length (map ready done)) =
        ap (slot_at half) named
        ∙ position_here (λ (l : Loaded). l.place == p) (map ready done) one left (any_ready done p ∙ apart)
        (eq-eqb p p refl) in
        let stands : slice_get half.loaded (length (map ready done)) ≡ Some one = get_here (map ready done) one left in
        let allowed : option_map_or (λ (c : CtlDesc). is_refused c.params) (slice_get cs p) false ≡ false =
        ap (λ o. option_map_or (λ (c : CtlDesc). is_refused c.params) o false) there ∙ taken in
        let replied : reply_of half (Configure name) ≡ Some reply.Done =
        ap (λ i. Some (reply_on (configure_refusals half) (controller_in half i))) slot
        ∙ ap (λ o. Some (reply_on (configure_refusals half) o)) stands
        ∙ ap (λ r. Some r)
        (none_of_two (option_map_or (λ (c : CtlDesc). is_refused c.params) (slice_get cs p) false) why.Active
        why.Refused reply.Done allowed) in
        let changed : after_configure half one ≡ ready one = ap (configured_with half one) there in
        let left_so : with_changed (after_configure half) half (slot_of half name)
        ≡ with_these blanks loads (half_ready (done ++ one ∷ []) left) =
        ap (with_changed (after_configure half) half) slot
        ∙ ap (λ o. with_slot half (length (map ready done)) (option_map (after_configure half) o)) stands
        ∙ ap (λ l. record half { loaded = slice_set half.loaded (length (map ready done)) l }) changed
        ∙ ap (λ ls. with_these blanks loads ls)
        (set-append_seam (map ready done) one left (ready one) ∙ ready_more done left one) in
        step_to half _ 0 (Configure name) reply.Done refl replied left_so

  taken_parts : (p : ℕ) (ps : List ℕ) → can_be_configured cs (p ∷ ps) ≡ Ok tt
      → (is_refused (at p).params ≡ false) × (can_be_configured cs ps ≡ Ok tt)
  taken_parts p ps can = either (is_refused (at p).params) refl can
    where
      either : (b : Bool) → is_refused (at p).params ≡ b
          → ◌≡◌ {A = Result (Unit {0}) SpawnFault}
          (if b then Err (fault.RefusesConfig (at p).name) else can_be_configured cs ps) (Ok tt)
          → (is_refused (at p).params ≡ false) × (can_be_configured cs ps ≡ Ok tt)
      either true is can = cc
      either false is can = (is, can)

  -- All are configured, one after the other.
  pub configures_go : (names : List (List ℕ)) (blanks : Blanks) (loads : ℕ) (found rest : List ℕ)
      → ArePlaced cs names rest → IsDistinct eqb (found ++ rest) → can_be_configured cs rest ≡ Ok tt
      → (es : List Entry)
      × Goes (with_these blanks loads (half_ready (loaded_from 0 found) (loaded_from (length found) rest)))
      (map Configure names)
      (with_these blanks loads (map ready (loaded_from 0 (found ++ rest)))) es
  configures_go [] blanks loads found [] placed distinct can = (
    [],
    (
      ap (λ ls. with_these blanks loads ls)
          (ap (λ ps. map ready (loaded_from 0 ps)) (append-nil found)
          ∙ sym (append-nil (map ready (loaded_from 0 found)))),
      refl,
    ),
  )
  configures_go (name ∷ names) blanks loads found (p ∷ rest) placed distinct can =
      let parts = taken_parts p rest can in
      let same : (found ++ p ∷ []) ++ rest ≡ found ++ p ∷ rest = append_assoc found (p ∷ []) rest in
      let many : length (found ++ p ∷ []) ≡ length found + 1 = length-append found (p ∷ []) in
      let r = configures_go names blanks loads (found ++ p ∷ []) rest placed.1
      (subst (IsDistinct eqb) (sym same) distinct) parts.1 in
      let stepped =
      configure_step blanks loads (length found) (loaded_from 0 found) (loaded_from (length found + 1) rest) name p
      placed.0 (any_place 0 found p ∙ not_before found p rest distinct) parts.0 in
      let next : half_ready (loaded_from 0 found ++ newly_loaded (length found) p (at p) ∷ [])
      (loaded_from (length found + 1) rest)
      ≡ half_ready (loaded_from 0 (found ++ p ∷ [])) (loaded_from (length (found ++ p ∷ [])) rest) =
      ap₂ (λ done n. half_ready done (loaded_from n rest)) (sym (loaded_next found p)) (sym many) in (
        _ ∷ r.0,
        (
          with_these blanks loads
              (half_ready (loaded_from 0 (found ++ p ∷ [])) (loaded_from (length (found ++ p ∷ [])) rest)),
          reply.Done,
          r.0,
          stepped ∙ ap (λ ls. Some (with_these blanks loads ls, reply.Done)) next,
          refl,
          subst (λ all. Goes
              (with_these blanks loads
              (half_ready (loaded_from 0 (found ++ p ∷ [])) (loaded_from (length (found ++ p ∷ [])) rest)))
              (map Configure names) (with_these blanks loads (map ready (loaded_from 0 all))) r.0) same r.1,
          refl,
        ),
      )
  configures_go [] blanks loads found (p ∷ rest) placed distinct can = absurd placed
  configures_go (name ∷ names) blanks loads found [] placed distinct can = absurd placed
