-- The sets of a switch, read off the serials of its plan.
use Rattle.std.proofs.Common.{◌≡◌, ℕ, ◌<◌, Bool, true, false, List, [], ◌∷◌, length, map, cond, refl, sym, ◌∙◌, ap, ap₂}
use Rattle.std.specs.Prelude.{◌==◌, ◌&&◌, ◌||◌, not, filter, reverse}
use Rattle.std.specs.List.{All, IsDistinct, Contains, list_any}
use Rattle.std.proofs.Math.Path.{fun_ext}
use Rattle.std.proofs.lemmas.Bool.{and_parts, and_from, eqb-true, eq-eqb}
use Rattle.std.proofs.lemmas.List.Elements.{All-filter, All-map}
use Rattle.std.proofs.lemmas.List.Sorted.{list_any-IsPermutation, IsPermutation-reverse}
use Rattle.std.specs.Cmp.{both_ways}
use Rattle.cm_document.specs.declared.description.Description.{Description}
use Rattle.cm_model.proofs.LoadedLemmas.{and_true, and_false}
use Rattle.cm_model.specs.Components.{is_listed}
use Rattle.cm_model.specs.Order.{Places, set_of, precedes_at, places_of}
use Rattle.cm_model.specs.Scene.{Scene, has_seen, is_running, active, member, order}
use Rattle.cm_model.specs.Switches.{restarts, is_stopped, is_started, off_list, on_list}
use Rattle.cm_model.specs.declared.member.Member.{Member}
use Rattle.cm_model.specs.declared.seen.Seen.{Seen}
use Rattle.chain_order.proofs.LinkLemmas.{length-each_below}
use Rattle.chain_order.specs.Links.{places_below}
use Rattle.switch_plan.proofs.CauseLemmas.{order_back, order_from}
use Rattle.switch_plan.proofs.ElementLemmas.{some_of, any_from, filter_back, filter_from}
use Rattle.switch_plan.proofs.ElementLemmas.{Contains-map, Contains-map_back}
use Rattle.request_plan.proofs.ListLemmas.{one_of_number}
use Rattle.switch_plan.specs.Relations.{Related, relations_of}
use Rattle.request_plan.specs.Situations.{of_serials, running}

-- ---- Places

-- the places of those that pass a test
pub places_where : (test : Seen → Bool) (ls : List Seen) (p : ℕ)
    → places_of (map member (filter test ls)) p ≡ has_seen test ls p
places_where test [] p = refl
places_where test (l ∷ ls) p = one (test l) (places_where test ls p)
  where
    one : (b : Bool) → places_of (map member (filter test ls)) p ≡ has_seen test ls p
        → places_of (map member (cond b (l ∷ filter test ls) (filter test ls))) p
        ≡ ((l.place == p && b) || has_seen test ls p)
    one true rest = ap₂ (λ a c. a || c) (sym (and_true (l.place == p))) rest
    one false rest = rest ∙ sym (ap (λ a. a || has_seen test ls p) (and_false (l.place == p)))

pub as_set : (test : Seen → Bool) (ls : List Seen) → places_of (map member (filter test ls)) ≡ has_seen test ls
as_set test ls = fun_ext (places_where test ls)

-- each of them has its place
pub members_within : (n : ℕ) (test : Seen → Bool) (ls : List Seen) → All (λ l. l.place < n) ls
    → All (λ m. m.place < n) (map member (filter test ls))
members_within n test ls within =
    All-map (λ (m : Member). m.place < n) member (filter test ls)
    (All-filter test (λ (l : Seen). l.place < n) ls within)

-- in a list that is told
pub listed_within : (n : ℕ) (test : Seen → Bool) (ls : List Seen) (ms : List Member) → ms ≡ map member (filter test ls)
    → All (λ l. l.place < n) ls → All (λ m. m.place < n) ms
listed_within n test ls ms is within = rw is (members_within n test ls within)

-- the set of a list that is told
pub listed_set : (test : Seen → Bool) (ls : List Seen) (ms : List Member) → ms ≡ map member (filter test ls)
    → places_of ms ≡ has_seen test ls
listed_set test ls ms is = ap places_of is ∙ as_set test ls

-- the set of a switch, made of who was active, who is stopped and who is started
pub set_made : (loaded : List Seen) (off on : List ℕ) (before without stopped started set : List Bool)
    → set_of before ≡ running loaded → set_of stopped ≡ of_serials loaded off
    → set_of started ≡ of_serials loaded on → set_of without ≡ (λ p. set_of before p && not (set_of stopped p))
    → set_of set ≡ (λ p. set_of without p || set_of started p)
    → set_of set ≡ (λ p. (running loaded p && not (of_serials loaded off p)) || of_serials loaded on p)
set_made loaded off on before without stopped started set was leaves comes parted joined =
    joined ∙ ap₂ {C = Places} (λ (a b : Places) p. a p || b p)
    (parted ∙ ap₂ {C = Places} (λ (a b : Places) p. a p && not (b p)) was leaves) comes

-- a row for each described controller
pub leaders_long : (w : Related) (d : Description) → w ≡ relations_of d → length w.leaders ≡ length d.controllers
leaders_long w d is =
    ap (λ (w : Related). length w.leaders) is
    ∙ length-each_below (λ p. places_below (λ q. precedes_at d.controllers q p) (length d.controllers))
    (length d.controllers)

-- ---- Serials

module _ (scene : Scene) (once : IsDistinct (λ m n. m == n) (map (λ l. l.serial) scene.loaded)) where
  -- of a set whose members are loaded, those that move are told by their serials
  module _ (set moves : Places) (within : (p : ℕ) → moves p ≡ true → set p ≡ true)
      (loaded : (p : ℕ) → set p ≡ true → list_any (λ (l : Seen). l.place == p) scene.loaded ≡ true) where
    abbrev those : List Member
    those = filter (λ m. moves m.place) (order scene set)

    abbrev serials : List ℕ
    serials = map (λ m. m.serial) those

    listed : (l : Seen) → Contains scene.loaded l → moves l.place ≡ true → is_listed serials l.serial ≡ true
    listed l inside is =
        any_from (λ n. n == l.serial) serials l.serial
        (Contains-map (λ (m : Member). m.serial) those (member l)
        (filter_from (λ (m : Member). moves m.place) (order scene set) (member l)
        (order_from scene set l inside (within l.place is)) is))
        (eq-eqb l.serial l.serial refl)

    moving : (l : Seen) → Contains scene.loaded l → is_listed serials l.serial ≡ true → moves l.place ≡ true
    moving l inside is =
        let n = some_of (λ n. n == l.serial) serials is in
        let m = Contains-map_back (λ (m : Member). m.serial) those n.0 n.1 in
        let kept = filter_back (λ (m : Member). moves m.place) (order scene set) m.0 m.1 in
        let back = order_back scene set m.0 kept.0 in
        let same : back.0.serial ≡ l.serial = ap (λ (k : Member). k.serial) back.2 ∙ m.2 ∙ eqb-true n.0 l.serial n.2 in
        let is_it : back.0 ≡ l = one_of_number (λ (k : Seen). k.serial) scene.loaded once back.0 l back.1 inside same in
        ap (λ (k : Seen). moves k.place) (sym is_it) ∙ ap (λ (k : Member). moves k.place) back.2 ∙ kept.1

    pub moves_of_serials : of_serials scene.loaded serials ≡ moves
    moves_of_serials = fun_ext (λ p. both_ways (of_serials scene.loaded serials p) (moves p)
        (λ any.
        let l = some_of (λ (l : Seen). l.place == p && is_listed serials l.serial) scene.loaded any in
        let parts = and_parts (l.0.place == p) (is_listed serials l.0.serial) l.2 in
        ap moves (sym (eqb-true l.0.place p parts.0)) ∙ moving l.0 l.1 parts.1)
        (λ is.
        let l = some_of (λ (l : Seen). l.place == p) scene.loaded (loaded p (within p is)) in
        any_from (λ (l : Seen). l.place == p && is_listed serials l.serial) scene.loaded l.0 l.1
        (and_from (l.0.place == p) (is_listed serials l.0.serial) l.2
        (listed l.0 l.1 (ap moves (eqb-true l.0.place p l.2) ∙ is)))))

  -- an active controller is loaded
  active_loaded : (p : ℕ) → active scene p ≡ true → list_any (λ (l : Seen). l.place == p) scene.loaded ≡ true
  active_loaded p runs =
      let l = some_of (λ (l : Seen). l.place == p && is_running l.life) scene.loaded runs in
      any_from (λ (l : Seen). l.place == p) scene.loaded l.0 l.1
      (and_parts (l.0.place == p) (is_running l.0.life) l.2).0

  -- Those on the list to deactivate are those that are stopped,
  pub stopped_of : (set again : Places)
      → of_serials scene.loaded (off_list scene set again) ≡ is_stopped scene set again
  stopped_of set again =
      moves_of_serials (active scene) (is_stopped scene set again)
      (λ p is. (and_parts (active scene p) (not (set p) || restarts scene set again p) is).0) active_loaded

  -- and those on the list to activate, in whichever order, are those that are started.
  pub started_of : (set again : Places)
      → ((p : ℕ) → set p ≡ true → list_any (λ (l : Seen). l.place == p) scene.loaded ≡ true)
      → of_serials scene.loaded (on_list scene set again) ≡ is_started scene set again
  started_of set again loaded =
      let forward : List ℕ = map (λ m. m.serial) (filter (λ m. is_started scene set again m.place) (order scene set)) in
      ap (λ (test : ℕ → Bool). has_seen (λ l. test l.serial) scene.loaded)
      (fun_ext (λ n. sym
      (list_any-IsPermutation (λ each. each == n) forward (reverse forward) (IsPermutation-reverse forward))))
      ∙ moves_of_serials set (is_started scene set again)
      (λ p is. (and_parts (set p) (not (active scene p) || restarts scene set again p) is).0) loaded

  -- So the set is known from both.
  between : (was member again : Bool)
      → ((was && not (was && (not member || again))) || (member && (not was || again))) ≡ member
  between true true true = refl
  between true true false = refl
  between true false again = refl
  between false true again = refl
  between false false again = refl

  pub set_between : (set again : Places)
      → (λ p. (active scene p && not (is_stopped scene set again p)) || is_started scene set again p) ≡ set
  set_between set again = fun_ext (λ p. between (active scene p) (set p) (restarts scene set again p))
