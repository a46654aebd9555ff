-- What one more controller comes to.
use Rattle.std.proofs.Common.{◌≡◌, ℕ, suc, ◌+◌, ◌<◌, Bool, cond, List, [], ◌∷◌, ◌++◌, length}
use Rattle.std.proofs.Common.{get_or, drop, Some, None, inl, inr, sym, ◌∙◌, ap, ap₂}
use Rattle.std.specs.Prelude.{◌&&◌, ◌||◌, ◌==◌, not, if◌then◌else◌}
use Rattle.std.proofs.lemmas.Bool.{cases_Bool, eqb-true}
use mathlib.Core.Path.{fun_ext}
use Rattle.std.specs.List.{All}
use Rattle.std.proofs.lemmas.List.{drop_more}
use Rattle.std.proofs.lemmas.List.Elements.{All-weaker}
use Rattle.cm_model.specs.Order.{Places, with_one, places_of, by_rank, height}
use Rattle.cm_model.specs.Scene.{Scene, controllers_in, described, active}
use Rattle.cm_model.specs.Faults.{fault}
use Rattle.cm_model.specs.Switches.{with_name}
use Rattle.cm_model.specs.BestEffort.{Joined, joined_with, join, join_all, joining, by_height}
use Rattle.cm_model.specs.declared.cause.Cause.{Cause}
use Rattle.cm_model.specs.declared.cause.Dropped.{Dropped}
use Rattle.cm_model.specs.declared.member.Member.{Member}
use Rattle.chain_order.specs.Links.{each_below}
use Rattle.chain_order.proofs.LinkLemmas.{length-each_below, get_or-each_below}
use Rattle.chain_order.proofs.RunLemmas.{by_rank-same}

-- it joins where it has no fault in the set with it
pub join-none : (scene : Scene) (on set tried : Places) (dropped : List Dropped) (m : Member)
    → tried ≡ with_one m.place set
    → fault scene tried on m.place ≡ None
    → join scene on (record { set = set; dropped = dropped }) m ≡ record { set = tried; dropped = dropped }
join-none scene on set tried dropped m is none =
    let before : Joined = record { set = set; dropped = dropped } in
    ap (joined_with m.place (described scene m.place).name before) (ap (λ t. fault scene t on m.place) (sym is) ∙ none)
    ∙ ap (λ (t : Places). let j : Joined = record { set = t; dropped = dropped } in j) (sym is)

-- else it is dropped with its fault
pub join-some : (scene : Scene) (on set tried : Places) (dropped : List Dropped) (m : Member) (c : Cause)
    → tried ≡ with_one m.place set
    → fault scene tried on m.place ≡ Some c
    → join scene on (record { set = set; dropped = dropped }) m
    ≡ record { set = set; dropped = dropped ++ with_name (described scene m.place).name c ∷ [] }
join-some scene on set tried dropped m c is some =
    let before : Joined = record { set = set; dropped = dropped } in
    ap (joined_with m.place (described scene m.place).name before) (ap (λ t. fault scene t on m.place) (sym is) ∙ some)

-- a set with one more, where that one is put back as it was before, is as it was
pub put_back : (set tried after : Places) (p : ℕ) (was : Bool) → was ≡ set p → tried ≡ with_one p set
    → after ≡ (λ q. if p == q then was else tried q) → after ≡ set
put_back set tried after p was before more back = back ∙ fun_ext at
  where
    at : (q : ℕ) → (if p == q then was else tried q) ≡ set q
    at q = elim (cases_Bool (p == q)) [
      | inl here ↦ ap (λ b. cond b was (tried q)) here ∙ before ∙ ap set (eqb-true p q here)
      | inr other ↦ ap (λ b. cond b was (tried q)) other ∙ ap (λ (t : Places). t q) more ∙ ap (λ b. b || set q) other
    ]

-- heights that stand in a list order those whose places it has
pub by_heights : (scene : Scene) (heights : List ℕ) (ms : List Member)
    → heights ≡ each_below (height (controllers_in scene)) (length (controllers_in scene))
    → All (λ m. m.place < length (controllers_in scene)) ms
    → by_rank (λ m. get_or heights m.place 0) (suc (length heights)) ms ≡ by_height scene ms
by_heights scene heights ms is within =
    let n = length (controllers_in scene) in
    let long : length heights ≡ n = ap length is ∙ length-each_below (height (controllers_in scene)) n in
    rw long (by_rank-same _ _ (suc n) ms
    (All-weaker (λ m. m.place < n) (λ m. get_or heights m.place 0 ≡ height (controllers_in scene) m.place)
    (λ m below. ap (λ hs. get_or hs m.place 0) is ∙ get_or-each_below (height (controllers_in scene)) n m.place 0 below)
    ms within))

-- the active controllers without those that leave, and with these by height still to join
pub joining-begun : (scene : Scene) (old leaving set : Places) (dropped : List Dropped) (ms list : List Member)
    → ((p : ℕ) → old p ≡ active scene p)
    → set ≡ (λ p. old p && not (leaving p)) → list ≡ by_height scene ms
    → join_all scene (places_of ms) (record { set = set; dropped = dropped }) list ≡ joining scene leaving dropped ms
joining-begun scene old leaving set dropped ms list was is ordered =
    ap₂ (λ (s : Places) (l : List Member). let j : Joined = record { set = s; dropped = dropped } in
    join_all scene (places_of ms) j l)
    (is ∙ fun_ext (λ p. ap (λ a. a && not (leaving p)) (was p))) ordered

-- one more has joined, or was dropped
pub joining-more : (scene : Scene) (named on set after : Places) (dropped more : List Dropped) (list : List Member)
    (i : ℕ) (d : Member) → i < length list → named ≡ on
    → record { set = after; dropped = more }
    ≡ join scene named (record { set = set; dropped = dropped }) (get_or list i d)
    → join_all scene on (record { set = after; dropped = more }) (drop (i + 1) list)
    ≡ join_all scene on (record { set = set; dropped = dropped }) (drop i list)
joining-more scene named on set after dropped more list i d below is one =
    let before : Joined = record { set = set; dropped = dropped } in
    ap (λ j. join_all scene on j (drop (i + 1) list))
    (one ∙ ap (λ (o : Places). join scene o before (get_or list i d)) is)
    ∙ sym (ap (join_all scene on before) (drop_more list i d below))
