-- The order of updates has the loaded controllers that are active, and no other.
use Rattle.std.proofs.Common.{◌≡◌, suc, true, length, get_or, refl, arith}
use Rattle.std.specs.Prelude.{◌==◌, ◌&&◌, not, filter, IsPermutation}
use Rattle.std.specs.List.{AllByRecursion, Contains}
use Rattle.std.proofs.lemmas.Bool.{and_from, eq-eqb}
use Rattle.std.proofs.lemmas.List.Sorted.{Contains-permutation, IsPermutation-sym}
use Rattle.cm_model.specs.Cycle.{active_order, is_due_now, is_held_off, updated_in}
use Rattle.cm_model.specs.Order.{depth}
use Rattle.cm_model.specs.State.{State, Loaded, is_active, active}
use Rattle.chain_order.proofs.DepthLemmas.{depth-most}
use Rattle.chain_order.proofs.OrderLemmas.{by_rank-once}
use Rattle.switch_plan.proofs.ElementLemmas.{any_from, filter_back, filter_from}
use Rattle.sound_laws.proofs.ParamsLemmas.{all_each}

module _ (s : State) where
  -- each active one stands there once
  active_once : IsPermutation (filter is_active s.loaded) (active_order s)
  active_once =
      by_rank-once (λ (l : Loaded). depth s.description.controllers (active s) l.place)
      (suc (length s.description.controllers)) (filter is_active s.loaded)
      (λ k d below. omega
      (arith, depth-most s.description.controllers (active s) (get_or (filter is_active s.loaded) k d).place))

  pub in_active_order : (l : Loaded) → Contains s.loaded l → is_active l ≡ true → Contains (active_order s) l
  in_active_order l inside runs =
      Contains-permutation (filter is_active s.loaded) (active_order s) l active_once
      (filter_from is_active s.loaded l inside runs)

  pub from_active_order : (l : Loaded) → Contains (active_order s) l → Contains s.loaded l × (is_active l ≡ true)
  from_active_order l inside =
      filter_back is_active s.loaded l
      (Contains-permutation (active_order s) (filter is_active s.loaded) l
      (IsPermutation-sym (filter is_active s.loaded) (active_order s) active_once) inside)

  -- each that a cycle updates is active at its place
  pub updated_active : AllByRecursion (λ l. active s l.place ≡ true) (updated_in s)
  updated_active =
      all_each (λ l. active s l.place ≡ true) (updated_in s) (λ l inside.
      let loaded =
      from_active_order l (filter_back (λ l. is_due_now s l && not (is_held_off s l)) (active_order s) l inside).0 in
      any_from (λ (each : Loaded). is_active each && each.place == l.place) s.loaded l loaded.0
      (and_from (is_active l) (l.place == l.place) loaded.1 (eq-eqb l.place l.place refl)))
