-- What is worked out of a report is what the rules say.
use Rattle.std.proofs.Common.{◌≡◌, ℕ, suc, ◌<◌, Bool, true, false, List, [], length, map, get_or}
use Rattle.std.proofs.Common.{None, inl, inr, refl, sym, ◌∙◌, ap, ap₂, true≢false, arith}
use Rattle.std.specs.Prelude.{◌==◌, ◌&&◌, ◌||◌, not, filter, AllPairs}
use Rattle.std.specs.List.{All, list_any}
use Rattle.std.proofs.Math.Path.{fun_ext}
use Rattle.std.proofs.lemmas.Bool.{cases_lt, and_parts, and_from, eq-eqb}
use Rattle.std.proofs.lemmas.List.{get_or_past}
use Rattle.std.proofs.lemmas.List.Elements.{Contains-get_or}
use Rattle.sequence.proofs.ListLemmas.{filter_map_swapped, map_twice}
use Rattle.cm_document.specs.Links.{first_in_loop}
use Rattle.cm_document.specs.Valid.{IsValid}
use Rattle.cm_document.specs.declared.description.CtlDesc.{CtlDesc}
use Rattle.cm_model.proofs.CommitLemmas.{scene_active}
use Rattle.cm_model.proofs.UpdateLemmas.{updates_leave_active}
use Rattle.cm_model.specs.Commit.{scene_of}
use Rattle.cm_model.specs.Components.{read_succeeds}
use Rattle.cm_model.specs.Cycle.{component_is, active_order, updated_in, is_struck}
use Rattle.cm_model.specs.Cycle.{struck, must_stop, stays_active, stops, cycle, landed}
use Rattle.cm_model.specs.Order.{Places, set_of, places_of, precedes_at, depth, in_order}
use Rattle.cm_model.specs.Scene as scenes
use Rattle.cm_model.specs.Scene.{is_chained_in}
use Rattle.cm_model.specs.State.{State, Loaded, is_active, active}
use Rattle.cm_model.specs.Steady.{IsInOrder, IsSteady}
use Rattle.cm_model.specs.Switches.{differ, is_stopped, is_started}
use Rattle.cm_model.specs.Values.{InterfaceValue, after_reads}
use Rattle.cm_model.specs.declared.member.Member.{Member}
use Rattle.chain_order.proofs.RunLemmas.{by_rank_map}
use Rattle.chain_order.specs.Links.{leaders_of, linked, places_below}
use Rattle.chain_order.proofs.DepthLemmas.{precedes_at-past}
use Rattle.chain_order.proofs.LinkLemmas.{length-each_below, linked-rows_of}
use Rattle.chain_order.proofs.OrderLemmas.{in_order-first}
use Rattle.chain_order.proofs.PlaceLemmas.{any-places_below}
use Rattle.switch_plan.proofs.ElementLemmas.{some_of, any_from, filter_back, Contains-map_back}
use Rattle.cm_model.proofs.StillLemmas.{none_below}
use Rattle.sound_laws.proofs.CycleLemmas.{landed_in_order}
use Rattle.sound_laws.proofs.ParamsLemmas.{HaveParams, active_params, params_loaded, params_configured}
use Rattle.sound_laws.proofs.StopLemmas.{stays_parts, stays_together}
use Rattle.sound_laws.proofs.UpdatedLemmas.{updates_own}
use Rattle.sound_laws.proofs.ValidLemmas.{valid-IsChecked}
use Rattle.stop_plan.specs.Ending.{member_of, members_in_order, told_in, nobody_again}
use Rattle.stop_plan.specs.Ending.{IsReportOf, IsEndingOf, CanBeCommitted}
use Rattle.stop_plan.specs.Reports.{count_in, is_struck_in, places_where, is_chained_by, changes_mode}
use Rattle.stop_plan.specs.Settled.{IsSettled}
use Rattle.stop_plan.specs.Spread.{spread}
use Rattle.stop_plan.specs.declared.ending.Ending.{Ending}
use Rattle.stop_plan.specs.declared.report.Report.{Report}
use Rattle.stop_plan.proofs.ReportLemmas.{places_in_order, struck_told}
use Rattle.stop_plan.proofs.SpreadLemmas.{spread_reaches}
use Rattle.stop_plan.proofs.WhereLemmas.{where_place}

-- ---- Chained modes

-- links show who is chained
pub chained_by : (cs : List CtlDesc) (set : Places) (p : ℕ)
    → is_chained_by (leaders_of cs) set p ≡ is_chained_in cs set p
chained_by cs set p =
    elim (cases_lt p (length cs)) [
      | inl below ↦ ap (list_any set) (linked-rows_of (precedes_at cs) (length cs) p below)
          ∙ any-places_below set (λ q. precedes_at cs q p) (length cs)
      | inr past ↦
          ap (list_any set)
          (get_or_past (leaders_of cs) p []
          (omega (
            arith,
            past,
            length-each_below (λ q. places_below (λ r. precedes_at cs r q) (length cs)) (length cs),
          )))
          ∙ sym (none_below (λ q. set q && precedes_at cs q p) (length cs)
          (λ q. ap (λ b. set q && b) (precedes_at-past cs q p past) ∙ neither (set q)))
    ]
  where
    neither : (b : Bool) → (b && false) ≡ false
    neither true = refl
    neither false = refl

-- ---- The state that the cycle leaves

-- the controllers are active that were in the cycle
pub landed_active : (s : State) → IsInOrder s → scenes.active (scene_of (landed s (cycle s))) ≡ active s
unfolding cycle
landed_active s kept =
    let read : List InterfaceValue = after_reads (component_is read_succeeds s) s.bodies s.values in
    scene_active (landed s (cycle s))
    (updates_own s (record { loaded = s.loaded; values = read; ran = [] }) (updated_in s) kept.own)
    ∙ fun_ext (λ p. updates_leave_active s read p)

-- those that stay can be committed in it
pub stays_committed : (s : State) → IsValid s.description → IsSteady s
    → CanBeCommitted (landed s (cycle s)) (stays_active s (told_in s))
unfolding cycle
stays_committed s valid steady =
    let read : List InterfaceValue = after_reads (component_is read_succeeds s) s.bodies s.values in
    let checked = valid-IsChecked s.description valid in
    let free = checked.free in
    let kept : IsInOrder (landed s (cycle s)) = landed_in_order s checked steady in
    let params : HaveParams (landed s (cycle s)).loaded (stays_active s (told_in s)) =
    λ p stays. active_params (landed s (cycle s)) kept p
    (updates_leave_active s read p ∙ (stays_parts s free (told_in s) p stays).0) in
    record {
      in_order = kept;
      loaded = params_loaded (landed s (cycle s)).loaded (stays_active s (told_in s)) params;
      configured = params_configured (landed s (cycle s)) (stays_active s (told_in s)) kept params;
      together = stays_together s free (told_in s) steady.in_order.counted steady.together;
    }

-- ---- Who must stop

module _ (s : State) (valid : IsValid s.description) where
  abbrev cs : List CtlDesc
  cs = s.description.controllers

  abbrev stay : Places
  stay = stays_active s (told_in s)

  free : first_in_loop cs ≡ None
  free = (valid-IsChecked s.description valid).free

  -- the order of updates is one by depth
  ordered : members_in_order s ≡ in_order cs (active s) (map member_of (filter is_active s.loaded))
  ordered = sym (by_rank_map (λ m. depth cs (active s) m.place) member_of (suc (length cs)) (filter is_active s.loaded))

  are_active : All (λ m. active s m.place ≡ true) (map member_of (filter is_active s.loaded))
  are_active k d below =
      let ms = map member_of (filter is_active s.loaded) in
      let r = Contains-map_back member_of (filter is_active s.loaded) (get_or ms k d) (Contains-get_or ms k d below) in
      let from = filter_back is_active s.loaded r.0 r.1 in
      any_from (λ (l : Loaded). is_active l && l.place == (get_or ms k d).place) s.loaded r.0 from.0
      (and_from (is_active r.0) (r.0.place == (get_or ms k d).place) from.1
      (eq-eqb r.0.place (get_or ms k d).place (ap (λ (m : Member). m.place) r.2)))

  apart : AllPairs (λ m n. precedes_at cs n.place m.place ≡ false) (members_in_order s)
  apart = rw ordered (in_order-first cs free (active s) (map member_of (filter is_active s.loaded)) are_active)

  struck_runs : (p : ℕ) → struck s (told_in s) p ≡ true → active s p ≡ true
  struck_runs p hit =
      let r = some_of (λ (l : Loaded). is_active l && (l.place == p && is_struck s (told_in s) l)) s.loaded hit in
      let parts = and_parts (is_active r.0) (r.0.place == p && is_struck s (told_in s) r.0) r.2 in
      let here = and_parts (r.0.place == p) (is_struck s (told_in s) r.0) parts.1 in
      any_from (λ (l : Loaded). is_active l && l.place == p) s.loaded r.0 r.1
      (and_from (is_active r.0) (r.0.place == p) parts.0 here.0)

  module _ (r : Report) (of : IsReportOf s r) (within : All (λ m. m.place < count_in r) r.order.now) where
    described : All (λ m. m.place < length cs) (members_in_order s)
    described k d below =
        let leaders : count_in r ≡ length cs =
        ap (λ w. length w.leaders) of.relations
        ∙ length-each_below (λ q. places_below (λ p. precedes_at cs p q) (length cs)) (length cs) in
        let here : (get_or (members_in_order s) k d).place < count_in r = (rw of.order at within) k d below in
        omega (arith, leaders, here)

    -- The pass finds those that must stop.
    pub fallen_so : (p : ℕ)
        → spread (linked r.relations.now.followers) r.order.now (places_where (is_struck_in r) r.order.now) p
        ≡ must_stop s (told_in s) p
    fallen_so p =
        ap (λ hit. spread (linked r.relations.now.followers) r.order.now hit p) (fun_ext (struck_told s r of))
        ∙ ap₂ (λ w ms. spread (linked w.followers) ms (struck s (told_in s)) p) of.relations of.order
        ∙ spread_reaches cs free (active s) (struck s (told_in s)) struck_runs (members_in_order s) apart described
        (places_in_order s) p

    -- So the serials of those that fall are the stops.
    pub stops_so : (fallen : List Bool) → ((p : ℕ) → set_of fallen p ≡ must_stop s (told_in s) p)
        → map (λ m. m.serial) (filter (λ m. set_of fallen m.place) r.order.now) ≡ stops s (told_in s)
    stops_so fallen same =
        ap₂ (λ (set : Places) (ms : List Member). map (λ (m : Member). m.serial)
        (filter (λ (m : Member). set m.place) ms)) (fun_ext same) of.order
        ∙ ap (map (λ (m : Member). m.serial))
        (filter_map_swapped (λ (m : Member). must_stop s (told_in s) m.place) member_of (active_order s))
        ∙ map_twice member_of (λ (m : Member). m.serial)
        (filter (λ (l : Loaded). must_stop s (told_in s) l.place) (active_order s))

    -- ---- What is settled

    module _ (kept : IsInOrder s) (was fallen : List Bool) (active_so : (p : ℕ) → set_of was p ≡ active s p)
        (falls : (p : ℕ) → set_of fallen p ≡ must_stop s (told_in s) p)
        (e : Ending) (settled : IsSettled r.relations.now.leaders r.order.now was fallen e) where
      order_so : (p : ℕ) → places_of r.order.now p ≡ active s p
      order_so p = ap (λ ms. places_of ms p) of.order ∙ places_in_order s p

      at_place : (flags : List Bool) (test : ℕ → Bool) → set_of flags ≡ places_where (λ m. test m.place) r.order.now
          → (p : ℕ) → set_of flags p ≡ (active s p && test p)
      at_place flags test is p = ap (λ f. f p) is ∙ where_place test r.order.now p ∙ ap (λ b. b && test p) (order_so p)

      set_so : (p : ℕ) → set_of e.set p ≡ stay p
      set_so p = at_place e.set (λ q. not (set_of fallen q)) settled.set p ∙ ap (λ b. active s p && not b) (falls p)

      mode_so : (p : ℕ)
          → changes_mode r.relations.now.leaders (set_of was) (set_of e.set) p
          ≡ differ (is_chained_in cs (active s) p) (is_chained_in cs stay p)
      mode_so p =
          ap (λ w. changes_mode w.leaders (set_of was) (set_of e.set) p) of.relations
          ∙ ap₂ (λ before after. changes_mode (leaders_of cs) before after p) (fun_ext active_so) (fun_ext set_so)
          ∙ ap₂ differ (chained_by cs (active s) p) (chained_by cs stay p)

      stopped_so : (p : ℕ) → set_of e.stopped p ≡ is_stopped (scene_of (landed s (cycle s))) stay nobody_again p
      stopped_so p =
          at_place e.stopped
          (λ q. not (set_of e.set q) || changes_mode r.relations.now.leaders (set_of was) (set_of e.set) q)
          settled.stopped p
          ∙ ap₂ (λ after changes. active s p && (not after || changes)) (set_so p) (mode_so p)
          ∙ sym (ap (λ before. before p
          && (not (stay p) || differ (is_chained_in cs before p) (is_chained_in cs stay p))) (landed_active s kept))

      -- who stays was active
      both_active : (was stays changes : Bool) → (stays ≡ true → was ≡ true)
          → (was && (stays && changes)) ≡ (stays && (not was || changes))
      both_active true stays changes runs = refl
      both_active false true changes runs = absurd (true≢false (sym (runs refl)))
      both_active false false changes runs = refl

      started_so : (p : ℕ) → set_of e.started p ≡ is_started (scene_of (landed s (cycle s))) stay nobody_again p
      started_so p =
          let changes : Bool = differ (is_chained_in cs (active s) p) (is_chained_in cs stay p) in
          at_place e.started (λ q. set_of e.set q && changes_mode r.relations.now.leaders (set_of was) (set_of e.set) q)
          settled.started p
          ∙ ap₂ (λ after change. active s p && (after && change)) (set_so p) (mode_so p)
          ∙ both_active (active s p) (stay p) changes
          (λ stays. (and_parts (active s p) (not (must_stop s (told_in s) p)) stays).0)
          ∙ sym (ap (λ before. stay p
          && (not (before p) || differ (is_chained_in cs before p) (is_chained_in cs stay p))) (landed_active s kept))

      chained_so : (p : ℕ) → set_of e.chained p ≡ is_chained_in cs stay p
      chained_so p =
          ap (λ f. f p) settled.chained ∙ ap₂ (λ w set. is_chained_by w.leaders set p) of.relations (fun_ext set_so)
          ∙ chained_by cs stay p

      -- What is settled is the end of the cycle.
      pub ending_so : IsEndingOf s e
      ending_so = record {
        set = fun_ext set_so;
        stopped = fun_ext stopped_so;
        started = fun_ext started_so;
        chained =
            fun_ext chained_so;
      }
