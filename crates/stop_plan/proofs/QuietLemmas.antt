-- Where nothing failed nobody stops, and nothing changes.
use Rattle.std.proofs.Common.{◌≡◌, ℕ, zero, suc, Bool, true, false, List, [], ◌∷◌, ◌++◌}
use Rattle.std.proofs.Common.{length, map, Option, Some, None, refl, sym, ◌∙◌, ap, ap₂}
use Rattle.std.specs.Prelude.{◌==◌, ◌&&◌, ◌||◌, not, filter}
use Rattle.std.specs.List.{list_any}
use Rattle.std.specs.Option.{option_map_or}
use Rattle.std.proofs.Math.Path.{fun_ext}
use Rattle.std.proofs.lemmas.Bool.{or_from}
use Rattle.cm_model.proofs.StillLemmas.{nothing_changes, none_below}
use Rattle.cm_model.specs.Claims.{uses}
use Rattle.cm_model.specs.Commit.{described_of, scene_of, commit}
use Rattle.cm_model.specs.Components.{has_failed}
use Rattle.cm_model.specs.Cycle.{component_is, failed_in, active_order, has_erred, is_struck, struck}
use Rattle.cm_model.specs.Cycle.{reaches, must_stop, stays_active, stops, cycle, landed, after_cycle}
use Rattle.cm_model.specs.Faults.{component_with}
use Rattle.cm_model.specs.Order.{Places, precedes_at, some_below}
use Rattle.cm_storage.specs.Ran.{Ran}
use Rattle.cm_model.specs.Scene as scenes
use Rattle.cm_model.specs.Scene.{is_chained_in}
use Rattle.cm_model.specs.State.{State, Loaded, is_active, active}
use Rattle.cm_model.specs.Steady.{IsInOrder}
use Rattle.cm_model.specs.Switches.{differ, is_stopped, is_started}
use Rattle.stop_plan.specs.Ending.{erred_in, told_in, nobody_again}
use Rattle.stop_plan.proofs.EndingLemmas.{landed_active}
use Rattle.stop_plan.proofs.ReportLemmas.{told_failed, told_erred}

none_any : {A : Type 0} (test : A → Bool) → ((x : A) → test x ≡ false) → (xs : List A) → list_any test xs ≡ false
none_any test none [] = refl
none_any test none (x ∷ xs) = or_from (test x) (list_any test xs) (none x) (none_any test none xs)

and_none : (a b : Bool) → b ≡ false → (a && b) ≡ false
and_none true b none = none
and_none false b none = refl

-- ---- Nobody is struck

-- nothing comes to a place that passes where none does
pub reaches_none : (linked : ℕ → ℕ → Bool) (hit : Places) (count : ℕ) → ((p : ℕ) → hit p ≡ false) → (n p : ℕ)
    → reaches linked hit count n p ≡ false
unfolding reaches
reaches_none linked hit count none zero p = none p
reaches_none linked hit count none (suc n) p =
    or_from (hit p) (some_below (λ q. linked p q && reaches linked hit count n q) count) (none p)
    (none_below (λ q. linked p q && reaches linked hit count n q) count
    (λ q. and_none (linked p q) (reaches linked hit count n q) (reaches_none linked hit count none n q)))

module _ (s : State) (ran : List Ran) (sound : failed_in s ≡ []) (well : erred_in ran ≡ []) where
  none_failed : (k : ℕ) → component_is has_failed s k ≡ false
  none_failed k = sym (told_failed s k) ∙ ap (list_any (λ part. part.place == k)) sound

  none_erred : (serial : ℕ) → has_erred ran serial ≡ false
  none_erred serial = sym (told_erred ran serial) ∙ ap (list_any (λ n. n == serial)) well

  unstruck : (l : Loaded) → is_struck s ran l ≡ false
  unstruck l =
      or_from (uses s.description.components (component_is has_failed s) (described_of s l)) (has_erred ran l.serial)
      (ap (λ test. uses s.description.components test (described_of s l)) (fun_ext none_failed) ∙ none_uses s l)
      (none_erred l.serial)
    where
      none_in : (o : Option ℕ) → option_map_or (λ (k : ℕ). false) o false ≡ false
      none_in None = refl
      none_in (Some k) = refl

      none_uses : (s : State) (l : Loaded) → uses s.description.components (λ k. false) (described_of s l) ≡ false
      none_uses s l =
          none_any (λ name. option_map_or (λ (k : ℕ). false) (component_with s.description.components name) false)
          (λ name. none_in (component_with s.description.components name))
          ((described_of s l).claims ++ (described_of s l).reads)

  none_struck : (p : ℕ) → struck s ran p ≡ false
  none_struck p =
      none_any (λ l. is_active l && (l.place == p && is_struck s ran l))
      (λ l. and_none (is_active l) (l.place == p && is_struck s ran l)
      (and_none (l.place == p) (is_struck s ran l) (unstruck l))) s.loaded

  none_must : (p : ℕ) → must_stop s ran p ≡ false
  none_must p =
      let n = length s.description.controllers in
      let linked : ℕ → ℕ → Bool = λ p q. active s q && precedes_at s.description.controllers p q in
      and_none (active s p) (reaches linked (struck s ran) n n p) (reaches_none linked (struck s ran) n none_struck n p)

  -- so all stay
  pub all_stay : (p : ℕ) → stays_active s ran p ≡ active s p
  all_stay p = ap (λ b. active s p && not b) (none_must p) ∙ both (active s p)
    where
      both : (b : Bool) → (b && true) ≡ b
      both true = refl
      both false = refl

  -- and nobody stops
  pub none_stop : stops s ran ≡ []
  none_stop = none_kept (active_order s)
    where
      none_kept : (ls : List Loaded)
          → map (λ (l : Loaded). l.serial) (filter (λ (l : Loaded). must_stop s ran l.place) ls) ≡ []
      none_kept [] = refl
      none_kept (l ∷ ls) = rw (none_must l.place) (none_kept ls)

-- ---- A commit of those that are active

differ_self : (b : Bool) → differ b b ≡ false
differ_self true = refl
differ_self false = refl

-- A commit of the controllers that are active, none of them to restart, changes nothing.
pub same_commit : (s : State) (set again : Places) → scenes.active (scene_of s) ≡ set → ((p : ℕ) → again p ≡ false)
    → commit s set again ≡ s
unfolding commit
same_commit s set again same none =
    nothing_changes s set (is_stopped (scene_of s) set again) (is_started (scene_of s) set again)
    (λ p. stays p (scenes.active (scene_of s)) same) (λ p. stays_on p (scenes.active (scene_of s)) same)
  where
    moved : ℕ → Places → Bool
    moved p was =
        again p || differ (is_chained_in s.description.controllers was p)
        (is_chained_in s.description.controllers set p)

    unmoved : (p : ℕ) (was : Places) → was ≡ set → moved p was ≡ false
    unmoved p was is =
        or_from (again p) _ (none p)
        (ap (λ before. differ (is_chained_in s.description.controllers before p)
        (is_chained_in s.description.controllers set p)) is
        ∙ differ_self (is_chained_in s.description.controllers set p))

    neither : (a b m : Bool) → a ≡ b → m ≡ false → (a && (not b || m)) ≡ false
    neither true b m same none = ap₂ (λ x y. not x || y) (sym same) none
    neither false b m same none = refl

    stays : (p : ℕ) (was : Places) → was ≡ set → (was p && (not (set p) || moved p was)) ≡ false
    stays p was is = neither (was p) (set p) (moved p was) (ap (λ f. f p) is) (unmoved p was is)

    stays_on : (p : ℕ) (was : Places) → was ≡ set → (set p && (not (was p) || moved p was)) ≡ false
    stays_on p was is = neither (set p) (was p) (moved p was) (sym (ap (λ f. f p) is)) (unmoved p was is)

-- So the end of a cycle in which nothing failed changes nothing.
pub quiet_end : (s : State) → IsInOrder s → failed_in s ≡ [] → erred_in (told_in s) ≡ []
    → after_cycle s (cycle s) ≡ landed s (cycle s)
unfolding after_cycle
quiet_end s kept sound well =
    same_commit (landed s (cycle s)) (stays_active s (told_in s)) nobody_again
    (landed_active s kept ∙ sym (fun_ext (all_stay s (told_in s) sound well))) (λ p. refl)
