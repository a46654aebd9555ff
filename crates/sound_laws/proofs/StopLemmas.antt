-- Who stays active at the end of a cycle: whoever uses no component that failed, with each that a member needs.
use Rattle.std.proofs.Common.{◌≡◌, ℕ, zero, suc, ◌<◌, ◌≤◌, Bool, true, false, List, [], ◌∷◌, length, map}
use Rattle.std.proofs.Common.{Option, Some, None, inl, inr, refl, sym, ◌∙◌, ap, ap₂, true≢false, arith}
use Rattle.std.specs.Prelude.{◌==◌, ◌&&◌, ◌||◌, not, if◌then◌else◌, zip, slice_get, slice_index_or}
use Rattle.std.specs.Option.{option_map_or}
use Rattle.std.proofs.lemmas.Bool.{and_parts, and_from, or_left, or_right, not-true, eqb-true, cases_Bool}
use Rattle.std.proofs.Math.Bool.{or-false}
use Rattle.iface_names.specs.declared.interface.IfaceName.{IfaceName}
use Rattle.cm_document.specs.Links.{first_in_loop}
use Rattle.cm_document.specs.declared.description.CompDesc.{CompDesc}
use Rattle.cm_document.specs.declared.life.Life.{Life}
use Rattle.cm_document.specs.declared.life.Life.TheVariants.{Unconfigured}
use Rattle.cm_model.proofs.StillLemmas.{none_below}
use Rattle.cm_model.specs.Claims.{uses}
use Rattle.cm_model.specs.Commit.{described_of, scene_of}
use Rattle.cm_model.specs.Components.{is_available, has_failed, life_after}
use Rattle.cm_model.specs.Cycle.{component_is, has_erred, is_struck, struck}
use Rattle.cm_model.specs.Cycle.{reaches, must_stop, stays_active, lives_after}
use Rattle.cm_model.specs.Faults.{component_with}
use Rattle.cm_model.specs.Order.{Places, controller_at, precedes_at, some_below, height}
use Rattle.cm_storage.specs.Ran.{Ran}
use Rattle.cm_model.specs.Sound.{names_at, is_there, CanRunTogether}
use Rattle.cm_model.specs.State.{State, Loaded, is_active, active}
use Rattle.chain_order.proofs.DepthLemmas.{precedes_at-second, height-most, height-rises}
use Rattle.switch_plan.proofs.ElementLemmas.{some_of, any_from}
use Rattle.switch_plan.proofs.TestLemmas.{some_below-from}
use Rattle.sound_laws.proofs.BestLemmas.{part_together}
use Rattle.sound_laws.proofs.RequestLemmas.{uses_named}

-- ---- Numbers below

pub same_below : (f g : ℕ → Bool) (n : ℕ) → ((interface : ℕ) → f interface ≡ g interface)
    → some_below f n ≡ some_below g n
same_below f g zero same = refl
same_below f g (suc n) same = ap₂ (λ a b. a || b) (same_below f g n same) (same n)

-- ---- Over links

module _ (linked : ℕ → ℕ → Bool) (hit : ℕ → Bool) (count : ℕ) where
  -- what passes comes to one that passes
  pub reaches_hit : (n p : ℕ) → hit p ≡ true → reaches linked hit count n p ≡ true
  unfolding reaches
  reaches_hit zero p here = here
  reaches_hit (suc n) p here = or_left (hit p) (some_below (λ q. linked p q && reaches linked hit count n q) count) here

  reaches_more : (n p q : ℕ) → q < count → linked p q ≡ true → reaches linked hit count n q ≡ true
      → reaches linked hit count (suc n) p ≡ true
  unfolding reaches
  reaches_more n p q below leads comes =
      or_right (hit p) (some_below (λ r. linked p r && reaches linked hit count n r) count)
      (some_below-from (λ r. linked p r && reaches linked hit count n r) count q below
      (and_from (linked p q) (reaches linked hit count n q) leads comes))

  module _ (low : ℕ → ℕ) (falls : (p q : ℕ) → linked p q ≡ true → low q < low p) where
    -- where a number falls along each link, as many links lead as far as one more
    pub settled : (n p : ℕ) → low p ≤ n → reaches linked hit count (suc n) p ≡ reaches linked hit count n p
    unfolding reaches
    settled zero p small =
        ap (λ b. hit p || b) (none_below (λ q. linked p q && hit q) count (λ q.
        elim (cases_Bool (linked p q)) [
          | inl leads ↦ absurd (omega (arith, small, falls p q leads))
          | inr not_linked ↦ ap (λ b. b && hit q) not_linked
        ])) ∙ or-false (hit p)
    settled (suc n) p small =
        ap (λ b. hit p || b)
        (same_below (λ q. linked p q && reaches linked hit count (suc n) q)
        (λ q. linked p q && reaches linked hit count n q) count (λ q.
        elim (cases_Bool (linked p q)) [
          | inl leads ↦
              let less : low q < low p = falls p q leads in
              ap (λ b. linked p q && b) (settled n q (omega (arith, small, less)))
          | inr not_linked ↦
              ap (λ b. b && reaches linked hit count (suc n) q) not_linked
              ∙ sym (ap (λ b. b && reaches linked hit count n q) not_linked)
        ]))

    -- so what is linked to one that comes to a hit comes to it too
    pub reaches_step : (n p q : ℕ) → low p ≤ n → q < count → linked p q ≡ true → reaches linked hit count n q ≡ true
        → reaches linked hit count n p ≡ true
    reaches_step n p q small below leads comes = sym (settled n p small) ∙ reaches_more n p q below leads comes

-- ---- Lifecycle states

-- a component that did not fail stays as available as it was
kept_life : (ended : ℕ) (cs : List CompDesc) (lives : List Life) (k : ℕ) → length lives ≡ length cs
    → option_map_or (λ p. has_failed p.0 p.1 ended) (slice_get (zip cs lives) k) false ≡ false
    → is_available (slice_index_or lives k Unconfigured) ≡ true
    → is_available (slice_index_or (map (λ p. life_after p.0 p.1 ended) (zip cs lives)) k Unconfigured) ≡ true
kept_life ended [] [] k as_many failed up = absurd (true≢false (sym up))
kept_life ended [] (life ∷ lives) k as_many failed up = absurd (omega (arith, as_many))
kept_life ended (c ∷ cs) [] k as_many failed up = absurd (omega (arith, as_many))
kept_life ended (c ∷ cs) (life ∷ lives) zero as_many failed up =
    ap (λ (b : Bool). is_available (if b then c.on_error else life)) failed ∙ up
kept_life ended (c ∷ cs) (life ∷ lives) (suc k) as_many failed up =
    kept_life ended cs lives k (omega (arith, as_many)) failed up

-- ---- Who stays

module _ (s : State) (free : first_in_loop s.description.controllers ≡ None) (ran : List Ran) where
  abbrev linked : ℕ → ℕ → Bool
  linked p q = active s q && precedes_at s.description.controllers p q

  abbrev count : ℕ
  count = length s.description.controllers

  abbrev stops : Places
  stops = reaches linked (struck s ran) count count

  falls : (p q : ℕ) → linked p q ≡ true → height s.description.controllers q < height s.description.controllers p
  falls p q leads =
      height-rises s.description.controllers free q p
      (and_parts (active s q) (precedes_at s.description.controllers p q) leads).1

  -- who stays is active, and comes to none that was struck
  pub stays_parts : (p : ℕ) → stays_active s ran p ≡ true → (active s p ≡ true) × (stops p ≡ false)
  stays_parts p stays =
      let parts = and_parts (active s p) (not (must_stop s ran p)) stays in
      let none : (active s p && stops p) ≡ false = not-true (must_stop s ran p) parts.1 in
      (parts.0, sym (ap (λ b. b && stops p) parts.0) ∙ none)

  pub stays_from : (p : ℕ) → active s p ≡ true → stops p ≡ false → stays_active s ran p ≡ true
  stays_from p runs none =
      and_from (active s p) (not (must_stop s ran p)) runs
      (ap not (ap (λ b. active s p && b) none ∙ ap (λ b. b && false) runs))

  -- each active controller that one precedes which stays
  closed : (p q : ℕ) → stays_active s ran p ≡ true → active s q ≡ true
      → precedes_at s.description.controllers p q ≡ true → stays_active s ran q ≡ true
  closed p q stays runs leads =
      elim (cases_Bool (stops q)) [
        | inl comes ↦
            let also : stops p ≡ true =
            reaches_step linked (struck s ran) count (height s.description.controllers) falls count p q
            (height-most s.description.controllers p)
            (precedes_at-second s.description.controllers p q leads)
            (and_from (active s q) (precedes_at s.description.controllers p q) runs leads) comes in
            absurd (true≢false (sym also ∙ (stays_parts p stays).1))
        | inr none ↦ stays_from q runs none
      ]

  -- an active controller that uses a component that failed is struck
  is_hit : (p : ℕ) → active s p ≡ true
      → uses s.description.components (component_is has_failed s) (controller_at s.description.controllers p) ≡ true
      → struck s ran p ≡ true
  is_hit p runs used =
      let r = some_of (λ (l : Loaded). is_active l && l.place == p) s.loaded runs in
      let parts = and_parts (is_active r.0) (r.0.place == p) r.2 in
      let same : r.0.place ≡ p = eqb-true r.0.place p parts.1 in
      let here : is_struck s ran r.0 ≡ true =
      or_left (uses s.description.components (component_is has_failed s) (described_of s r.0))
      (has_erred ran r.0.serial)
      (ap (λ q. uses s.description.components (component_is has_failed s) (controller_at s.description.controllers q))
      same ∙ used) in
      any_from (λ (l : Loaded). is_active l && (l.place == p && is_struck s ran l)) s.loaded r.0 r.1
      (and_from (is_active r.0) (r.0.place == p && is_struck s ran r.0) parts.0
      (and_from (r.0.place == p) (is_struck s ran r.0) parts.1 here))

  -- so who stays uses none that failed
  sound_components : (p : ℕ) (interface : IfaceName) (k : ℕ) → stays_active s ran p ≡ true
      → names_at s.description.controllers p interface ≡ true
      → component_with s.description.components interface ≡ Some k
      → component_is has_failed s k ≡ false
  sound_components p interface k stays named at =
      elim (cases_Bool (component_is has_failed s k)) [
        | inr sound ↦ sound
        | inl failed ↦
            let parts = stays_parts p stays in
            let used = uses_named s.description.components (component_is has_failed s) s.description.controllers p
            interface k named at failed in
            absurd (true≢false
            (sym (reaches_hit linked (struck s ran) count count p (is_hit p parts.0 used)) ∙ parts.1))
      ]

  there_after : length s.lives ≡ length s.description.components → CanRunTogether s.description s.lives (active s)
      → (p : ℕ) (interface : IfaceName) → stays_active s ran p ≡ true
      → names_at s.description.controllers p interface ≡ true → is_there s.description (lives_after s) interface ≡ true
  there_after counted together p interface stays named =
      of (component_with s.description.components interface) refl
      (together.available p interface (stays_parts p stays).0 named)
    where
      of : (o : Option ℕ) → component_with s.description.components interface ≡ o
          → option_map_or (λ k. is_available (slice_index_or s.lives k Unconfigured)) o true ≡ true
          → option_map_or (λ k. is_available (slice_index_or (lives_after s) k Unconfigured)) o true ≡ true
      of None at was = refl
      of (Some k) at was =
          kept_life s.ended s.description.components s.lives k counted (sound_components p interface k stays named at)
          was

  -- Once the failed components have moved, those that stay can run together.
  pub stays_together : length s.lives ≡ length s.description.components
      → CanRunTogether s.description s.lives (active s)
      → CanRunTogether s.description (lives_after s) (stays_active s ran)
  stays_together counted together =
      let part = part_together (scene_of s) (active s) (stays_active s ran) together
      (λ p stays. (stays_parts p stays).0) closed in
      record {
        exclusive = part.exclusive;
        one_mode = part.one_mode;
        available =
            there_after counted together;
        followed = part.followed;
      }
