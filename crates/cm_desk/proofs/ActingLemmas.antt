-- What is done for a request, with the parts of the desk.
use Rattle.std.proofs.Common.{◌≡◌, ℕ, ◌<◌, Bool, List, [], ◌∷◌, length, map, Some, refl, sym, ap, ◌∙◌}
use Rattle.std.specs.Prelude.{◌&&◌, slice_get}
use Rattle.std.specs.List.{All, AllByRecursion}
use Rattle.std.proofs.lemmas.List.Elements.{All-from_recursion, recursion_from_All}
use Rattle.std.proofs.lemmas.Option.{get_or_from_slice_get}
use Rattle.cm_document.specs.declared.description.CtlDesc.{CtlDesc}
use Rattle.cm_document.specs.declared.life.Life.{Life}
use Rattle.cm_model.specs.Boundary.{concluded}
use Rattle.cm_model.specs.Commit.{seen, described_of}
use Rattle.cm_model.specs.Controllers.{is_ready}
use Rattle.cm_model.specs.Order.{set_of, nobody}
use Rattle.cm_model.specs.Scene.{is_chained_in}
use Rattle.cm_model.specs.Serials.{IsNumbered}
use Rattle.cm_model.specs.State.{State, Loaded, life_of, is_active, active, is_chained}
use Rattle.cm_model.specs.Steady.{IsSteady}
use Rattle.cm_model.specs.declared.request.Request.{Request}
use Rattle.cm_model.specs.declared.seen.Seen.{Seen}
use Rattle.cm_hardware.proofs.LentLemmas.{held_is_moved}
use Rattle.cm_hardware.proofs.PresentLemmas.{owned_is_available}
use Rattle.request_plan.specs.Acts.{IsSwitchOf}
use Rattle.request_plan.specs.Situations.{IsSituation, IsSeenOf}
use Rattle.request_plan.specs.declared.acts.Conclusion.{Conclusion}
use Rattle.request_plan.specs.declared.acts.Switched.{Switched}
use Rattle.request_plan.specs.declared.situation.Situation.{Situation}
use Rattle.request_plan.proofs.SituationLemmas.{chained_among}
use Rattle.sound_laws.proofs.BoundaryLemmas.{concluded_steady}
use Rattle.cm_resources.specs.CycleResources.{Base}
use Rattle.cm_desk.specs.Begin.{IsNext, CanAct}
use Rattle.cm_resources.specs.ActiveSet.{Listed}
use Rattle.cm_resources.specs.Described.{IsAsDescribed}
use Rattle.cm_desk.specs.Works.{IsKept}
use Rattle.cm_resources.specs.Commits.{CanCommit}
use Rattle.cm_resources.proofs.CommitLemmas.{places_within}

-- ---- What requests are decided by

seen_within : (s : State) (n : ℕ) (ls : List Loaded) → AllByRecursion (λ l. l.place < n) ls
    → AllByRecursion (λ (l : Seen). l.place < n) (map (seen s) ls)
seen_within s n [] within = tt
seen_within s n (l ∷ ls) within = (within.0, seen_within s n ls within.1)

-- what is seen of the state can be decided by,
pub stands_so : (s : State) (situation : Situation) → All (IsAsDescribed s.description) s.loaded → IsSteady s
    → situation.loaded.items ≡ map (seen s) s.loaded → situation.lives.items ≡ s.lives
    → IsSituation s.description situation
stands_so s situation described steady loaded lives =
    let n = length s.description.controllers in
    record {
      within = rw loaded (All-from_recursion (λ (l : Seen). l.place < n) (map (seen s) s.loaded)
          (seen_within s n s.loaded
          (recursion_from_All (λ (l : Loaded). l.place < n) s.loaded
          (places_within s.description s.loaded described))));
      counted = ap length lives ∙ steady.in_order.counted;
    }

-- and is seen of it
pub seen_so : (s : State) (situation : Situation) → IsSteady s → IsNumbered s
    → situation.loaded.items ≡ map (seen s) s.loaded → situation.lives.items ≡ s.lives
    → IsSeenOf s s.description situation
seen_so s situation steady numbered loaded lives =
    record { steady = steady; once = numbered.once; scene = rw (loaded, lives) refl }

-- a loaded controller is chained where it runs and its description says so
pub chained_so : (s : State) (l : Loaded) (c : CtlDesc) → slice_get s.description.controllers l.place ≡ Some c
    → is_chained s c ≡ is_chained s (described_of s l)
chained_so s l c there =
    ap (is_chained s) (sym (get_or_from_slice_get s.description.controllers l.place c nobody there))

-- it is where one that precedes its place is active
pub chained_at : (s : State) (l : Loaded) (c : CtlDesc) → slice_get s.description.controllers l.place ≡ Some c
    → is_chained_in s.description.controllers (active s) l.place ≡ is_chained s c
chained_at s l c there = sym (chained_among s.description.controllers s.loaded l.place) ∙ sym (chained_so s l c there)

-- so it is seen
pub seen_as : (s : State) (l : Loaded) (c : CtlDesc) (serial place : ℕ) (life : Life) (chained ready : Bool)
    → slice_get s.description.controllers l.place ≡ Some c
    → serial ≡ l.serial → place ≡ l.place → life ≡ life_of l.ctl → chained ≡ (is_active l && is_chained s c)
    → ready ≡ is_ready l.ctl s.ended
    → record { serial = serial; place = place; life = life; chained = chained; ready = ready } ≡ seen s l
seen_as s l c serial place life chained ready there same_serial same_place same_life same_mark same_ready =
    rw (same_serial, same_place, same_life, same_mark ∙ ap (λ b. is_active l && b) (chained_so s l c there), same_ready)
    refl

-- ---- What is done

-- a switch that is done can be committed
pub can_switch : (s after : State) (c : Switched) (names : List (List ℕ)) (base : Base) (listed : Listed)
    → IsKept s names base listed → IsSteady s → (is : IsSwitchOf s after c)
    → CanCommit s (set_of c.set) is.again base.robot.places base.room s.loaded base.robot.hardware listed c.chained
    c.stopped c.started
can_switch s after c names base listed kept steady is = record {
  valid = kept.worked_out.valid;
  placed = kept.worked_out.placed;
  wide = kept.based.wide;
  loaded = refl;
  described = kept.described;
  hardware = held_is_moved s base.robot.hardware
      (owned_is_available s kept.worked_out.valid steady.together steady.in_order.described) kept.hardware;
  listed = kept.listed.active.counted;
  told = record { chained = is.chained; stopped = is.stopped; started = is.started };
  in_order = steady.in_order;
  all_loaded = is.loaded;
  configured = is.configured;
  together = is.together;
}

-- what is concluded of a request can be done
pub can_act : (s : State) (asked : Request) (later : List Request) (c : Conclusion) → IsSteady s
    → IsNext s asked later c → CanAct s (concluded s asked).state c.act
can_act s asked later c steady next = record { act = next.concluded.act; steady = concluded_steady s asked steady }
