-- The landing of a flight, with the parts of the desk.
use Rattle.std.proofs.Common.{◌≡◌, ℕ, Bool, true, false, cond, List, [], ◌∷◌}
use Rattle.std.proofs.Common.{length, map, Option, refl, sym, ap, ap₂, subst, ◌∙◌}
use Rattle.std.specs.Prelude.{filter, is_some}
use Rattle.cm_document.specs.declared.description.Description.{Description}
use Rattle.cm_model.specs.Commit.{commit}
use Rattle.cm_model.specs.Components.{read_succeeds}
use Rattle.cm_model.specs.Controllers.{runs_chained}
use Rattle.cm_model.specs.Cycle.{Updates, component_is, failed_in, stepped_at}
use Rattle.cm_model.specs.Cycle.{updated_in, cycle, landed, after_cycle, stays_active}
use Rattle.cm_model.specs.Order.{precedes_at}
use Rattle.cm_model.specs.State.{State, Loaded, is_active}
use Rattle.cm_model.specs.Steady.{IsSteady}
use Rattle.cm_model.specs.Values.{InterfaceValue, after_reads}
use Rattle.cm_model.specs.declared.member.Member.{Member}
use Rattle.cm_model.proofs.UpdateLemmas.{updates_keep, step_keeps_mark, some_as_mapped}
use Rattle.chain_order.proofs.LinkLemmas.{length-each_below}
use Rattle.chain_order.specs.Links.{places_below}
use Rattle.cm_hardware.specs.Holding.{IsHardwareOf}
use Rattle.cm_hardware.specs.Wiring.{Wired}
use Rattle.cm_hardware.proofs.LentLemmas.{moved_is_held}
use Rattle.cm_hardware.proofs.PresentLemmas.{owned_is_available}
use Rattle.cm_places.specs.Placed.{Placed, placed_of}
use Rattle.sound_laws.proofs.CycleLemmas.{after_steady}
use Rattle.stop_plan.specs.Ending.{HasFlags, IsEndingOf, nobody_again, told_in, erred_in, member_of}
use Rattle.stop_plan.specs.declared.ending.Ending.{Ending}
use Rattle.stop_plan.proofs.EndingLemmas.{stays_committed}
use Rattle.stop_plan.proofs.QuietLemmas.{quiet_end}
use Rattle.switch_plan.specs.Relations.{Related, relations_of}
use Rattle.cm_desk.specs.End.{HasLanded, HasSettled}
use Rattle.cm_resources.specs.ActiveSet.{Listed, AreAt, IsListedOf, actives, serial_in}
use Rattle.cm_resources.specs.Commits.{CanCommit, HasCommitted}
use Rattle.cm_resources.proofs.ActiveLemmas.{same_serial, same_order}
use Rattle.cm_resources.proofs.StayLemmas.{Staying, stepped_stays, landed_stays, serials_stay, described_stay}

-- ---- Who is active when the cycle has landed

-- what tells whether a controller is active
record Ident : Type 0 where
  serial : ℕ
  place : ℕ
  active : Bool

abbrev ident : Loaded → Ident
ident l = record { serial = l.serial; place = l.place; active = is_active l }

abbrev members : List Ident → List Member
members is = map (λ (i : Ident). record { serial = i.serial; place = i.place }) (filter (λ (i : Ident). i.active) is)

actives_by : (ls : List Loaded) → members (map ident ls) ≡ actives ls
actives_by [] = refl
actives_by (l ∷ ls) =
    one (filter (λ (i : Ident). i.active) (map ident ls)) (filter is_active ls) (is_active l) (actives_by ls)
  where
    one : (is : List Ident) (kept : List Loaded) (b : Bool)
        → map (λ (i : Ident). record { serial = i.serial; place = i.place }) is ≡ map member_of kept
        → map (λ (i : Ident). record { serial = i.serial; place = i.place }) (cond b (ident l ∷ is) is)
        ≡ map member_of (cond b (l ∷ kept) kept)
    one is kept true same = ap (λ ms. member_of l ∷ ms) same
    one is kept false same = same

stepped_ident : (s : State) (values : List InterfaceValue) (serial : ℕ) (l : Loaded)
    → ident (stepped_at s values serial l) ≡ ident l
stepped_ident s values serial l =
    let l' = stepped_at s values serial l in
    let runs : is_active l' ≡ is_active l =
    sym (some_as_mapped runs_chained l'.ctl.run)
    ∙ ap (λ (o : Option Bool). is_some o) (step_keeps_mark s values serial l) ∙ some_as_mapped runs_chained l.ctl.run in
    let kept = stepped_stays s values serial l in
    ap₂ (λ (x : Staying) (b : Bool). record { serial = x.serial; place = x.place; active = b }) kept runs

-- the same controllers are active as in the cycle
pub landed_actives : (s : State) → actives (landed s (cycle s)).loaded ≡ actives s.loaded
unfolding cycle
landed_actives s =
    let u : Updates =
    record { loaded = s.loaded; values = after_reads (component_is read_succeeds s) s.bodies s.values; ran = [] } in
    sym (actives_by (landed s (cycle s)).loaded)
    ∙ ap members (updates_keep s ident (λ values serial l. stepped_ident s values serial l) u (updated_in s))
    ∙ actives_by s.loaded

-- ---- Those that failed stop

-- a set is committed at the end that can be
pub can_settle : (s : State) (loaded : List Loaded) (w : Wired) (width : ℕ) (listed : Listed) (ending : Ending)
    (placed : Placed)
    → HasLanded s loaded w width listed → placed ≡ placed_of s.description → IsEndingOf s ending
    → CanCommit (landed s (cycle s)) (stays_active s (told_in s)) nobody_again placed width loaded w listed
    ending.chained ending.stopped ending.started
can_settle s loaded w width listed ending placed is places sets =
    let can = stays_committed s is.valid is.steady in
    record {
      valid = is.valid;
      placed = places;
      wide = is.wide;
      loaded = is.loaded;
      described = described_stay s.description s.loaded (landed s (cycle s)).loaded (landed_stays s) is.described;
      hardware = is.hardware;
      listed = is.listed.active.counted;
      told = record { chained = sets.chained; stopped = sets.stopped; started = sets.started };
      in_order = can.in_order;
      all_loaded = can.loaded;
      configured = can.configured;
      together = can.together;
    }

pub settled_by : (s : State) (loaded : List Loaded) (w : Wired) (listed : Listed)
    → HasCommitted (landed s (cycle s)) (stays_active s (told_in s)) nobody_again loaded w listed
    → HasSettled s loaded w listed
unfolding after_cycle commit
settled_by s loaded w listed made = record {
  loaded = made.loaded;
  hardware = made.hardware;
  listed = record {
    active = record {
      counted = made.active.counted;
      told =
          λ p below. made.active.told p below ∙ ap (λ ls. serial_in ls p) made.loaded;
    };
    order = λ now. let no : false ≡ true = sym made.stale ∙ now in cc;
    run = λ now. let no : false ≡ true = sym made.stale ∙ now in cc;
  };
}

-- Where nothing failed, nobody stops.
pub settled_without : (s : State) (loaded : List Loaded) (w : Wired) (width : ℕ) (listed : Listed)
    → HasLanded s loaded w width listed → failed_in s ≡ [] → erred_in (told_in s) ≡ []
    → HasSettled s loaded w listed
settled_without s loaded w width listed is none_failed none_erred =
    let after : after_cycle s (cycle s) ≡ landed s (cycle s) = quiet_end s is.steady.in_order none_failed none_erred in
    let steady : IsSteady (landed s (cycle s)) = subst IsSteady after (after_steady s is.valid is.steady) in
    let owned = owned_is_available (landed s (cycle s)) is.valid steady.together steady.in_order.described in
    let same = landed_actives s in
    record {
      loaded = is.loaded ∙ ap (λ (t : State). t.loaded) (sym after);
      hardware = subst (λ t. IsHardwareOf t w) (sym after) (moved_is_held (landed s (cycle s)) w owned is.hardware);
      listed = subst (λ t. IsListedOf t listed) (sym after) (record {
        active = record {
          counted = is.listed.active.counted;
          told =
              λ p below. is.listed.active.told p below ∙ sym (same_serial s (landed s (cycle s)) same refl p);
        };
        order = λ now. is.listed.order now ∙ sym (same_order s (landed s (cycle s)) same refl);
        run = λ now. subst (λ (ns : List ℕ). AreAt ns listed.order listed.run)
            (sym (serials_stay s.loaded (landed s (cycle s)).loaded (landed_stays s))) (is.listed.run now);
      });
    }

-- as many controllers have relations as are described, and so have flags
pub leaders_count : (d : Description) → length (relations_of d).leaders ≡ length d.controllers
leaders_count d =
    length-each_below (λ q. places_below (λ p. precedes_at d.controllers p q) (length d.controllers))
    (length d.controllers)

pub flags_in : (d : Description) (related : Related) (ending : Ending) → related ≡ relations_of d
    → HasFlags (length d.controllers) ending → HasFlags (length related.leaders) ending
flags_in d related ending is flags =
    let count : length related.leaders ≡ length d.controllers =
    ap (λ (w : Related). length w.leaders) is ∙ leaders_count d in
    subst (λ (n : ℕ). HasFlags n ending) (sym count) flags

pub flags_from : (d : Description) (related : Related) (ending : Ending) → related ≡ relations_of d
    → HasFlags (length related.leaders) ending → HasFlags (length d.controllers) ending
flags_from d related ending is flags =
    let count : length related.leaders ≡ length d.controllers =
    ap (λ (w : Related). length w.leaders) is ∙ leaders_count d in
    subst (λ (n : ℕ). HasFlags n ending) count flags
