-- The desk at boot.
use Rattle.std.proofs.Common.{◌≡◌, ℕ, zero, suc, ◌<◌, ◌^◌, false, List, [], ◌++◌, length, map, refl, sym, ap, ◌∙◌}
use Rattle.std.proofs.Common.{arith}
use Rattle.cm_document.specs.Valid.{IsValid}
use Rattle.cm_document.specs.declared.description.Description.{Description}
use Rattle.cm_model.specs.Order.{by_rank, depth}
use Rattle.cm_model.specs.State.{boot, active}
use Rattle.cm_model.specs.declared.blanks.Blanks.{Blanks}
use Rattle.cm_model.specs.declared.member.Member.{Member}
use Rattle.cm_hardware.proofs.ListLemmas.{state_is}
use Rattle.cm_model.specs.Blanks.{total}
use Rattle.request_plan.specs.Requests.{Asked}
use Rattle.cm_slots.specs.Slots.{Slotted}
use Rattle.stop_plan.specs.Ending.{members_in_order}
use Rattle.cm_resources.specs.CycleResources.{base_of, IsAtStart}
use Rattle.cm_resources.specs.ActiveSet.{Listed, IsOfNobody}
use Rattle.cm_desk.specs.Works.{IsKept, state_with}
use Rattle.cm_resources.specs.declared.resources.CycleResources.{CycleResources}
use Rattle.cm_resources.proofs.ActiveLemmas.{order_is}

-- with nothing loaded, and the hardware at start, the state is that at boot
pub booted : (d : Description) (blanks left : Blanks) (sessions : ℕ) (slots : Slotted) (asked : Asked)
    (b : CycleResources) (box_places : ℕ) → left ≡ blanks → slots ≡ record slots { loaded = []; aloft = false }
    → asked ≡ record { requests = []; outcomes = [] } → IsAtStart d b
    → state_with d left sessions 0 slots asked (base_of b box_places) 0 false ≡ boot d blanks sessions
booted d blanks left sessions slots asked b box_places all none nothing start =
    rw (all, none, nothing, start.no_mail, start.none_erred)
    (sym (state_is (boot d blanks sessions) b.robot.value.hardware (start.hardware blanks sessions)))

ranked_none : (rank : Member → ℕ) (n : ℕ) → by_rank rank n [] ≡ []
ranked_none rank zero = refl
ranked_none rank (suc n) = ap (λ (xs : List Member). xs ++ []) (ranked_none rank n)

nobody_in_order : (d : Description) (blanks : Blanks) (sessions : ℕ) → members_in_order (boot d blanks sessions) ≡ []
nobody_in_order d blanks sessions =
    order_is (boot d blanks sessions)
    ∙ ranked_none (λ (m : Member). depth d.controllers (active (boot d blanks sessions)) m.place)
    (suc (length d.controllers))

-- what is kept then
pub kept_at_boot : (d : Description) (blanks : Blanks) (sessions : ℕ) (names : List (List ℕ)) (b : CycleResources)
    (box_places : ℕ) (listed : Listed)
    → IsValid d → names ≡ map (λ c. c.name) d.controllers → total blanks < 2 ^ 32 → IsAtStart d b
    → IsOfNobody (length d.controllers) listed
    → IsKept (boot d blanks sessions) names (base_of b box_places) listed
kept_at_boot d blanks sessions names b box_places listed valid named few start nobody = record {
  worked_out =
      record { valid = valid; named = named; related = start.related; placed = start.placed; timed = start.timed };
  described = λ i l within. absurd (omega (arith, within));
  divided = λ i l within. absurd (omega (arith, within));
  counted = omega (arith, few);
  few = omega arith;
  hardware = start.hardware blanks sessions;
  within = λ aloft. cc;
  ordered = λ aloft. cc;
  unclosed = λ aloft. cc;
  no_mail = λ down. refl;
  listed = record {
    active = record { counted = nobody.counted; told = λ p below. nobody.nobody p };
    order = λ now. nobody.order ∙ sym (nobody_in_order d blanks sessions);
    run = λ now. rw (nobody.order, nobody.run) refl;
  };
  fit = record { timed = tt; waiting = tt; aloft = tt };
  based = rw (nobody.order) (start.based box_places);
}
