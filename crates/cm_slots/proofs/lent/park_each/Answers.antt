use Rattle.std.proofs.Common.{◌≡◌, ℕ, ◌+◌, ◌<◌, List, [], ◌∷◌, ◌++◌, length, map, take, get_or, slice_set}
use Rattle.std.proofs.Common.{Some, option_map, refl, sym, ap, ap₂, subst, ◌∙◌, arith, vec_len}
use Rattle.std.specs.Prelude.{slice_get}
use Rattle.std.specs.List.{AllByRecursion}
use Rattle.std.proofs.lemmas.List.{take_more, map-set, map-append, length-set, length-append, length-map, length-take}
use Rattle.std.proofs.lemmas.Option.{slice_get_read, slice_get-get_or}
use Rattle.sequence.proofs.ListLemmas.{all_at}
use Rattle.cm_document.specs.declared.life.Life.TheVariants.{Active}
use Rattle.cm_model.specs.declared.data.CtlData.{CtlData}
use Rattle.cm_slots.specs.Lent.{with_ctls, with_boxes}
use Rattle.cm_slots.specs.Lives.{IsKept}
use Rattle.cm_slots.proofs.EachLemmas.{last_of, before_last}
use Rattle.cm_slots.proofs.ParkLemmas.{set_ctl, with_last, with_last_box}
use Rattle.cm_slots.proofs.lent.park_each.Goals as goal

-- the last runs
pub park-requires : goal.park-requires
park-requires g c =
    let left = c.pop.new.self.items in
    let meaning = g.C.Controller.meaning in
    let mapped : map meaning c.loop-ctl.lent.items ≡ map meaning left ++ meaning c.in-Some.ctl ∷ [] =
    ap (map meaning) c.in-Some.ensures.items ∙ map-append meaning left (c.in-Some.ctl ∷ []) in
    last_of (IsKept Active) (map meaning left) (meaning c.in-Some.ctl)
    (subst (AllByRecursion (IsKept Active)) mapped c.loop-ctl.invariant.running)

pub loop-ctl-preserved : goal.loop-ctl-preserved
loop-ctl-preserved g c =
    let meaning = g.C.Controller.meaning in
    let run = c.args.run.now in
    let slots = c.loop-ctl.slots in
    let boxes = c.loop-ctl.boxes in
    let inv = c.loop-ctl.invariant in
    let left = c.pop.new.self.items in
    let ctl : CtlData = meaning c.in-Some.ctl in
    let n : ℕ = vec_len c.pop.new.self in
    let k : ℕ = get_or run c.len.result 0 in
    let slot = c.index-slots-index.result in
    let one : vec_len c.loop-ctl.lent ≡ n + 1 =
    omega (arith, ap length c.in-Some.ensures.items, length-append left (c.in-Some.ctl ∷ [])) in
    let below : n < length run = omega (arith, one, inv.within) in
    let cut : take (vec_len c.loop-ctl.lent) run ≡ take n run ++ k ∷ [] =
    ap (λ (j : ℕ). take j run) one ∙ take_more run n 0 below
    ∙ ap (λ (j : ℕ). take n run ++ get_or run j 0 ∷ []) (sym c.len.ensures) in
    let mapped : map meaning c.loop-ctl.lent.items ≡ map meaning left ++ ctl ∷ [] =
    ap (map meaning) c.in-Some.ensures.items ∙ map-append meaning left (c.in-Some.ctl ∷ []) in
    let each : length (map meaning left) ≡ length (take n run) =
    omega (arith, length-map left meaning, length-take n run, below) in
    let among : k < length slots = omega (
      arith,
      inv.count,
      all_at (λ (j : ℕ). j < length c.args.slots.now) run n k c.requires.within
          (slice_get-get_or run n 0 below ∙ ap (λ (j : ℕ). Some (get_or run j 0)) (sym c.len.ensures)),
    ) in
    let there : slice_get slots k ≡ Some slot =
    slice_get_read slots (length slots) k slot refl among c.index-slots-index.is in
    let made : c.park.new.self ≡ record slot { ctl = ctl } = rw (← c.index-slots-index.is) at c.park.ensures.slot in
    record {
      slots = ap (with_ctls (take n run) (map meaning left))
          (ap (slice_set slots k) made ∙ set_ctl slots k slot ctl there)
          ∙ sym (with_last (take n run) (map meaning left) k ctl slots each)
          ∙ sym (ap₂ (λ (ks : List ℕ) (cs : List CtlData). with_ctls ks cs slots) cut mapped)
          ∙ inv.slots;
      boxes = ap (with_boxes (take n run) (map meaning left))
          (map-set (option_map meaning) boxes k c.park.new.box_slot
          ∙ ap (slice_set (map (option_map meaning) boxes) k) c.park.ensures.home)
          ∙ sym (with_last_box (take n run) (map meaning left) k ctl (map (option_map meaning) boxes) each)
          ∙ sym (ap₂ (λ (ks : List ℕ) (cs : List CtlData). with_boxes ks cs (map (option_map meaning) boxes)) cut
          mapped)
          ∙ inv.boxes;
      running = before_last (IsKept Active) (map meaning left) ctl
          (subst (AllByRecursion (IsKept Active)) mapped inv.running);
      within = omega (arith, below);
      count = length-set slots k c.park.new.self ∙ inv.count;
      places = length-set boxes k c.park.new.box_slot ∙ inv.places;
      capacity = c.pop.ensures.capacity ∙ inv.capacity;
    }
