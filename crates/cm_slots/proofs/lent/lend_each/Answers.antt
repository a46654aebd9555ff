use Rattle.std.proofs.Common.{◌≡◌, ℕ, ◌+◌, true, List, [], ◌∷◌, ◌++◌, length, map, drop, slice_set}
use Rattle.std.proofs.Common.{Option, Some, None, option_map, sym, ap, subst, ◌∙◌, arith, append_assoc}
use Rattle.std.specs.Prelude.{slice_get, slice_index_or}
use Rattle.std.specs.List.{AllByRecursion}
use Rattle.std.proofs.lemmas.List.{drop_more, drop_all, append-nil, map-set, map-append}
use Rattle.std.proofs.lemmas.List.{length-set, length-drop, length-append}
use Rattle.sequence.proofs.ListLemmas.{all_push}
use Rattle.cm_document.specs.declared.life.Life.TheVariants.{Active}
use Rattle.cm_model.specs.State.{Loaded, is_active}
use Rattle.cm_model.specs.declared.data.CtlData.{CtlData}
use Rattle.cm_slots.specs.Lent.{without_boxes, ctls_at, CanLeave}
use Rattle.cm_slots.specs.Lives.{IsKept}
use Rattle.cm_slots.proofs.LentLemmas.{ctls_next}
use Rattle.cm_slots.proofs.SlotsLemmas.{there, read_box}
use Rattle.cm_slots.proofs.lent.lend_each.Goals as goal

-- the next runs, and its box is there
pub lend-ctl-requires : goal.lend-ctl-requires
lend-ctl-requires g c =
    let i = c.loop-index.index-index in
    let run = c.args.run.now in
    let k : ℕ = slice_index_or run i 0 in
    let boxes = map (option_map g.C.Controller.meaning) c.loop-index.boxes in
    let left : drop i run ≡ k ∷ drop (i + 1) run = drop_more run i 0 c.loop-index-test.true in
    let can = subst (λ (ks : List ℕ). CanLeave c.args.slots.now ks boxes) left c.loop-index.invariant.can in
    let slot = c.index-slots-index.result in
    let here = there (λ (l : Loaded). (is_active l ≡ true) × (slice_get boxes k ≡ Some (Some l.ctl))) c.args.slots.now k
    slot can.0 c.index-slots-index.is in (
      here.1.0,
      ap (option_map g.C.Controller.meaning) (sym c.index-boxes-index.is)
          ∙ read_box g.C.Controller.meaning c.loop-index.boxes k c.index-boxes-index.result (Some slot.ctl) here.1.1
          c.index-boxes-index.is,
    )

pub loop-index-preserved : goal.loop-index-preserved
loop-index-preserved g c =
    let i = c.loop-index.index-index in
    let run = c.args.run.now in
    let slots = c.args.slots.now in
    let inv = c.loop-index.invariant in
    let k : ℕ = slice_index_or run i 0 in
    let boxes = map (option_map g.C.Controller.meaning) c.loop-index.boxes in
    let left : drop i run ≡ k ∷ drop (i + 1) run = drop_more run i 0 c.loop-index-test.true in
    let can = subst (λ (ks : List ℕ). CanLeave slots ks boxes) left inv.can in
    let slot = c.index-slots-index.result in
    let here = there (λ (l : Loaded). (is_active l ≡ true) × (slice_get boxes k ≡ Some (Some l.ctl))) slots k slot can.0
    c.index-slots-index.is in
    let away = c.loop-index.lent.items in
    let ctl = c.lend-ctl.result in
    let moved : map (option_map g.C.Controller.meaning) (slice_set c.loop-index.boxes k c.lend-ctl.new.box_slot)
    ≡ slice_set boxes k None =
    map-set (option_map g.C.Controller.meaning) c.loop-index.boxes k c.lend-ctl.new.box_slot
    ∙ ap (λ b. slice_set boxes k (option_map g.C.Controller.meaning b)) c.lend-ctl.ensures.left in
    let pushed : map g.C.Controller.meaning c.push_reserved.new.self.items
    ≡ map g.C.Controller.meaning away ++ slot.ctl ∷ [] =
    ap (map g.C.Controller.meaning) c.push_reserved.ensures.items
    ∙ map-append g.C.Controller.meaning away (ctl ∷ [])
    ∙ ap (λ (x : CtlData). map g.C.Controller.meaning away ++ x ∷ []) c.lend-ctl.ensures.lent in
    record {
      can = subst (λ (bs : List (Option CtlData)). CanLeave slots (drop (i + 1) run) bs) (sym moved) can.1;
      left = ap (without_boxes (drop (i + 1) run)) moved ∙ sym (ap (λ (ks : List ℕ). without_boxes ks boxes) left)
          ∙ inv.left;
      lent = ap (λ (xs : List CtlData). xs ++ ctls_at slots (drop (i + 1) run)) pushed
          ∙ append_assoc (map g.C.Controller.meaning away) (slot.ctl ∷ []) (ctls_at slots (drop (i + 1) run))
          ∙ ap (λ (xs : List CtlData). map g.C.Controller.meaning away ++ xs)
          (sym (ctls_next slots k (drop (i + 1) run) slot here.0) ∙ ap (ctls_at slots) (sym left))
          ∙ inv.lent;
      running = λ had. subst (AllByRecursion (IsKept Active)) (sym pushed)
          (all_push (IsKept Active) (map g.C.Controller.meaning away) slot.ctl (inv.running had)
          c.lend-ctl.ensures.kept);
      places = length-set c.loop-index.boxes k c.lend-ctl.new.box_slot ∙ inv.places;
      room = omega (
        arith,
        inv.room,
        ap length c.push_reserved.ensures.items,
        length-append away (ctl ∷ []),
        c.push_reserved.ensures.capacity,
        length-drop i run,
        length-drop (i + 1) run,
        c.loop-index-test.true,
      );
      capacity = c.push_reserved.ensures.capacity ∙ inv.capacity;
    }

-- none is left
pub returns-clause-left : goal.returns-clause-left
returns-clause-left g c =
    let i = c.loop-index.index-index in
    let run = c.args.run.now in
    let inv = c.loop-index.invariant in
    let boxes = map (option_map g.C.Controller.meaning) c.loop-index.boxes in
    let away = map g.C.Controller.meaning c.loop-index.lent.items in
    let none : drop i run ≡ [] = drop_all i run (omega (arith, c.loop-index-test.false)) in
    record {
      left = sym (ap (λ (ks : List ℕ). without_boxes ks boxes) none) ∙ inv.left;
      lent = sym (append-nil away) ∙ sym (ap (λ (ks : List ℕ). away ++ ctls_at c.args.slots.now ks) none) ∙ inv.lent;
      running = inv.running;
    }
