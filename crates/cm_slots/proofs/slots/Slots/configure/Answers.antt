use Rattle.std.proofs.Common.{◌≡◌, ◌<◌, Some, None, length, option_map, sym, ap, ◌∙◌, arith}
use Rattle.std.specs.Prelude.{◌&&◌, nat_lt, vec_len, vec_capacity}
use Rattle.std.proofs.lemmas.List.{map-set}
use Rattle.std.proofs.lemmas.Option.{same_Some}
use Rattle.cm_model.specs.Controllers.{configured, CanBeConfigured}
use Rattle.cm_model.specs.State.{Loaded}
use Rattle.cm_slots.proofs.SlotsLemmas.{boxes_set, own_box, idle_is_home, there, within_some, as_many}
use Rattle.cm_slots.proofs.SlotsLemmas.{still_after, ok_then, err_then, put_back, shown, showing}
use Rattle.cm_slots.proofs.WaitLemmas.{mail_after, told_set}
use Rattle.cm_slots.proofs.slots.Slots.configure.Goals as goal

-- it does not run, so its box is there,
pub index_mut-requires : goal.index_mut-requires
index_mut-requires g c =
    let below : c.args.index < length c.self.inside.slots.items =
    within_some _ c.self.inside.slots.items c.args.index (rw (← c.self.view_is) at c.requires) in
    omega (arith, below)

pub index_mut-requires-2 : goal.index_mut-requires-2
index_mut-requires-2 g c =
    let a = c.self.inside in
    let below : c.args.index < length a.slots.items =
    within_some _ a.slots.items c.args.index (rw (← c.self.view_is) at c.requires) in
    omega (arith, below, as_many _ _ a.boxes.items a.slots.items c.self.invariant.0)

pub configure-requires : goal.configure-requires
configure-requires g c =
    let a = c.self.inside in
    let l = c.index_mut.result.now in
    let here = there (λ (m : Loaded). CanBeConfigured m.ctl c.args.params.now) a.slots.items c.args.index l
    (rw (← c.self.view_is) at c.requires) c.index_mut.ensures.value in (
      own_box g.C.Controller.meaning a.aloft a.boxes.items a.slots.items c.args.index c.index_mut-2.result.now l
          c.self.invariant.0 here.0 c.index_mut-2.ensures.value
          ∙ idle_is_home a.aloft l here.1.idle,
      here.1,
    )

-- and stays there, and its mail waits as before
pub invariant_of-self : goal.invariant_of-self
invariant_of-self g c =
    let a = c.self.inside in
    let l = c.index_mut.result.now in
    let new = c.configure.new.self in
    let here = there (λ (m : Loaded). CanBeConfigured m.ctl c.args.params.now) a.slots.items c.args.index l
    (rw (← c.self.view_is) at c.requires) c.index_mut.ensures.value in
    let still : new.ctl.run ≡ None =
    still_after c.configure.result l new c.args.params.now c.args.divisor c.configure.ensures.made.0
    c.configure.ensures.made.1 here.1.idle in
    let mail : new.mail ≡ l.mail =
    mail_after c.configure.result l new c.args.params.now c.args.divisor c.configure.ensures.made.0
    c.configure.ensures.made.1 in (
      map-set (option_map g.C.Controller.meaning) a.boxes.items c.args.index c.configure.new.box_slot
          ∙ boxes_set a.aloft _ a.slots.items c.args.index new
          (option_map g.C.Controller.meaning c.configure.new.box_slot) c.self.invariant.0
          (c.configure.ensures.home ∙ sym (idle_is_home a.aloft new still)),
      told_set a.mail_waits a.slots.items c.args.index l new here.0 mail c.self.invariant.1,
    )

-- as the box was configured
pub returns-clause-configured : goal.returns-clause-configured
returns-clause-configured g c = λ m found.
    let a = c.self.inside in
    let l = c.index_mut.result.now in
    let here = there (λ (x : Loaded). CanBeConfigured x.ctl c.args.params.now) a.slots.items c.args.index l
    (rw (← c.self.view_is) at c.requires) c.index_mut.ensures.value in
    let same : l ≡ m = same_Some l m (sym here.0 ∙ (rw (← c.self.view_is) at found)) in
    let made = λ (x : Loaded). record x { ctl = configured x.ctl c.args.params.now; divisor = Some c.args.divisor } in
    rw (← c.self.view_is)
    (ok_then c.configure.result
    (λ (is : c.configure.new.self ≡ made l). ap (shown a.aloft _ a.slots.items c.args.index) (is ∙ ap made same))
    c.configure.ensures.made.0)

pub returns-clause-unchanged : goal.returns-clause-unchanged
returns-clause-unchanged g c =
    let a = c.self.inside in
    let l = c.index_mut.result.now in
    rw (← c.self.view_is) (err_then c.configure.result (λ (is : c.configure.new.self ≡ l).
    ap (showing a.aloft
    (nat_lt (vec_len a.slots) (vec_capacity a.slots) && nat_lt (vec_len a.boxes) (vec_capacity a.boxes)))
    (put_back a.slots.items c.args.index c.configure.new.self l (is ∙ c.index_mut.ensures.value)))
    c.configure.ensures.made.1)
