use Rattle.std.proofs.Common.{◌≡◌, All, refl, sym, subst, ap, ◌∙◌, rules, arith}
use Rattle.std.proofs.lemmas.List.Elements.{All-head, All-tail, All-rest}
use Rattle.turn_lock.specs.Passes.{IsReady}
use Rattle.turn_lock.specs.Views.{joined}
use Rattle.turn_lock.proofs.PassLemmas.{idle}
use Rattle.turn_lock.proofs.FinishLemmas.{moved_on, gathered, covers_self}
use Rattle.turn_lock.proofs.FinishLemmas.{covers_first, covers_next}
use Rattle.turn_lock.proofs.SeatLemmas.{joins}
use Rattle.turn_lock.proofs.lock.TurnLock.join_all.Goals as goal

pub loop-pass-init : goal.loop-pass-init
loop-pass-init g c =
    let first = c.args.first in
    let items = c.into_iter-pass-iterator.ensures.into_iter_gives.0 in
    let ready = All-head (IsReady c.args.self.now) first c.args.others.items c.requires.ready in record {
      table = ready.0;
      alive = first.alive;
      no_ticket = (idle first.seat.me first.stands ready.1).number;
      waits = ready.1;
      footing = refl;
      first = covers_self g.K.Kept.caller first.seat.me.0;
      so_far = λ k d lt. absurd (omega arith);
      to_come = subst (All (IsReady c.args.self.now)) (sym items)
          (All-tail (IsReady c.args.self.now) first c.args.others.items c.requires.ready);
      cut = items;
    }

pub join_seat-requires : goal.join_seat-requires
join_seat-requires g c =
    let i = c.loop-pass.invariant in
    let p = c.in-Some.pass in
    let to_come = subst (All (IsReady c.args.self.now)) c.in-Some.ensures.steps.0 i.to_come in
    let ready = All-head (IsReady c.args.self.now) _ _ to_come in (
      i.table,
      ready.0,
      (idle p.seat.me p.stands ready.1).slot,
      search rules,
      joins _ _ _ _ _ _ p.seat.me i.no_ticket i.waits i.alive ready.1 p.stands,
    )

pub loop-pass-preserved : goal.loop-pass-preserved
loop-pass-preserved g c =
    let i = c.loop-pass.invariant in
    let v = c.loop-pass.seat.me.0 in
    let u = c.join_seat.new.seat.me.0 in
    let w = c.in-Some.pass.seat.me.0 in
    let is : u ≡ joined v w = ap (λ me. me.0) c.join_seat.ensures.2 in
    let now = gathered v w u is in
    let steps = c.in-Some.ensures.steps.0 in record {
      table = c.join_seat.ensures.0 ∙ i.table;
      alive = now.0 ∙ i.alive;
      no_ticket = now.1;
      waits = now.2;
      footing = now.3 ∙ i.footing;
      first = covers_first _ v w u _ is i.first;
      so_far = covers_next _ v u _ c.in-Some.pass is i.so_far;
      to_come = All-rest (IsReady c.args.self.now) _ _ _ steps i.to_come;
      cut = moved_on c.loop-pass.yielded _ _ _ _ steps i.cut;
    }
