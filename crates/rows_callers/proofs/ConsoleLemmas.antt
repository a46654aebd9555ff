-- What the calls of the loop make of its small console.
use Rattle.std.proofs.Common.{◌≡◌, ℕ, zero, suc, ◌+◌, ◌-◌, Bool, true, false, refl, sym, ap, ◌∙◌, arith}
use Rattle.cm_document.specs.declared.call.Call.TheVariants.{Begin, End}
use Rattle.cm_model.specs.Ports.{ends_in, CanBegin, CanClose, Begins, Lands, Closes}
use Rattle.cm_model.specs.Scheduled.{with_entry}
use Rattle.cm_model.specs.declared.reply.Reply.TheVariants.{Done}
use Rattle.live_run.proofs.LoopLemmas.{begin_ends_none, end_ends_one}
use Rattle.rows_callers.specs.Consoles.{the_loop, cycles_made, loop_console}

-- so many cycles have ended as were made
ends_made : (n : ℕ) → ends_in (cycles_made n) ≡ n
ends_made zero = refl
ends_made (suc n) =
    let one = end_ends_one (with_entry (cycles_made n) the_loop (Begin n) Done) the_loop n Done in
    let none = begin_ends_none (cycles_made n) the_loop n Done in
    let before = ends_made n in omega (arith, one, none, before)

pub begins : (ended left : ℕ) (out closed : Bool) → CanBegin (loop_console ended left out closed)
    → Begins (loop_console ended left out closed) (loop_console ended left true closed)
begins ended left false false can = record {
  made = record {
    r = Done;
    made =
        ap (λ (n : ℕ). with_entry (cycles_made ended) the_loop (Begin n) Done) (sym (ends_made ended));
    who = refl;
  };
  left = refl;
  out = refl;
  closed = refl;
}
begins ended left false true can = absurd (let not_closed = can.not_closed in cc)
begins ended left true closed can = absurd (let home = can.home in cc)

pub lands : (ended left : ℕ)
    → Lands (loop_console ended left true false) (loop_console (ended + 1) (left - 1) false false)
lands ended left =
    let next : ended + 1 ≡ suc ended = omega arith in
    let begun : ends_in (with_entry (cycles_made ended) the_loop (Begin ended) Done) ≡ ended =
    begin_ends_none (cycles_made ended) the_loop ended Done ∙ ends_made ended in
    record {
      made = record {
        r = Done;
        made = ap cycles_made next
            ∙ ap (λ (n : ℕ). with_entry (with_entry (cycles_made ended) the_loop (Begin ended) Done) the_loop (End n)
            Done) (sym begun);
        who = refl;
      };
      left = refl;
      out = refl;
      closed = refl;
    }

pub closes : (ended left : ℕ) (out closed : Bool) → CanClose (loop_console ended left out closed)
    → Closes (loop_console ended left out closed) (loop_console ended left out true)
closes ended left false false can =
    record { made = record { r = Done; made = refl; who = refl }; left = refl; out = refl; closed = refl }
closes ended left false true can = absurd (let not_closed = can.not_closed in cc)
closes ended left true closed can = absurd (let home = can.home in cc)
