use Rattle.std.proofs.Common.{◌∙◌, sym, ap, length}
use Rattle.std.specs.Prelude.{not}
use Rattle.cm_model.specs.Order.{set_of}
use Rattle.cm_model.specs.declared.member.Member.{Member}
use Rattle.stop_plan.proofs.WhereLemmas.{one_in, one_out, all_in}
use Rattle.stop_plan.proofs.sets.gather_staying.Goals as goal
use Rattle.stop_plan.proofs.sets.gather_staying.Goals.{then-not-has, else-not-has}

abbrev somebody : Member
somebody = record { serial = 0; place = 0 }

pub loop-member-preserved : goal.loop-member-preserved
loop-member-preserved c =
    elim c.if-not-has.branch [
      | then-not-has w ↦ record {
        long = ap length w.set-is ∙ w.insert.ensures.length ∙ c.loop-member.invariant.long;
        so_far = λ p. ap (λ flags. set_of flags p) w.set-is ∙ ap (λ f. f p) w.insert.ensures.set
            ∙ one_in (λ m. not (set_of c.args.fallen.now m.place)) c.args.members.now c.loop-member.member-index
            somebody (set_of c.loop-member.set) c.loop-member-test.true c.loop-member.invariant.so_far
            (ap not (sym c.has.ensures ∙ w.if-not-has.true)) p;
      }
      | else-not-has w ↦ record {
        long = ap length w.set-is ∙ c.loop-member.invariant.long;
        so_far = λ p. ap (λ flags. set_of flags p) w.set-is
            ∙ one_out (λ m. not (set_of c.args.fallen.now m.place)) c.args.members.now c.loop-member.member-index
            somebody (set_of c.loop-member.set) c.loop-member-test.true c.loop-member.invariant.so_far
            (ap not (sym c.has.ensures ∙ w.if-not-has.false)) p;
      }
    ]

pub returns-clause-set : goal.returns-clause-set
returns-clause-set c =
    all_in (λ m. not (set_of c.args.fallen.now m.place)) c.args.members.now c.loop-member.member-index
    (set_of c.loop-member.set) c.loop-member-test.false c.loop-member.invariant.so_far
