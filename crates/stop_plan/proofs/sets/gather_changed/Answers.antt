use Rattle.std.proofs.Common.{◌∙◌, sym, ap, length}
use Rattle.stop_plan.specs.Settled.{is_changed_by}
use Rattle.cm_model.specs.Order.{set_of}
use Rattle.cm_model.specs.declared.member.Member.{Member}
use Rattle.stop_plan.proofs.WhereLemmas.{one_in, one_out, all_in}
use Rattle.stop_plan.proofs.sets.gather_changed.Goals as goal
use Rattle.stop_plan.proofs.sets.gather_changed.Goals.{then-is_changed, else-is_changed}

abbrev somebody : Member
somebody = record { serial = 0; place = 0 }

pub loop-member-preserved : goal.loop-member-preserved
loop-member-preserved c =
    elim c.if-is_changed.branch [
      | then-is_changed w ↦ record {
        long = ap length w.set-is ∙ w.insert.ensures.length ∙ c.loop-member.invariant.long;
        so_far = λ p. ap (λ flags. set_of flags p) w.set-is ∙ ap (λ f. f p) w.insert.ensures.set
            ∙ one_in (λ m. is_changed_by c.args.change c.args.transition.now.leaders.now
            (set_of c.args.transition.now.before.now) (set_of c.args.transition.now.after.now) m.place)
            c.args.members.now c.loop-member.member-index somebody (set_of c.loop-member.set) c.loop-member-test.true
            c.loop-member.invariant.so_far (sym c.is_changed.ensures ∙ w.if-is_changed.true) p;
      }
      | else-is_changed w ↦ record {
        long = ap length w.set-is ∙ c.loop-member.invariant.long;
        so_far = λ p. ap (λ flags. set_of flags p) w.set-is
            ∙ one_out (λ m. is_changed_by c.args.change c.args.transition.now.leaders.now
            (set_of c.args.transition.now.before.now) (set_of c.args.transition.now.after.now) m.place)
            c.args.members.now c.loop-member.member-index somebody (set_of c.loop-member.set) c.loop-member-test.true
            c.loop-member.invariant.so_far (sym c.is_changed.ensures ∙ w.if-is_changed.false) p;
      }
    ]

pub returns-clause-set : goal.returns-clause-set
returns-clause-set c =
    all_in (λ m. is_changed_by c.args.change c.args.transition.now.leaders.now (set_of c.args.transition.now.before.now)
    (set_of c.args.transition.now.after.now) m.place) c.args.members.now c.loop-member.member-index
    (set_of c.loop-member.set) c.loop-member-test.false c.loop-member.invariant.so_far
