use Rattle.std.proofs.Common.{◌∙◌, sym, ap, length}
use Rattle.stop_plan.specs.Reports.{is_struck_in}
use Rattle.cm_model.specs.Order.{set_of}
use Rattle.cm_model.specs.declared.member.Member.{Member}
use Rattle.stop_plan.proofs.WhereLemmas.{one_in, one_out, all_in}
use Rattle.stop_plan.proofs.sets.gather_struck.Goals as goal
use Rattle.stop_plan.proofs.sets.gather_struck.Goals.{then-is_struck, else-is_struck}

abbrev somebody : Member
somebody = record { serial = 0; place = 0 }

pub loop-member-preserved : goal.loop-member-preserved
loop-member-preserved c =
    elim c.if-is_struck.branch [
      | then-is_struck w ↦ record {
        long = ap length w.set-is ∙ w.insert.ensures.length ∙ c.loop-member.invariant.long;
        so_far = λ p. ap (λ flags. set_of flags p) w.set-is ∙ ap (λ f. f p) w.insert.ensures.set
            ∙ one_in (is_struck_in c.args.report.now) c.args.report.now.order.now c.loop-member.member-index somebody
            (set_of c.loop-member.set) c.loop-member-test.true c.loop-member.invariant.so_far
            (sym c.is_struck.ensures ∙ w.if-is_struck.true) p;
      }
      | else-is_struck w ↦ record {
        long = ap length w.set-is ∙ c.loop-member.invariant.long;
        so_far = λ p. ap (λ flags. set_of flags p) w.set-is
            ∙ one_out (is_struck_in c.args.report.now) c.args.report.now.order.now c.loop-member.member-index somebody
            (set_of c.loop-member.set) c.loop-member-test.true c.loop-member.invariant.so_far
            (sym c.is_struck.ensures ∙ w.if-is_struck.false) p;
      }
    ]

pub returns-clause-set : goal.returns-clause-set
returns-clause-set c =
    all_in (is_struck_in c.args.report.now) c.args.report.now.order.now c.loop-member.member-index
    (set_of c.loop-member.set) c.loop-member-test.false c.loop-member.invariant.so_far
