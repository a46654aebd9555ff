use Rattle.std.proofs.Common.{rules, ◌≡◌, Option, Some, sym, subst, ◌∙◌}
use Rattle.std.specs.Prelude.{◌&&◌, IsSomeAnd}
use Rattle.cm_model.specs.Controllers.{put_out, update_step, wanted}
use Rattle.ctl_trait.specs.Parts.{Part, data_of, is_chained_part}
use Rattle.ctl_forward.proofs.UpdateLemmas.{gives_wanted}
use Rattle.ctl_forward.proofs.set_ctl.SetCtlController.update.Goals as goal

-- it gives what the table says is wanted
pub returns-after-takes_references-clause-outputs :
    goal.returns-after-takes_references-clause-outputs
returns-after-takes_references-clause-outputs g c =
    let own = g.K.SetKind in
    let part = c.in-Some.part in
    let runs : IsSomeAnd (data_of own.own own.with_claims (Some part)).run (λ r. Unit {0}) =
    subst (λ (p : Option Part). IsSomeAnd (data_of own.own own.with_claims p).run (λ r. Unit {0})) c.in-Some.is
    c.requires.counts.running in
    let given = gives_wanted own.own own.with_claims own.exporting g.met.K.SetKind.row part c.args._tick
    c.args._states.now c.args.refs.now c.args.outs.now runs in
    let chosen : c.copy_from_slice.new.self ≡ wanted (own.exporting && is_chained_part part) c.args.refs.now part.set =
    search rules in
    subst (λ (p : Option Part). c.copy_from_slice.new.self
    ≡ put_out (update_step (data_of own.own own.with_claims p) c.args._tick c.args._states.now c.args.refs.now)
    c.args.outs.now)
    (sym c.in-Some.is) (chosen ∙ sym given)
