use Rattle.std.proofs.Common.{◌<◌, ◌^◌, List, length, map, sym, ◌∙◌, ap, ap₂, subst, arith}
use Rattle.std.specs.List.{All}
use Rattle.sequence.specs.Answers.{Answers}
use Rattle.cm_document.specs.declared.description.Description.{Description}
use Rattle.cm_document.specs.declared.life.Life.{Life}
use Rattle.cm_document.specs.declared.life.Life.TheVariants.{Active}
use Rattle.cm_document.proofs.ValidParts.{few_controllers}
use Rattle.cm_model.specs.BestEffort.{plan_of}
use Rattle.cm_model.specs.declared.planned.Planned.{Planned}
use Rattle.cm_model.specs.declared.seen.Seen.{Seen}
use Rattle.spawn_plan.specs.Outcomes.{not_refused}
use Rattle.spawn_plan.specs.declared.fault.SpawnFault.TheVariants.{Memory}
use Rattle.spawn_plan.proofs.NeverLemmas.{plan_tells}
use Rattle.spawn_plan.proofs.OnceLemmas.{once_none}
use Rattle.spawn_plan.proofs.WantedLemmas.{placed_within, seen_within, wanted_few}
use Rattle.spawn_plan.proofs.never.can_be_active.Goals as goal

-- there are no more of them than controllers
pub ready_ones-requires : goal.ready_ones-requires
ready_ones-requires c =
    let few : length c.args.checked.now.controllers < 2 ^ 32 =
    few_controllers c.args.checked.now c.description.ensures.valid in
    omega (
      arith,
      few,
      wanted_few c.args.checked.now.controllers c.args.wanted.now c.args.places.now c.requires.wanted.described
          (once_none c.args.wanted.now c.requires.wanted.once),
    )

-- each has its place in the description
pub plan_with-requires-clause-view : goal.plan_with-requires-clause-view
plan_with-requires-clause-view c =
    let cs = c.args.checked.now.controllers in
    subst (λ (ls : List Seen). All (λ (l : Seen). l.place < length cs) ls)
    (sym (c.deref.ensures.value ∙ c.in_ok-loaded.ensures))
    (seen_within (length cs) 0 c.args.places.now
    (λ p inside. placed_within cs c.args.wanted.now c.args.places.now p c.requires.wanted.described inside))

-- what the plan says is what speaks against them for good
pub returns : goal.returns
returns c =
    let d = c.args.checked.now in
    let request = c.in_ok-request.request in
    let lives = c.deref-2.ensures.value
    ∙ c.in_ok-lives.ensures
    ∙ ap (map (λ component. Active))
    (c.as_slice-components.ensures ∙ ap (λ (e : Description). e.components) c.description.ensures.same) in
    subst (λ expected. Answers Memory expected c.not_refused.result)
    (ap (λ (p : Planned). not_refused p.outcome) c.in_ok-planned.ensures
    ∙ ap₂ (λ (loaded : List Seen) (components : List Life). not_refused
    (plan_of (record { description = d; loaded = loaded; components = components }) request).outcome)
    (c.deref.ensures.value ∙ c.in_ok-loaded.ensures) lives
    ∙ plan_tells d c.args.wanted.now c.args.places.now request c.requires.wanted.described
    (once_none c.args.wanted.now c.requires.wanted.once) c.in_ok-request.ensures.on
    c.in_ok-request.ensures.off c.in_ok-request.ensures.strict)
    c.not_refused.ensures
