use Rattle.std.proofs.Common.{◌≡◌, ◌<◌, ◌^◌, length, ap, ◌∙◌, arith}
use Rattle.std.proofs.lemmas.Int.{ints}
use Rattle.cm_document.specs.declared.description.Description.{Description}
use Rattle.cm_document.proofs.ValidParts.{few_controllers}
use Rattle.spawn_plan.proofs.wanted.place_in.Goals as goal

pub overflow_cast-result : goal.overflow_cast-result
overflow_cast-result c =
    let few : length c.args.checked.now.controllers < 2 ^ 32 =
    few_controllers c.args.checked.now c.description.ensures.valid in
    let long : length c.as_slice.result.now ≡ length c.args.checked.now.controllers =
    ap length (c.as_slice.ensures ∙ ap (λ (d : Description). d.controllers) c.description.ensures.same) in
    omega (arith, ints, few, long, c.in_ok-place.ensures.within)
