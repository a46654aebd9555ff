use Rattle.std.proofs.Common.{◌≡◌, length, ap, ◌∙◌, arith}
use Rattle.std.proofs.lemmas.List.{length-map}
use Rattle.cm_document.specs.declared.description.Description.{Description}
use Rattle.cm_model.specs.Blanks.{no_blanks}
use Rattle.cm_model.specs.declared.blanks.Blanks.{Blanks}
use Rattle.cm_hardware.specs.Wiring.{Mounted}
use Rattle.rows_hardware.proofs.managed.moved.Goals as goal

-- the hardware has the described components
pub move_component-end-requires : goal.move_component-end-requires
move_component-end-requires c =
    let nothing : Blanks = no_blanks in
    let ms = c.in_ok-hardware.hardware.components in
    let cs : c.as_slice.result.now ≡ c.args.checked.now.components =
    c.as_slice.ensures ∙ ap (λ (d : Description). d.components) c.description.ensures.same in
    let as_many : length c.args.checked.now.components ≡ length ms =
    ap length (c.in_ok-hardware.ensures nothing 0).wired.components
    ∙ length-map ms (λ (m : Mounted). m.hardware.description) in
    omega (arith, c.if-place-as_slice.false, ap length cs, as_many)
