use Rattle.std.proofs.Common.{◌≡◌, ℕ, ◌+◌, List, [], ◌∷◌, map, refl, ap, ◌∙◌, arith}
use Rattle.std.proofs.lemmas.List.{take_all}
use Rattle.cm_document.specs.declared.life.Life.{Life}
use Rattle.cm_model.specs.State.{component_lines_from}
use Rattle.cm_model.specs.declared.lines.CompLine.{CompLine}
use Rattle.cm_desk.proofs.Insides.{state_of}
use Rattle.cm_desk.proofs.works.Works.lives.Goals as goal

-- each line tells one
lives_of : (place : ℕ) (ls : List Life) → map (λ (line : CompLine). line.life) (component_lines_from place ls) ≡ ls
lives_of place [] = refl
lives_of place (l ∷ ls) = ap (λ ms. l ∷ ms) (lives_of (place + 1) ls)

pub returns : goal.returns
returns g c =
    let a = c.self.inside in
    let s = state_of a in
    rw (← c.self.view_is)
    (c.loop-line.invariant
    ∙ ap (map (λ (line : CompLine). line.life))
    (take_all c.loop-line.line-index _ (omega (arith, c.loop-line-test.false)) ∙ c.as_slice-line-items.ensures
    ∙ c.in_ok-lines.ensures s c.self.invariant.hardware)
    ∙ lives_of 0 s.lives)
