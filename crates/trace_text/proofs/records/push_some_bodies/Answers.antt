use Rattle.std.proofs.Common.{◌≡◌, ◌<◌, true, false, List, [], ◌∷◌, length, refl, subst, ◌∙◌, arith}
use Rattle.fixed_num.specs.declared.value.BodyState.{BodyState}
use Rattle.cm_model.specs.Items.{Names, body_texts}
use Rattle.trace_text.specs.Joined.{has_started, Adds}
use Rattle.trace_text.proofs.JoinLemmas.{Adds-some}
use Rattle.trace_text.proofs.records.push_some_bodies.Goals as goal

-- after some bodies items stand there
some_started : (names : Names) (bodies : List BodyState) → 0 < length bodies
    → has_started false (body_texts names 0 bodies) ≡ true
some_started names [] some = absurd (omega (arith, some))
some_started names (b ∷ bodies) some = refl

pub returns : goal.returns
returns c =
    let bodies = c.args.bodies.now in
    let names = c.args.names.now in
    let adds = c.in_ok-push_bodies.ensures in
    Adds-some _ _ (body_texts names 0 bodies)
    (subst (Adds c.args.text.now _ false (body_texts names 0 bodies))
    (adds.started ∙ some_started names bodies c.requires) adds)
