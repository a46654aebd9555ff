use Rattle.std.proofs.Common.{◌≡◌, ℕ, ap, ◌∙◌}
use Rattle.std.specs.Prelude.{◌==◌, position, unwrap_or, slice_get}
use Rattle.cm_model.specs.State.{Loaded}
use Rattle.cm_resources.specs.ActiveSet.{serials_of}
use Rattle.cm_resources.proofs.ActiveSetLemmas.{stands_at}
use Rattle.cm_resources.proofs.active_set.index_of.Goals as goal

-- it stands where it is found
pub returns : goal.returns
returns g c =
    let ls = c.args.slots.now in
    let found : c.unwrap_or.result ≡ unwrap_or (position (λ (l : Loaded). l.serial == c.args.serial) ls) 0 =
    c.unwrap_or.ensures ∙ ap (λ o. unwrap_or o 0) c.position_of.ensures.found in
    ap (λ (k : ℕ). slice_get (serials_of ls) k) found ∙ stands_at ls c.args.serial c.requires.loaded
