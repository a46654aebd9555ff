-- Records of which there is nothing to tell.
use Rattle.std.proofs.Common.{◌≡◌, ℕ, true, List, [], ◌++◌, length, map, refl, ap}
use Rattle.std.specs.Prelude.{◌==◌, ◌&&◌, codes}
use Rattle.std.proofs.lemmas.Bool.{and_parts}
use Rattle.fixed_num.specs.declared.value.BodyState.{BodyState}
use Rattle.cm_storage.proofs.RanLemmas.{no_item}
use Rattle.cm_storage.specs.Happened.{Happened}
use Rattle.cm_storage.specs.Held.{tells_nothing}
use Rattle.cm_model.specs.Items.{Names, failed_text, ran_text, body_texts, stop_text, record_items}
use Rattle.cm_storage.specs.Ran.{Ran}
use Rattle.cm_model.specs.Trace.{joined}
use Rattle.cm_storage.specs.declared.record.FailedPart.{FailedPart}

no_items : (names : Names) (failed : List FailedPart) (ran : List Ran) (bodies : List BodyState) (stops : List ℕ)
    → failed ≡ [] → ran ≡ [] → bodies ≡ [] → stops ≡ []
    → map (failed_text names) failed ++ map (ran_text names) ran ++ body_texts names 0 bodies
    ++ map (stop_text names) stops ≡ []
no_items names failed ran bodies stops no_failure none_ran no_body none_stopped =
    rw (no_failure, none_ran, no_body, none_stopped) refl

-- a record of which there is nothing to tell has no item
pub nothing_prints_as_none : (names : Names) (happened : Happened) → tells_nothing happened ≡ true
    → joined (record_items names happened) ≡ codes "none"
nothing_prints_as_none names happened none =
    let others =
    and_parts ((length happened.failed == 0 && length happened.ran == 0) && length happened.bodies == 0)
    (length happened.stops == 0) none in
    let parts = and_parts (length happened.failed == 0 && length happened.ran == 0) (length happened.bodies == 0)
    others.0 in
    let first = and_parts (length happened.failed == 0) (length happened.ran == 0) parts.0 in
    ap joined (no_items names happened.failed happened.ran happened.bodies happened.stops
    (no_item happened.failed first.0) (no_item happened.ran first.1) (no_item happened.bodies parts.1)
    (no_item happened.stops others.1))
