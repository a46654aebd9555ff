use Rattle.std.proofs.Common.{◌≡◌, ℕ, List, [], ◌∷◌, ◌++◌, ◌+◌, map, take}
use Rattle.std.proofs.Common.{length, Some, get_or, ◌<◌, sym, ap, ◌∙◌, arith}
use Rattle.std.specs.Prelude.{slice_get}
use Rattle.std.proofs.lemmas.List.{map-append, take_more}
use Rattle.std.proofs.lemmas.Option.{get_or_from_slice_get}
use Rattle.cm_model.specs.Commit.{seen}
use Rattle.cm_model.specs.State.{State}
use Rattle.cm_desk.proofs.WorksLemmas.{get_there}
use Rattle.cm_desk.proofs.works.Works.seen_all.Goals as goal

-- one item more of those that are read
one_more : {A B : Type 0} (see : A → B) (xs : List A) (i : ℕ) (y : B) (ys next : List B) → i < length xs
    → ((x : A) → slice_get xs i ≡ Some x → y ≡ see x) → ys ≡ map see (take i xs)
    → next ≡ ys ++ y ∷ [] → next ≡ map see (take (i + 1) xs)
one_more see xs i y ys next within seen so pushed =
    let there = get_there xs i within in
    let is : there.0 ≡ get_or xs i there.0 = sym (get_or_from_slice_get xs i there.0 there.0 there.1) in
    pushed
    ∙ ap (λ zs. zs ++ y ∷ []) so
    ∙ ap (λ z. map see (take i xs) ++ z ∷ []) (seen there.0 there.1)
    ∙ sym (map-append see (take i xs) (there.0 ∷ []))
    ∙ ap (map see) (ap (λ z. take i xs ++ z ∷ []) is ∙ sym (take_more xs i there.0 within))

pub loop-index-preserved : goal.loop-index-preserved
loop-index-preserved g c =
    one_more (seen c.args.self.now) c.args.self.now.loaded c.loop-index.index c.seen.result c.loop-index.list.items _
    (omega (arith, c.loop-index-test.true, c.len-index-end.ensures, ap (λ (s : State). length s.loaded) c.self.view_is))
    c.seen.ensures
    c.loop-index.invariant c.in_ok-push.ensures.items
