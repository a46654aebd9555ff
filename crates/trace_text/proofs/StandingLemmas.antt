-- The line of bodies that stand, and where it can be kept.
use Rattle.std.proofs.Common.{◌≡◌, ℕ, suc, ◌+◌, ◌-◌, ◌/◌, ◌%◌, ◌<◌, ◌≤◌, ◌^◌, List, [], ◌∷◌}
use Rattle.std.proofs.Common.{◌++◌, length, map, ap, sym, ◌∙◌, append-nil, length-append, arith}
use Rattle.std.specs.Prelude.{Option, None, Some, IfSome, IsSomeAnd, codes, decimal, slice_set}
use Rattle.std.proofs.Math.Seq.{set-append_seam}
use Rattle.fixed_num.specs.declared.value.BodyState.{BodyState}
use Rattle.cm_storage.specs.Happened.{Happened}
use Rattle.cm_model.specs.Items.{Names, failed_text, ran_text, body_texts, stop_text, record_items}
use Rattle.trace_text.specs.Quiet.{DifferAtPair, IsNextWith}
use Rattle.trace_text.specs.Standing.{end_call, standing_end, standing_text, IsStanding}
use Rattle.trace_text.proofs.QuietLemmas.{next_line, set_second}

-- where nothing failed, ran or stopped, the items are those of the bodies
pub bodies_alone : (names : Names) (happened : Happened) → happened.failed ≡ [] → happened.ran ≡ []
    → happened.stops ≡ [] → record_items names happened ≡ body_texts names 0 happened.bodies
bodies_alone names happened no_failure none_ran none_stopped =
    rw (no_failure, none_ran, none_stopped) (append-nil (body_texts names 0 happened.bodies))

-- the two digits before this place are put there
put_before : (tail before now : List ℕ) (head pair : ℕ) → length before ≡ head + length tail
    → DifferAtPair tail before now pair
    → slice_set (slice_set before (head - 2) (48 + pair / 10)) (head - 1) (48 + pair % 10) ≡ now
put_before tail before now head pair ends differ =
    let a = 48 + pair / 10 in
    let b = 48 + pair % 10 in
    let long : length before ≡ length differ.front + suc (suc (length tail)) =
    ap length differ.was ∙ length-append differ.front (differ.tens ∷ differ.ones ∷ tail) in
    let first : head - 2 ≡ length differ.front = omega (arith, long, ends) in
    let second : head - 1 ≡ length differ.front + 1 = omega (arith, long, ends) in
    rw (first, second, differ.was, differ.is, set-append_seam differ.front differ.tens (differ.ones ∷ tail) a)
    (set_second differ.front tail a differ.ones b)

-- so the line of the cycle before becomes that of this one
pub renumbered : (told : Option ℕ) (names : Names) (bodies : List BodyState) (head cycle pair : ℕ) (line : List ℕ)
    → cycle < 2 ^ 64
    → IfSome told (λ last. IsStanding names last bodies head line) → IsSomeAnd told (λ last. IsNextWith last cycle pair)
    → IsStanding names cycle bodies head
    (slice_set (slice_set line (head - 2) (48 + pair / 10)) (head - 1) (48 + pair % 10))
renumbered None names bodies head cycle pair line fits stands next = absurd next
renumbered (Some last) names bodies head cycle pair line fits stands next =
    let tail = standing_end names bodies in
    let before = standing_text names last bodies in
    let now = standing_text names cycle bodies in
    let differ : DifferAtPair tail before now pair = next_line tail (codes "loop end ") last cycle pair fits next in
    let ends : length before ≡ head + length tail =
    length-append (end_call last) tail ∙ ap (λ k. k + length tail) (sym stands.place) in
    let was : length before ≡ length differ.front + suc (suc (length tail)) =
    ap length differ.was ∙ length-append differ.front (differ.tens ∷ differ.ones ∷ tail) in
    let is : length now ≡ length differ.front + suc (suc (length tail)) =
    ap length differ.is ∙ length-append differ.front ((48 + pair / 10) ∷ (48 + pair % 10) ∷ tail) in
    let call : length now ≡ length (end_call cycle) + length tail = length-append (end_call cycle) tail in
    record {
      text = ap (λ l. slice_set (slice_set l (head - 2) (48 + pair / 10)) (head - 1) (48 + pair % 10)) stands.text
          ∙ put_before tail before now head pair ends differ;
      place = omega (arith, ends, was, is, call);
    }

-- and its number has two digits at least
pub two_before : (told : Option ℕ) (names : Names) (bodies : List BodyState) (head cycle pair : ℕ) (line : List ℕ)
    → cycle < 2 ^ 64
    → IfSome told (λ last. IsStanding names last bodies head line) → IsSomeAnd told (λ last. IsNextWith last cycle pair)
    → (2 ≤ head) × (head ≤ length line)
two_before None names bodies head cycle pair line fits stands next = absurd next
two_before (Some last) names bodies head cycle pair line fits stands next =
    let tail = standing_end names bodies in
    let long : length line ≡ length (end_call last) + length tail =
    ap length stands.text ∙ length-append (end_call last) tail in
    let word : length (end_call last) ≡ 9 + length (decimal last) = length-append (codes "loop end ") (decimal last) in
    (omega (arith, word, stands.place), omega (arith, long, stands.place))
