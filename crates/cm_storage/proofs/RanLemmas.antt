-- One updated controller more in the flat list, and records in which nothing stands.
use Rattle.std.proofs.Common.{◌≡◌, ℕ, suc, ◌+◌, ◌≤◌, true, ℤ, List, [], ◌∷◌, ◌++◌, length, take}
use Rattle.std.proofs.Common.{drop, refl, sym, ap, ◌∙◌, arith, length-append, length-drop}
use Rattle.std.specs.Prelude.{◌==◌, ◌&&◌, sum_by}
use Rattle.std.proofs.lemmas.Bool.{and_parts}
use Rattle.std.proofs.lemmas.List.{take_all, take-append-le, drop-append-le}
use Rattle.std.proofs.lemmas.List.Sums.{sum_by-cons, sum_by-append}
use Rattle.fixed_num.specs.declared.value.Value.{Value}
use Rattle.sequence.proofs.ListLemmas.{not_empty}
use Rattle.cm_storage.specs.Held.{nothing_in, happened_in_parts, tells_nothing}
use Rattle.cm_storage.specs.Ran.{Ran}
use Rattle.cm_storage.specs.Rans.{rans, IsWhole}
use Rattle.cm_storage.specs.declared.ran.RanHead.{RanHead}
use Rattle.cm_storage.specs.declared.record.CycleParts.{CycleParts}
use Rattle.cm_storage.specs.declared.record.FailedPart.{FailedPart}
use Rattle.fixed_num.specs.declared.value.BodyState.{BodyState}

-- what a head stands for with these values and numbers
abbrev pub ran_with : RanHead → List Value → List ℤ → Ran
ran_with h ws ms = record { serial = h.serial; done = h.done; outs = ws; published = ms }

-- the first head's values and numbers are there
first_within : (head : RanHead) (hs : List RanHead) (vs : List Value) (ns : List ℤ) → IsWhole (head ∷ hs) vs ns
    → (head.outs ≤ length vs) × (head.published ≤ length ns)
first_within head hs vs ns whole =
    let outs : head.outs + sum_by (λ (h : RanHead). h.outs) hs ≡ length vs =
    sym (sum_by-cons (λ (h : RanHead). h.outs) head hs) ∙ whole.outs in
    let published : head.published + sum_by (λ (h : RanHead). h.published) hs ≡ length ns =
    sym (sum_by-cons (λ (h : RanHead). h.published) head hs) ∙ whole.published in
    (omega (arith, outs), omega (arith, published))

-- the heads after the first count what is left
rest_whole : (head : RanHead) (hs : List RanHead) (vs : List Value) (ns : List ℤ) → IsWhole (head ∷ hs) vs ns
    → IsWhole hs (drop head.outs vs) (drop head.published ns)
rest_whole head hs vs ns whole =
    let outs : head.outs + sum_by (λ (h : RanHead). h.outs) hs ≡ length vs =
    sym (sum_by-cons (λ (h : RanHead). h.outs) head hs) ∙ whole.outs in
    let published : head.published + sum_by (λ (h : RanHead). h.published) hs ≡ length ns =
    sym (sum_by-cons (λ (h : RanHead). h.published) head hs) ∙ whole.published in
    record {
      outs = omega (arith, outs, length-drop {A = Value} head.outs vs);
      published = omega (arith, published, length-drop {A = ℤ} head.published ns);
    }

nothing_left : {A : Type 0} (xs : List A) → 0 ≡ length xs → xs ≡ []
nothing_left [] none = refl
nothing_left (x ∷ xs) none = absurd (omega (arith, none))

pub one_ran_more : (hs : List RanHead) (h : RanHead) (vs ws : List Value) (ns ms : List ℤ) → IsWhole hs vs ns
    → h.outs ≡ length ws → h.published ≡ length ms
    → rans (hs ++ h ∷ []) (vs ++ ws) (ns ++ ms) ≡ rans hs vs ns ++ ran_with h ws ms ∷ []
one_ran_more [] h vs ws ns ms whole outs published =
    rw (nothing_left vs whole.outs, nothing_left ns whole.published, outs, published)
    (rw (take_all (length ws) ws (omega arith), take_all (length ms) ms (omega arith)) refl)
one_ran_more (head ∷ hs) h vs ws ns ms whole outs published =
    let within = first_within head hs vs ns whole in
    rw (
      take-append-le head.outs vs ws within.0,
      take-append-le head.published ns ms within.1,
      drop-append-le head.outs vs ws within.0,
      drop-append-le head.published ns ms within.1,
    )
    (ap (λ later. record
    { serial = head.serial; done = head.done; outs = take head.outs vs; published = take head.published ns } ∷ later)
    (one_ran_more hs h (drop head.outs vs) ws (drop head.published ns) ms (rest_whole head hs vs ns whole) outs
    published))

-- all heads count all again
pub one_head_more : (hs : List RanHead) (h : RanHead) (vs ws : List Value) (ns ms : List ℤ) → IsWhole hs vs ns
    → h.outs ≡ length ws → h.published ≡ length ms
    → IsWhole (hs ++ h ∷ []) (vs ++ ws) (ns ++ ms)
one_head_more hs h vs ws ns ms whole outs published = record {
  outs = omega (
    arith,
    whole.outs,
    outs,
    sum_by-append (λ (head : RanHead). head.outs) hs (h ∷ []),
    sum_by-cons (λ (head : RanHead). head.outs) h [],
    length-append vs ws,
  );
  published = omega (
    arith,
    whole.published,
    published,
    sum_by-append (λ (head : RanHead). head.published) hs (h ∷ []),
    sum_by-cons (λ (head : RanHead). head.published) h [],
    length-append ns ms,
  );
}

pub ruleset one_more = (one_ran_more, one_head_more)

-- there are as many as heads
pub rans_length : (hs : List RanHead) (vs : List Value) (ns : List ℤ) → length (rans hs vs ns) ≡ length hs
rans_length [] vs ns = refl
rans_length (h ∷ hs) vs ns = ap (λ n. suc n) (rans_length hs (drop h.outs vs) (drop h.published ns))

-- ---- Nothing to tell

-- of a list that is empty
pub no_item : {A : Type 0} (xs : List A) → (length xs == 0) ≡ true → xs ≡ []
no_item [] none = refl
no_item (x ∷ xs) none = let some = not_empty (x ∷ xs) (omega arith) in cc

quiet_is : (n : ℕ) (failed : List FailedPart) (ran : List Ran) (bodies : List BodyState) (stops : List ℕ) → failed ≡ []
    → ran ≡ [] → bodies ≡ [] → stops ≡ []
    → nothing_in n ≡ record { cycle = n; failed = failed; ran = ran; bodies = bodies; stops = stops }
quiet_is n failed ran bodies stops no_failure none_ran no_body none_stopped =
    rw (no_failure, none_ran, no_body, none_stopped) refl

-- parts that tell nothing are those of a cycle of which there is nothing to tell
pub nothing_happened : (told : CycleParts) → tells_nothing (happened_in_parts told) ≡ true
    → nothing_in told.cycle ≡ happened_in_parts told
nothing_happened told none =
    let happened = happened_in_parts told in
    let others =
    and_parts ((length happened.failed == 0 && length happened.ran == 0) && length happened.bodies == 0)
    (length happened.stops == 0) none in
    let parts = and_parts (length happened.failed == 0 && length happened.ran == 0) (length happened.bodies == 0)
    others.0 in
    let first = and_parts (length happened.failed == 0) (length happened.ran == 0) parts.0 in
    quiet_is happened.cycle happened.failed happened.ran happened.bodies happened.stops
    (no_item happened.failed first.0) (no_item happened.ran first.1) (no_item happened.bodies parts.1)
    (no_item happened.stops others.1)
