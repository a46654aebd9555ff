-- The calls of one depth after one another: gathered, lent, each made its step, and scattered.
use Rattle.std.proofs.Common.{◌≡◌, ℕ, zero, suc, ◌+◌, ◌<◌, true, false, List, [], ◌∷◌, ◌++◌, length}
use Rattle.std.proofs.Common.{map, take, drop, Option, Some, None, refl, sym, ap, subst, ◌∙◌, arith}
use Rattle.std.specs.Prelude.{is_some, IfSome, IsSomeAnd}
use Rattle.std.specs.List.{AllByRecursion}
use Rattle.std.proofs.lemmas.List.{length-append, length-map, map-append, take-append-drop}
use Rattle.std.proofs.Math.Seq.{take-length}
use Rattle.cm_model.specs.State.{State}
use Rattle.rt_flight.specs.Calls.Cells.{HaveStepped}
use Rattle.rt_flight.specs.Calls.Parts.{waiting_of, with_waiting, CanComplete, CanGather}
use Rattle.rt_flight.specs.Calls.Parts.{HadTurns, HasGathered, HasScattered, HasStarted}
use Rattle.rt_flight.specs.Calls.Parts.{HaveMadeSteps, IsAtFirst, IsPastDepth, IsStarted, Waits}
use Rattle.rt_flight.specs.Cells.{CellFacts, Post, cell_run, post_of, CanMakeStep}
use Rattle.rt_flight.specs.Depths.{depths_of}
use Rattle.rt_flight.specs.Flights.{FlightFacts, IsAloft}
use Rattle.rt_flight.specs.Progress.{Progress}
use Rattle.rt_flight.specs.UnderWay.{with_lent, HasBegunOf, IsUnderWay}

-- ---- Lists

drop_least : {A : Type 0} (m : ℕ) (ys : List A) → drop (length (take m ys)) ys ≡ drop m ys
drop_least zero ys = refl
drop_least (suc m) [] = refl
drop_least (suc m) (y ∷ ys) = drop_least m ys

-- what was lent comes back into its place
pub lent_back : {A : Type 0} (n m : ℕ) (xs ws : List A) → length ws ≡ length (take m (drop n xs))
    → take (length xs) (take n xs ++ (ws ++ drop (length ws) (drop n xs))) ≡ take n xs ++ (ws ++ drop m (drop n xs))
lent_back {A} n m xs ws as_many =
    let rest : List A = drop m (drop n xs) in
    let all : take n xs ++ (ws ++ drop (length ws) (drop n xs)) ≡ take n xs ++ (ws ++ rest) =
    ap (λ (ys : List A). take n xs ++ (ws ++ ys))
    (ap (λ (k : ℕ). drop k (drop n xs)) as_many ∙ drop_least m (drop n xs)) in
    let whole : length xs ≡ length (take n xs) + length (drop n xs) =
    ap (λ (ys : List A). length ys) (sym (take-append-drop n xs)) ∙ length-append (take n xs) (drop n xs) in
    let back : length (drop n xs) ≡ length (take m (drop n xs)) + length rest =
    ap (λ (ys : List A). length ys) (sym (take-append-drop m (drop n xs))) ∙ length-append (take m (drop n xs)) rest in
    let long : length xs ≡ length (take n xs ++ (ws ++ rest)) =
    omega (arith, whole, back, as_many, length-append (take n xs) (ws ++ rest), length-append ws rest) in
    ap (take (length xs)) all ∙ ap (λ (k : ℕ). take k (take n xs ++ (ws ++ rest))) long
    ∙ take-length (take n xs ++ (ws ++ rest))

-- ---- What is shown

pub if_some : {A : Type 0} (o : Option A) (x : A) (P : A → Type 0) → o ≡ Some x → IfSome o P → P x
if_some {A} o x P is holds = subst (λ (o : Option A). IfSome o P) is holds

pub some_if : {A : Type 0} (o : Option A) (x : A) (P : A → Type 0) → o ≡ Some x → P x → IfSome o P
some_if {A} o x P is holds = subst (λ (o : Option A). IfSome o P) (sym is) holds

pub and_some : {A : Type 0} (o : Option A) (x : A) (P : A → Type 0) → o ≡ Some x → P x → IsSomeAnd o P
and_some {A} o x P is holds = subst (λ (o : Option A). IsSomeAnd o P) (sym is) holds

pub some_and : {A : Type 0} (o : Option A) (P : A → Type 0) → IsSomeAnd o P → (x : A) × ((o ≡ Some x) × P x)
some_and None P holds = absurd holds
some_and (Some x) P holds = (x, (refl, holds))

-- ---- One depth

module _ (depth : ℕ) (p : Progress) (f g : FlightFacts) (can : CanGather depth f) (got : HasGathered depth p f g) where
  -- how far it is then
  abbrev pub q : Progress
  q = record p { gathered = true; waiting = got.count; left = g.cells }

  not_yet : g.outcome ≡ None
  not_yet = ap (λ (x : FlightFacts). x.outcome) got.same ∙ can.0

  pub waits : f.progress ≡ Some p → Waits depth g
  waits is =
      let at = subst
      (λ (o : Option Progress). IsSomeAnd o (λ x. (x.gathered ≡ false) × ((x.scattered ≡ depth) × (depth < x.depths))))
      is can.1 in
      (not_yet, and_some g.progress q (λ x. (x.gathered ≡ true) × (x.scattered ≡ depth)) got.progress (refl, at.1.0))

  -- what is lent can make its steps
  pub steps_there : (lent : List CellFacts) → IfSome g.progress (λ x. lent ≡ waiting_of x g.cells)
      → IfSome g.progress (λ x. g.cells ≡ x.left → AllByRecursion CanMakeStep (waiting_of x g.cells))
      → AllByRecursion CanMakeStep lent
  steps_there lent these steps =
      subst (AllByRecursion CanMakeStep)
      (sym (if_some g.progress q (λ x. lent ≡ waiting_of x g.cells) got.progress these))
      (if_some g.progress q (λ x. g.cells ≡ x.left → AllByRecursion CanMakeStep (waiting_of x g.cells)) got.progress
      steps refl)

  -- once these came back that each made its step
  module _ (lent back : List CellFacts) (these : IfSome g.progress (λ x. lent ≡ waiting_of x g.cells))
      (stepped : HaveStepped lent back) where
    lent_is : lent ≡ waiting_of q g.cells
    lent_is = if_some g.progress q (λ x. lent ≡ waiting_of x g.cells) got.progress these

    posts_back : map post_of back ≡ map post_of (waiting_of q g.cells)
    posts_back = stepped.posts ∙ ap (map post_of) lent_is

    as_many : length back ≡ length (waiting_of q g.cells)
    as_many = sym (length-map back post_of) ∙ ap (λ (ps : List Post). length ps) posts_back
        ∙ length-map (waiting_of q g.cells) post_of

    cells_back : (with_lent g back).cells ≡ with_waiting q g.cells back
    cells_back =
        subst (λ (o : Option Progress). (with_lent (record g { progress = o }) back).cells
        ≡ with_waiting q g.cells back) (sym got.progress)
        (lent_back p.turned got.count g.cells back as_many)

    pub made : HaveMadeSteps q (with_lent g back).cells
    made = record {
      stand = cells_back ∙ ap (with_waiting q g.cells) (stepped.cells ∙ ap (map cell_run) lent_is);
      posts = ap (map post_of) cells_back
          ∙ map-append post_of (take p.turned g.cells) (back ++ drop got.count (drop p.turned g.cells))
          ∙ ap (λ (ps : List Post). map post_of (take p.turned g.cells) ++ ps)
          (map-append post_of back (drop got.count (drop p.turned g.cells))
          ∙ ap (λ (ps : List Post). ps ++ map post_of (drop got.count (drop p.turned g.cells))) posts_back
          ∙ sym (map-append post_of (waiting_of q g.cells) (drop got.count (drop p.turned g.cells))))
          ∙ sym (map-append post_of (take p.turned g.cells)
          (waiting_of q g.cells ++ drop got.count (drop p.turned g.cells)))
          ∙ ap (map post_of)
          (ap (λ (cs : List CellFacts). take p.turned g.cells ++ cs)
          (take-append-drop got.count (drop p.turned g.cells)) ∙ take-append-drop p.turned g.cells);
    }

    pub may_scatter : IfSome (with_lent g back).progress (λ x. HaveMadeSteps x (with_lent g back).cells)
    may_scatter = some_if g.progress q (λ x. HaveMadeSteps x (with_lent g back).cells) got.progress made

    -- and gave out
    pub had_turns : (f' : FlightFacts) → ((x : Progress) → g.progress ≡ Some x → HasScattered x (with_lent g back) f')
        → HadTurns p f f'
    had_turns f' scatters =
        let done = scatters q got.progress in record {
          number = ap (λ (x : FlightFacts). x.number) done.same ∙ ap (λ (x : FlightFacts). x.number) got.same;
          not_yet = ap (λ (x : FlightFacts). x.outcome) done.same ∙ not_yet;
          progress = and_some f'.progress _ (IsPastDepth p) done.progress
              (record { scattered = refl; gathered = refl; depths = refl; begun = refl; read = refl });
        }

-- ---- All depths

-- A flight of the cycle of each state of which the one was that was started, of which so many of so many depths gave
-- out.
pub record IsPast (began : FlightFacts) (depth depths : ℕ) (f : FlightFacts) : Type 0 where
  pub same_number : f.number ≡ began.number
  pub not_yet : f.outcome ≡ None
  pub so_far : IsSomeAnd f.progress (λ p. (p.gathered ≡ false) × ((p.scattered ≡ depth) × (p.depths ≡ depths)))
  pub under_way : (s : State) → IsAloft s began → IsUnderWay s f

module _ (began : FlightFacts) (depth depths : ℕ) (f : FlightFacts) (past : IsPast began depth depths f) where
  known : (p : Progress)
      × ((f.progress ≡ Some p) × ((p.gathered ≡ false) × ((p.scattered ≡ depth) × (p.depths ≡ depths))))
  known = some_and f.progress (λ p. (p.gathered ≡ false) × ((p.scattered ≡ depth) × (p.depths ≡ depths))) past.so_far

  -- one depth more
  pub past_one : (f' : FlightFacts) → ((p : Progress) → f.progress ≡ Some p → HadTurns p f f')
      → IsPast began (depth + 1) depths f'
  past_one f' had =
      let p = known.0 in
      let turns = had p known.1.0 in
      let more = some_and f'.progress (IsPastDepth p) turns.progress in
      record {
        same_number = turns.number ∙ past.same_number;
        not_yet = turns.not_yet;
        so_far = and_some f'.progress more.0
            (λ x. (x.gathered ≡ false) × ((x.scattered ≡ depth + 1) × (x.depths ≡ depths))) more.1.0 (
              more.1.1.gathered,
              (more.1.1.scattered ∙ ap (λ (n : ℕ). n + 1) known.1.1.1.0, more.1.1.depths ∙ known.1.1.1.1),
            );
        under_way = λ s is. record {
          begun = and_some f'.progress more.0 (λ x. HasBegunOf s f'.number x.begun x.read) more.1.0
              (subst (λ (n : ℕ). HasBegunOf s n more.0.begun more.0.read) (sym turns.number)
              (subst (λ (cs : List CellFacts). HasBegunOf s f.number cs more.0.read) (sym more.1.1.begun)
              (subst (HasBegunOf s f.number p.begun) (sym more.1.1.read)
              (subst (λ (o : Option Progress). IsSomeAnd o (λ x. HasBegunOf s f.number x.begun x.read)) known.1.0
              (past.under_way s is).begun))));
          not_yet = turns.not_yet;
        };
      }

  pub can_gather : depth < depths → CanGather depth f
  can_gather below = (
    past.not_yet,
    and_some f.progress known.0 (λ p. (p.gathered ≡ false) × ((p.scattered ≡ depth) × (depth < p.depths))) known.1.0
        (known.1.1.0, (known.1.1.1.0, subst (λ (n : ℕ). depth < n) (sym known.1.1.1.1) below)),
  )

  pub can_complete : depth ≡ depths → CanComplete f
  can_complete last = (
    past.not_yet,
    and_some f.progress known.0 (λ p. (p.gathered ≡ false) × (p.scattered ≡ p.depths)) known.1.0
        (known.1.1.0, known.1.1.1.0 ∙ last ∙ sym known.1.1.1.1),
  )

-- ---- At first

pub is_started : (f f' : FlightFacts) → HasStarted f f' → IsStarted f'
is_started f f' has =
    let first = some_and f'.progress (IsAtFirst f.cells f'.cells) has.first in
    (has.not_yet, ap (λ (o : Option Progress). is_some o) first.1.0)

-- none gave out
pub past_none : (f f' : FlightFacts) (depths : ℕ) → HasStarted f f' → ((s : State) → IsAloft s f → IsUnderWay s f')
    → IfSome f'.progress (λ p. (depths ≡ depths_of p.begun) × (depths ≡ p.depths)) → IsPast f 0 depths f'
past_none f f' depths has way count =
    let first = some_and f'.progress (IsAtFirst f.cells f'.cells) has.first in
    record {
      same_number = ap (λ (x : FlightFacts). x.number) has.same;
      not_yet = has.not_yet;
      so_far = and_some f'.progress first.0 (λ p. (p.gathered ≡ false) × ((p.scattered ≡ 0) × (p.depths ≡ depths)))
          first.1.0 (
            first.1.1.gathered,
            (
              first.1.1.scattered,
              sym (if_some f'.progress first.0 (λ p. (depths ≡ depths_of p.begun) × (depths ≡ p.depths)) first.1.0
                  count).1,
            ),
          );
      under_way = way;
    }
