-- The depths of controllers are ranks of the places at which they stand; and what is put down one by one are such
-- ranks.
use Rattle.std.proofs.Common.{◌≡◌, ℕ, zero, suc, ◌+◌, ◌-◌, ◌<◌, ◌≤◌, Bool, true, false, List, []}
use Rattle.std.proofs.Common.{◌∷◌, ◌++◌, length, map, None, inl, inr, refl, sym, ap, subst, ◌∙◌, arith}
use Rattle.std.specs.Prelude.{◌==◌, ◌&&◌, ◌||◌, filter, if◌then◌else◌}
use Rattle.std.specs.List.{AllByRecursion, Contains}
use Rattle.std.proofs.lemmas.Bool.{cases_lt, and_parts, and_from, eq-eqb, eqb-true, true≢false, or_parts}
use Rattle.std.proofs.lemmas.List.{get_or_past, map-append}
use Rattle.cm_document.specs.Links.{first_in_loop}
use Rattle.cm_document.specs.declared.description.CtlDesc.{CtlDesc}
use Rattle.cm_document.proofs.ValidParts.{parts_of_valid}
use Rattle.cm_model.proofs.StillLemmas.{none_below}
use Rattle.cm_model.specs.Components.{is_listed}
use Rattle.cm_model.specs.Cycle.{active_order}
use Rattle.cm_model.specs.Order.{by_rank, depth, greatest_below, precedes_at}
use Rattle.cm_model.specs.Sound.{running_part}
use Rattle.cm_model.specs.State.{State, Loaded, MailAloft, is_active, active}
use Rattle.chain_order.proofs.DepthLemmas.{depth-most, depth-rises, depth-settled}
use Rattle.chain_order.proofs.LinkLemmas.{linked-rows_of, length-each_below}
use Rattle.chain_order.proofs.PlaceLemmas.{any-places_below}
use Rattle.chain_order.specs.Links.{linked, leaders_of, places_below}
use Rattle.sequence.proofs.ListLemmas.{all_append}
use Rattle.sound_laws.proofs.ActiveLemmas.{from_active_order, in_active_order}
use Rattle.sound_laws.proofs.ParamsLemmas.{all_each}
use Rattle.sound_laws.proofs.ValidLemmas.{valid-IsChecked}
use Rattle.switch_plan.proofs.ElementLemmas.{any_from, first_or_later, none_inside}
use Rattle.switch_plan.proofs.ElementLemmas.{some_of, Contains-map, Contains-map_back}
use Rattle.switch_plan.specs.Relations.{Related, relations_of}
use Rattle.rt_flight.specs.Cells.{CellFacts}
use Rattle.rt_flight.specs.Depths.{places_in, is_led_by, StandBy, RestsOn, RanksDepths}
use Rattle.rt_flight.specs.Flights.{AreCellsOf, IsAloftOver}
use Rattle.rt_flight.specs.declared.robot.Robot.{Robot}
use Rattle.rt_flight.proofs.ApartLemmas.{not_before}
use Rattle.rt_flight.proofs.TurnLemmas.{all_parts}

-- ---- Lists

-- what holds of all holds of one that stands there
pub all_in : {A : Type 0} (P : A → Type 0) (xs : List A) (x : A) → AllByRecursion P xs → Contains xs x → P x
all_in P [] x all inside = absurd (none_inside x inside)
all_in P (y ∷ ys) x all inside =
    elim (first_or_later y ys x inside) [
      | inl same ↦ subst P same all.0
      | inr later ↦ all_in P ys x all.1 later
    ]

pub all_weaker : {A : Type 0} (P Q : A → Type 0) → ((x : A) → P x → Q x) → (xs : List A) → AllByRecursion P xs
    → AllByRecursion Q xs
all_weaker P Q over [] all = tt
all_weaker P Q over (x ∷ xs) all = (over x all.0, all_weaker P Q over xs all.1)

-- ---- By rank

module _ (ranked : ℕ → ℕ) where
  stand_append : (ps qs : List ℕ) → StandBy ranked ps → StandBy ranked qs
      → AllByRecursion (λ p. AllByRecursion (λ q. ranked p ≤ ranked q) qs) ps → StandBy ranked (ps ++ qs)
  stand_append [] qs first last between = last
  stand_append (p ∷ ps) qs first last between =
      (all_append (λ q. ranked p ≤ ranked q) ps qs first.0 between.0, stand_append ps qs first.1 last between.1)

  pub stand_parts : (ps qs : List ℕ) → StandBy ranked (ps ++ qs)
      → StandBy ranked qs × AllByRecursion (λ p. AllByRecursion (λ q. ranked p ≤ ranked q) qs) ps
  stand_parts [] qs stand = (stand, tt)
  stand_parts (p ∷ ps) qs stand =
      let rest = stand_parts ps qs stand.1 in
      (rest.0, ((all_parts (λ q. ranked p ≤ ranked q) ps qs stand.0).1, rest.1))

  equal_stand : (n : ℕ) (ps : List ℕ) → AllByRecursion (λ p. ranked p ≡ n) ps → StandBy ranked ps
  equal_stand n [] all = tt
  equal_stand n (p ∷ ps) all = (
    all_weaker (λ q. ranked q ≡ n) (λ q. ranked p ≤ ranked q) (λ q is. omega (arith, is, all.0)) ps all.1,
    equal_stand n ps all.1,
  )

  module _ {A : Type 0} (place : A → ℕ) where
    of_rank : (n : ℕ) (xs : List A)
        → AllByRecursion (λ p. ranked p ≡ n) (map place (filter (λ x. ranked (place x) == n) xs))
    of_rank n [] = tt
    of_rank n (x ∷ xs) = by_test (ranked (place x) == n) refl (of_rank n xs)
      where
        by_test : (b : Bool) → (ranked (place x) == n) ≡ b
            → AllByRecursion (λ p. ranked p ≡ n) (map place (filter (λ y. ranked (place y) == n) xs))
            → AllByRecursion (λ p. ranked p ≡ n)
            (map place (if b then x ∷ filter (λ y. ranked (place y) == n) xs
            else filter (λ y. ranked (place y) == n) xs))
        by_test true is rest = (eqb-true (ranked (place x)) n is, rest)
        by_test false is rest = rest

    by_rank_stand : (n : ℕ) (xs : List A)
        → StandBy ranked (map place (by_rank (λ x. ranked (place x)) n xs))
        × AllByRecursion (λ p. ranked p < n) (map place (by_rank (λ x. ranked (place x)) n xs))
    by_rank_stand zero xs = (tt, tt)
    by_rank_stand (suc n) xs =
        let below = by_rank (λ x. ranked (place x)) n xs in
        let here = filter (λ x. ranked (place x) == n) xs in
        let rest = by_rank_stand n xs in
        let all = of_rank n xs in
        let parts : map place (below ++ here) ≡ map place below ++ map place here = map-append place below here in (
          subst (StandBy ranked) (sym parts)
              (stand_append (map place below) (map place here) rest.0 (equal_stand n (map place here) all)
              (all_weaker (λ p. ranked p < n) (λ p. AllByRecursion (λ q. ranked p ≤ ranked q) (map place here))
              (λ p less. all_weaker (λ q. ranked q ≡ n) (λ q. ranked p ≤ ranked q) (λ q is. omega (arith, is, less))
              (map place here) all) (map place below) rest.1)),
          subst (AllByRecursion (λ p. ranked p < suc n)) (sym parts)
              (all_append (λ p. ranked p < suc n) (map place below) (map place here)
              (all_weaker (λ p. ranked p < n) (λ p. ranked p < suc n) (λ p less. omega (arith, less)) (map place below)
              rest.1)
              (all_weaker (λ p. ranked p ≡ n) (λ p. ranked p < suc n) (λ p is. omega (arith, is)) (map place here)
              all)),
        )

-- ---- Who leads

-- who stands in the row of those that precede a controller precedes it,
pub leads_from : (cs : List CtlDesc) (p q : ℕ) → is_listed (linked (leaders_of cs) q) p ≡ true
    → precedes_at cs p q ≡ true
leads_from cs p q listed = by_test (precedes_at cs p q) refl
  where
    nobody_there : (each : ℕ) → precedes_at cs p q ≡ false → ((each == p) && precedes_at cs each q) ≡ false
    nobody_there each is = by_place (each == p) refl
      where
        by_place : (b : Bool) → (each == p) ≡ b → (b && precedes_at cs each q) ≡ false
        by_place true e = ap (λ (k : ℕ). precedes_at cs k q) (eqb-true each p e) ∙ is
        by_place false e = refl

    unlisted : precedes_at cs p q ≡ false → is_listed (linked (leaders_of cs) q) p ≡ false
    unlisted is =
        elim (cases_lt q (length cs)) [
          | inl within ↦
              ap (λ (row : List ℕ). is_listed row p) (linked-rows_of (precedes_at cs) (length cs) q within)
              ∙ any-places_below (λ each. each == p) (λ each. precedes_at cs each q) (length cs)
              ∙ none_below (λ each. (each == p) && precedes_at cs each q) (length cs) (λ each. nobody_there each is)
          | inr past ↦
              ap (λ (row : List ℕ). is_listed row p)
              (get_or_past (leaders_of cs) q []
              (omega (
                arith,
                past,
                length-each_below (λ r. places_below (λ k. precedes_at cs k r) (length cs)) (length cs),
              )))
        ]

    by_test : (b : Bool) → precedes_at cs p q ≡ b → precedes_at cs p q ≡ true
    by_test true is = is
    by_test false is = absurd (true≢false (sym listed ∙ unlisted is))

-- and who precedes it stands there
leads_to : (cs : List CtlDesc) (p q : ℕ) → precedes_at cs p q ≡ true → is_listed (linked (leaders_of cs) q) p ≡ true
leads_to cs p q leads = by_test (is_listed (linked (leaders_of cs) q) p) refl
  where
    by_test : (b : Bool) → is_listed (linked (leaders_of cs) q) p ≡ b → is_listed (linked (leaders_of cs) q) p ≡ true
    by_test true is = is
    by_test false is = absurd (true≢false (sym leads ∙ not_before cs p q is))

-- ---- Depths

-- the greatest below a bound, unless it is 0, is that of one number
greatest_is_one : (f : ℕ → ℕ) (n m : ℕ) → greatest_below f n ≡ suc m → (i : ℕ) × (f i ≡ suc m)
greatest_is_one f zero m is = absurd (omega (arith, is))
greatest_is_one f (suc n) m is =
    elim (cases_lt (greatest_below f n) (f n)) [
      | inl last ↦ (n, omega (arith, is, last))
      | inr before ↦ greatest_is_one f n m (omega (arith, is, before))
    ]

given_some : (b : Bool) (r m : ℕ) → (if b then suc r else 0) ≡ suc m → (b ≡ true) × (r ≡ m)
given_some true r m is = (refl, omega (arith, is))
given_some false r m is = absurd (omega (arith, is))

places_are : (mails : List MailAloft) (ls : List Loaded) (cs : List CellFacts)
    → AreCellsOf mails (map running_part ls) cs → places_in cs ≡ map (λ (l : Loaded). l.place) ls
places_are mails [] [] are = refl
places_are mails [] (c ∷ cs) are = absurd are
places_are mails (l ∷ ls) [] are = absurd are
places_are mails (l ∷ ls) (c ∷ cs) are =
    ap (λ (n : ℕ). n ∷ places_in cs) are.0.workspace.place
    ∙ ap (λ (ps : List ℕ). l.place ∷ ps) (places_are mails ls cs are.1)

-- the depths of the active controllers are the ranks of their places
module _ (s : State) (number : ℕ) (cells : List CellFacts) (g : Robot) (is : IsAloftOver s number cells g) where
  abbrev ranked : ℕ → ℕ
  ranked p = depth s.description.controllers (active s) p

  free : first_in_loop s.description.controllers ≡ None
  free = (valid-IsChecked s.description is.valid).free

  abbrev places : List ℕ
  places = map (λ (l : Loaded). l.place) (active_order s)

  same_places : places_in cells ≡ places
  same_places = places_are s.mails (active_order s) cells is.cells

  is_member : (l : Loaded) → Contains (active_order s) l → active s l.place ≡ true
  is_member l within =
      let loaded = from_active_order s l within in
      any_from (λ (m : Loaded). is_active m && m.place == l.place) s.loaded l loaded.0
      (and_from (is_active l) (l.place == l.place) loaded.1 (eq-eqb l.place l.place refl))

  member_stands : (p : ℕ) → active s p ≡ true → Contains places p
  member_stands p member =
      let one = some_of (λ (m : Loaded). is_active m && m.place == p) s.loaded member in
      let parts = and_parts (is_active one.0) (one.0.place == p) one.2 in
      subst (Contains places) (eqb-true one.0.place p parts.1)
      (Contains-map (λ (l : Loaded). l.place) (active_order s) one.0 (in_active_order s one.0 one.1 parts.0))

  rests : (q : ℕ) → RestsOn (relations_of s.description) ranked places q
  rests q n deep =
      let cs = s.description.controllers in
      let found = greatest_is_one (λ p. if active s p && precedes_at cs p q then suc (ranked p) else 0) (length cs) n
      (sym (depth-settled cs free (active s) q) ∙ deep) in
      let given = given_some (active s found.0 && precedes_at cs found.0 q) (ranked found.0) n found.1 in
      let parts = and_parts (active s found.0) (precedes_at cs found.0 q) given.0 in
      (found.0, (member_stands found.0 parts.0, (given.1, leads_to cs found.0 q parts.1)))

  at_places : RanksDepths (relations_of s.description) ranked places
  at_places = record {
    sorted = (by_rank_stand ranked (λ (l : Loaded). l.place) (suc (length s.description.controllers))
        (filter is_active s.loaded)).0;
    rises = all_each
        (λ p. (q : ℕ) → is_listed (linked (leaders_of s.description.controllers) q) p ≡ true → ranked p < ranked q)
        places (λ p inside q listed.
        let one = Contains-map_back (λ (l : Loaded). l.place) (active_order s) p inside in
        depth-rises s.description.controllers free (active s) p q
        (subst (λ (k : ℕ). active s k ≡ true) one.2 (is_member one.0 one.1))
        (leads_from s.description.controllers p q listed));
    rests = all_each (RestsOn (relations_of s.description) ranked places) places (λ q inside. rests q);
    small = λ p. omega (
      arith,
      depth-most s.description.controllers (active s) p,
      (parts_of_valid s.description is.valid).few.controllers,
    );
  }

  pub depths_ranked : RanksDepths g.relations (λ p. depth s.description.controllers (active s) p) (places_in cells)
  depths_ranked =
      subst (λ (related : Related). RanksDepths related ranked (places_in cells)) (sym is.related)
      (subst (RanksDepths (relations_of s.description) ranked) (sym same_places) at_places)

-- ---- One by one

-- Of places that stand by their ranks these are before the next, and the others after it.
module _ (related : Related) (ranked : ℕ → ℕ) (ps before : List ℕ) (q : ℕ) (later : List ℕ)
    (is : RanksDepths related ranked ps) (split : ps ≡ before ++ q ∷ later) where
  stands : StandBy ranked (q ∷ later)
      × AllByRecursion (λ p. AllByRecursion (λ r. ranked p ≤ ranked r) (q ∷ later)) before
  stands = stand_parts ranked before (q ∷ later) (subst (StandBy ranked) split is.sorted)

  -- the next one is no less deep than these
  pub no_less : AllByRecursion (λ p. ranked p ≤ ranked q) before
  no_less = all_weaker (λ p. AllByRecursion (λ r. ranked p ≤ ranked r) (q ∷ later)) (λ p. ranked p ≤ ranked q)
      (λ p each. each.0) before stands.1

  rests_here : RestsOn related ranked ps q
  rests_here =
      (all_parts (RestsOn related ranked ps) before (q ∷ later)
      (subst (AllByRecursion (RestsOn related ranked ps)) split is.rests)).1.0

  -- it rests on one of these
  rests_before : (n : ℕ) → ranked q ≡ suc n
      → AllByRecursion (λ p. ranked p ≡ n → is_listed (linked related.leaders q) p ≡ true → ⊥) before → ⊥
  rests_before n deep none =
      let found = rests_here n deep in
      all_in (λ p. ranked p ≡ n → is_listed (linked related.leaders q) p ≡ true → ⊥) (before ++ q ∷ later) found.0
      (all_append (λ p. ranked p ≡ n → is_listed (linked related.leaders q) p ≡ true → ⊥) before (q ∷ later) none (
        (λ same leads. absurd (omega (arith, same, deep))),
        all_weaker (λ r. ranked q ≤ ranked r) (λ p. ranked p ≡ n → is_listed (linked related.leaders q) p ≡ true → ⊥)
            (λ r no_less same leads. absurd (omega (arith, same, deep, no_less))) later stands.0.0,
      ))
      (subst (λ (xs : List ℕ). Contains xs found.0) split found.1.0) found.1.1.0 found.1.1.1

  -- it is no deeper than one depth more than these
  pub no_deeper : (depths : ℕ) → AllByRecursion (λ p. ranked p + 1 ≤ depths) before → ranked q ≤ depths
  no_deeper depths low =
      elim (cases_lt depths (ranked q)) [
        | inl above ↦
            absurd (rests_before (ranked q - 1) (omega (arith, above))
            (all_weaker (λ p. ranked p + 1 ≤ depths)
            (λ p. ranked p ≡ ranked q - 1 → is_listed (linked related.leaders q) p ≡ true → ⊥)
            (λ p less same leads. absurd (omega (arith, above, less, same))) before low))
        | inr within ↦ omega (arith, within)
      ]

  -- if one of these leads to it, it is deeper than that one
  pub deeper_if_led : (depths : ℕ) (ms : List ℕ) → AllByRecursion (λ p. ranked p + 1 ≡ depths) ms
      → AllByRecursion (λ p. (r : ℕ) → is_listed (linked related.leaders r) p ≡ true → ranked p < ranked r) ms
      → is_led_by related ms q ≡ true → depths ≤ ranked q
  deeper_if_led depths [] same rises led = absurd (true≢false (sym led))
  deeper_if_led depths (m ∷ ms) same rises led =
      by_first (is_listed (linked related.leaders q) m) refl (λ later. deeper_if_led depths ms same.1 rises.1 later) led
    where
      by_first : (b : Bool) → is_listed (linked related.leaders q) m ≡ b
          → (is_led_by related ms q ≡ true → depths ≤ ranked q) → (b || is_led_by related ms q) ≡ true
          → depths ≤ ranked q
      by_first true leads later some = omega (arith, same.0, rises.0 q leads)
      by_first false leads later some = later some

  not_led : (n : ℕ) (ms : List ℕ) → is_led_by related ms q ≡ false
      → AllByRecursion (λ p. ranked p ≡ n → is_listed (linked related.leaders q) p ≡ true → ⊥) ms
  not_led n [] none = tt
  not_led n (m ∷ ms) none =
      let parts = or_parts (is_listed (linked related.leaders q) m) (is_led_by related ms q) none in
      ((λ same leads. true≢false (sym leads ∙ parts.0)), not_led n ms parts.1)

  -- if none of the last depth leads to it, it is of that depth
  pub same_if_not_led : (depths : ℕ) (firsts lasts : List ℕ) → before ≡ firsts ++ lasts
      → AllByRecursion (λ p. ranked p + 1 < depths) firsts → AllByRecursion (λ p. ranked p + 1 ≡ depths) lasts
      → 0 < length lasts → is_led_by related lasts q ≡ false → ranked q + 1 ≡ depths
  same_if_not_led depths firsts lasts parts low same some none =
      let most : ranked q ≤ depths = no_deeper depths (subst (AllByRecursion (λ p. ranked p + 1 ≤ depths)) (sym parts)
      (all_append (λ p. ranked p + 1 ≤ depths) firsts lasts
      (all_weaker (λ p. ranked p + 1 < depths) (λ p. ranked p + 1 ≤ depths) (λ p less. omega (arith, less)) firsts low)
      (all_weaker (λ p. ranked p + 1 ≡ depths) (λ p. ranked p + 1 ≤ depths) (λ p e. omega (arith, e)) lasts same))) in
      let least : depths ≤ ranked q + 1 =
      one_of lasts same some
      (all_parts (λ p. ranked p ≤ ranked q) firsts lasts
      (subst (AllByRecursion (λ p. ranked p ≤ ranked q)) parts no_less)).1 in
      elim (cases_lt (ranked q) depths) [
        | inl below ↦ omega (arith, below, least)
        | inr above ↦
            absurd (rests_before (ranked q - 1) (omega (arith, above, most, positive lasts same some))
            (subst (AllByRecursion (λ p. ranked p ≡ ranked q - 1 → is_listed (linked related.leaders q) p ≡ true → ⊥))
            (sym parts)
            (all_append (λ p. ranked p ≡ ranked q - 1 → is_listed (linked related.leaders q) p ≡ true → ⊥) firsts lasts
            (all_weaker (λ p. ranked p + 1 < depths)
            (λ p. ranked p ≡ ranked q - 1 → is_listed (linked related.leaders q) p ≡ true → ⊥)
            (λ p less e leads. absurd (omega (arith, less, e, above))) firsts low)
            (not_led (ranked q - 1) lasts none))))
      ]
    where
      one_of : (ms : List ℕ) → AllByRecursion (λ p. ranked p + 1 ≡ depths) ms → 0 < length ms
          → AllByRecursion (λ p. ranked p ≤ ranked q) ms → depths ≤ ranked q + 1
      one_of [] each there below = absurd (omega (arith, there))
      one_of (m ∷ ms) each there below = omega (arith, each.0, below.0)

      positive : (ms : List ℕ) → AllByRecursion (λ p. ranked p + 1 ≡ depths) ms → 0 < length ms → 0 < depths
      positive [] each there = absurd (omega (arith, there))
      positive (m ∷ ms) each there = omega (arith, each.0)
