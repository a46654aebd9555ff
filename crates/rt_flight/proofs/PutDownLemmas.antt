-- That the depths which are put down cell by cell are the ranks of the cells' places.
use Rattle.std.proofs.Common.{◌≡◌, ◌⊎◌, ℕ, zero, suc, ◌+◌, ◌-◌, ◌<◌, ◌≤◌, ◌^◌, Bool, true, false, List, [], ◌∷◌, ◌++◌}
use Rattle.std.proofs.Common.{length, map, take, drop, slice_set, inl, inr, refl, sym, ap, ap₂, subst, ◌∙◌, arith}
use Rattle.std.specs.Prelude.{◌==◌, ◌||◌, max, slice_index_or, slice_range}
use Rattle.std.specs.List.{AllByRecursion, list_any}
use Rattle.std.proofs.lemmas.Bool.{cases_lt, eq-eqb, false_from_ne_true, true≢false}
use Rattle.std.proofs.lemmas.Bool.Decides.{nat_tests}
use Rattle.std.proofs.lemmas.List.{drop-append-le, drop-map, drop-take, drop_more, get_or-map}
use Rattle.std.proofs.lemmas.List.{get_or_default, length-drop, length-map, length-take-le}
use Rattle.std.proofs.lemmas.List.{take-append-drop, take-append-le, take-map, take_more, take_more_set}
use Rattle.std.proofs.Math.Seq.{drop-append_seam, take-append_seam}
use Rattle.cm_model.specs.Components.{is_listed}
use Rattle.chain_order.specs.Links.{linked}
use Rattle.sequence.proofs.ListLemmas.{all_append, all_push, any_map}
use Rattle.switch_plan.specs.Relations.{Related}
use Rattle.rt_flight.specs.Calls.Depths.{PutsDepths, StartsElsewhere}
use Rattle.rt_flight.specs.Cells.{CellFacts, precedes_in, NonePrecedes}
use Rattle.rt_flight.specs.Depths.{depths_of, places_in, is_led_by, AreDeepened, IsFlagged}
use Rattle.rt_flight.specs.Depths.{IsLayered, RanksDepths, StandBy}
use Rattle.rt_flight.proofs.RankLemmas.{all_weaker, deeper_if_led, no_deeper, same_if_not_led}
use Rattle.rt_flight.proofs.TurnLemmas.{all_parts}

-- ---- But for their depths

pub deepened_itself : (cs : List CellFacts) → AreDeepened cs cs
deepened_itself [] = tt
deepened_itself (c ∷ cs) = (refl, deepened_itself cs)

pub deepened_places : (cs ds : List CellFacts) → AreDeepened cs ds → places_in ds ≡ places_in cs
deepened_places [] [] same = refl
deepened_places [] (d ∷ ds) same = absurd same
deepened_places (c ∷ cs) [] same = absurd same
deepened_places (c ∷ cs) (d ∷ ds) same =
    ap₂ (λ (n : ℕ) (ns : List ℕ). n ∷ ns) (ap (λ (e : CellFacts). e.workspace.place) same.0)
    (deepened_places cs ds same.1)

-- one of them is put down anew
pub deepened_set : (cs ds : List CellFacts) (i n : ℕ) (d : CellFacts) → AreDeepened cs ds → i < length ds
    → AreDeepened cs (slice_set ds i (record (slice_index_or ds i d) { depth = n }))
deepened_set [] [] i n other same within = absurd (omega (arith, within))
deepened_set [] (d ∷ ds) i n other same within = absurd same
deepened_set (c ∷ cs) [] i n other same within = absurd same
deepened_set (c ∷ cs) (d ∷ ds) zero n other same within =
    (ap (λ (e : CellFacts). record e { depth = n }) same.0, same.1)
deepened_set (c ∷ cs) (d ∷ ds) (suc i) n other same within =
    (same.0, deepened_set cs ds i n other same.1 (omega (arith, within)))

-- what does not go by depths goes over
pub all_deepened : (P : CellFacts → Type 0) → ((c : CellFacts) (n : ℕ) → P c → P (record c { depth = n }))
    → (cs ds : List CellFacts) → AreDeepened cs ds → AllByRecursion P cs
    → AllByRecursion P ds
all_deepened P over [] [] same all = tt
all_deepened P over [] (d ∷ ds) same all = absurd same
all_deepened P over (c ∷ cs) [] same all = absurd same
all_deepened P over (c ∷ cs) (d ∷ ds) same all =
    (subst P (sym same.0) (over c d.depth all.0), all_deepened P over cs ds same.1 all.1)

-- and what is worked out of each without its depth is the same
pub deepened_map : {A : Type 0} (f : CellFacts → A) → ((c : CellFacts) (n : ℕ) → f (record c { depth = n }) ≡ f c)
    → (cs ds : List CellFacts) → AreDeepened cs ds → map f ds ≡ map f cs
deepened_map f over [] [] same = refl
deepened_map f over [] (d ∷ ds) same = absurd same
deepened_map f over (c ∷ cs) [] same = absurd same
deepened_map {A} f over (c ∷ cs) (d ∷ ds) same =
    ap₂ (λ (x : A) (xs : List A). x ∷ xs) (ap f same.0 ∙ over c d.depth) (deepened_map f over cs ds same.1)

-- ---- Who leads

-- the places of the cells from one index up to another
pub range_places : (cells : List CellFacts) (first i : ℕ) → first ≤ i
    → places_in (slice_range cells first i) ≡ drop first (take i (places_in cells))
range_places cells first i within =
    let upto : first + (i - first) ≡ i = omega (arith, within) in
    sym (take-map (λ (c : CellFacts). c.workspace.place) (i - first) (drop first cells))
    ∙ ap (take (i - first)) (sym (drop-map (λ (c : CellFacts). c.workspace.place) first cells))
    ∙ sym (drop-take first (i - first) (places_in cells)) ∙ ap (λ (k : ℕ). drop first (take k (places_in cells))) upto

-- to look among the cells for one that precedes another is to look among their places
pub led_range : (related : Related) (cells : List CellFacts) (first i : ℕ) (item : CellFacts) → first ≤ i
    → list_any (λ d. precedes_in related d item) (slice_range cells first i)
    ≡ is_led_by related (drop first (take i (places_in cells))) item.workspace.place
led_range related cells first i item within =
    sym (any_map (is_listed (linked related.leaders item.workspace.place)) (λ (c : CellFacts). c.workspace.place)
    (slice_range cells first i))
    ∙ ap (λ (ps : List ℕ). is_led_by related ps item.workspace.place) (range_places cells first i within)

pub place_of : (cells : List CellFacts) (i : ℕ) (item : CellFacts) → i < length cells
    → item ≡ slice_index_or cells i item → item.workspace.place ≡ slice_index_or (places_in cells) i 0
place_of cells i item within here =
    ap (λ (c : CellFacts). c.workspace.place) here
    ∙ sym (get_or-map (λ (c : CellFacts). c.workspace.place) cells i item 0 within)

-- ---- How many

pub depths_push : (cs : List CellFacts) (c : CellFacts) → depths_of (cs ++ c ∷ []) ≡ max (depths_of cs) (suc c.depth)
depths_push [] c = omega arith
depths_push (d ∷ ds) c = let rest = depths_push ds c in omega (arith, rest)

-- no cell is as deep
pub below_depths : (cs : List CellFacts) → AllByRecursion (λ c. c.depth < depths_of cs) cs
below_depths [] = tt
below_depths (c ∷ cs) = (
  omega arith,
  all_weaker (λ d. d.depth < depths_of cs) (λ d. d.depth < max (suc c.depth) (depths_of cs))
      (λ d less. omega (arith, less)) cs (below_depths cs),
)

-- ---- One more

-- So many cells have their depths; those of the last depth begin at one of them.
pub record IsPutDown (ranked : ℕ → ℕ) (first i depths : ℕ) (cells : List CellFacts) (ps : List ℕ) : Type 0 where
  pub put : AllByRecursion (λ c. c.depth ≡ ranked c.workspace.place) (take i cells)
  pub firsts : AllByRecursion (λ p. ranked p + 1 < depths) (take first (take i ps))
  pub lasts : AllByRecursion (λ p. ranked p + 1 ≡ depths) (drop first (take i ps))

-- The place at this index is the next of these, which stand by their ranks.
module _ (related : Related) (ranked : ℕ → ℕ) (cells : List CellFacts) (ps : List ℕ) (first i depths q : ℕ)
    (is : RanksDepths related ranked ps) (same : places_in cells ≡ ps)
    (q_is : slice_index_or ps i q ≡ q) (within : i < length cells) (first_within : first ≤ i)
    (put : IsPutDown ranked first i depths cells ps) where
  long : length cells ≡ length ps
  long = sym (length-map cells (λ (c : CellFacts). c.workspace.place)) ∙ ap (λ (ns : List ℕ). length ns) same

  before_long : length (take i ps) ≡ i
  before_long = length-take-le i ps (omega (arith, within, long))

  split : ps ≡ take i ps ++ q ∷ drop (i + 1) ps
  split = sym (take-append-drop i ps)
      ∙ ap (λ (ns : List ℕ). take i ps ++ ns)
      (drop_more ps i q (omega (arith, within, long)) ∙ ap (λ (n : ℕ). n ∷ drop (i + 1) ps) q_is)

  more : take (i + 1) ps ≡ take i ps ++ q ∷ []
  more = take_more ps i q (omega (arith, within, long)) ∙ ap (λ (n : ℕ). take i ps ++ n ∷ []) q_is

  parts : take i ps ≡ take first (take i ps) ++ drop first (take i ps)
  parts = sym (take-append-drop first (take i ps))

  low : AllByRecursion (λ p. ranked p + 1 ≤ depths) (take i ps)
  low = subst (AllByRecursion (λ p. ranked p + 1 ≤ depths)) (sym parts)
      (all_append (λ p. ranked p + 1 ≤ depths) (take first (take i ps)) (drop first (take i ps))
      (all_weaker (λ p. ranked p + 1 < depths) (λ p. ranked p + 1 ≤ depths) (λ p less. omega (arith, less))
      (take first (take i ps)) put.firsts)
      (all_weaker (λ p. ranked p + 1 ≡ depths) (λ p. ranked p + 1 ≤ depths) (λ p e. omega (arith, e))
      (drop first (take i ps)) put.lasts))

  rises_lasts : AllByRecursion (λ p. (r : ℕ) → is_listed (linked related.leaders r) p ≡ true → ranked p < ranked r)
      (drop first (take i ps))
  rises_lasts =
      let rises = all_parts (λ p. (r : ℕ) → is_listed (linked related.leaders r) p ≡ true → ranked p < ranked r)
      (take i ps) (q ∷ drop (i + 1) ps)
      (subst (AllByRecursion (λ p. (r : ℕ) → is_listed (linked related.leaders r) p ≡ true → ranked p < ranked r)) split
      is.rises) in
      (all_parts (λ p. (r : ℕ) → is_listed (linked related.leaders r) p ≡ true → ranked p < ranked r)
      (take first (take i ps)) (drop first (take i ps))
      (subst (AllByRecursion (λ p. (r : ℕ) → is_listed (linked related.leaders r) p ≡ true → ranked p < ranked r)) parts
      rises.0)).1

  lasts_long : length (drop first (take i ps)) ≡ i - first
  lasts_long = length-drop first (take i ps) ∙ ap (λ (n : ℕ). n - first) before_long

  -- as no controller of the last depth leads to it, it is of that depth;
  pub stays : first < i → is_led_by related (drop first (take i ps)) q ≡ false → ranked q + 1 ≡ depths
  stays some none =
      same_if_not_led related ranked ps (take i ps) q (drop (i + 1) ps) is split depths (take first (take i ps))
      (drop first (take i ps)) parts put.firsts put.lasts
      (omega (arith, some, lasts_long)) none

  -- as one does, or it is the first of all, it is the first of the next
  pub starts : (0 < i → is_led_by related (drop first (take i ps)) q ≡ true) → (i ≡ 0 → depths ≡ 0) → ranked q ≡ depths
  starts led none =
      let most : ranked q ≤ depths = no_deeper related ranked ps (take i ps) q (drop (i + 1) ps) is split depths low in
      elim (cases_lt 0 i) [
        | inl some ↦
            let least : depths ≤ ranked q =
            deeper_if_led related ranked ps (take i ps) q (drop (i + 1) ps) is split depths (drop first (take i ps))
            put.lasts rises_lasts (led some) in
            omega (arith, most, least)
        | inr no_more ↦ let nothing : depths ≡ 0 = none (omega (arith, no_more)) in omega (arith, most, nothing)
      ]

  -- with the depth of its cell put down
  module _ (next : CellFacts) (there : next.workspace.place ≡ q) where
    sofar : take (i + 1) (slice_set cells i next) ≡ take i cells ++ next ∷ []
    sofar = take_more_set cells i next within

    put_more : next.depth ≡ ranked q
        → AllByRecursion (λ c. c.depth ≡ ranked c.workspace.place) (take (i + 1) (slice_set cells i next))
    put_more e = subst (AllByRecursion (λ c. c.depth ≡ ranked c.workspace.place)) (sym sofar)
        (all_push (λ c. c.depth ≡ ranked c.workspace.place) (take i cells) next put.put (e ∙ ap ranked (sym there)))

    pub put_same : first < i → is_led_by related (drop first (take i ps)) q ≡ false → next.depth + 1 ≡ depths
        → IsPutDown ranked first (i + 1) depths (slice_set cells i next) ps
    put_same some none e =
        let last : ranked q + 1 ≡ depths = stays some none in record {
          put = put_more (omega (arith, last, e));
          firsts = subst (AllByRecursion (λ p. ranked p + 1 < depths))
              (sym (ap (take first) more
              ∙ take-append-le first (take i ps) (q ∷ []) (omega (arith, first_within, before_long)))) put.firsts;
          lasts = subst (AllByRecursion (λ p. ranked p + 1 ≡ depths))
              (sym (ap (drop first) more
              ∙ drop-append-le first (take i ps) (q ∷ []) (omega (arith, first_within, before_long))))
              (all_push (λ p. ranked p + 1 ≡ depths) (drop first (take i ps)) q put.lasts last);
        }

    pub put_first : (0 < i → is_led_by related (drop first (take i ps)) q ≡ true) → (i ≡ 0 → depths ≡ 0)
        → next.depth ≡ depths → IsPutDown ranked i (i + 1) (depths + 1) (slice_set cells i next) ps
    put_first led none e =
        let last : ranked q ≡ depths = starts led none in
        let whole : take i (take (i + 1) ps) ≡ take i ps =
        ap (take i) more ∙ ap (λ (k : ℕ). take k (take i ps ++ q ∷ [])) (sym before_long)
        ∙ take-append_seam (take i ps) (q ∷ []) in
        let rest : drop i (take (i + 1) ps) ≡ q ∷ [] =
        ap (drop i) more ∙ ap (λ (k : ℕ). drop k (take i ps ++ q ∷ [])) (sym before_long)
        ∙ drop-append_seam (take i ps) (q ∷ []) in
        record {
          put = put_more (omega (arith, last, e));
          firsts = subst (AllByRecursion (λ p. ranked p + 1 < depths + 1)) (sym whole)
              (all_weaker (λ p. ranked p + 1 ≤ depths) (λ p. ranked p + 1 < depths + 1) (λ p less. omega (arith, less))
              (take i ps) low);
          lasts = subst (AllByRecursion (λ p. ranked p + 1 ≡ depths + 1)) (sym rest) (omega (arith, last), tt);
        }

-- ---- The loop

-- Of these cells so many have their depths. They began as those, and so many depths there are so far.
pub record IsSoFar (related : Related) (began cells : List CellFacts) (first i depths : ℕ) : Type 0 where
  pub same : AreDeepened began cells
  pub first_within : first ≤ i
  pub none : i ≡ 0 → depths ≡ 0
  pub some : 0 < i → (first < i) × (0 < depths)
  pub count : depths ≡ depths_of (take i cells)
  pub put : (ranked : ℕ → ℕ) → RanksDepths related ranked (places_in began)
      → IsPutDown ranked first i depths cells (places_in began)

pub none_so_far : (related : Related) (cells : List CellFacts) → IsSoFar related cells cells 0 0 0
none_so_far related cells = record {
  same = deepened_itself cells;
  first_within = omega arith;
  none = λ e. refl;
  some = λ below. absurd (omega (arith, below));
  count = refl;
  put = λ ranked is. record { put = tt; firsts = tt; lasts = tt };
}

-- whether the next is the first of its depth
abbrev pub starts_at : Related → List CellFacts → ℕ → ℕ → Bool
starts_at related cells first i =
    i == 0 || is_led_by related (drop first (take i (places_in cells))) (slice_index_or (places_in cells) i 0)

not_zero : (i : ℕ) → 0 < i → (i == 0) ≡ false
not_zero i some = grind (arith, nat_tests)

start_led : (i : ℕ) (b led : Bool) → b ≡ (i == 0 || led) → b ≡ true → 0 < i → led ≡ true
start_led i b led is starts some = sym (is ∙ ap (λ (x : Bool). x || led) (not_zero i some)) ∙ starts

start_not : (i : ℕ) (b led : Bool) → b ≡ (i == 0 || led) → b ≡ false → (0 < i) × (led ≡ false)
start_not i b led is stays =
    elim (cases_lt 0 i) [
      | inl some ↦ (some, sym (ap (λ (x : Bool). x || led) (not_zero i some)) ∙ sym is ∙ stays)
      | inr none ↦ let first : i ≡ 0 =
          omega (arith, none) in absurd (true≢false (sym (is ∙ ap (λ (x : Bool). x || led) (eq-eqb i 0 first)) ∙ stays))
    ]

-- a cell that is not the first of all goes by the cells of the depth before
pub starts_else : (related : Related) (cells : List CellFacts) (first i : ℕ) (item : CellFacts) (b : Bool) → first ≤ i
    → i < length cells → (i ≡ 0 → ⊥) → item ≡ slice_index_or cells i item
    → b ≡ list_any (λ d. precedes_in related d item) (slice_range cells first i) → b ≡ starts_at related cells first i
starts_else related cells first i item b within inside later here follows =
    let some : 0 < i = elim (cases_lt 0 i) [
      | inl above ↦ above
      | inr none ↦ absurd (later (omega (arith, none)))
    ] in
    follows ∙ led_range related cells first i item within
    ∙ ap (is_led_by related (drop first (take i (places_in cells)))) (place_of cells i item inside here)
    ∙ sym (ap (λ (x : Bool). x
    || is_led_by related (drop first (take i (places_in cells))) (slice_index_or (places_in cells) i 0))
    (not_zero i some))

module _ (related : Related) (began cells : List CellFacts) (first i depths : ℕ)
    (so_far : IsSoFar related began cells first i depths) (within : i < length cells) (b : Bool)
    (is : b ≡ starts_at related cells first i) where
  abbrev ps : List ℕ
  ps = places_in began

  same_places : places_in cells ≡ ps
  same_places = deepened_places began cells so_far.same

  abbrev q : ℕ
  q = slice_index_or ps i 0

  q_itself : slice_index_or ps i q ≡ q
  q_itself = get_or_default ps i q 0
      (omega (
        arith,
        within,
        length-map cells (λ (c : CellFacts). c.workspace.place),
        ap (λ (ns : List ℕ). length ns) same_places,
      ))

  here : b ≡ (i == 0 || is_led_by related (drop first (take i ps)) q)
  here = is ∙ ap (λ (ns : List ℕ). i == 0 || is_led_by related (drop first (take i ns)) (slice_index_or ns i 0))
      same_places

  -- there are fewer depths than can be counted
  pub depths_fit : b ≡ true → (ranks : (ranked : ℕ → ℕ) × RanksDepths related ranked ps) → depths + 1 < 2 ^ 32
  depths_fit begins_here ranks =
      let last : ranks.0 q ≡ depths =
      starts related ranks.0 cells ps first i depths q ranks.1 same_places q_itself within so_far.first_within
      (so_far.put ranks.0 ranks.1)
      (start_led i b (is_led_by related (drop first (take i ps)) q) here begins_here) so_far.none in
      omega (arith, last, ranks.1.small q)

  -- and with one cell more it goes on so
  module _ (item next : CellFacts) (first' depths' : ℕ) (is_item : item ≡ slice_index_or cells i item)
      (is_next : next ≡ record item { depth = depths' - 1 }) where
    next_depth : next.depth ≡ depths' - 1
    next_depth = ap (λ (c : CellFacts). c.depth) is_next

    next_place : next.workspace.place ≡ q
    next_place =
        ap (λ (c : CellFacts). c.workspace.place) is_next ∙ place_of cells i item within is_item
        ∙ ap (λ (ns : List ℕ). slice_index_or ns i 0) same_places

    next_same : AreDeepened began (slice_set cells i next)
    next_same = subst (λ (c : CellFacts). AreDeepened began (slice_set cells i c))
        (sym (is_next ∙ ap (λ (c : CellFacts). record c { depth = depths' - 1 }) is_item))
        (deepened_set began cells i (depths' - 1) item so_far.same within)

    next_count : depths_of (take (i + 1) (slice_set cells i next)) ≡ max depths (suc (depths' - 1))
    next_count =
        ap depths_of (take_more_set cells i next within) ∙ depths_push (take i cells) next
        ∙ ap₂ (λ (m n : ℕ). max m (suc n)) (sym so_far.count) next_depth

    pub goes_on : ((b ≡ true) × ((first' ≡ i) × (depths' ≡ depths + 1)))
        ⊎ ((b ≡ false) × ((first' ≡ first) × (depths' ≡ depths)))
        → IsSoFar related began (slice_set cells i next) first' (i + 1) depths'
    goes_on (inl new) =
        subst (λ (n : ℕ). IsSoFar related began (slice_set cells i next) n (i + 1) depths') (sym new.1.0)
        (subst (λ (n : ℕ). IsSoFar related began (slice_set cells i next) i (i + 1) n) (sym new.1.1) (record {
          same = next_same;
          first_within = omega arith;
          none = λ e. absurd (omega (arith, e));
          some = λ below. (omega arith, omega arith);
          count = omega (arith, next_count, new.1.1);
          put = λ ranked ranks. put_first related ranked cells ps first i depths q ranks same_places q_itself within
              so_far.first_within (so_far.put ranked ranks) next next_place
              (start_led i b (is_led_by related (drop first (take i ps)) q) here new.0) so_far.none
              (omega (arith, next_depth, new.1.1));
        }))
    goes_on (inr old) =
        let none = start_not i b (is_led_by related (drop first (take i ps)) q) here old.0 in
        let before = so_far.some none.0 in
        subst (λ (n : ℕ). IsSoFar related began (slice_set cells i next) n (i + 1) depths') (sym old.1.0)
        (subst (λ (n : ℕ). IsSoFar related began (slice_set cells i next) first (i + 1) n) (sym old.1.1) (record {
          same = next_same;
          first_within = omega (arith, so_far.first_within);
          none = λ e. absurd (omega (arith, e));
          some = λ below. (omega (arith, so_far.first_within), before.1);
          count = omega (arith, next_count, old.1.1, before.1);
          put = λ ranked ranks. put_same related ranked cells ps first i depths q ranks same_places q_itself within
              so_far.first_within (so_far.put ranked ranks) next next_place
              before.0 none.1 (omega (arith, next_depth, old.1.1, before.1));
        }))

    -- and so do the flags of the depth, in which the cell comes to stand
    pub flags_go_on : (flags flags' : List Bool) (place : ℕ) → place ≡ item.workspace.place
        → ((qs : List ℕ) → IsFlagged flags qs → IsFlagged flags' (qs ++ place ∷ []))
        → (IsFlagged flags [] × (first' ≡ i))
        ⊎ (IsFlagged flags (drop first (take i (places_in cells))) × (first' ≡ first))
        → IsFlagged flags' (drop first' (take (i + 1) (places_in (slice_set cells i next))))
    flags_go_on flags flags' place is_place insert cases =
        let inside : i < length ps =
        omega (
          arith,
          within,
          length-map cells (λ (c : CellFacts). c.workspace.place),
          ap (λ (ns : List ℕ). length ns) same_places,
        ) in
        let is_q : place ≡ q =
        is_place ∙ place_of cells i item within is_item ∙ ap (λ (ns : List ℕ). slice_index_or ns i 0) same_places in
        let more : take (i + 1) (places_in (slice_set cells i next)) ≡ take i ps ++ place ∷ [] =
        ap (take (i + 1)) (deepened_places began (slice_set cells i next) next_same)
        ∙ take_more ps i q inside ∙ ap (λ (n : ℕ). take i ps ++ n ∷ []) (q_itself ∙ sym is_q) in
        let long : length (take i ps) ≡ i = length-take-le i ps (omega (arith, inside)) in
        elim cases [
          | inl new ↦
              subst (IsFlagged flags')
              (sym (ap (λ (k : ℕ). drop k (take (i + 1) (places_in (slice_set cells i next)))) new.1
              ∙ ap (drop i) more
              ∙ ap (λ (k : ℕ). drop k (take i ps ++ place ∷ [])) (sym long)
              ∙ drop-append_seam (take i ps) (place ∷ [])))
              (insert [] new.0)
          | inr old ↦
              subst (IsFlagged flags')
              (sym (ap (λ (k : ℕ). drop k (take (i + 1) (places_in (slice_set cells i next)))) old.1
              ∙ ap (drop first) more
              ∙ drop-append-le first (take i ps) (place ∷ []) (omega (arith, so_far.first_within, long))))
              (insert (drop first (take i ps))
              (subst (λ (ns : List ℕ). IsFlagged flags (drop first (take i ns))) same_places old.0))
        ]

  -- some depth has begun by then
  pub some_depth : (first' depths' : ℕ)
      → ((b ≡ true) × ((first' ≡ i) × (depths' ≡ depths + 1))) ⊎ ((b ≡ false) × ((first' ≡ first) × (depths' ≡ depths)))
      → 1 ≤ depths'
  some_depth first' depths' (inl new) = omega (arith, new.1.1)
  some_depth first' depths' (inr old) =
      let none = start_not i b (is_led_by related (drop first (take i ps)) q) here old.0 in
      let before = so_far.some none.0 in
      omega (arith, before.1, old.1.1)

take_past : {A : Type 0} (i : ℕ) (xs : List A) → length xs ≤ i → take i xs ≡ xs
take_past zero [] past = refl
take_past zero (x ∷ xs) past = absurd (omega (arith, past))
take_past (suc i) [] past = refl
take_past {A} (suc i) (x ∷ xs) past = ap (λ (ys : List A). x ∷ ys) (take_past i xs (omega (arith, past)))

-- at the end all have them
pub put_down : (related : Related) (began cells : List CellFacts) (first i depths : ℕ)
    → IsSoFar related began cells first i depths → length cells ≤ i → PutsDepths related began cells depths
put_down related began cells first i depths so_far past = record {
  ranked = λ ranked ranks. subst (AllByRecursion (λ c. c.depth ≡ ranked c.workspace.place)) (take_past i cells past)
      (so_far.put ranked ranks).put;
  same = so_far.same;
  count = so_far.count ∙ ap depths_of (take_past i cells past);
}

-- ---- All

-- what stands by its ranks is layered
pub layered : (related : Related) (ranked : ℕ → ℕ) (cs : List CellFacts)
    → AllByRecursion (λ c. c.depth ≡ ranked c.workspace.place) cs → StandBy ranked (places_in cs)
    → AllByRecursion (λ p. (r : ℕ) → is_listed (linked related.leaders r) p ≡ true → ranked p < ranked r) (places_in cs)
    → IsLayered related cs
layered related ranked [] at stand rises = tt
layered related ranked (c ∷ cs) at stand rises = (each cs at.1 stand.0, layered related ranked cs at.1 stand.1 rises.1)
  where
    each : (ds : List CellFacts) → AllByRecursion (λ d. d.depth ≡ ranked d.workspace.place) ds
        → AllByRecursion (λ p. ranked c.workspace.place ≤ ranked p) (places_in ds)
        → AllByRecursion (λ d. (c.depth ≤ d.depth) × (c.depth ≡ d.depth → precedes_in related c d ≡ false)) ds
    each [] put more = tt
    each (d ∷ ds) put more = (
      (
        omega (arith, at.0, put.0, more.0),
        (λ same. false_from_ne_true (precedes_in related c d)
            (λ leads. let less = rises.0 d.workspace.place leads in absurd (omega (arith, less, at.0, put.0, same)))),
      ),
      each ds put.1 more.1,
    )

-- ---- Layers

pub layered_parts : (related : Related) (cs ds : List CellFacts) → IsLayered related (cs ++ ds)
    → IsLayered related cs × IsLayered related ds
layered_parts related [] ds is = (tt, is)
layered_parts related (c ∷ cs) ds is =
    let rest = layered_parts related cs ds is.1 in (
      (
        (all_parts (λ d. (c.depth ≤ d.depth) × (c.depth ≡ d.depth → precedes_in related c d ≡ false)) cs ds is.0).0,
        rest.0,
      ),
      rest.1,
    )

-- of those of one depth none precedes a later one
pub none_in_layer : (related : Related) (n : ℕ) (cs : List CellFacts) → IsLayered related cs
    → AllByRecursion (λ c. c.depth ≡ n) cs → NonePrecedes related cs
none_in_layer related n [] is at = tt
none_in_layer related n (c ∷ cs) is at = (each cs is.0 at.1, none_in_layer related n cs is.1 at.1)
  where
    each : (ds : List CellFacts)
        → AllByRecursion (λ d. (c.depth ≤ d.depth) × (c.depth ≡ d.depth → precedes_in related c d ≡ false)) ds
        → AllByRecursion (λ d. d.depth ≡ n) ds
        → AllByRecursion (λ d. precedes_in related c d ≡ false) ds
    each [] one same = tt
    each (d ∷ ds) one same = (one.0.1 (omega (arith, at.0, same.0)), each ds one.1 same.1)

-- those behind one that stands deeper stand deeper
pub deeper_from : (related : Related) (n : ℕ) (cs : List CellFacts) → IsLayered related cs
    → AllByRecursion (λ c. n ≤ c.depth) cs → StartsElsewhere n cs → AllByRecursion (λ c. n < c.depth) cs
deeper_from related n [] is low elsewhere = tt
deeper_from related n (c ∷ cs) is low elsewhere =
    let less : n < c.depth = elim (cases_lt n c.depth) [
      | inl below ↦ below
      | inr above ↦ absurd (elsewhere (omega (arith, above, low.0)))
    ] in (
      less,
      all_weaker (λ d. (c.depth ≤ d.depth) × (c.depth ≡ d.depth → precedes_in related c d ≡ false))
          (λ d. n < d.depth) (λ d each. omega (arith, less, each.0)) cs is.0,
    )

-- where all stand at the last depth or above, none is left
pub none_left : (n : ℕ) (cs ds : List CellFacts) → n ≡ depths_of (cs ++ ds) → AllByRecursion (λ c. n ≤ c.depth) ds
    → ds ≡ []
none_left n cs [] is low = refl
none_left n cs (d ∷ ds) is low =
    let below = (all_parts (λ c. c.depth < depths_of (cs ++ d ∷ ds)) cs (d ∷ ds) (below_depths (cs ++ d ∷ ds))).1.0 in
    absurd (omega (arith, is, low.0, below))
