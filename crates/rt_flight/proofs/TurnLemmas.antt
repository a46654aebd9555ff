-- The turns of some cells and of the others; and what goes by who stands where, and by how much room each has.
use Rattle.std.proofs.Common.{◌≡◌, ℕ, ◌+◌, ◌<◌, ◌^◌, Bool, true, false, List, [], ◌∷◌, ◌++◌}
use Rattle.std.proofs.Common.{length, map, None, Some, refl, sym, ap, ap₂, subst, ◌∙◌, arith}
use Rattle.std.specs.Prelude.{◌||◌, if◌then◌else◌}
use Rattle.std.specs.List.{All, list_any, AllByRecursion}
use Rattle.std.proofs.lemmas.Bool.{or_parts}
use Rattle.std.proofs.lemmas.List.{length-map}
use Rattle.cm_model.specs.Controllers.{CanBeUpdated}
use Rattle.cm_model.specs.declared.member.Member.{Member}
use Rattle.loan_board.specs.declared.board.Loan.{Loan}
use Rattle.chain_order.specs.Links.{linked}
use Rattle.cm_places.specs.Placed.{Placed}
use Rattle.cm_model.specs.Kinds.{publishes}
use Rattle.cm_slots.specs.Updates.{Aloft, IsTimely}
use Rattle.sequence.proofs.ListLemmas.{map_twice, head_same, tail_same}
use Rattle.switch_plan.specs.Relations.{Related}
use Rattle.rt_flight.specs.Workspaces.{gathered, flies, tick_at, HasRows, IsFitted, IsConnectedTo}
use Rattle.rt_flight.specs.Cells.{CellFacts, Flying, Post, post_of, cell_gathered, cell_read, cell_put}
use Rattle.rt_flight.specs.Cells.{cell_after, flying_after, all_flown, cells_after, all_outs}
use Rattle.rt_flight.specs.Cells.{all_numbers, precedes_in, NonePrecedes, CanMakeStep, CanFly}
use Rattle.rt_flight.specs.Flights.{member_in}
use Rattle.rt_flight.proofs.LayerLemmas.{can_be_updated}

-- ---- Some and the others

pub cells_append : (a : Aloft) (xs ys : List CellFacts) (f : Flying)
    → cells_after a (xs ++ ys) f ≡ cells_after a xs f ++ cells_after a ys (all_flown a xs f)
cells_append a [] ys f = refl
cells_append a (x ∷ xs) ys f =
    ap (λ (cs : List CellFacts). cell_after a f.hardware.loans x ∷ cs) (cells_append a xs ys (flying_after a x f))

pub flown_append : (a : Aloft) (xs ys : List CellFacts) (f : Flying)
    → all_flown a (xs ++ ys) f ≡ all_flown a ys (all_flown a xs f)
flown_append a [] ys f = refl
flown_append a (x ∷ xs) ys f = flown_append a xs ys (flying_after a x f)

pub all_parts : {A : Type 0} (P : A → Type 0) (xs ys : List A) → AllByRecursion P (xs ++ ys)
    → AllByRecursion P xs × AllByRecursion P ys
all_parts P [] ys all = (tt, all)
all_parts P (x ∷ xs) ys all = let rest = all_parts P xs ys all.1 in ((all.0, rest.0), rest.1)

pub outs_append : (xs ys : List CellFacts) → all_outs (xs ++ ys) ≡ all_outs xs + all_outs ys
outs_append [] ys = let n = all_outs ys in omega arith
outs_append (x ∷ xs) ys = let rest = outs_append xs ys in omega (arith, rest)

pub numbers_append : (xs ys : List CellFacts) → all_numbers (xs ++ ys) ≡ all_numbers xs + all_numbers ys
numbers_append [] ys = let n = all_numbers ys in omega arith
numbers_append (x ∷ xs) ys = let rest = numbers_append xs ys in omega (arith, rest)

-- one more, of which none of them precedes it
pub none_push : (related : Related) (cs : List CellFacts) (d : CellFacts) → NonePrecedes related cs
    → list_any (λ c. precedes_in related c d) cs ≡ false → NonePrecedes related (cs ++ d ∷ [])
none_push related [] d none follows = (tt, tt)
none_push related (c ∷ cs) d none follows =
    let parts = or_parts (precedes_in related c d) (list_any (λ c. precedes_in related c d) cs) follows in
    (each cs none.0 parts.0, none_push related cs d none.1 parts.1)
  where
    each : (es : List CellFacts) → AllByRecursion (λ e. precedes_in related c e ≡ false) es
        → precedes_in related c d ≡ false → AllByRecursion (λ e. precedes_in related c e ≡ false) (es ++ d ∷ [])
    each [] none last = (last, tt)
    each (e ∷ es) none last = (none.0, each es none.1 last)

any_none : {A : Type 0} (xs : List A) → list_any (λ (x : A). false) xs ≡ false
any_none [] = refl
any_none (x ∷ xs) = any_none xs

any_either : {A : Type 0} (p q : A → Bool) (xs : List A)
    → (list_any p xs || list_any q xs) ≡ list_any (λ x. p x || q x) xs
any_either p q [] = refl
any_either p q (x ∷ xs) =
    parted (p x) (list_any p xs) (q x) (list_any q xs) ∙ ap (λ (b : Bool). (p x || q x) || b) (any_either p q xs)
  where
    parted : (a b c d : Bool) → ((a || b) || (c || d)) ≡ ((a || c) || (b || d))
    parted true b c d = refl
    parted false true true d = refl
    parted false true false d = refl
    parted false false c d = refl

-- to look for one of some for whom there is one of others is to look the other way round
pub any_swapped : {A B : Type 0} (r : A → B → Bool) (xs : List A) (ys : List B)
    → list_any (λ x. list_any (r x) ys) xs ≡ list_any (λ y. list_any (λ x. r x y) xs) ys
any_swapped r [] ys = sym (any_none ys)
any_swapped r (x ∷ xs) ys =
    ap (λ (b : Bool). list_any (r x) ys || b) (any_swapped r xs ys)
    ∙ any_either (r x) (λ y. list_any (λ x. r x y) xs) ys

-- ---- Who stands where

-- what goes by who stands where goes over to cells with the same
pub all_by_posts : (P : CellFacts → Type 0) → ((c d : CellFacts) → post_of c ≡ post_of d → P c → P d)
    → (cs ds : List CellFacts) → map post_of cs ≡ map post_of ds → AllByRecursion P cs → AllByRecursion P ds
all_by_posts P over [] [] same all = tt
all_by_posts P over [] (d ∷ ds) same all = cc
all_by_posts P over (c ∷ cs) [] same all = cc
all_by_posts P over (c ∷ cs) (d ∷ ds) same all =
    (over c d (head_same (post_of c) _ _ _ _ same) all.0, all_by_posts P over cs ds (tail_same _ _ _ _ same) all.1)

pub fitted_by : (placed : Placed) (c d : CellFacts) → post_of c ≡ post_of d → IsFitted placed c.workspace
    → IsFitted placed d.workspace
fitted_by placed c d same fitted =
    let place = ap (λ (p : Post). p.place) same in
    record {
      states = sym (ap (λ (p : Post). p.states) same) ∙ fitted.states ∙ ap (λ n. length (linked placed.reads n)) place;
      references =
          sym (ap (λ (p : Post). p.references) same) ∙ fitted.references
          ∙ ap (λ n. length (linked placed.references n)) place;
      outs = sym (ap (λ (p : Post). p.outs) same) ∙ fitted.outs ∙ ap (λ n. length (linked placed.claims n)) place;
    }

pub connected_by : (placed : Placed) (board : ℕ) (c d : CellFacts) → post_of c ≡ post_of d
    → IsConnectedTo placed board c.workspace → IsConnectedTo placed board d.workspace
connected_by placed board c d same connected =
    let place = ap (λ (p : Post). p.place) same in
    record {
      fitted = fitted_by placed c d same connected.fitted;
      rows = subst (HasRows placed) place connected.rows;
      read_there = subst (λ (n : ℕ). All (λ k. k < board) (linked placed.reads n)) place connected.read_there;
      referred_there =
          subst (λ (n : ℕ). All (λ k. k < board) (linked placed.references n)) place connected.referred_there;
      claimed_there = subst (λ (n : ℕ). All (λ k. k < board) (linked placed.claims n)) place connected.claimed_there;
    }

pub few_states_by : (c d : CellFacts) → post_of c ≡ post_of d → length c.workspace.states < 2 ^ 8
    → length d.workspace.states < 2 ^ 8
few_states_by c d same few = subst (λ (n : ℕ). n < 2 ^ 8) (ap (λ (p : Post). p.states) same) few

pub few_outs_by : (c d : CellFacts) → post_of c ≡ post_of d → length c.workspace.outs < 2 ^ 8
    → length d.workspace.outs < 2 ^ 8
few_outs_by c d same few = subst (λ (n : ℕ). n < 2 ^ 8) (ap (λ (p : Post). p.outs) same) few

pub outs_by : (cs ds : List CellFacts) → map post_of cs ≡ map post_of ds → all_outs cs ≡ all_outs ds
outs_by [] [] same = refl
outs_by [] (d ∷ ds) same = cc
outs_by (c ∷ cs) [] same = cc
outs_by (c ∷ cs) (d ∷ ds) same =
    ap₂ (λ (n m : ℕ). n + m) (ap (λ (p : Post). p.outs) (head_same (post_of c) _ _ _ _ same))
    (outs_by cs ds (tail_same _ _ _ _ same))

pub numbers_by : (cs ds : List CellFacts) → map post_of cs ≡ map post_of ds → all_numbers cs ≡ all_numbers ds
numbers_by [] [] same = refl
numbers_by [] (d ∷ ds) same = cc
numbers_by (c ∷ cs) [] same = cc
numbers_by (c ∷ cs) (d ∷ ds) same =
    ap₂ (λ (n m : ℕ). n + m)
    (ap (λ (p : Post). if publishes p.kind then p.states else 0) (head_same (post_of c) _ _ _ _ same))
    (numbers_by cs ds (tail_same _ _ _ _ same))

pub count_by : (cs ds : List CellFacts) → map post_of cs ≡ map post_of ds → length cs ≡ length ds
count_by cs ds same = sym (length-map cs post_of) ∙ ap length same ∙ length-map ds post_of

-- who flies is among it
pub members_by : (cs ds : List CellFacts) → map post_of cs ≡ map post_of ds → map member_in cs ≡ map member_in ds
members_by cs ds same =
    sym (map_twice post_of member_at cs) ∙ ap (map member_at) same ∙ map_twice post_of member_at ds
  where
    member_at : Post → Member
    member_at p = record { serial = p.serial; place = p.place }

-- ---- Once it has read

module _ (a : Aloft) (loans : List Loan) (board : ℕ) (c : CellFacts)
    (can : CanFly a.placed a.related a.period_us board c) where
  states_count : length (gathered a.placed loans c.workspace).states ≡ length c.workspace.states
  states_count = length-map (linked a.placed.reads c.workspace.place) _ ∙ sym can.connected.fitted.states

  references_count : length (gathered a.placed loans c.workspace).references ≡ length c.workspace.references
  references_count = length-map (linked a.placed.references c.workspace.place) _ ∙ sym can.connected.fitted.references

  -- it has what it had room for,
  pub read_post : post_of (cell_read a loans c) ≡ post_of c
  read_post = by_turn (flies a c.workspace)
    where
      by_turn : (b : Bool)
          → post_of (if b then record (cell_gathered a.placed loans c) { turn = Some (tick_at a c.workspace) }
          else record c { turn = None }) ≡ post_of c
      by_turn true = ap₂ (λ (n m : ℕ). record {
        serial = c.workspace.serial;
        place = c.workspace.place;
        divisor = c.workspace.divisor;
        kind = c.ctl.kind;
        states = n;
        references = m;
        outs = length c.workspace.outs;
      }) states_count references_count
      by_turn false = refl

  -- and can make its step
  pub read_can_step : IsTimely a → CanMakeStep (cell_read a loans c)
  read_can_step timely = by_turn (flies a c.workspace)
    where
      there : CanBeUpdated c.ctl (tick_at a c.workspace) (length c.workspace.states) (length c.workspace.references)
          (length c.workspace.outs)
      there = can_be_updated a c timely can.steps

      by_turn : (b : Bool)
          → CanMakeStep
          (if b then record (cell_gathered a.placed loans c) { turn = Some (tick_at a c.workspace) }
          else record c { turn = None })
      by_turn true = record {
        counts = subst
            (λ (n : ℕ). CanBeUpdated c.ctl (tick_at a c.workspace) n
            (length (gathered a.placed loans c.workspace).references) (length c.workspace.outs)) (sym states_count)
            (subst (λ (n : ℕ). CanBeUpdated c.ctl (tick_at a c.workspace) (length c.workspace.states) n
            (length c.workspace.outs)) (sym references_count) there);
        taking = can.steps.mail;
      }
      by_turn false = tt

pub read_posts : (a : Aloft) (loans : List Loan) (board : ℕ) (cs : List CellFacts)
    → AllByRecursion (CanFly a.placed a.related a.period_us board) cs
    → map post_of (map (cell_read a loans) cs) ≡ map post_of cs
read_posts a loans board [] can = refl
read_posts a loans board (c ∷ cs) can =
    ap₂ (λ (p : Post) (ps : List Post). p ∷ ps) (read_post a loans board c can.0) (read_posts a loans board cs can.1)

pub read_can_steps : (a : Aloft) (loans : List Loan) (board : ℕ) → IsTimely a → (cs : List CellFacts)
    → AllByRecursion (CanFly a.placed a.related a.period_us board) cs
    → AllByRecursion CanMakeStep (map (cell_read a loans) cs)
read_can_steps a loans board timely [] can = tt
read_can_steps a loans board timely (c ∷ cs) can =
    (read_can_step a loans board c can.0 timely, read_can_steps a loans board timely cs can.1)

-- what is put leaves all of it
pub put_posts : (cs : List CellFacts) → map post_of (map cell_put cs) ≡ map post_of cs
put_posts cs = map_twice cell_put post_of cs

-- ---- What each can

pub each_of : (a : Aloft) (board : ℕ) (P : CellFacts → Type 0)
    → ((c : CellFacts) → CanFly a.placed a.related a.period_us board c → P c) → (cs : List CellFacts)
    → AllByRecursion (CanFly a.placed a.related a.period_us board) cs → AllByRecursion P cs
each_of a board P says [] can = tt
each_of a board P says (c ∷ cs) can = (says c can.0, each_of a board P says cs can.1)
