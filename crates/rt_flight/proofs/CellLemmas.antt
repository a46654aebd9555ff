-- That the turns of the cells come to the updates of the written manager.
use Rattle.std.proofs.Common.{◌≡◌, ℕ, ◌*◌, Bool, true, false, List, [], ◌∷◌, ◌++◌, map, Option, None, Some}
use Rattle.std.proofs.Common.{option_map, inl, inr, refl, sym, ap, ap₂, subst, ◌∙◌, true≢false, append_assoc}
use Rattle.std.specs.Prelude.{◌==◌, ◌&&◌, not, if◌then◌else◌, filter, find, unwrap_or}
use Rattle.std.specs.List.{AllByRecursion, IsDistinct, Contains}
use Rattle.std.specs.Option.{option_map_or}
use Rattle.std.proofs.lemmas.Bool.{eqb-true, eq-eqb, false_from_ne_true}
use Rattle.std.proofs.lemmas.Option.{same_Some}
use Rattle.cm_document.specs.Valid.{IsValid}
use Rattle.cm_model.specs.Controllers.{Stepped, ctl_step, put_out}
use Rattle.cm_model.specs.Cycle.{is_due_now, is_held_off, mail_for, stepped_at, ran_by, erred_in, Updates, with_updates}
use Rattle.cm_model.specs.Cycle.{step_of as step_in_state, with_step as with_step_in_state}
use Rattle.cm_model.specs.Order.{is_due}
use Rattle.cm_storage.specs.Ran.{Ran}
use Rattle.cm_model.specs.Sound.{running_part}
use Rattle.cm_model.specs.State.{State, Loaded, active}
use Rattle.cm_model.specs.Steady.{IsSteady}
use Rattle.cm_model.specs.Values.{InterfaceValue}
use Rattle.cm_model.specs.declared.data.CtlData.{CtlData}
use Rattle.cm_storage.specs.declared.ran.Done.{Done}
use Rattle.cm_storage.specs.declared.ran.Done.TheVariants as done
use Rattle.fixed_num.specs.declared.value.Value.{Value}
use Rattle.cm_hardware.specs.Holding.{IsInCycle}
use Rattle.loan_board.specs.declared.board.Loan.{Loan}
use Rattle.chain_order.specs.Links.{linked}
use Rattle.cm_slots.specs.Cycles.{IsAloftOf}
use Rattle.cm_slots.specs.Connections.{numbers_at, held_at}
use Rattle.cm_slots.specs.Slots.{data_under}
use Rattle.cm_slots.specs.Updates.{Aloft, step_in, put_on, board_after, with_erred}
use Rattle.cm_slots.proofs.UpdateStateLemmas.{held_off, step_is_of, given_by_is, with_last_error, claims_there}
use Rattle.switch_plan.proofs.ElementLemmas.{first_or_later, none_inside}
use Rattle.rt_flight.specs.Workspaces.{flies, is_held_at, tick_at}
use Rattle.rt_flight.specs.Cells.{CellFacts, Flying, cell_gathered, cell_stepped}
use Rattle.rt_flight.specs.Cells.{step_of, with_step, all_flown, cells_after}
use Rattle.rt_flight.specs.Flights.{IsCellOf, AreCellsOf, AreCellsAfter}

-- ---- One cell

-- where the step went well its outputs stand in the cell
given_out : (step : Stepped) (held : List Value) → step.done ≡ done.Ok → put_out step held ≡ step.outs
given_out step held e =
    subst (λ (d : Done). ◌≡◌ {A = List Value} (elim d [ done.Ok ↦ step.outs | done.Error ↦ held ]) step.outs) (sym e)
    refl

-- what stands in the cell after the step comes to the board,
pub put_so : (claims : List ℕ) (step : Stepped) (held : List Value) (loans : List Loan)
    → ◌≡◌ {A = List Loan} (elim step.done [ done.Ok ↦ put_on loans claims (put_out step held) | done.Error ↦ loans ])
    (board_after claims step loans)
put_so claims step held loans = by_end step.done refl
  where
    by_end : (end : Done) → step.done ≡ end
        → ◌≡◌ {A = List Loan}
        (elim step.done [ done.Ok ↦ put_on loans claims (put_out step held) | done.Error ↦ loans ])
        (board_after claims step loans)
    by_end done.Ok e = rw e (ap (put_on loans claims) (given_out step held e))
    by_end done.Error e = rw e refl

-- and is told
pub told_so : (step : Stepped) (held : List Value) → (step.done ≡ done.Error → step.outs ≡ [])
    → ◌≡◌ {A = List Value} (elim step.done [ done.Ok ↦ put_out step held | done.Error ↦ [] ]) step.outs
told_so step held none = by_end step.done refl
  where
    by_end : (end : Done) → step.done ≡ end
        → ◌≡◌ {A = List Value} (elim step.done [ done.Ok ↦ put_out step held | done.Error ↦ [] ]) step.outs
    by_end done.Ok e = rw e (given_out step held e)
    by_end done.Error e = rw e (sym (none e))

-- the step of a cell is that of its controller
cell_step_is : (s : State) (a : Aloft) (loans : List Loan) (l : Loaded) (c : CellFacts)
    → IsCellOf s.mails (running_part l) c
    → step_of a (cell_gathered a.placed loans c) ≡ step_in a loans (mail_for s l.serial) l
cell_step_is s a loans l c is =
    ap (λ (ctl : CtlData). ctl_step ctl (tick_at a c.workspace)
    (numbers_at loans (linked a.placed.reads c.workspace.place))
    (held_at loans (linked a.placed.references c.workspace.place)) c.mail) is.ctl
    ∙ ap (λ (p : ℕ). ctl_step l.ctl (tick_at a c.workspace) (numbers_at loans (linked a.placed.reads p))
    (held_at loans (linked a.placed.references p)) c.mail) is.workspace.place
    ∙ ap (ctl_step l.ctl (tick_at a c.workspace) (numbers_at loans (linked a.placed.reads l.place))
    (held_at loans (linked a.placed.references l.place))) is.mail
    ∙ ap (λ (o : Option ℕ). ctl_step l.ctl
    (record { cycle = a.number; time_us = a.number * a.period_us; dt_us = unwrap_or o 1 * a.period_us })
    (numbers_at loans (linked a.placed.reads l.place)) (held_at loans (linked a.placed.references l.place))
    (mail_for s l.serial)) is.workspace.divisor

-- it is updated exactly where its controller is
flies_is : (s : State) (a : Aloft) (l : Loaded) (c : CellFacts) → IsValid s.description → IsAloftOf s a
    → IsCellOf s.mails (running_part l) c
    → flies a c.workspace ≡ (is_due_now s l && not (is_held_off s l))
flies_is s a l c valid aloft is =
    ap₂ (λ (b held : Bool). b && not held)
    (ap (λ (n : ℕ). is_due n c.workspace.divisor) aloft.number
    ∙ ap (λ (o : Option ℕ). option_map_or (is_due s.ended) o false) is.workspace.divisor)
    (ap (is_held_at a) is.workspace.place ∙ held_off s a valid aloft l)

-- ---- All of them

-- After these updates the work of the cells has come to this, behind what was told before.
pub record Stands (s : State) (told : List Ran) (wrong : List ℕ) (u : Updates) (f : Flying) : Type 0 where
  pub hardware : IsInCycle s u.values f.hardware
  pub ran : f.ran ≡ told ++ u.ran
  pub erred : f.erred ≡ wrong ++ erred_in u.ran

-- These cells are left, of these controllers, which are active.
pub record AreLeft (s : State) (ls : List Loaded) (cs : List CellFacts) : Type 0 where
  pub cell_facts : AreCellsOf s.mails (map running_part ls) cs
  pub running : AllByRecursion (λ l. active s l.place ≡ true) ls

-- after this step of the controller of this serial and place
abbrev with_step_at : Aloft → ℕ → ℕ → Stepped → Flying → Flying
with_step_at a serial place step f = record {
  hardware = record f.hardware { loans = board_after (linked a.placed.claims place) step f.hardware.loans };
  ran = f.ran ++ record { serial = serial; done = step.done; outs = step.outs; published = step.published } ∷ [];
  erred = with_erred serial step f.erred;
}

-- the controllers of which this holds are updated
abbrev pub due : State → Loaded → Bool
due s l = is_due_now s l && not (is_held_off s l)

module _ (s : State) (a : Aloft) (valid : IsValid s.description) (aloft : IsAloftOf s a) (steady : IsSteady s)
    (told : List Ran) (wrong : List ℕ) where
  -- its step, as the state has it
  step_same : (u : Updates) (f : Flying) (l : Loaded) (c : CellFacts) → Stands s told wrong u f
      → IsCellOf s.mails (running_part l) c
      → step_of a (cell_gathered a.placed f.hardware.loans c) ≡ step_in_state s u.values l
  step_same u f l c stands is =
      cell_step_is s a f.hardware.loans l c is
      ∙ step_is_of s a valid aloft u.values f.hardware stands.hardware (mail_for s l.serial) l refl

  -- one update more
  stands_on : (u : Updates) (f : Flying) (l : Loaded) (c : CellFacts) → Stands s told wrong u f
      → IsCellOf s.mails (running_part l) c → active s l.place ≡ true
      → Stands s told wrong (with_step_in_state s l (step_in_state s u.values l) u)
      (with_step a c (step_of a (cell_gathered a.placed f.hardware.loans c)) f)
  stands_on u f l c stands is runs =
      let step = step_in_state s u.values l in
      let same : with_step a c (step_of a (cell_gathered a.placed f.hardware.loans c)) f
      ≡ with_step_at a l.serial l.place step f =
      ap (λ (st : Stepped). with_step_at a c.workspace.serial c.workspace.place st f) (step_same u f l c stands is)
      ∙ ap₂ (λ (n p : ℕ). with_step_at a n p step f) is.workspace.serial is.workspace.place in
      subst (Stands s told wrong (with_step_in_state s l step u)) (sym same) (record {
        hardware = rw aloft.placed (given_by_is s a valid aloft u.values f.hardware stands.hardware l step
            (claims_there s a valid aloft steady told wrong u.values stands.hardware.wired.interfaces l runs));
        ran = ap (λ (ran : List Ran). ran ++ ran_by l step ∷ []) stands.ran
            ∙ append_assoc told u.ran (ran_by l step ∷ []);
        erred = ap (with_erred l.serial step) stands.erred ∙ with_last_error u.ran l step wrong;
      })

  either_way : (u : Updates) (f after : Flying) (cs : List CellFacts) (l : Loaded) (later : List Loaded) (b : Bool)
      → Stands s told wrong (with_updates s (with_step_in_state s l (step_in_state s u.values l) u) later)
      (all_flown a cs after)
      → Stands s told wrong (with_updates s u later) (all_flown a cs f)
      → Stands s told wrong (with_updates s u (if b then l ∷ later else later))
      (all_flown a cs (if b then after else f))
  either_way u f after cs l later true updated passed = updated
  either_way u f after cs l later false updated passed = passed

  -- So the turns of cells come to the updates of their controllers.
  pub all_stand : (ls : List Loaded) (cs : List CellFacts) (u : Updates) (f : Flying) → Stands s told wrong u f
      → AreLeft s ls cs
      → Stands s told wrong (with_updates s u (filter (due s) ls)) (all_flown a cs f)
  all_stand [] [] u f stands left = stands
  all_stand [] (c ∷ cs) u f stands left = absurd left.cell_facts
  all_stand (l ∷ ls) [] u f stands left = absurd left.cell_facts
  all_stand (l ∷ ls) (c ∷ cs) u f stands left =
      let step = step_of a (cell_gathered a.placed f.hardware.loans c) in
      let later = filter (due s) ls in
      let rest : AreLeft s ls cs = record { cell_facts = left.cell_facts.1; running = left.running.1 } in
      let updated =
      all_stand ls cs (with_step_in_state s l (step_in_state s u.values l) u) (with_step a c step f)
      (stands_on u f l c stands left.cell_facts.0 left.running.0) rest in
      let passed = all_stand ls cs u f stands rest in
      subst (λ (b : Bool). Stands s told wrong (with_updates s u (filter (due s) (l ∷ ls)))
      (all_flown a cs (if b then with_step a c step f else f)))
      (sym (flies_is s a l c valid aloft left.cell_facts.0))
      (either_way u f (with_step a c step f) cs l later (due s l) updated passed)

-- ---- The data of each

-- the controller of this serial is found
abbrev pub IsFound : List Loaded → Loaded → Type 0
IsFound loaded l = find (λ m. m.serial == l.serial) loaded ≡ Some l

-- it is found among some of which no two have one serial
pub found_once : (ls : List Loaded) (l : Loaded) → IsDistinct (λ m n. m == n) (map (λ (l : Loaded). l.serial) ls)
    → Contains ls l → IsFound ls l
unfolding IsDistinct
found_once [] l once inside = absurd (none_inside l inside)
found_once (m ∷ ms) l once inside = elim (first_or_later m ms l inside) [
  | inl same ↦ (let itself : (m.serial == l.serial) ≡ true =
      eq-eqb m.serial l.serial (ap (λ (x : Loaded). x.serial) same) in rw itself (ap Some same))
  | inr there ↦ (let differ : (m.serial == l.serial) ≡ false = apart ms once.0 there in
      rw differ (found_once ms l once.1 there))
]
  where
    apart : (ls : List Loaded) → AllByRecursion (λ n. (m.serial == n) ≡ false) (map (λ (l : Loaded). l.serial) ls)
        → Contains ls l → (m.serial == l.serial) ≡ false
    apart [] differ there = absurd (none_inside l there)
    apart (k ∷ ks) differ there = elim (first_or_later k ks l there) [
      | inl same ↦ ap (λ (x : Loaded). m.serial == x.serial) (sym same) ∙ differ.0
      | inr more ↦ apart ks differ.1 more
    ]

-- the step of one leaves what is found under another serial,
found_other : (s : State) (values : List InterfaceValue) (serial n : ℕ) (loaded : List Loaded) → (serial == n) ≡ false
    → find (λ (m : Loaded). m.serial == n) (map (stepped_at s values serial) loaded)
    ≡ find (λ (m : Loaded). m.serial == n) loaded
found_other s values serial n [] differ = refl
found_other s values serial n (m ∷ ms) differ =
    by_serial (m.serial == serial) (m.serial == n) refl refl (found_other s values serial n ms differ)
  where
    stepped : Bool → Loaded
    stepped b = if b then record m { ctl = (step_in_state s values m).after } else m

    by_serial : (b e : Bool) → (m.serial == serial) ≡ b → (m.serial == n) ≡ e
        → find (λ (k : Loaded). k.serial == n) (map (stepped_at s values serial) ms)
        ≡ find (λ (k : Loaded). k.serial == n) ms
        → find (λ (k : Loaded). k.serial == n) (stepped b ∷ map (stepped_at s values serial) ms)
        ≡ find (λ (k : Loaded). k.serial == n) (m ∷ ms)
    by_serial true true is at rest =
        absurd (true≢false
        (sym (eq-eqb serial n (sym (eqb-true m.serial serial is) ∙ eqb-true m.serial n at)) ∙ differ))
    by_serial true false is at rest = rw at rest
    by_serial false e is at rest = ap (λ (o : Option Loaded). if m.serial == n then Some m else o) rest

-- and under its own it is found stepped
found_stepped : (s : State) (values : List InterfaceValue) (l : Loaded) (loaded : List Loaded) → IsFound loaded l
    → find (λ (m : Loaded). m.serial == l.serial) (map (stepped_at s values l.serial) loaded)
    ≡ Some (record l { ctl = (step_in_state s values l).after })
found_stepped s values l [] found = cc
found_stepped s values l (m ∷ ms) found =
    by_serial (m.serial == l.serial) refl (λ at. found_stepped s values l ms at) found
  where
    by_serial : (b : Bool) → (m.serial == l.serial) ≡ b
        → (find (λ (k : Loaded). k.serial == l.serial) ms ≡ Some l
        → find (λ (k : Loaded). k.serial == l.serial) (map (stepped_at s values l.serial) ms)
        ≡ Some (record l { ctl = (step_in_state s values l).after }))
        → (if b then Some m else find (λ (k : Loaded). k.serial == l.serial) ms) ≡ Some l
        → find (λ (k : Loaded). k.serial == l.serial)
        ((if b then record m { ctl = (step_in_state s values m).after } else m) ∷ map (stepped_at s values l.serial) ms)
        ≡ Some (record l { ctl = (step_in_state s values l).after })
    by_serial true is later at =
        rw is (ap (λ (x : Loaded). Some (record x { ctl = (step_in_state s values x).after })) (same_Some m l at))
    by_serial false is later at = rw is (later at)

-- what is found under a serial is so after updates of others
found_later : (s : State) (n : ℕ) (ls : List Loaded) (u : Updates)
    → AllByRecursion (λ k. (n == k) ≡ false) (map (λ (l : Loaded). l.serial) ls)
    → find (λ (m : Loaded). m.serial == n) (with_updates s u (filter (due s) ls)).loaded
    ≡ find (λ (m : Loaded). m.serial == n) u.loaded
found_later s n [] u differ = refl
found_later s n (l ∷ ls) u differ =
    by_due (due s l) (found_later s n ls (with_step_in_state s l (step_in_state s u.values l) u) differ.1)
    (found_later s n ls u differ.1)
  where
    turned : (l.serial == n) ≡ false
    turned = false_from_ne_true (l.serial == n)
        (λ same. true≢false (sym (eq-eqb n l.serial (sym (eqb-true l.serial n same))) ∙ differ.0))

    later : List Loaded
    later = filter (due s) ls

    by_due : (b : Bool)
        → find (λ (m : Loaded). m.serial == n)
        (with_updates s (with_step_in_state s l (step_in_state s u.values l) u) later).loaded
        ≡ find (λ (m : Loaded). m.serial == n) (map (stepped_at s u.values l.serial) u.loaded)
        → find (λ (m : Loaded). m.serial == n) (with_updates s u later).loaded
        ≡ find (λ (m : Loaded). m.serial == n) u.loaded
        → find (λ (m : Loaded). m.serial == n) (with_updates s u (if b then l ∷ later else later)).loaded
        ≡ find (λ (m : Loaded). m.serial == n) u.loaded
    by_due true updated passed = updated ∙ found_other s u.values l.serial n u.loaded turned
    by_due false updated passed = passed

found_after : (s : State) (values : List InterfaceValue) (l : Loaded) (loaded : List Loaded) (ls : List Loaded)
    → AllByRecursion (λ n. (l.serial == n) ≡ false) (map (λ (m : Loaded). m.serial) ls)
    → AllByRecursion (IsFound loaded) ls → AllByRecursion (IsFound (map (stepped_at s values l.serial) loaded)) ls
found_after s values l loaded [] differ found = tt
found_after s values l loaded (m ∷ ms) differ found = (
  found_other s values l.serial m.serial loaded differ.0
      ∙ found.0,
  found_after s values l loaded ms differ.1 found.1,
)

module _ (s : State) (a : Aloft) (valid : IsValid s.description) (aloft : IsAloftOf s a) (steady : IsSteady s)
    (told : List Ran) (wrong : List ℕ) where
  -- one cell more, whether its controller was updated or passed over
  cells_on : (u : Updates) (f : Flying) (l : Loaded) (c : CellFacts) (ls : List Loaded) (cs : List CellFacts)
      → Stands s told wrong u f → IsCellOf s.mails (running_part l) c
      → AllByRecursion (λ n. (l.serial == n) ≡ false) (map (λ (m : Loaded). m.serial) ls) → IsFound u.loaded l
      → AreCellsAfter
      (with_updates s (with_step_in_state s l (step_in_state s u.values l) u) (filter (due s) ls)).loaded
      (map running_part ls)
      (cells_after a cs (with_step a c (step_of a (cell_gathered a.placed f.hardware.loans c)) f))
      → AreCellsAfter (with_updates s u (filter (due s) ls)).loaded (map running_part ls) (cells_after a cs f)
      → AreCellsAfter (with_updates s u (filter (due s) (l ∷ ls))).loaded (map running_part (l ∷ ls))
      (cells_after a (c ∷ cs) f)
  cells_on u f l c ls cs stands is differ found updated passed =
      subst (λ (b : Bool). AreCellsAfter (with_updates s u (filter (due s) (l ∷ ls))).loaded (map running_part (l ∷ ls))
      ((if b then cell_stepped step gathered else record c { mail = None; turn = None; done = None })
      ∷ cells_after a cs (if b then with_step a c step f else f)))
      (sym (flies_is s a l c valid aloft is))
      (by_due (due s l) (
        record {
          workspace =
              record { serial = is.workspace.serial; place = is.workspace.place; divisor = is.workspace.divisor };
          ctl = stepped_data;
          no_mail = refl;
        },
        updated,
      ) (
        record {
          workspace =
              record { serial = is.workspace.serial; place = is.workspace.place; divisor = is.workspace.divisor };
          ctl = kept_data;
          no_mail = refl;
        },
        passed,
      ))
    where
      gathered : CellFacts
      gathered = cell_gathered a.placed f.hardware.loans c

      step : Stepped
      step = step_of a gathered

      later : List Loaded
      later = filter (due s) ls

      next : Updates
      next = with_step_in_state s l (step_in_state s u.values l) u

      stepped_data : Some step.after ≡ data_under l.serial (with_updates s next later).loaded
      stepped_data =
          ap (λ (st : Stepped). Some st.after) (step_same s a valid aloft steady told wrong u f l c stands is)
          ∙ sym (ap (option_map (λ (m : Loaded). m.ctl))
          (found_later s l.serial ls next differ ∙ found_stepped s u.values l u.loaded found))

      kept_data : Some c.ctl ≡ data_under l.serial (with_updates s u later).loaded
      kept_data = ap Some is.ctl
          ∙ sym (ap (option_map (λ (m : Loaded). m.ctl)) (found_later s l.serial ls u differ ∙ found))

      by_due : (b : Bool)
          → AreCellsAfter (with_updates s next later).loaded (map running_part (l ∷ ls))
          (cell_stepped step gathered ∷ cells_after a cs (with_step a c step f))
          → AreCellsAfter (with_updates s u later).loaded (map running_part (l ∷ ls))
          (record c { mail = None; turn = None; done = None } ∷ cells_after a cs f)
          → AreCellsAfter (with_updates s u (if b then l ∷ later else later)).loaded (map running_part (l ∷ ls))
          ((if b then cell_stepped step gathered else record c { mail = None; turn = None; done = None })
          ∷ cells_after a cs (if b then with_step a c step f else f))
      by_due true is_updated is_kept = is_updated
      by_due false is_updated is_kept = is_kept

  -- So the cells have the data after the updates.
  pub cells_are : (ls : List Loaded) (cs : List CellFacts) (u : Updates) (f : Flying) → Stands s told wrong u f
      → AreLeft s ls cs
      → IsDistinct (λ m n. m == n) (map (λ (l : Loaded). l.serial) ls) → AllByRecursion (IsFound u.loaded) ls
      → AreCellsAfter (with_updates s u (filter (due s) ls)).loaded (map running_part ls) (cells_after a cs f)
  unfolding IsDistinct
  cells_are [] [] u f stands left once found = tt
  cells_are [] (c ∷ cs) u f stands left once found = absurd left.cell_facts
  cells_are (l ∷ ls) [] u f stands left once found = absurd left.cell_facts
  cells_are (l ∷ ls) (c ∷ cs) u f stands left once found =
      let step = step_of a (cell_gathered a.placed f.hardware.loans c) in
      let next = with_step_in_state s l (step_in_state s u.values l) u in
      let rest : AreLeft s ls cs = record { cell_facts = left.cell_facts.1; running = left.running.1 } in
      cells_on u f l c ls cs stands left.cell_facts.0 once.0 found.0
      (cells_are ls cs next (with_step a c step f)
      (stands_on s a valid aloft steady told wrong u f l c stands left.cell_facts.0 left.running.0) rest once.1
      (found_after s u.values l u.loaded ls once.0 found.1))
      (cells_are ls cs u f stands rest once.1 found.1)
