-- That cells of which none precedes another come to the same together as one after the other.
use Rattle.std.proofs.Common.{◌≡◌, ℕ, ℤ, length, Bool, true, false, List, [], ◌∷◌, ◌++◌, map}
use Rattle.std.proofs.Common.{Option, None, Some, refl, sym, ap, ap₂, subst, ◌∙◌, get_or-set_other}
use Rattle.std.proofs.Math.Nat.{mul-le-mul}
use Rattle.std.specs.Prelude.{◌==◌, if◌then◌else◌, IfSome, IsSomeAnd}
use Rattle.std.specs.List.{AllByRecursion}
use Rattle.std.proofs.lemmas.Bool.{or_parts, eqb-false}
use Rattle.fixed_num.specs.declared.value.Value.{Value}
use Rattle.cm_document.specs.declared.life.Life.TheVariants.{Active}
use Rattle.cm_model.specs.Claims.{number_in}
use Rattle.cm_model.specs.Components.{is_listed}
use Rattle.cm_model.specs.Controllers.{Stepped, CanBeUpdated}
use Rattle.cm_storage.specs.Ran.{Ran}
use Rattle.cm_storage.specs.declared.ran.Done.{Done}
use Rattle.cm_storage.specs.declared.ran.Done.TheVariants as done
use Rattle.loan_board.specs.Loans.{idle, set, loan_at, with_loan}
use Rattle.loan_board.specs.declared.board.Loan.{Loan}
use Rattle.chain_order.specs.Links.{linked}
use Rattle.cm_places.specs.Placed.{Placed}
use Rattle.cm_slots.specs.Lives.{published_by}
use Rattle.cm_slots.specs.Connections.{numbers_at, held_at}
use Rattle.cm_slots.specs.Updates.{Aloft, put_on, board_after, IsTimely}
use Rattle.cm_slots.proofs.StepLemmas.{step_is, kind_stepped, kind_once_taken, published_is, erred_gives_none}
use Rattle.switch_plan.specs.Relations.{Related}
use Rattle.rt_flight.specs.Workspaces.{WorkspaceFacts, gathered, flies, tick_at}
use Rattle.rt_flight.specs.Cells.{CellFacts, Flying, cell_gathered, cell_stepped, cell_after, step_of, with_step}
use Rattle.rt_flight.specs.Cells.{flying_after, all_flown, cells_after, cell_read, cell_run, cell_put, put_with}
use Rattle.rt_flight.specs.Cells.{flying_put, all_put, precedes_in, NonePrecedes, AreApart, TellsApart, CanStep}
use Rattle.rt_flight.proofs.CellLemmas.{put_so, told_so}

-- ---- The board

-- what stands at a place that is not claimed stays
put_elsewhere : (claims : List ℕ) (outs : List Value) (loans : List Loan) (k : ℕ) → is_listed claims k ≡ false
    → loan_at (put_on loans claims outs) k ≡ loan_at loans k
put_elsewhere [] outs loans k other = refl
put_elsewhere (place ∷ places) [] loans k other = refl
put_elsewhere (place ∷ places) (out ∷ outs) loans k other =
    let parts = or_parts (place == k) (is_listed places k) other in
    put_elsewhere places outs (with_loan loans place (set out)) k parts.1
    ∙ get_or-set_other loans place k (set out (loan_at loans place)) (idle false)
    (λ same. eqb-false place k parts.0 (sym same))

after_elsewhere : (claims : List ℕ) (step : Stepped) (loans : List Loan) (k : ℕ) → is_listed claims k ≡ false
    → loan_at (board_after claims step loans) k ≡ loan_at loans k
after_elsewhere claims step loans k other = by_end step.done
  where
    by_end : (end : Done)
        → loan_at (elim end [ done.Ok ↦ put_on loans claims step.outs | done.Error ↦ loans ]) k ≡ loan_at loans k
    by_end done.Ok = put_elsewhere claims step.outs loans k other
    by_end done.Error = refl

turn_elsewhere : (a : Aloft) (c : CellFacts) (f : Flying) (k : ℕ)
    → is_listed (linked a.placed.claims c.workspace.place) k ≡ false
    → loan_at (flying_after a c f).hardware.loans k ≡ loan_at f.hardware.loans k
turn_elsewhere a c f k other = by_turn (flies a c.workspace)
  where
    step : Stepped
    step = step_of a (cell_gathered a.placed f.hardware.loans c)

    by_turn : (b : Bool) → loan_at (if b then with_step a c step f else f).hardware.loans k ≡ loan_at f.hardware.loans k
    by_turn true = after_elsewhere (linked a.placed.claims c.workspace.place) step f.hardware.loans k other
    by_turn false = refl

-- so it is of all places of a row
numbers_same : (before after : List Loan) (row : List ℕ) → AllByRecursion (λ k. loan_at after k ≡ loan_at before k) row
    → numbers_at after row ≡ numbers_at before row
numbers_same before after [] same = refl
numbers_same before after (k ∷ ks) same =
    ap₂ (λ (loan : Loan) ns. number_in loan.value ∷ ns) same.0 (numbers_same before after ks same.1)

held_same : (before after : List Loan) (row : List ℕ) → AllByRecursion (λ k. loan_at after k ≡ loan_at before k) row
    → held_at after row ≡ held_at before row
held_same before after [] same = refl
held_same before after (k ∷ ks) same =
    ap₂ (λ (loan : Loan) (vs : List Value). loan.value ∷ vs) same.0 (held_same before after ks same.1)

each_elsewhere : (a : Aloft) (c : CellFacts) (f : Flying) (row : List ℕ)
    → AllByRecursion (λ k. is_listed (linked a.placed.claims c.workspace.place) k ≡ false) row
    → AllByRecursion (λ k. loan_at (flying_after a c f).hardware.loans k ≡ loan_at f.hardware.loans k) row
each_elsewhere a c f [] other = tt
each_elsewhere a c f (k ∷ ks) other = (turn_elsewhere a c f k other.0, each_elsewhere a c f ks other.1)

-- and one that the other does not precede reads the same before its turn and after it
reads_same : (a : Aloft) (c d : CellFacts) (f : Flying) → AreApart a.placed c.workspace.place d.workspace.place
    → gathered a.placed (flying_after a c f).hardware.loans d.workspace ≡ gathered a.placed f.hardware.loans d.workspace
reads_same a c d f apart =
    ap₂ (λ (states : List ℤ) (references : List Value). record d.workspace { states = states; references = references })
    (numbers_same f.hardware.loans _ (linked a.placed.reads d.workspace.place)
    (each_elsewhere a c f (linked a.placed.reads d.workspace.place) apart.reads))
    (held_same f.hardware.loans _ (linked a.placed.references d.workspace.place)
    (each_elsewhere a c f (linked a.placed.references d.workspace.place) apart.references))

-- ---- One step

some_and : {A : Type 0} (P : A → Type 0) (o : Option A) → IsSomeAnd o (λ x. Unit {0}) → IfSome o P → IsSomeAnd o P
some_and P None some each = absurd some
some_and P (Some x) some each = each

-- it can be updated at its time
pub can_be_updated : (a : Aloft) (c : CellFacts) → IsTimely a → CanStep a.related a.period_us c
    → CanBeUpdated c.ctl (tick_at a c.workspace) (length c.workspace.states) (length c.workspace.references)
    (length c.workspace.outs)
can_be_updated a c timely can = record {
  counts = record
      { configured = some_and _ c.ctl.params can.kept.state.configured can.counts; running = can.kept.state.running };
  some_time = mul-le-mul can.in_time.divided timely.some_time;
  no_longer = can.in_time.no_longer;
}

-- What is told of the step of a cell is what stands in the cell then.
put_is_step : (a : Aloft) (c : CellFacts) (loans : List Loan) (f : Flying) → IsTimely a
    → CanStep a.related a.period_us c
    → (step : Stepped) → step ≡ step_of a (cell_gathered a.placed loans c)
    → put_with a.placed step.done (cell_stepped step (cell_gathered a.placed loans c)) f ≡ with_step a c step f
put_is_step a c loans f timely can step is =
    ap₂ (λ (board : List Loan) (ran : Ran). record {
      hardware = record f.hardware { loans = board };
      ran = f.ran ++ ran ∷ [];
      erred = elim step.done [ done.Ok ↦ f.erred | done.Error ↦ f.erred ++ c.workspace.serial ∷ [] ];
    })
    (put_so (linked a.placed.claims c.workspace.place) step c.workspace.outs f.hardware.loans)
    (ap₂ (λ (outs : List Value) (published : List ℤ). record
    { serial = c.workspace.serial; done = step.done; outs = outs; published = published })
    (told_so step c.workspace.outs none) (ap (λ k. published_by k states) kind ∙ sym published))
  where
    workspace : WorkspaceFacts
    workspace = gathered a.placed loans c.workspace

    states : List ℤ
    states = workspace.states

    updatable : CanBeUpdated c.ctl (tick_at a c.workspace) (length c.workspace.states) (length c.workspace.references)
        (length c.workspace.outs)
    updatable = can_be_updated a c timely can

    none : step.done ≡ done.Error → step.outs ≡ []
    none = subst (λ (st : Stepped). st.done ≡ done.Error → st.outs ≡ []) (sym is)
        (erred_gives_none c.ctl (tick_at a c.workspace) workspace.states workspace.references c.mail)

    published : step.published ≡ published_by c.ctl.kind states
    published = ap (λ (st : Stepped). st.published) is
        ∙ published_is Active c.ctl (tick_at a c.workspace) workspace.states workspace.references c.mail _ _ _ can.kept
        updatable

    kind : step.after.kind ≡ c.ctl.kind
    kind = ap (λ (st : Stepped). st.after.kind) is
        ∙ ap (λ (st : Stepped). st.after.kind)
        (step_is c.ctl (tick_at a c.workspace) workspace.states workspace.references c.mail)
        ∙ kind_stepped _ _ _ (tick_at a c.workspace) workspace.states workspace.references
        ∙ kind_once_taken c.ctl c.mail

-- So a turn in three parts is one turn, where what is read stays until then.
module _ (a : Aloft) (c : CellFacts) (loans : List Loan) (f : Flying) (timely : IsTimely a)
    (can : CanStep a.related a.period_us c)
    (same : gathered a.placed loans c.workspace ≡ gathered a.placed f.hardware.loans c.workspace) where
  read_same : cell_read a loans c ≡ cell_read a f.hardware.loans c
  read_same =
      ap (λ (s : WorkspaceFacts). if flies a c.workspace
      then record c { workspace = s; turn = Some (tick_at a c.workspace) } else record c { turn = None }) same

  cell_same : cell_put (cell_run (cell_read a loans c)) ≡ cell_after a f.hardware.loans c
  cell_same = ap (λ (d : CellFacts). cell_put (cell_run d)) read_same ∙ by_turn (flies a c.workspace) refl
    where
      by_turn : (b : Bool) → flies a c.workspace ≡ b
          → cell_put (cell_run (cell_read a f.hardware.loans c)) ≡ cell_after a f.hardware.loans c
      by_turn true e = rw e refl
      by_turn false e = rw e refl

  put_same : flying_put a.placed (cell_run (cell_read a loans c)) f ≡ flying_after a c f
  put_same = ap (λ (d : CellFacts). flying_put a.placed (cell_run d) f) read_same ∙ by_turn (flies a c.workspace) refl
    where
      by_turn : (b : Bool) → flies a c.workspace ≡ b
          → flying_put a.placed (cell_run (cell_read a f.hardware.loans c)) f ≡ flying_after a c f
      by_turn true e =
          rw e (put_is_step a c f.hardware.loans f timely can (step_of a (cell_gathered a.placed f.hardware.loans c))
          refl)
      by_turn false e = rw e refl

-- ---- All of them

-- of these no earlier one claims what a later one reads
abbrev pub AllApart : Placed → List CellFacts → Type 0
AllApart placed [] = Unit {0}
AllApart placed (c ∷ cs) =
    AllByRecursion (λ d. AreApart placed c.workspace.place d.workspace.place) cs × AllApart placed cs

pub all_apart : (placed : Placed) (related : Related) → TellsApart placed related → (cs : List CellFacts)
    → NonePrecedes related cs → AllApart placed cs
all_apart placed related tells [] none = tt
all_apart placed related tells (c ∷ cs) none = (each cs none.0, all_apart placed related tells cs none.1)
  where
    each : (ds : List CellFacts) → AllByRecursion (λ d. precedes_in related c d ≡ false) ds
        → AllByRecursion (λ d. AreApart placed c.workspace.place d.workspace.place) ds
    each [] none = tt
    each (d ∷ ds) none = (tells c.workspace.place d.workspace.place none.0, each ds none.1)

-- What some turns together came to is what they come to one after the other.
pub record IsTogether (a : Aloft) (loans : List Loan) (cs : List CellFacts) (f : Flying) : Type 0 where
  pub cells : map cell_put (map cell_run (map (cell_read a loans) cs)) ≡ cells_after a cs f
  pub flying : all_put a.placed (map cell_run (map (cell_read a loans) cs)) f ≡ all_flown a cs f

-- these read the same on both boards
abbrev ReadSame : Aloft → List Loan → Flying → List CellFacts → Type 0
ReadSame a loans f cs =
    AllByRecursion
    (λ (c : CellFacts). gathered a.placed loans c.workspace ≡ gathered a.placed f.hardware.loans c.workspace) cs

still_same : (a : Aloft) (loans : List Loan) (c : CellFacts) (f : Flying) (ds : List CellFacts)
    → AllByRecursion (λ (d : CellFacts). AreApart a.placed c.workspace.place d.workspace.place) ds
    → ReadSame a loans f ds
    → ReadSame a loans (flying_after a c f) ds
still_same a loans c f [] apart same = tt
still_same a loans c f (d ∷ ds) apart same =
    (same.0 ∙ sym (reads_same a c d f apart.0), still_same a loans c f ds apart.1 same.1)

pub together : (a : Aloft) (loans : List Loan) → IsTimely a → (cs : List CellFacts) (f : Flying)
    → AllByRecursion (CanStep a.related a.period_us) cs → AllApart a.placed cs → ReadSame a loans f cs
    → IsTogether a loans cs f
together a loans timely [] f can apart same = record { cells = refl; flying = refl }
together a loans timely (c ∷ cs) f can apart same =
    let rest = together a loans timely cs (flying_after a c f) can.1 apart.1
    (still_same a loans c f cs apart.0 same.1) in
    record {
      cells = ap₂ (λ (d : CellFacts) (ds : List CellFacts). d ∷ ds) (cell_same a c loans f timely can.0 same.0)
          rest.cells;
      flying = ap (all_put a.placed (map cell_run (map (cell_read a loans) cs)))
          (put_same a c loans f timely can.0 same.0) ∙ rest.flying;
    }

pub reads_itself : (a : Aloft) (f : Flying) (cs : List CellFacts) → ReadSame a f.hardware.loans f cs
reads_itself a f [] = tt
reads_itself a f (c ∷ cs) = (refl, reads_itself a f cs)
