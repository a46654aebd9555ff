-- That one update by place is that of the written manager.
use Rattle.std.proofs.Common.{◌≡◌, ℕ, ◌*◌, ◌≤◌, Bool, true, false, List, [], ◌∷◌, ◌++◌, length}
use Rattle.std.proofs.Common.{map, Option, inl, inr, refl, sym, ap, ap₂, ◌∙◌, append_assoc}
use Rattle.std.specs.Prelude.{◌==◌, ◌||◌, if◌then◌else◌, filter, filter_map, unwrap_or}
use Rattle.std.specs.List.{AllByRecursion, list_any}
use Rattle.std.specs.Option.{option_map_or}
use Rattle.std.proofs.Math.Path.{fun_ext}
use Rattle.std.proofs.lemmas.Bool.{cases_lt}
use Rattle.std.proofs.lemmas.List.{map-append, append-nil, get_or_past}
use Rattle.std.proofs.lemmas.List.Elements.{filter-append}
use Rattle.std.proofs.lemmas.List.Folds.{list_any-append}
use Rattle.cm_hardware.proofs.ToldLemmas.{read_failures_told}
use Rattle.fixed_num.specs.declared.value.Value.{Value}
use Rattle.cm_document.specs.Places.{interfaces_of}
use Rattle.cm_document.specs.Valid.{IsValid}
use Rattle.cm_document.specs.declared.call.Mail.{Mail}
use Rattle.cm_document.specs.declared.description.Description.{Description}
use Rattle.cm_model.specs.Claims.{states_for, refs_for, given, given_by, uses}
use Rattle.cm_model.specs.Commit.{described_of}
use Rattle.cm_model.specs.Components.{read_fails}
use Rattle.cm_model.specs.Controllers.{Stepped, ctl_step}
use Rattle.cm_model.specs.Cycle.{component_is, is_due_now, is_held_off, tick_of}
use Rattle.cm_model.specs.Cycle.{mail_for, step_of, ran_by, is_error, erred_in}
use Rattle.cm_model.specs.Faults.{component_with}
use Rattle.cm_model.specs.Order.{controller_at, nobody}
use Rattle.cm_storage.specs.Ran.{Ran}
use Rattle.cm_model.specs.State.{State, Loaded, active}
use Rattle.cm_model.specs.Steady.{IsSteady}
use Rattle.cm_model.specs.Values.{InterfaceValue}
use Rattle.cm_storage.specs.declared.ran.Done.{Done}
use Rattle.cm_storage.specs.declared.ran.Done.TheVariants as done
use Rattle.cm_storage.specs.declared.record.FailedPart.{FailedPart}
use Rattle.loan_board.specs.Loans.{with_loan, set}
use Rattle.loan_board.specs.declared.board.Loan.{Loan}
use Rattle.cm_hardware.specs.Holding.{IsInCycle}
use Rattle.cm_hardware.specs.Outputs.{is_there_at, given_out}
use Rattle.cm_hardware.specs.Wiring.{Wired}
use Rattle.cm_hardware.proofs.OutputLemmas.{held_in_cycle, outputs_in_cycle}
use Rattle.cm_hardware.proofs.PresentLemmas.{claims_are_there}
use Rattle.chain_order.specs.Links.{linked}
use Rattle.chain_order.proofs.LinkLemmas.{length-each_below, get_or-each_below}
use Rattle.switch_plan.specs.Relations.{components_at, relations_of}
use Rattle.switch_plan.proofs.ClearLemmas.{any_found}
use Rattle.cm_places.specs.Placed.{Placed, placed_of}
use Rattle.cm_places.proofs.PlacedLemmas.{claims_row}
use Rattle.cm_places.proofs.OutputLemmas.{given-any}
use Rattle.cm_slots.specs.Mails.{is_due_in}
use Rattle.cm_slots.specs.Connections.{numbers_at, held_at, IsShownOn}
use Rattle.cm_slots.specs.Updates.{Aloft, tick_in, is_held_in, step_in, put_on, board_after, with_erred}
use Rattle.cm_slots.specs.Cycles.{IsAloftOf}
use Rattle.cm_slots.proofs.CommitStateLemmas.{numbers_are, values_are}

-- ---- Who is held off

-- the components of a controller, by place and by name
used_by : (d : Description) (test : ℕ → Bool) (p : ℕ)
    → list_any test (linked (relations_of d).components p) ≡ uses d.components test (controller_at d.controllers p)
used_by d test p =
    elim (cases_lt p (length d.controllers)) [
      | inl below ↦ ap (list_any test) (get_or-each_below (components_at d) (length d.controllers) p [] below) ∙ by_name
      | inr past ↦
          (let rows : length (relations_of d).components ≤ p =
          rw (length-each_below (components_at d) (length d.controllers)) past in
          ap (list_any test) (get_or_past (relations_of d).components p [] rows)
          ∙ ap (uses d.components test) (sym (get_or_past d.controllers p nobody past)))
    ]
  where
    by_name : list_any test (components_at d p) ≡ uses d.components test (controller_at d.controllers p)
    by_name =
        let c = controller_at d.controllers p in
        let with_it = component_with d.components in
        list_any-append test (filter_map with_it c.claims) (filter_map with_it c.reads)
        ∙ ap (λ b. b || list_any test (filter_map with_it c.reads)) (any_found test with_it c.claims)
        ∙ ap (λ b. list_any (λ name. option_map_or test (with_it name) false) c.claims || b)
        (any_found test with_it c.reads)
        ∙ sym (list_any-append (λ name. option_map_or test (with_it name) false) c.claims c.reads)

-- ---- One controller in the cycle

module _ (s : State) (a : Aloft) (valid : IsValid s.description) (aloft : IsAloftOf s a) where
  pub held_off : (l : Loaded) → is_held_in a l ≡ is_held_off s l
  held_off l =
      ap (λ (rows : List (List ℕ)). list_any
      (λ component. list_any (λ (part : FailedPart). part.place == component) a.failed) (linked rows l.place))
      (ap (λ r. r.components) aloft.related)
      ∙ ap (λ (failed : List FailedPart). list_any
      (λ component. list_any (λ (part : FailedPart). part.place == component) failed)
      (linked (relations_of s.description).components l.place)) aloft.failed
      ∙ ap (λ test. list_any test (linked (relations_of s.description).components l.place))
      (fun_ext (read_failures_told s))
      ∙ used_by s.description (component_is read_fails s) l.place

  pub due_now : (l : Loaded) → is_due_in a.number l ≡ is_due_now s l
  due_now l = ap (λ n. is_due_in n l) aloft.number

  tick_is : (l : Loaded) → tick_in a l ≡ tick_of s l
  tick_is l = ap₂
      (λ (n period_us : ℕ). record { cycle = n; time_us = n * period_us; dt_us = unwrap_or l.divisor 1 * period_us })
      aloft.number aloft.period

  module _ (values : List InterfaceValue) (w : Wired) (inside : IsInCycle s values w) where
    shown : IsShownOn w.loans s.description values
    shown = record { held = held_in_cycle s values w inside; described = inside.wired.interfaces }

    -- its step is that of the state
    pub step_is_of : (mail : Option Mail) (l : Loaded) → mail ≡ mail_for s l.serial
        → step_in a w.loans mail l ≡ step_of s values l
    step_is_of mail l same =
        ap (λ (placed : Placed). ctl_step l.ctl (tick_in a l) (numbers_at w.loans (linked placed.reads l.place))
        (held_at w.loans (linked placed.references l.place)) mail) aloft.placed
        ∙ ap (λ tick. ctl_step l.ctl tick (numbers_at w.loans (linked (placed_of s.description).reads l.place))
        (held_at w.loans (linked (placed_of s.description).references l.place)) mail) (tick_is l)
        ∙ ap₂ (λ states refs. ctl_step l.ctl (tick_of s l) states refs mail)
        (numbers_are s.description values w.loans l.place valid shown)
        (values_are s.description values w.loans l.place shown)
        ∙ ap (ctl_step l.ctl (tick_of s l) (states_for values (described_of s l)) (refs_for values (described_of s l)))
        same

    put_is : (loans : List Loan) (places : List ℕ) (outs : List Value)
        → record w { loans = put_on loans places outs } ≡ given_out (record w { loans = loans }) places outs
    put_is loans [] outs = refl
    put_is loans (place ∷ places) [] = refl
    put_is loans (place ∷ places) (out ∷ outs) = put_is (with_loan loans place (set out)) places outs

    -- its outputs leave the hardware in the cycle
    pub given_by_is : (l : Loaded) (step : Stepped)
        → AllByRecursion (λ k. is_there_at s values k ≡ true) (linked (placed_of s.description).claims l.place)
        → IsInCycle s (given_by (described_of s l).claims step values)
        (record w { loans = board_after (linked (placed_of s.description).claims l.place) step w.loans })
    given_by_is l step there = by_end step.done
      where
        claims : List ℕ
        claims = linked (placed_of s.description).claims l.place

        by_end : (end : Done)
            → IsInCycle s
            (elim end [ done.Ok ↦ given (described_of s l).claims step.outs values | done.Error ↦ values ])
            (record w { loans = elim end [ done.Ok ↦ put_on w.loans claims step.outs | done.Error ↦ w.loans ] })
        by_end done.Ok =
            rw (
              given-any s.description valid values inside.wired.interfaces l.place step.outs,
              put_is w.loans claims step.outs,
            )
            (outputs_in_cycle s values w claims step.outs inside there)
        by_end done.Error = inside

-- ---- All of them

pub with_last_error : (ran : List Ran) (l : Loaded) (step : Stepped) (erred : List ℕ)
    → with_erred l.serial step (erred ++ erred_in ran) ≡ erred ++ erred_in (ran ++ ran_by l step ∷ [])
with_last_error ran l step erred =
    by_end step.done
    ∙ ap (λ (more : List ℕ). erred ++ more)
    (sym (ap (map (λ (r : Ran). r.serial)) (filter-append (λ (r : Ran). is_error r.done) ran (ran_by l step ∷ []))
    ∙ map-append (λ (r : Ran). r.serial) (filter (λ (r : Ran). is_error r.done) ran)
    (filter (λ (r : Ran). is_error r.done) (ran_by l step ∷ []))))
  where
    by_end : (end : Done)
        → elim end [ done.Ok ↦ erred ++ erred_in ran | done.Error ↦ (erred ++ erred_in ran) ++ l.serial ∷ [] ]
        ≡ erred ++ (erred_in ran ++ map (λ (r : Ran). r.serial) (if is_error end then ran_by l step ∷ [] else []))
    by_end done.Ok = ap (λ (more : List ℕ). erred ++ more) (sym (append-nil (erred_in ran)))
    by_end done.Error = append_assoc erred (erred_in ran) (l.serial ∷ [])

module _ (s : State) (a : Aloft) (valid : IsValid s.description) (aloft : IsAloftOf s a) (steady : IsSteady s)
    (told : List Ran) (wrong : List ℕ) where
  pub claims_there : (values : List InterfaceValue)
      → map (λ (v : InterfaceValue). v.interface) values ≡ interfaces_of s.description → (l : Loaded)
      → active s l.place ≡ true
      → AllByRecursion (λ k. is_there_at s values k ≡ true) (linked (placed_of s.description).claims l.place)
  claims_there values are l runs =
      rw (claims_row s.description l.place) (claims_are_there s valid steady.together values are l.place runs)
