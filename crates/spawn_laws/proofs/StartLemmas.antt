-- The scheduled history of a planned script: it starts exactly the wanted controllers.
use Rattle.std.proofs.Common.{◌≡◌, ℕ, zero, suc, ◌<◌, Bool, true, false, List, [], ◌∷◌, ◌++◌, length, map, Some, None}
use Rattle.std.proofs.Common.{refl, sym, ◌∙◌, ap, ap₂, subst, append_assoc, append-nil, arith, lt-ltb, ltb-true}
use Rattle.std.specs.Prelude.{◌||◌, not, eqb, nat_lt, nat_le, drop, Ok}
use Rattle.std.specs.List.{AllByRecursion, IsDistinct}
use Rattle.std.proofs.lemmas.Bool.{and_from, and_right, or_from, false_from_ne_true}
use Rattle.cm_document.specs.Valid.{IsValid}
use Rattle.cm_document.specs.declared.call.Call.{Call}
use Rattle.cm_document.specs.declared.call.Call.TheVariants.{Load, Configure, Told, Await, Begin, End}
use Rattle.cm_document.specs.declared.description.Description.{Description}
use Rattle.cm_document.specs.declared.script.Script.{Script}
use Rattle.cm_model.specs.Boundary.{is_full, begin_effect, begin_reply}
use Rattle.cm_model.specs.Console.{unless_refused}
use Rattle.cm_model.specs.Machine.{is_session, is_reached, is_decided, step}
use Rattle.cm_model.specs.Scheduled.{Progress, with_entry, settle, settle_all, looped}
use Rattle.cm_model.specs.Scheduled.{with_cycle, cycles, finish, start, scheduled}
use Rattle.cm_model.specs.State.{State, Loaded, boot, is_active, active}
use Rattle.cm_model.specs.Steady.{IsSteady}
use Rattle.cm_model.specs.declared.TheConstants.{MOST_WAITING}
use Rattle.cm_model.specs.declared.blanks.Blanks.{Blanks}
use Rattle.cm_model.specs.declared.entry.Entry.{Entry}
use Rattle.cm_model.specs.declared.reply.Reply.TheVariants as reply
use Rattle.cm_model.specs.declared.reply.Why.{Why}
use Rattle.cm_model.specs.declared.reply.Why.TheVariants as why
use Rattle.cm_model.specs.declared.request.Request.{Request}
use Rattle.cm_model.specs.declared.request.Request.TheVariants as request
use Rattle.cm_model.specs.declared.cause.Outcome.{Outcome}
use Rattle.cm_model.specs.Order.{controller_at}
use Rattle.cm_model.specs.Sound.{decisions_in}
use Rattle.cm_model.proofs.LegalLemmas.{Leads, Leads-step}
use Rattle.sound_laws.proofs.BootLemmas.{boot_steady}
use Rattle.spawn_plan.specs.Fitting.{life_by, fits, first_fit}
use Rattle.spawn_plan.specs.Never.{never}
use Rattle.spawn_plan.specs.Plan.{spawned}
use Rattle.spawn_plan.specs.Starting.{waiting_for, starting_all, start_lines, starting}
use Rattle.spawn_plan.specs.Wanted.{places_in}
use Rattle.spawn_plan.proofs.WantedLemmas.{wanted_distinct}
use Rattle.spawn_laws.proofs.BeforeLemmas.{IsBefore, begins, flown_on}
use Rattle.spawn_laws.proofs.DoneLemmas.{AreReady, Waits, wish, tells, are_active}
use Rattle.spawn_laws.proofs.GoLemmas.{step_to, step_unless, Goes, standing, point, stands, settle_one}
use Rattle.spawn_laws.proofs.GoLemmas.{settle_on, goes_append, goes_leads, settle_all_to, looped_on}
use Rattle.spawn_laws.proofs.GoLemmas.{Grows, looped_grows, cycles_grow, finish_grows}
use Rattle.spawn_laws.proofs.NeverLemmas.{steady_after}
use Rattle.spawn_laws.proofs.PlannedLemmas.{IsPlanned, planned_parts, start_parts, first_parts}
use Rattle.spawn_laws.proofs.PrepareLemmas.{ArePlaced, are_placed, loaded_from, places_loaded}
use Rattle.spawn_laws.proofs.PrepareLemmas.{with_these, ready, loads_go, configures_go}
use Rattle.spawn_laws.specs.Starts.{StartsThem}

-- ---- Who is ready

still_ready : (d : Description) (ls : List Loaded)
    → AllByRecursion (λ (l : Loaded). is_active l ≡ false) (map (ready d) ls)
still_ready d [] = tt
still_ready d (l ∷ ls) = (refl, still_ready d ls)

params_ready : (d : Description) (ls : List Loaded)
    → AllByRecursion (λ (l : Loaded). l.ctl.params ≡ Some (controller_at d.controllers l.place).params)
    (map (ready d) ls)
params_ready d [] = tt
params_ready d (l ∷ ls) = (refl, params_ready d ls)

stopped_ready : (d : Description) (ls : List Loaded)
    → AllByRecursion (λ (l : Loaded). l.ctl.run ≡ None) (map (ready d) ls)
stopped_ready d [] = tt
stopped_ready d (l ∷ ls) = (refl, stopped_ready d ls)

places_ready : (d : Description) (ls : List Loaded)
    → map (λ (l : Loaded). l.place) (map (ready d) ls) ≡ map (λ (l : Loaded). l.place) ls
places_ready d [] = refl
places_ready d (l ∷ ls) = ap (λ ps. l.place ∷ ps) (places_ready d ls)

-- ---- The start

allowed : (closed full : Bool) (y z : Why) (ticket : ℕ) → closed ≡ false → full ≡ false
    → unless_refused ((closed, y) ∷ (full, z) ∷ []) (reply.Queued ticket) ≡ reply.Queued ticket
allowed false false y z ticket first second = refl
allowed true full y z ticket first second = cc
allowed false true y z ticket first second = cc

module _ (d : Description) (blanks : Blanks) (name : List ℕ) (names : List (List ℕ)) (script : Script)
    (valid : IsValid d) (plan : IsPlanned d blanks (name ∷ names) script) where
  abbrev wanted : List (List ℕ)
  wanted = name ∷ names

  abbrev k : ℕ
  k = plan.cycle

  abbrev places : List ℕ
  places = plan.places

  abbrev from : State
  from = boot d blanks 1

  abbrev ls : List Loaded
  ls = map (ready d) (loaded_from d 0 places)

  abbrev asking : Call
  asking = starting_all wanted

  abbrev lines : List Call
  lines = start_lines wanted k

  abbrev opening : Progress
  opening = point from [] lines None

  abbrev awaits : List Call
  awaits = waiting_for k ++ asking ∷ []

  leads_nil : Leads from [] from
  leads_nil = record { legal = tt; ends = refl }

  placed : ArePlaced d.controllers wanted places
  placed = are_placed d.controllers wanted places plan.placed

  pub first_fits : first_fit d places ≡ Some k
  first_fits = start_parts d name names places k placed plan.begins

  distinct : IsDistinct eqb places
  distinct = wanted_distinct d.controllers wanted places plan.placed plan.once

  -- all are loaded and configured
  loads : (left : Blanks) × (es : List Entry)
      × Goes from (map Load wanted) (with_these d left (length places) (loaded_from d 0 places)) es
  loads = loads_go d wanted [] places blanks placed distinct plan.blanks_left

  abbrev prepared : State
  prepared = with_these d loads.0 (length places) ls

  configures : (es : List Entry)
      × Goes (with_these d loads.0 (length places) (loaded_from d 0 places)) (map Configure wanted) prepared es
  configures = configures_go d wanted loads.0 (length places) [] places placed distinct plan.taken

  abbrev first_entries : List Entry
  first_entries = loads.1 ++ configures.0

  prepares : Goes from (map Load wanted ++ map Configure wanted) prepared first_entries
  prepares = goes_append (map Load wanted) (map Configure wanted) from
      (with_these d loads.0 (length places) (loaded_from d 0 places)) prepared loads.1 configures.0 loads.2 configures.1

  before_first : IsBefore d ls 0 prepared
  before_first = record {
    description = refl;
    sessions = refl;
    loaded = refl;
    lives = refl;
    requests = refl;
    outcomes = refl;
    fallbacks = refl;
    ended = refl;
    home = refl;
    not_closed = refl;
    mails = refl;
  }

  leads_first : Leads from first_entries prepared
  leads_first =
      goes_leads from (map Load wanted ++ map Configure wanted) from prepared [] first_entries leads_nil prepares

  -- the session settles through them
  settles_first : settle 0 (standing from [] lines None) ≡ settle 0 (standing prepared first_entries awaits None)
  settles_first =
      ap (λ cs. settle 0 (standing from [] cs None))
      (append_assoc (map Load wanted ++ map Configure wanted) (waiting_for k) (asking ∷ []))
      ∙ settle_on (map Load wanted ++ map Configure wanted) awaits from prepared [] first_entries prepares

  still : AllByRecursion (λ (l : Loaded). is_active l ≡ false) ls
  still = still_ready d (loaded_from d 0 places)

  -- ---- Before the cycle

  -- So many cycles have ended, and the session waits for the cycle.
  record WaitsFor (n : ℕ) : Type 0 where
    state : State
    made : List Entry
    before : IsBefore d ls n state
    leads : Leads from made state
    at : settle_all (cycles n opening) ≡ point state made awaits None

  -- it waits
  not_reached : (n m : ℕ) (s : State) (made : List Entry) → IsBefore d ls n s → n < suc m
      → settle 0 (standing s made (Await (suc m) ∷ asking ∷ []) None)
      ≡ standing s made (Await (suc m) ∷ asking ∷ []) None
  not_reached n m s made is less =
      let waits : is_reached s (suc m) ≡ false =
      or_from (not (nat_lt s.ended (suc m))) s.closed
      (ap not (ap (λ e. nat_lt e (suc m)) is.ended ∙ lt-ltb n (suc m) less)) is.not_closed in
      stands s made (Await (suc m) ∷ asking ∷ []) None (Await (suc m)) refl
      (step_unless s 0 (Await (suc m)) (and_right (is_session s 0) (is_reached s (suc m)) waits))

  -- from one cycle to the next
  next_cycle : (n : ℕ) (p : Progress) (s : State) (made : List Entry) (old : State) (old_made : List Entry)
      → settle_all p ≡ point old old_made awaits None
      → looped (End n) (looped (Begin n) (point old old_made awaits None)) ≡ point s made awaits None
      → settle_all (with_cycle n p) ≡ settle_all (point s made awaits None)
  unfolding with_cycle
  next_cycle n p s made old old_made at flown =
      ap (λ q. settle_all (looped (End n) (looped (Begin n) q))) at ∙ ap settle_all flown

  waits_at : (m n : ℕ) → k ≡ suc m → n < k → k < d.cycles → WaitsFor n
  waits_at m zero later less within =
      let here : awaits ≡ Await (suc m) ∷ asking ∷ [] = ap (λ c. waiting_for c ++ asking ∷ []) later in
      record {
        state = prepared;
        made = first_entries;
        before = before_first;
        leads = leads_first;
        at = settle_all_to from prepared [] first_entries lines awaits None None
            (settles_first
            ∙ ap (λ cs. settle 0 (standing prepared first_entries cs None)) here
            ∙ not_reached 0 m prepared first_entries before_first (omega (arith, less, later))
            ∙ ap (λ cs. standing prepared first_entries cs None) (sym here));
      }
  waits_at m (suc n) later less within =
      let here : awaits ≡ Await (suc m) ∷ asking ∷ [] = ap (λ c. waiting_for c ++ asking ∷ []) later in
      let w = waits_at m n later (omega (arith, less)) within in
      let flown = flown_on d ls still n (omega (arith, less, within)) from w.state w.made awaits w.before w.leads in
      record {
        state = flown.state;
        made = flown.entries;
        before = flown.before;
        leads = flown.leads;
        at = next_cycle n (cycles n opening) flown.state flown.entries w.state w.made w.at flown.flown
            ∙ settle_all_to flown.state flown.state flown.entries flown.entries awaits awaits None None
            (ap (λ cs. settle 0 (standing flown.state flown.entries cs None)) here
            ∙ not_reached (suc n) m flown.state flown.entries flown.before (omega (arith, less, later))
            ∙ ap (λ cs. standing flown.state flown.entries cs None) (sym here));
      }

  -- ---- The switch is asked for

  -- The sessions have settled before the cycle, and the switch waits.
  pub record IsAsked : Type 0 where
    pub state : State
    pub made : List Entry
    pub before : IsBefore d ls k state
    pub leads : Leads from made (record state { requests = request.Switch (wish wanted) ∷ [] })
    pub at : settle_all (cycles k opening)
        ≡ point (record state { requests = request.Switch (wish wanted) ∷ [] }) made [] (Some 0)

  module _ (s : State) (made : List Entry) (is : IsBefore d ls k s) (leads : Leads from made s) where
    abbrev asked : State
    asked = record s { requests = request.Switch (wish wanted) ∷ [] }

    abbrev then_made : List Entry
    then_made = with_entry made 0 asking (reply.Queued 0)

    asks : step s 0 asking ≡ Some (asked, reply.Queued 0)
    asks =
        let few : is_full s ≡ false =
        ap₂ (λ (os : List Outcome) (rs : List Request). nat_le MOST_WAITING (length (drop (length os) rs))) is.outcomes
        is.requests in
        let known : is_session s 0 ≡ true = ap (λ n. nat_lt 0 n) is.sessions in
        step_to s asked 0 asking (reply.Queued 0) known
        (ap (λ r. Some r)
        (allowed s.closed (is_full s) why.LoopEnded why.QueueFull (length s.requests) is.not_closed few)
        ∙ ap (λ (rs : List Request). Some (reply.Queued (length rs))) is.requests)
        (ap (λ (rs : List Request). record s { requests = rs ++ request.Switch (wish wanted) ∷ [] }) is.requests)

    -- and the session waits to be told
    untold : settle 0 (standing asked then_made [] (Some 0)) ≡ standing asked then_made [] (Some 0)
    untold =
        let not_decided : is_decided asked 0 ≡ false = ap (λ (os : List Outcome). nat_lt 0 (length os)) is.outcomes in
        stands asked then_made [] (Some 0) (Told 0) refl
        (step_unless asked 0 (Told 0) (and_right (is_session asked 0) (is_decided asked 0) not_decided))

    settles_asking : settle 0 (standing s made (asking ∷ []) None) ≡ standing asked then_made [] (Some 0)
    settles_asking = settle_one s asked made asking [] (reply.Queued 0) asks ∙ untold

    leads_asking : Leads from then_made asked
    leads_asking = Leads-step made from s 0 asking asked (reply.Queued 0) leads asks

  -- a cycle is awaited once so many have ended
  reached : (m : ℕ) (s : State) → IsBefore d ls (suc m) s → step s 0 (Await (suc m)) ≡ Some (s, reply.Done)
  reached m s is =
      let known : is_session s 0 ≡ true = ap (λ n. nat_lt 0 n) is.sessions in
      let none : nat_lt s.ended (suc m) ≡ false = ap (λ e. nat_lt e (suc m)) is.ended ∙ not_below (suc m) in
      let there : is_reached s (suc m) ≡ true = ap (λ b. not b || s.closed) none in
      step_to s s 0 (Await (suc m)) reply.Done (and_from (is_session s 0) (is_reached s (suc m)) known there) refl refl
    where
      not_below : (n : ℕ) → nat_lt n n ≡ false
      not_below n = false_from_ne_true (nat_lt n n) (λ less. omega (arith, ltb-true n n less))

  asked_at : (c : ℕ) → k ≡ c → k < d.cycles → IsAsked
  asked_at zero now within =
      let is : IsBefore d ls k prepared = subst (λ n. IsBefore d ls n prepared) (sym now) before_first in
      let here : awaits ≡ asking ∷ [] = ap (λ c. waiting_for c ++ asking ∷ []) now in
      record {
        state = prepared;
        made = then_made prepared first_entries is leads_first;
        before = is;
        leads = leads_asking prepared first_entries is leads_first;
        at = ap (λ n. settle_all (cycles n opening)) now
            ∙ settle_all_to from (asked prepared first_entries is leads_first) []
            (then_made prepared first_entries is leads_first) lines [] None (Some 0)
            (settles_first ∙ ap (λ cs. settle 0 (standing prepared first_entries cs None)) here
            ∙ settles_asking prepared first_entries is leads_first);
      }
  asked_at (suc m) later within =
      let w = waits_at m m later (omega (arith, later)) within in
      let flown = flown_on d ls still m (omega (arith, later, within)) from w.state w.made awaits w.before w.leads in
      let here : awaits ≡ Await (suc m) ∷ asking ∷ [] = ap (λ c. waiting_for c ++ asking ∷ []) later in
      let is : IsBefore d ls k flown.state = subst (λ n. IsBefore d ls n flown.state) (sym later) flown.before in
      let made = with_entry flown.entries 0 (Await (suc m)) reply.Done in
      let leads = Leads-step flown.entries from flown.state 0 (Await (suc m)) flown.state reply.Done flown.leads
      (reached m flown.state flown.before) in
      record {
        state = flown.state;
        made = then_made flown.state made is leads;
        before = is;
        leads = leads_asking flown.state made is leads;
        at = ap (λ n. settle_all (cycles n opening)) later
            ∙ next_cycle m (cycles m opening) flown.state flown.entries w.state w.made w.at flown.flown
            ∙ settle_all_to flown.state (asked flown.state made is leads) flown.entries
            (then_made flown.state made is leads) awaits [] None (Some 0)
            (ap (λ cs. settle 0 (standing flown.state flown.entries cs None)) here
            ∙ settle_one flown.state flown.state flown.entries (Await (suc m)) (asking ∷ []) reply.Done
            (reached m flown.state flown.before)
            ∙ settles_asking flown.state made is leads);
      }

  -- ---- The start

  module _ (it : IsAsked) (within : k < d.cycles) (fit : fits d places k ≡ true) where
    abbrev t : State
    t = record it.state { requests = request.Switch (wish wanted) ∷ [] }

    steady : IsSteady t
    steady = subst IsSteady it.leads.ends (steady_after it.made from valid (boot_steady d blanks 1) it.leads.legal)

    waits : Waits wanted places k t
    waits = record {
      placed = subst (λ (e : Description). places_in e.controllers wanted ≡ Ok places) (sym it.before.description)
          plan.placed;
      once = plan.once;
      possible = subst (λ (e : Description). never e places ≡ None) (sym it.before.description) plan.possible;
      fit = subst (λ (e : Description). fits e places k ≡ true) (sym it.before.description) fit;
      loaded = subst (λ (e : Description). AreReady e places it.state.loaded) (sym it.before.description)
          (subst (AreReady d places) (sym it.before.loaded) (record {
            places_are = places_ready d (loaded_from d 0 places) ∙ places_loaded d 0 places;
            params = params_ready d (loaded_from d 0 places);
            stopped = stopped_ready d (loaded_from d 0 places);
          }));
      lives = it.before.lives
          ∙ ap (λ (e : Description). map (λ c. life_by c k) e.components) (sym it.before.description);
      requests = refl;
      outcomes = it.before.outcomes;
      fallbacks = it.before.fallbacks;
      ended = it.before.ended;
      steady = steady;
    }

    abbrev begin : Entry
    begin = record { who = t.sessions; call = Begin k; reply = begin_reply t }

    begun : step t t.sessions (Begin k) ≡ Some (begin_effect t, begin_reply t)
    begun = step_to t (begin_effect t) t.sessions (Begin k) (begin_reply t)
        (begins d k t it.before.home it.before.not_closed it.before.ended it.before.description within) refl refl

    abbrev so_far : Progress
    so_far = looped (Begin k) (settle_all (cycles k opening))

    made_so_far : so_far.made ≡ it.made ++ begin ∷ []
    made_so_far =
        ap (λ (p : Progress). (looped (Begin k) p).made) it.at
        ∙ ap (λ (p : Progress). p.made)
        (looped_on (Begin k) (point t it.made [] (Some 0)) (begin_effect t) (begin_reply t) begun)

    grown : Grows (it.made ++ begin ∷ []) (cycles (suc k) opening).made
    unfolding with_cycle
    grown = looped_grows (End k) so_far (it.made ++ begin ∷ [])
        ([], made_so_far ∙ sym (append-nil (it.made ++ begin ∷ [])))

    all_grown : Grows (it.made ++ begin ∷ []) (finish (cycles d.cycles opening)).made
    all_grown = finish_grows (cycles d.cycles opening) (it.made ++ begin ∷ [])
        (cycles_grow opening (suc k) d.cycles (it.made ++ begin ∷ []) (omega (arith, within)) grown)

    history_is : scheduled (record { description = d; script = starting wanted k }) blanks
        ≡ it.made ++ begin ∷ all_grown.0
    unfolding scheduled start
    history_is = all_grown.1 ∙ append_assoc it.made (begin ∷ []) all_grown.0

    pub starts : StartsThem d blanks wanted script
    starts = record {
      places = places;
      described = plan.placed;
      cycle = k;
      least = first_fits;
      before = it.made;
      begin = begin;
      after = all_grown.0;
      history = ap (λ (x : Script). scheduled (record { description = d; script = x }) blanks) plan.script_is
          ∙ history_is;
      call = refl;
      done = ap decisions_in (tells wanted places k t waits);
      started = λ p.
          ap (λ s. active s p)
          (Leads-step it.made from t t.sessions (Begin k) (begin_effect t) (begin_reply t) it.leads begun).ends
          ∙ are_active wanted places k t waits p;
    }

-- The script of a plan starts exactly the wanted controllers.
pub started_by : (d : Description) (blanks : Blanks) (wanted : List (List ℕ)) (script : Script) → IsValid d
    → 0 < length wanted → spawned d blanks wanted ≡ Ok script → StartsThem d blanks wanted script
started_by d blanks [] script valid some is = absurd (omega (arith, some))
started_by d blanks (name ∷ names) script valid some is =
    let plan = planned_parts d blanks (name ∷ names) script is in
    let first = first_parts d plan.places plan.cycle (first_fits d blanks name names script valid plan) in
    starts d blanks name names script valid plan
    (asked_at d blanks name names script valid plan plan.cycle refl first.0) first.0 first.1
