-- What the desk keeps of its state after a commit, after a move of a component, and after a cycle.
use Rattle.std.proofs.Common.{◌≡◌, ℕ, ◌+◌, Bool, true, false, Result, Ok, Err, List, [], length, map, Option, Some}
use Rattle.std.proofs.Common.{None, refl, sym, ap, subst, ◌∙◌, arith, vec_capacity}
use Rattle.std.specs.Prelude.{not, is_some, Box, IfSome, IsSomeAnd, OnErr}
use Rattle.std.specs.List.{AllByRecursion}
use Rattle.std.specs.declared.alloc.Global.{Global}
use Rattle.cm_document.specs.Valid.{IsValid}
use Rattle.cm_document.specs.declared.description.Description.{Description}
use Rattle.cm_document.specs.declared.life.Life.{Life}
use Rattle.cm_model.specs.Commit.{commit}
use Rattle.cm_model.specs.Cycle.{cycle, landed, after_cycle, moved, stays_active, fallbacks_after}
use Rattle.cm_model.specs.Order.{Places}
use Rattle.cm_model.specs.State.{State, Loaded, MailAloft}
use Rattle.cm_model.specs.Steady.{IsSteady}
use Rattle.cm_model.specs.declared.blanks.Blanks.{Blanks}
use Rattle.cm_model.specs.declared.member.Member.{Member}
use Rattle.cm_hardware.specs.Holding.{IsHardwareOf, IsMoved}
use Rattle.cm_hardware.specs.Listed.{with_hardware}
use Rattle.cm_hardware.specs.Shown.{Shows}
use Rattle.cm_hardware.specs.Wiring.{Wired}
use Rattle.cm_hardware.proofs.LentLemmas.{moved_is_held}
use Rattle.cm_hardware.proofs.ListLemmas.{state_is}
use Rattle.cm_hardware.proofs.PresentLemmas.{owned_is_available}
use Rattle.cm_slots.specs.Fit.{AreFit}
use Rattle.cm_slots.specs.Slots.{Slotted}
use Rattle.cm_slots.proofs.FitLemmas.{fit_committed, fit_landed}
use Rattle.request_plan.specs.Requests.{Asked}
use Rattle.rt_flight.specs.Workspaces.{IsFitted}
use Rattle.rt_flight.specs.declared.context.CycleContext.{CycleContext}
use Rattle.rt_flight.specs.declared.robot.Robot.{Robot}
use Rattle.stop_plan.specs.Ending.{HasFlags, told_in, nobody_again}
use Rattle.cm_resources.specs.CycleResources.{Base, base_of, HasLines, IsAtHome, IsBased, IsHome, IsMadeReady}
use Rattle.cm_resources.specs.CycleResources.{IsRewired}
use Rattle.cm_desk.specs.End.{HasSettled}
use Rattle.cm_resources.specs.ActiveSet.{Listed, serial_in}
use Rattle.cm_resources.specs.CycleNeeds.{stands_for}
use Rattle.cm_desk.specs.Works.{stand_ins_for, IsKept, IsWorkedOut, state_with}
use Rattle.cm_resources.specs.Commits.{HasCommitted}
use Rattle.cm_resources.specs.declared.resources.CycleResources.{CycleResources}
use Rattle.cm_resources.specs.declared.resources.CycleBuffers.{CycleBuffers}
use Rattle.cm_desk.specs.declared.works.Works.TheInside.{Inside}
use Rattle.cm_desk.proofs.Insides.{base_in, state_of}
use Rattle.cm_resources.proofs.StayLemmas.{all_staying, commit_stays, landed_stays, count_stays, described_stay}
use Rattle.cm_resources.proofs.StayLemmas.{divided_stay}

-- What else is kept of a base goes by these parts of it, where it is at home.
pub record IsSameBase (before after : Base) : Type 0 where
  pub robot : after.robot ≡ record before.robot { hardware = after.robot.hardware }
  pub ending : after.ending ≡ before.ending
  pub home : IsSomeAnd after.idle_context (IsHome after.robot after.ending after.members after.erred after.next_lists)
  pub mails : after.mails ≡ before.mails
  pub workspaces : after.workspaces ≡ before.workspaces
  pub members : after.members ≡ before.members
  pub erred : after.erred ≡ before.erred
  pub lists : after.lists ≡ before.lists
  pub untold : after.told ≡ false
  pub next_lists : after.next_lists ≡ before.next_lists
  pub size : after.size ≡ before.size
  pub room : after.room ≡ before.room

-- so it is of resources whose hardware changed
pub rewired : (b b' : CycleResources) (box_places : ℕ) → IsRewired b b'
    → IsSameBase (base_of b box_places) (base_of b' box_places)
rewired b b' box_places is = record {
  robot = is.robot;
  ending = is.ending;
  home = is.home;
  mails = is.mails;
  workspaces = ap (λ (x : CycleBuffers). x.workspaces.items) is.buffers;
  members = is.members;
  erred = is.erred;
  lists = is.lists;
  untold = is.untold;
  next_lists = is.next_lists;
  size = is.size;
  room = is.room;
}

-- where no cycle is aloft all is at home
home_from : (P : Box CycleContext Global → Type 0) (o : Option (Box CycleContext Global)) → is_some o ≡ true
    → IfSome o P → IsSomeAnd o P
home_from P None some home = cc
home_from P (Some h) some home = home

pub at_home : (d : Description) (order : List Member) (b : CycleResources) (box_places : ℕ) (aloft : Bool)
    → IsBased d aloft order (base_of b box_places) → aloft ≡ false → IsAtHome b
at_home d order b box_places aloft based down =
    home_from (IsHome b.robot.value b.ending.value b.members.value.items b.erred.value.items b.next_lists.value)
    b.idle_context (based.home_is ∙ ap not down) based.home

some_home : (P : Box CycleContext Global → Type 0) (o : Option (Box CycleContext Global)) → IsSomeAnd o P
    → (is_some o ≡ true) × IfSome o P
some_home P None home = absurd home
some_home P (Some h) home = (refl, home)

based_with : (d : Description) (was order : List Member) (before after : Base) → IsBased d false was before
    → IsSameBase before after → IsBased d false order after
based_with d was order before after based same =
    let home = some_home (IsHome after.robot after.ending after.members after.erred after.next_lists) after.idle_context
    same.home in
    let places : after.robot.places ≡ before.robot.places = ap (λ (g : Robot). g.places) same.robot in
    record {
      wide = same.room ∙ based.wide;
      flags = rw (same.ending) based.flags;
      home = home.1;
      home_is = home.0;
      fitted = rw (places, same.workspaces) based.fitted;
      ordered = λ down. rw (same.members, same.workspaces) (based.ordered down);
      size = rw (same.size) based.size;
      lines = rw (same.lists) based.lines;
      shown = λ away. (let no : false ≡ true = sym away ∙ home.0 in cc);
      told = λ yes. (let no : false ≡ true = sym same.untold ∙ yes in cc);
      next_lines = λ down. rw (same.next_lists) (based.next_lines down);
      stands = λ aloft. cc;
      box_places = λ aloft. cc;
    }

worked_with : (d : Description) (names : List (List ℕ)) (before after : Robot) → IsWorkedOut d names before
    → after ≡ record before { hardware = after.hardware } → IsWorkedOut d names after
worked_with d names before after is same = record {
  valid = is.valid;
  named = is.named;
  related = ap (λ (g : Robot). g.relations) same ∙ is.related;
  placed = ap (λ (g : Robot). g.places) same ∙ is.placed;
  timed = ap (λ (g : Robot). g.period_us) same ∙ is.timed;
}

-- ---- A commit

-- with these controllers and this hardware the state is the one after the commit
pub view_committed : (s : State) (set again : Places) (slots slots' : Slotted) (before after : Base) (looked : Listed)
    → s.aloft ≡ slots.aloft → s.mails ≡ before.mails
    → s.fallbacks ≡ stand_ins_for s.description before.erred
    → HasCommitted s set again slots'.loaded after.robot.hardware looked
    → slots' ≡ record slots { loaded = slots'.loaded } → IsSameBase before after
    → with_hardware
    (record s {
      loaded = slots'.loaded;
      aloft = slots'.aloft;
      mails = after.mails;
      fallbacks =
          stand_ins_for s.description after.erred;
    }) after.robot.hardware
    ≡ commit s set again
unfolding commit
view_committed s set again slots slots' before after looked aloft mails fallbacks made stays same =
    let fell = stand_ins_for s.description after.erred in
    ap (λ (b : Bool). with_hardware
    (record s { loaded = slots'.loaded; aloft = b; mails = after.mails; fallbacks = fell }) after.robot.hardware)
    (ap (λ (x : Slotted). x.aloft) stays ∙ sym aloft)
    ∙ ap (λ (ms : List MailAloft). with_hardware (record s { loaded = slots'.loaded; mails = ms; fallbacks = fell })
    after.robot.hardware) (same.mails ∙ sym mails)
    ∙ ap (λ (names : List (List ℕ)). with_hardware (record s { loaded = slots'.loaded; fallbacks = names })
    after.robot.hardware)
    (ap (stand_ins_for s.description) same.erred ∙ sym fallbacks)
    ∙ ap (λ (ls : List Loaded). with_hardware (record s { loaded = ls }) after.robot.hardware) made.loaded
    ∙ sym (state_is (commit s set again) after.robot.hardware made.hardware)

pub kept_committed : (s : State) (set again : Places) (slots : List Loaded) (names : List (List ℕ))
    (before after : Base) (was looked : Listed)
    → IsKept s names before was → s.aloft ≡ false → HasCommitted s set again slots after.robot.hardware looked
    → looked.order ≡ was.order → IsSameBase before after
    → IsKept (commit s set again) names after looked
unfolding commit
kept_committed s set again slots names before after was looked kept down made order same =
    let stays = commit_stays s set again in
    let based : IsBased s.description false was.order before =
    subst (λ (b : Bool). IsBased s.description b was.order before) down kept.based in
    record {
      worked_out = worked_with s.description names before.robot after.robot kept.worked_out same.robot;
      described = described_stay s.description s.loaded (commit s set again).loaded stays kept.described;
      divided = divided_stay s.loaded (commit s set again).loaded stays kept.divided;
      counted = kept.counted;
      few = omega (arith, kept.few, count_stays s.loaded (commit s set again).loaded stays);
      hardware = made.hardware;
      within = λ aloft. (let no : false ≡ true = sym down ∙ aloft in cc);
      ordered = λ aloft. (let no : false ≡ true = sym down ∙ aloft in cc);
      unclosed = kept.unclosed;
      no_mail = kept.no_mail;
      listed = record {
        active = record {
          counted = made.active.counted;
          told =
              λ p below. made.active.told p below ∙ ap (λ ls. serial_in ls p) made.loaded;
        };
        order = λ now. (let no : false ≡ true = sym made.stale ∙ now in cc);
        run = λ now. (let no : false ≡ true = sym made.stale ∙ now in cc);
      };
      fit = fit_committed s set again (kept.no_mail down) kept.fit;
      based = subst (λ (b : Bool). IsBased s.description b looked.order after) (sym down)
          (based_with s.description was.order looked.order before after based same);
    }

-- ---- A move

-- the hardware is that of the state when the component moved, where that is steady
pub held_when_steady : (s : State) (lives : List Life) (w : Wired) → IsValid s.description → IsSteady (moved s lives)
    → IsMoved (moved s lives) w → IsHardwareOf (moved s lives) w
held_when_steady s lives w valid steady is =
    moved_is_held (moved s lives) w (owned_is_available (moved s lives) valid steady.together steady.in_order.described)
    is

pub view_moved : (s : State) (lives : List Life) (before after : Base) → s.mails ≡ before.mails
    → s.fallbacks ≡ stand_ins_for s.description before.erred → IsSameBase before after
    → IsHardwareOf (moved s lives) after.robot.hardware
    → with_hardware (record s { mails = after.mails; fallbacks = stand_ins_for s.description after.erred })
    after.robot.hardware ≡ moved s lives
view_moved s lives before after mails fallbacks same is =
    ap (λ (ms : List MailAloft). with_hardware
    (record s { mails = ms; fallbacks = stand_ins_for s.description after.erred }) after.robot.hardware)
    (same.mails ∙ sym mails)
    ∙ ap (λ (names : List (List ℕ)). with_hardware (record s { fallbacks = names }) after.robot.hardware)
    (ap (stand_ins_for s.description) same.erred ∙ sym fallbacks)
    ∙ sym (state_is (moved s lives) after.robot.hardware is)

pub kept_moved : (s : State) (lives : List Life) (names : List (List ℕ)) (before after : Base) (listed : Listed)
    → IsKept s names before listed → s.aloft ≡ false → IsHardwareOf (moved s lives) after.robot.hardware
    → IsSameBase before after
    → IsKept (moved s lives) names after listed
kept_moved s lives names before after listed kept down is same =
    let based : IsBased s.description false listed.order before =
    subst (λ (b : Bool). IsBased s.description b listed.order before) down kept.based in
    record {
      worked_out = worked_with s.description names before.robot after.robot kept.worked_out same.robot;
      described = kept.described;
      divided = kept.divided;
      counted = kept.counted;
      few = kept.few;
      hardware = is;
      within = kept.within;
      ordered = kept.ordered;
      unclosed = kept.unclosed;
      no_mail = kept.no_mail;
      listed = record { active = kept.listed.active; order = kept.listed.order; run = kept.listed.run };
      fit = record { timed = kept.fit.timed; waiting = kept.fit.waiting; aloft = kept.fit.aloft };
      based = subst (λ (b : Bool). IsBased s.description b listed.order after) (sym down)
          (based_with s.description listed.order listed.order before after based same);
    }

-- ---- A cycle

-- with these controllers and this hardware, and nothing aloft, the state is the one after the cycle
view_ended : (s : State) (slots : List Loaded) (w : Wired) (looked : Listed) → HasSettled s slots w looked
    → with_hardware
    (record s {
      loaded = slots;
      ended = s.ended + 1;
      aloft = false;
      mails = [];
      fallbacks =
          fallbacks_after s (told_in s);
    }) w ≡ after_cycle s (cycle s)
unfolding after_cycle commit
view_ended s slots w looked made =
    ap (λ (ls : List Loaded). with_hardware
    (record s {
      loaded = ls;
      ended = s.ended + 1;
      aloft = false;
      mails = [];
      fallbacks =
          fallbacks_after s (told_in s);
    }) w) made.loaded
    ∙ sym (state_is (after_cycle s (cycle s)) w made.hardware)

ended_stays : (s : State) → all_staying (after_cycle s (cycle s)).loaded ≡ all_staying s.loaded
unfolding after_cycle
ended_stays s = commit_stays (landed s (cycle s)) (stays_active s (told_in s)) nobody_again ∙ landed_stays s

ended_fit : (s : State) → AreFit s → AreFit (after_cycle s (cycle s))
unfolding after_cycle
ended_fit s fit = fit_committed (landed s (cycle s)) (stays_active s (told_in s)) nobody_again refl (fit_landed s fit)

-- What is kept of a base that is at home again.
pub record IsHomeBase (d : Description) (before after : Base) : Type 0 where
  pub home : IsSomeAnd after.idle_context (IsHome after.robot after.ending after.members after.erred after.next_lists)
  pub flags : HasFlags (length d.controllers) after.ending
  pub fitted : AllByRecursion (IsFitted after.robot.places) after.workspaces
  pub ordered : after.members ≡ map stands_for after.workspaces
  pub lines : HasLines d after.lists
  pub told : after.told ≡ true → Shows after.robot.hardware after.lists
  pub next_lines : HasLines d after.next_lists
  pub size : after.size ≡ before.size
  pub room : after.room ≡ before.room

based_at_home : (d : Description) (aloft : Bool) (was order : List Member) (before after : Base)
    → IsBased d aloft was before → IsHomeBase d before after → IsBased d false order after
based_at_home d aloft was order before after based is =
    let home = some_home (IsHome after.robot after.ending after.members after.erred after.next_lists) after.idle_context
    is.home in
    record {
      wide = is.room ∙ based.wide;
      flags = is.flags;
      home = home.1;
      home_is = home.0;
      fitted = is.fitted;
      ordered = λ down. is.ordered;
      size = rw (is.size) based.size;
      lines = is.lines;
      shown = λ away. (let no : false ≡ true = sym away ∙ home.0 in cc);
      told = is.told;
      next_lines = λ down. is.next_lines;
      stands = λ yet. cc;
      box_places = λ yet. cc;
    }

pub kept_ended : (s : State) (slots : List Loaded) (names : List (List ℕ)) (before after : Base) (was looked : Listed)
    → IsKept s names before was → HasSettled s slots after.robot.hardware looked
    → IsWorkedOut s.description names after.robot → IsHomeBase s.description before after
    → IsKept (after_cycle s (cycle s)) names after looked
unfolding after_cycle commit
kept_ended s slots names before after was looked kept made worked is =
    let stays = ended_stays s in
    record {
      worked_out = worked;
      described = described_stay s.description s.loaded (after_cycle s (cycle s)).loaded stays kept.described;
      divided = divided_stay s.loaded (after_cycle s (cycle s)).loaded stays kept.divided;
      counted = kept.counted;
      few = omega (arith, kept.few, count_stays s.loaded (after_cycle s (cycle s)).loaded stays);
      hardware = made.hardware;
      within = λ aloft. cc;
      ordered = λ aloft. cc;
      unclosed = λ aloft. cc;
      no_mail = λ still. refl;
      listed = made.listed;
      fit = ended_fit s kept.fit;
      based = based_at_home s.description s.aloft was.order looked.order before after kept.based is;
    }

-- the same, of what the desk is seen as
pub ended_view : (d : Description) (blanks : Blanks) (sessions loads : ℕ) (slots slots' : Slotted) (asked : Asked)
    (before after : Base) (ended count : ℕ) (closed : Bool) (looked : Listed)
    → HasSettled (state_with d blanks sessions loads slots asked before ended closed) slots'.loaded after.robot.hardware
    looked
    → slots'.aloft ≡ false → after.mails ≡ [] → count ≡ ended + 1
    → stand_ins_for d after.erred
    ≡ fallbacks_after (state_with d blanks sessions loads slots asked before ended closed)
    (told_in (state_with d blanks sessions loads slots asked before ended closed))
    → state_with d blanks sessions loads slots' asked after count closed
    ≡ after_cycle (state_with d blanks sessions loads slots asked before ended closed)
    (cycle (state_with d blanks sessions loads slots asked before ended closed))
ended_view d blanks sessions loads slots slots' asked before after ended count closed looked made down none_aloft more
    fell =
    rw (down, none_aloft, more, fell)
    (view_ended (state_with d blanks sessions loads slots asked before ended closed) slots'.loaded after.robot.hardware
    looked made)

-- ---- Between two cycles

-- what is kept goes by these parts of a base, where no cycle is aloft
pub kept_idle : (s : State) (names : List (List ℕ)) (before after : Base) (looked : Listed)
    → IsKept s names before looked → s.aloft ≡ false
    → after.robot ≡ before.robot → after.ending ≡ before.ending
    → IsSomeAnd after.idle_context (IsHome after.robot after.ending after.members after.erred after.next_lists)
    → after.lists ≡ before.lists → after.told ≡ before.told → after.next_lists ≡ before.next_lists
    → after.size ≡ before.size → after.room ≡ before.room
    → AllByRecursion (IsFitted after.robot.places) after.workspaces → after.members ≡ map stands_for after.workspaces
    → IsKept s names after looked
kept_idle s names before after looked kept down robot ending at lists told next_lists size room fitted ordered =
    record {
      worked_out = rw robot kept.worked_out;
      described = kept.described;
      divided = kept.divided;
      counted = kept.counted;
      few = kept.few;
      hardware = rw robot kept.hardware;
      within = kept.within;
      ordered = kept.ordered;
      unclosed = kept.unclosed;
      no_mail = kept.no_mail;
      listed = kept.listed;
      fit = kept.fit;
      based = record {
        wide = room ∙ kept.based.wide;
        flags = rw ending kept.based.flags;
        home = (some_home (IsHome after.robot after.ending after.members after.erred after.next_lists)
            after.idle_context
            at).1;
        home_is = (some_home (IsHome after.robot after.ending after.members after.erred after.next_lists)
            after.idle_context
            at).0 ∙ sym (ap not down);
        fitted = fitted;
        ordered = λ yet. ordered;
        size = rw size kept.based.size;
        lines = rw lists kept.based.lines;
        shown = λ away.
            (let no : false ≡ true =
            sym away ∙ (some_home (IsHome after.robot after.ending after.members after.erred after.next_lists)
            after.idle_context at).0 in cc);
        told = λ yes. rw (robot, lists) (kept.based.told (sym told ∙ yes));
        next_lines = λ yet. rw next_lists (kept.based.next_lines yet);
        stands = λ aloft. (let no : false ≡ true = sym down ∙ aloft in cc);
        box_places = λ aloft. (let no : false ≡ true = sym down ∙ aloft in cc);
      };
    }

-- where it only is made ready for a cycle, the state is as before
pub used_view : {C : Type 0} (a : Inside C) (next : CycleResources) (box_places : ℕ) → IsMadeReady a.resources next
    → state_with a.checked a.blanks a.sessions a.loads a.slots a.requests (base_of next box_places) a.ended a.closed
    ≡ state_of a
used_view a next box_places made =
    subst (λ (x : CycleResources). state_with a.checked a.blanks a.sessions a.loads a.slots a.requests
    (base_of x box_places) a.ended a.closed ≡ state_of a) (sym made.resources) refl

pub used_idle : (s : State) (names : List (List ℕ)) (before b : CycleResources) (m n : ℕ) (looked : Listed)
    → IsKept s names (base_of before m) looked → s.aloft ≡ false → IsMadeReady before b
    → IsKept s names (base_of b n) looked
used_idle s names before b m n looked kept down used =
    kept_idle s names (base_of before m) (base_of b n) looked kept down
    (ap (λ (x : CycleResources). x.robot.value) used.resources)
    (ap (λ (x : CycleResources). x.ending.value) used.resources) used.home
    (ap (λ (x : CycleResources). x.lists) used.resources) (ap (λ (x : CycleResources). x.told) used.resources)
    (ap (λ (x : CycleResources). x.next_lists.value) used.resources)
    (ap (λ (x : CycleResources). x.size) used.resources) (ap (λ (x : CycleResources). x.room) used.resources)
    (subst (λ (g : Robot). AllByRecursion (IsFitted g.places) b.buffers.workspaces.items)
    (sym (ap (λ (x : CycleResources). x.robot.value) used.resources)) used.kept.fitted) used.kept.ordered

-- and is kept,
pub kept_ready : {C : Type 0} (a : Inside C) (next : CycleResources) (box_places : ℕ)
    → IsKept (state_of a) a.names.items (base_in a) a.active_set → a.slots.aloft ≡ false → IsMadeReady a.resources next
    → IsKept (state_with a.checked a.blanks a.sessions a.loads a.slots a.requests (base_of next box_places) a.ended
    a.closed) a.names.items (base_of next box_places) a.active_set
kept_ready a next box_places kept down made =
    subst (λ (t : State). IsKept t a.names.items (base_of next box_places) a.active_set)
    (sym (used_view a next box_places made))
    (used_idle (state_of a) a.names.items a.resources next (vec_capacity a.boxes) box_places a.active_set kept down
    made)

-- what holds in any case holds after an error
pub err_holds : {A E P : Type 0} (result : Result A E) → P → OnErr result P
err_holds (Ok x) holds = tt
err_holds (Err e) holds = holds

-- also where there is other room for boxes alone
pub kept_with_room : {C : Type 0} (a : Inside C) (box_places : ℕ)
    → IsKept (state_of a) a.names.items (base_in a) a.active_set → a.slots.aloft ≡ false
    → IsKept (state_of a) a.names.items (base_of a.resources box_places) a.active_set
kept_with_room a box_places kept down =
    kept_idle (state_of a) a.names.items (base_in a) (base_of a.resources box_places) a.active_set kept down refl refl
    (at_home a.checked a.active_set.order a.resources (vec_capacity a.boxes) a.slots.aloft kept.based down) refl refl
    refl refl refl kept.based.fitted (kept.based.ordered down)
