-- What commits, moves and cycles leave of each loaded controller: its serial, its place and its kind, its divisor, and
-- whether it has parameters.
use Rattle.std.proofs.Common.{◌≡◌, ℕ, ℤ, Bool, true, false, List, [], ◌∷◌, length, map}
use Rattle.std.proofs.Common.{Option, Some, None, refl, sym, ap, ap₂, subst, ◌∙◌}
use Rattle.std.specs.Prelude.{◌==◌, ◌&&◌, if◌then◌else◌, slice_get, option_map, is_some}
use Rattle.std.specs.List.{All, AllByRecursion}
use Rattle.std.proofs.lemmas.List.{length-map}
use Rattle.std.proofs.lemmas.List.Elements.{All-from_recursion, recursion_from_All}
use Rattle.cm_slots.proofs.UpdateLemmas.{step_kind}
use Rattle.sound_laws.proofs.UpdatedLemmas.{ctl_step_params}
use Rattle.cm_document.specs.Params.{kind_of}
use Rattle.cm_document.specs.declared.description.CtlKind.{CtlKind}
use Rattle.cm_document.specs.declared.description.Description.{Description}
use Rattle.cm_document.specs.declared.description.Params.{Params}
use Rattle.cm_document.specs.declared.life.Life.{Life}
use Rattle.cm_model.specs.Boundary.{with_switch, with_move_unless, with_move, component_place, move_fault, concluded}
use Rattle.cm_model.specs.Claims.{states_for, refs_for}
use Rattle.cm_model.specs.Commit.{scene_of, described_of, coming, leaving, committed, commit}
use Rattle.cm_model.specs.Components.{read_succeeds}
use Rattle.cm_model.specs.Controllers.{activated}
use Rattle.cm_model.specs.Cycle.{component_is, tick_of, mail_for, step_of, stepped_at}
use Rattle.cm_model.specs.Cycle.{updated_in, cycle, landed, is_due_now, without_mail_off, begun}
use Rattle.cm_model.specs.Order.{Places}
use Rattle.cm_model.specs.State.{State, Loaded, is_active}
use Rattle.cm_model.specs.BestEffort.{decided}
use Rattle.cm_model.specs.Scene.{is_chained_in}
use Rattle.cm_model.specs.Switches.{Decided, refused, done, is_stopped, is_started}
use Rattle.cm_model.specs.Values.{InterfaceValue, after_reads}
use Rattle.cm_model.specs.declared.cause.Cause.{Cause}
use Rattle.cm_model.specs.declared.data.CtlData.{CtlData}
use Rattle.cm_model.specs.declared.request.Request.{Request}
use Rattle.cm_model.specs.declared.request.Request.TheVariants as request
use Rattle.cm_model.proofs.UpdateLemmas.{updates_keep}
use Rattle.cm_resources.specs.ActiveSet.{serials_of}
use Rattle.cm_resources.specs.Described.{IsAsDescribed, IsDivided}

-- ---- One controller

-- what stays of it whatever becomes of it
pub record Staying : Type 0 where
  pub serial : ℕ
  pub place : ℕ
  pub kind : CtlKind
  pub divisor : Option ℕ
  pub configured : Bool

abbrev pub staying : Loaded → Staying
staying l = record
    { serial = l.serial; place = l.place; kind = l.ctl.kind; divisor = l.divisor; configured = is_some l.ctl.params }

-- it stays so with data of its kind, where it has parameters or not as before
same_staying : (l : Loaded) (ctl : CtlData) → ctl.kind ≡ l.ctl.kind → is_some ctl.params ≡ is_some l.ctl.params
    → staying (record l { ctl = ctl }) ≡ staying l
same_staying l ctl kind params =
    ap₂ (λ (k : CtlKind) (b : Bool). record
    { serial = l.serial; place = l.place; kind = k; divisor = l.divisor; configured = b }) kind params

activated_kind : (ctl : CtlData) (params : Option Params) (states : List ℤ) (chained : Bool) → ctl.params ≡ params
    → (activated ctl states chained).kind ≡ ctl.kind
activated_kind ctl None states chained e = rw e refl
activated_kind ctl (Some p) states chained e = rw e refl

activated_params : (ctl : CtlData) (params : Option Params) (states : List ℤ) (chained : Bool) → ctl.params ≡ params
    → is_some (activated ctl states chained).params ≡ is_some ctl.params
activated_params ctl None states chained e = rw e refl
activated_params ctl (Some p) states chained e = rw e refl

committed_stays : (s : State) (set stopped started : Places) (l : Loaded)
    → staying (committed s set stopped started l) ≡ staying l
committed_stays s set stopped started l = either (started l.place) (stopped l.place)
  where
    either : (comes goes : Bool)
        → staying (if comes then coming s set l else (if goes then leaving l else l)) ≡ staying l
    either true goes =
        same_staying l
        (activated l.ctl (states_for s.values (described_of s l)) (is_chained_in s.description.controllers set l.place))
        (activated_kind l.ctl l.ctl.params (states_for s.values (described_of s l))
        (is_chained_in s.description.controllers set l.place) refl)
        (activated_params l.ctl l.ctl.params (states_for s.values (described_of s l))
        (is_chained_in s.description.controllers set l.place) refl)
    either false true = refl
    either false false = refl

pub stepped_stays : (s : State) (values : List InterfaceValue) (serial : ℕ) (l : Loaded)
    → staying (stepped_at s values serial l) ≡ staying l
stepped_stays s values serial l = either (l.serial == serial)
  where
    either : (b : Bool) → staying (if b then record l { ctl = (step_of s values l).after } else l) ≡ staying l
    either true =
        same_staying l (step_of s values l).after
        (step_kind l.ctl (tick_of s l) (states_for values (described_of s l)) (refs_for values (described_of s l))
        (mail_for s l.serial))
        (ap (λ (o : Option Params). is_some o)
        (ctl_step_params l.ctl (tick_of s l) (states_for values (described_of s l)) (refs_for values (described_of s l))
        (mail_for s l.serial)))
    either false = refl

mail_stays : (s : State) (l : Loaded) → staying (without_mail_off s l) ≡ staying l
mail_stays s l = either (is_active l && is_due_now s l)
  where
    either : (b : Bool) → staying (if b then record l { mail = None } else l) ≡ staying l
    either true = refl
    either false = refl

-- ---- All of them

abbrev pub all_staying : List Loaded → List Staying
all_staying ls = map staying ls

map_stays : (change : Loaded → Loaded) → ((l : Loaded) → staying (change l) ≡ staying l) → (ls : List Loaded)
    → all_staying (map change ls) ≡ all_staying ls
map_stays change keeps [] = refl
map_stays change keeps (l ∷ ls) = ap₂ (λ x xs. x ∷ xs) (keeps l) (map_stays change keeps ls)

pub commit_stays : (s : State) (set again : Places) → all_staying (commit s set again).loaded ≡ all_staying s.loaded
unfolding commit
commit_stays s set again =
    let stopped = is_stopped (scene_of s) set again in
    let started = is_started (scene_of s) set again in
    map_stays (committed s set stopped started) (committed_stays s set stopped started) s.loaded

pub landed_stays : (s : State) → all_staying (landed s (cycle s)).loaded ≡ all_staying s.loaded
unfolding cycle
landed_stays s =
    updates_keep s staying (λ values serial l. stepped_stays s values serial l)
    (record { loaded = s.loaded; values = after_reads (component_is read_succeeds s) s.bodies s.values; ran = [] })
    (updated_in s)

pub begun_stays : (s : State) → all_staying (begun s).loaded ≡ all_staying s.loaded
begun_stays s = map_stays (without_mail_off s) (mail_stays s) s.loaded

switch_stays : (s : State) (d : Decided) → all_staying (with_switch s d).state.loaded ≡ all_staying s.loaded
switch_stays s (refused because) = refl
switch_stays s (done dropped set again) = commit_stays s set again

move_unless_stays : (s : State) (name : List ℕ) (component : ℕ) (target : Life) (o : Option Cause)
    → (with_move_unless s name component target o).state.loaded ≡ s.loaded
move_unless_stays s name component target None = refl
move_unless_stays s name component target (Some reason) = refl

move_stays : (s : State) (name : List ℕ) (target : Life) (o : Option ℕ)
    → (with_move s name target o).state.loaded ≡ s.loaded
move_stays s name target None = refl
move_stays s name target (Some component) = move_unless_stays s name component target (move_fault s component target)

pub concluded_stays : (s : State) (asked : Request)
    → all_staying (concluded s asked).state.loaded ≡ all_staying s.loaded
concluded_stays s (request.Switch asked) = switch_stays s (decided (scene_of s) asked)
concluded_stays s (request.Hardware component target) =
    ap all_staying (move_stays s component target (component_place s.description component))

-- ---- So

-- they are loaded under the same serials,
pub serials_stay : (ls ms : List Loaded) → all_staying ms ≡ all_staying ls → serials_of ms ≡ serials_of ls
serials_stay ls ms same = sym (serials_in ms) ∙ ap (map (λ (x : Staying). x.serial)) same ∙ serials_in ls
  where
    serials_in : (ks : List Loaded) → map (λ (x : Staying). x.serial) (all_staying ks) ≡ serials_of ks
    serials_in [] = refl
    serials_in (k ∷ ks) = ap (λ ns. k.serial ∷ ns) (serials_in ks)

-- as many,
pub count_stays : (ls ms : List Loaded) → all_staying ms ≡ all_staying ls → length ms ≡ length ls
count_stays ls ms same = sym (length-map ms staying) ∙ ap length same ∙ length-map ls staying

-- and as described
abbrev IsKindOf : Description → Staying → Type 0
IsKindOf d x = option_map (λ c. kind_of c.params) (slice_get d.controllers x.place) ≡ Some x.kind

described_so : (d : Description) (ls : List Loaded) → AllByRecursion (IsAsDescribed d) ls
    → AllByRecursion (IsKindOf d) (all_staying ls)
described_so d [] described = tt
described_so d (l ∷ ls) described = (described.0, described_so d ls described.1)

described_back : (d : Description) (ls : List Loaded) → AllByRecursion (IsKindOf d) (all_staying ls)
    → AllByRecursion (IsAsDescribed d) ls
described_back d [] kinds = tt
described_back d (l ∷ ls) kinds = (kinds.0, described_back d ls kinds.1)

pub described_stay : (d : Description) (ls ms : List Loaded) → all_staying ms ≡ all_staying ls
    → All (IsAsDescribed d) ls → All (IsAsDescribed d) ms
described_stay d ls ms same described =
    All-from_recursion (IsAsDescribed d) ms
    (described_back d ms
    (subst (AllByRecursion (IsKindOf d)) (sym same)
    (described_so d ls (recursion_from_All (IsAsDescribed d) ls described))))

-- and so each has a divisor where it has parameters
abbrev IsDividedIn : Staying → Type 0
IsDividedIn x = x.configured ≡ true → is_some x.divisor ≡ true

divided_so : (ls : List Loaded) → AllByRecursion IsDivided ls → AllByRecursion IsDividedIn (all_staying ls)
divided_so [] divided = tt
divided_so (l ∷ ls) divided = (divided.0, divided_so ls divided.1)

divided_back : (ls : List Loaded) → AllByRecursion IsDividedIn (all_staying ls) → AllByRecursion IsDivided ls
divided_back [] divided = tt
divided_back (l ∷ ls) divided = (divided.0, divided_back ls divided.1)

pub divided_stay : (ls ms : List Loaded) → all_staying ms ≡ all_staying ls → All IsDivided ls → All IsDivided ms
divided_stay ls ms same divided =
    All-from_recursion IsDivided ms
    (divided_back ms
    (subst (AllByRecursion IsDividedIn) (sym same) (divided_so ls (recursion_from_All IsDivided ls divided))))
