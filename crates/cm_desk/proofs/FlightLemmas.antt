-- The cells of those that run: they are those of the running controllers, each can be updated, and all can be told of.
use Rattle.std.proofs.Common.{◌≡◌, ℕ, ◌+◌, ◌*◌, ◌<◌, ◌≤◌, Bool, true, false, List, [], ◌∷◌, length}
use Rattle.std.proofs.Common.{map, Option, Some, None, refl, sym, ap, ap₂, subst, ◌∙◌, arith}
use Rattle.std.specs.Prelude.{◌==◌, if◌then◌else◌, is_some, sum_by, slice_get, unwrap_or, IfSome}
use Rattle.std.specs.List.{AllByRecursion, IsDistinct}
use Rattle.std.proofs.lemmas.Bool.{eqb-true}
use Rattle.std.proofs.lemmas.List.{length-map}
use Rattle.std.proofs.lemmas.List.Sums.{sum_by-cons}
use Rattle.cm_document.specs.Params.{kind_of}
use Rattle.cm_document.specs.declared.call.Mail.{Mail}
use Rattle.cm_document.specs.declared.description.CtlDesc.{CtlDesc}
use Rattle.cm_document.specs.declared.description.CtlKind.{CtlKind}
use Rattle.cm_document.specs.declared.description.Description.{Description}
use Rattle.cm_document.specs.declared.life.Life.TheVariants.{Active}
use Rattle.cm_model.specs.Order.{controller_at, nobody}
use Rattle.cm_model.specs.Sound.{running_part}
use Rattle.cm_model.specs.State.{Loaded, MailAloft}
use Rattle.cm_model.specs.declared.data.CtlData.{CtlData}
use Rattle.cm_model.specs.declared.member.Member.{Member}
use Rattle.cm_storage.specs.declared.record_room.RecordRoom.{RecordRoom}
use Rattle.chain_order.specs.Links.{linked}
use Rattle.cm_places.specs.Placed.{Placed}
use Rattle.cm_model.specs.Kinds.{publishes}
use Rattle.cm_slots.specs.Lives.{IsKept}
use Rattle.cm_slots.specs.Mails.{mail_in, without_mail}
use Rattle.cm_slots.specs.Connections.{IsConnected}
use Rattle.cm_slots.specs.Updates.{HasTime}
use Rattle.cm_slots.specs.Updates.{IsInTime as IsTimed}
use Rattle.ctl_trait.specs.Taking.{CanTake}
use Rattle.rt_flight.specs.Cells.{CellFacts, all_outs, all_numbers, CanFly, CanTell}
use Rattle.rt_flight.specs.Flights.{member_in, AreCellsOf}
use Rattle.rt_flight.specs.Workspaces.{WorkspaceFacts, IsFitted}
use Rattle.stop_plan.specs.Ending.{member_of}
use Rattle.std.proofs.lemmas.Option.{get_or_from_slice_get}
use Rattle.switch_plan.specs.Relations.{Related}
use Rattle.sequence.proofs.ListLemmas.{head_same, tail_same}
use Rattle.cm_desk.specs.Filling.{cells_filled, cell_of}
use Rattle.cm_resources.specs.CycleNeeds.{AreWorkspacesFor, HasRoom, outs_at, numbers_at}
use Rattle.cm_resources.specs.Described.{IsAsDescribed}
use Rattle.cm_resources.proofs.DescribedLemmas.{described_there}

-- ---- Who came to their cells

-- the cells of these controllers at these workspaces; the mail of each is taken
abbrev pub connected : List MailAloft → List Loaded → List WorkspaceFacts → List CellFacts
connected mails (l ∷ ls) (s ∷ ss) = cell_of mails l s l.ctl ∷ connected (without_mail s.serial mails) ls ss
connected mails _ _ = []

-- those that stood at the indices are those that cells_filled
pub cells_filled_are : (loaded : List Loaded) (mails : List MailAloft) (run : List ℕ) (ls : List Loaded)
    (ss : List WorkspaceFacts) (ctls : List CtlData)
    → map (slice_get loaded) run ≡ map Some ls → AreWorkspacesFor (map member_of ls) ss
    → ctls ≡ map (λ (l : Loaded). l.ctl) ls → cells_filled loaded mails run ss ctls ≡ connected mails ls ss
cells_filled_are loaded mails [] [] ss ctls at stands are = refl
cells_filled_are loaded mails [] (l ∷ ls) ss ctls at stands are = cc
cells_filled_are loaded mails (i ∷ is) [] ss ctls at stands are = cc
cells_filled_are loaded mails (i ∷ is) (l ∷ ls) [] ctls at stands are = absurd stands
cells_filled_are loaded mails (i ∷ is) (l ∷ ls) (s ∷ ss) [] at stands are = cc
cells_filled_are loaded mails (i ∷ is) (l ∷ ls) (s ∷ ss) (c ∷ cs) at stands are =
    let here : slice_get loaded i ≡ Some l = head_same None _ _ _ _ at in
    let own : c ≡ l.ctl = head_same l.ctl _ _ _ _ are in
    rw (here, own) (ap (λ cells. cell_of mails l s l.ctl ∷ cells)
    (cells_filled_are loaded (without_mail s.serial mails) is ls ss cs (tail_same _ _ _ _ at) stands.1
    (tail_same _ _ _ _ are)))

-- ---- Mail

-- what is taken for one leaves what is aloft for another
other_mail : (serial other : ℕ) (ms : List MailAloft) → (serial == other) ≡ false
    → mail_in (without_mail serial ms) other ≡ mail_in ms other
other_mail serial other [] differ = refl
other_mail serial other (m ∷ ms) differ = either (m.serial == serial) refl (other_mail serial other ms differ)
  where
    either : (b : Bool) → (m.serial == serial) ≡ b → mail_in (without_mail serial ms) other ≡ mail_in ms other
        → mail_in (if b then ms else m ∷ without_mail serial ms) other ≡ mail_in (m ∷ ms) other
    either true is rest =
        let same : m.serial ≡ serial = eqb-true m.serial serial is in
        let apart : (m.serial == other) ≡ false = ap (λ n. n == other) same ∙ differ in
        rw apart refl
    either false is rest = both (m.serial == other) refl
      where
        both : (b : Bool) → (m.serial == other) ≡ b
            → mail_in (m ∷ without_mail serial ms) other ≡ mail_in (m ∷ ms) other
        both true at = rw at refl
        both false at = rw at rest

-- what is aloft for a controller it can take, where that is so of each
mail_can : (n : ℕ) (P : Mail → Type 0) (ms : List MailAloft) → AllByRecursion (λ m. m.serial ≡ n → P m.mail) ms
    → IfSome (mail_in ms n) P
mail_can n P [] each = tt
mail_can n P (m ∷ ms) each = either (m.serial == n) refl (mail_can n P ms each.1)
  where
    either : (b : Bool) → (m.serial == n) ≡ b → IfSome (mail_in ms n) P → IfSome (mail_in (m ∷ ms) n) P
    either true is rest = rw is (each.0 (eqb-true m.serial n is))
    either false is rest = rw is rest

-- for each of these the same is aloft among both
abbrev pub AreMailed : List MailAloft → List MailAloft → List Loaded → Type 0
AreMailed all ms ls = AllByRecursion (λ l. mail_in ms l.serial ≡ mail_in all l.serial) ls

mailed_without : (all ms : List MailAloft) (serial : ℕ) (ls : List Loaded)
    → AllByRecursion (λ n. (serial == n) ≡ false) (map (λ (l : Loaded). l.serial) ls) → AreMailed all ms ls
    → AreMailed all (without_mail serial ms) ls
mailed_without all ms serial [] differ same = tt
mailed_without all ms serial (l ∷ ls) differ same =
    (other_mail serial l.serial ms differ.0 ∙ same.0, mailed_without all ms serial ls differ.1 same.1)

pub mailed_all : (all : List MailAloft) (ls : List Loaded) → AreMailed all all ls
mailed_all all [] = tt
mailed_all all (l ∷ ls) = (refl, mailed_all all ls)

-- ---- They are those that run

some_divisor : (o : Option ℕ) → is_some o ≡ true → Some (unwrap_or o 1) ≡ o
some_divisor None some = cc
some_divisor (Some n) some = refl

pub cells_are : (all ms : List MailAloft) (ls : List Loaded) (ss : List WorkspaceFacts)
    → AreWorkspacesFor (map member_of ls) ss → AllByRecursion (λ l. is_some l.divisor ≡ true) ls
    → IsDistinct (λ m n. m == n) (map (λ (l : Loaded). l.serial) ls) → AreMailed all ms ls
    → AreCellsOf all (map running_part ls) (connected ms ls ss)
unfolding IsDistinct
cells_are all ms [] [] stands divided once mailed = tt
cells_are all ms [] (s ∷ ss) stands divided once mailed = absurd stands
cells_are all ms (l ∷ ls) [] stands divided once mailed = absurd stands
cells_are all ms (l ∷ ls) (s ∷ ss) stands divided once mailed = (
  record {
    workspace = record { serial = stands.0.serial; place = stands.0.place; divisor = some_divisor l.divisor divided.0 };
    ctl = refl;
    mail = ap (mail_in ms) stands.0.serial ∙ mailed.0;
  },
  cells_are all (without_mail s.serial ms) ls ss stands.1 divided.1 once.1
      (subst (λ n. AreMailed all (without_mail n ms) ls) (sym stands.0.serial)
      (mailed_without all ms l.serial ls once.0 mailed.1)),
)

-- under their serials and at their places
pub members_are : (ms : List MailAloft) (ls : List Loaded) (ss : List WorkspaceFacts)
    → AreWorkspacesFor (map member_of ls) ss → map member_in (connected ms ls ss) ≡ map member_of ls
members_are ms [] [] stands = refl
members_are ms [] (s ∷ ss) stands = absurd stands
members_are ms (l ∷ ls) [] stands = absurd stands
members_are ms (l ∷ ls) (s ∷ ss) stands =
    ap₂ (λ (m : Member) (rest : List Member). m ∷ rest)
    (ap₂ (λ (serial place : ℕ). record { serial = serial; place = place }) stands.0.serial stands.0.place)
    (members_are (without_mail s.serial ms) ls ss stands.1)

pub cells_fitted : (placed : Placed) (ms : List MailAloft) (ls : List Loaded) (ss : List WorkspaceFacts)
    → AllByRecursion (IsFitted placed) ss
    → AllByRecursion (λ (c : CellFacts). IsFitted placed c.workspace) (connected ms ls ss)
cells_fitted placed ms [] ss fitted = tt
cells_fitted placed ms (l ∷ ls) [] fitted = tt
cells_fitted placed ms (l ∷ ls) (s ∷ ss) fitted = (
  record { states = fitted.0.states; references = fitted.0.references; outs = fitted.0.outs },
  cells_fitted placed (without_mail s.serial ms) ls ss fitted.1,
)

-- ---- Each can be updated

-- what is asked of a controller that runs: it stands on the board and is related, it is in time, it can take the mail
-- that is aloft for it, and it runs
pub record CanRunAs (placed : Placed) (relations : Related) (period_us board : ℕ) (mails : List MailAloft)
    (l : Loaded) : Type 0 where
  pub connected : IsConnected placed board l
  pub related : l.place < length relations.components
  pub led : l.place < length relations.leaders
  pub has_time : HasTime l
  pub in_time : IsTimed period_us l
  pub mail : AllByRecursion (λ m. m.serial ≡ l.serial → CanTake l.ctl m.mail) mails
  pub running : IsKept Active l.ctl

divided_time : (o : Option ℕ) → is_some o ≡ true → IfSome o (λ n. 1 ≤ n) → 1 ≤ unwrap_or o 1
divided_time None some time = omega arith
divided_time (Some n) some time = time

divided_short : (o : Option ℕ) (period_us longest : ℕ) → is_some o ≡ true → IfSome o (λ n. n * period_us ≤ longest)
    → unwrap_or o 1 * period_us ≤ longest
divided_short None period_us longest some short = cc
divided_short (Some n) period_us longest some short = short

one_flies : (placed : Placed) (related : Related) (period_us board : ℕ) (all ms : List MailAloft) (l : Loaded)
    (s : WorkspaceFacts) → CanRunAs placed related period_us board all l
    → s.serial ≡ l.serial → s.place ≡ l.place → IsFitted placed s → is_some l.divisor ≡ true
    → mail_in ms l.serial ≡ mail_in all l.serial
    → CanFly placed related period_us board (cell_of ms l s l.ctl)
one_flies placed related period_us board all ms l s can serial place fitted divided mailed =
    let states : length s.states ≡ length (linked placed.reads l.place) =
    fitted.states ∙ ap (λ p. length (linked placed.reads p)) place in
    let references : length s.references ≡ length (linked placed.references l.place) =
    fitted.references ∙ ap (λ p. length (linked placed.references p)) place in
    let outs : length s.outs ≡ length (linked placed.claims l.place) =
    fitted.outs ∙ ap (λ p. length (linked placed.claims p)) place in
    record {
      connected = record {
        fitted = record { states = fitted.states; references = fitted.references; outs = fitted.outs };
        rows = record {
          reads = rw place can.connected.reads;
          references = rw place can.connected.references;
          claims =
              rw place can.connected.claims;
        };
        read_there = rw place can.connected.read_there;
        referred_there = rw place can.connected.referred_there;
        claimed_there = rw place can.connected.claimed_there;
      };
      steps = record {
        kept = can.running;
        counts = rw (states, references, outs) can.connected.counts;
        related = rw place can.related;
        led = rw place can.led;
        in_time = record {
          divided = divided_time l.divisor divided can.has_time;
          no_longer =
              divided_short l.divisor period_us _ divided can.in_time;
        };
        mail = subst (λ (o : Option Mail). IfSome o (CanTake l.ctl)) (sym (ap (mail_in ms) serial ∙ mailed))
            (mail_can l.serial (CanTake l.ctl) all can.mail);
      };
      few_states = omega (arith, states, can.connected.few_reads);
      few_outs = omega (arith, outs, can.connected.few_claims);
    }

pub each_flies : (placed : Placed) (related : Related) (period_us board : ℕ) (all ms : List MailAloft)
    (ls : List Loaded) (ss : List WorkspaceFacts)
    → AllByRecursion (CanRunAs placed related period_us board all) ls → AreWorkspacesFor (map member_of ls) ss
    → AllByRecursion (IsFitted placed) ss
    → AllByRecursion (λ l. is_some l.divisor ≡ true) ls → IsDistinct (λ m n. m == n) (map (λ (l : Loaded). l.serial) ls)
    → AreMailed all ms ls
    → AllByRecursion (CanFly placed related period_us board) (connected ms ls ss)
unfolding IsDistinct
each_flies placed related period_us board all ms [] ss can stands fitted divided once mailed = tt
each_flies placed related period_us board all ms (l ∷ ls) [] can stands fitted divided once mailed = absurd stands
each_flies placed related period_us board all ms (l ∷ ls) (s ∷ ss) can stands fitted divided once mailed = (
  one_flies placed related period_us board all ms l s can.0 stands.0.serial stands.0.place fitted.0 divided.0 mailed.0,
  each_flies placed related period_us board all (without_mail s.serial ms) ls ss can.1 stands.1 fitted.1 divided.1
      once.1
      (subst (λ n. AreMailed all (without_mail n ms) ls) (sym stands.0.serial)
      (mailed_without all ms l.serial ls once.0 mailed.1)),
)

-- ---- All can be told of

pub cells_count : (ms : List MailAloft) (ls : List Loaded) (ss : List WorkspaceFacts)
    → AreWorkspacesFor (map member_of ls) ss → length (connected ms ls ss) ≡ length ls
cells_count ms ls ss stands =
    sym (length-map (connected ms ls ss) member_in) ∙ ap length (members_are ms ls ss stands) ∙ length-map ls member_of

kind_as_described : (d : Description) (l : Loaded) → IsAsDescribed d l
    → kind_of (controller_at d.controllers l.place).params ≡ l.ctl.kind
kind_as_described d l described =
    let there = described_there d l described in
    ap (λ (c : CtlDesc). kind_of c.params) (get_or_from_slice_get d.controllers l.place there.0 nobody there.1)
    ∙ there.2

tells_outs : (placed : Placed) (ms : List MailAloft) (ls : List Loaded) (ss : List WorkspaceFacts)
    → AreWorkspacesFor (map member_of ls) ss → AllByRecursion (IsFitted placed) ss
    → all_outs (connected ms ls ss) ≡ sum_by (outs_at placed) (map member_of ls)
tells_outs placed ms [] [] stands fitted = refl
tells_outs placed ms [] (s ∷ ss) stands fitted = absurd stands
tells_outs placed ms (l ∷ ls) [] stands fitted = absurd stands
tells_outs placed ms (l ∷ ls) (s ∷ ss) stands fitted =
    ap₂ (λ (m n : ℕ). m + n) (fitted.0.outs ∙ ap (λ p. length (linked placed.claims p)) stands.0.place)
    (tells_outs placed (without_mail s.serial ms) ls ss stands.1 fitted.1)
    ∙ sym (sum_by-cons (outs_at placed) (member_of l) (map member_of ls))

tells_numbers : (d : Description) (placed : Placed) (ms : List MailAloft) (ls : List Loaded) (ss : List WorkspaceFacts)
    → AreWorkspacesFor (map member_of ls) ss → AllByRecursion (IsFitted placed) ss
    → AllByRecursion (IsAsDescribed d) ls
    → all_numbers (connected ms ls ss) ≡ sum_by (numbers_at d placed) (map member_of ls)
tells_numbers d placed ms [] [] stands fitted described = refl
tells_numbers d placed ms [] (s ∷ ss) stands fitted described = absurd stands
tells_numbers d placed ms (l ∷ ls) [] stands fitted described = absurd stands
tells_numbers d placed ms (l ∷ ls) (s ∷ ss) stands fitted described =
    ap₂ (λ (m n : ℕ). m + n)
    (ap (λ (n : ℕ). if publishes l.ctl.kind then n else 0)
    (fitted.0.states ∙ ap (λ p. length (linked placed.reads p)) stands.0.place)
    ∙ ap (λ (k : CtlKind). if publishes k then length (linked placed.reads l.place) else 0)
    (sym (kind_as_described d l described.0)))
    (tells_numbers d placed (without_mail s.serial ms) ls ss stands.1 fitted.1 described.1)
    ∙ sym (sum_by-cons (numbers_at d placed) (member_of l) (map member_of ls))

pub can_tell : (d : Description) (placed : Placed) (ms : List MailAloft) (ls : List Loaded) (ss : List WorkspaceFacts)
    (r : RecordRoom) → AreWorkspacesFor (map member_of ls) ss → AllByRecursion (IsFitted placed) ss
    → AllByRecursion (IsAsDescribed d) ls → HasRoom d placed (map member_of ls) r → CanTell (connected ms ls ss) r.ran
can_tell d placed ms ls ss r stands fitted described room = record {
  heads = omega (arith, room.heads, cells_count ms ls ss stands, length-map ls member_of);
  values = omega (arith, room.values, tells_outs placed ms ls ss stands fitted);
  numbers = omega (arith, room.numbers, tells_numbers d placed ms ls ss stands fitted described);
}
