-- What the desk's calls make of the loaded controllers.
use Rattle.std.proofs.Common.{◌≡◌, ℕ, zero, suc, ◌<◌, Bool, true, false, Result, Ok, Err, List, [], ◌∷◌, length, get_or}
use Rattle.std.proofs.Common.{take, drop, set, Option, Some, None, refl, sym, subst, ap, ◌∙◌, arith}
use Rattle.std.specs.Prelude.{◌==◌, ◌↔◌, slice_get, option_map, IsSomeAnd, OnOk, OnErr}
use Rattle.std.specs.List.{All, remove}
use Rattle.std.proofs.lemmas.List.{set-get_or}
use Rattle.std.proofs.lemmas.List.Elements.{All-append, All-take, All-drop}
use Rattle.std.proofs.lemmas.Option.{same_Some, slice_get_within, slice_get_read, get_or_from_slice_get}
use Rattle.cm_document.specs.Params.{kind_of}
use Rattle.cm_document.specs.declared.description.CtlDesc.{CtlDesc}
use Rattle.cm_document.specs.declared.description.Description.{Description}
use Rattle.cm_document.specs.declared.description.Params.{Params}
use Rattle.cm_model.specs.Console.{unless_refused, controller_in, controller_of, slot_of, reply_on, with_changed}
use Rattle.cm_model.specs.Console.{without_slot, unload_refusals, unload_reply, moves_out}
use Rattle.cm_model.specs.Controllers.{configured, CanBeConfigured}
use Rattle.cm_model.specs.Kinds.{are_ranged, is_refused}
use Rattle.cm_model.specs.Machine.{is_sold_out_at}
use Rattle.cm_model.specs.Order.{divisor}
use Rattle.cm_model.specs.Blanks.{blanks_of}
use Rattle.cm_model.specs.State.{State, Loaded, is_active}
use Rattle.cm_model.specs.declared.data.CtlData.{CtlData}
use Rattle.cm_model.specs.declared.reply.Why.{Why}
use Rattle.cm_slots.proofs.LifeLemmas.{none_is}
use Rattle.cm_slots.specs.Slots.{Slotted}
use Rattle.cm_resources.specs.Described.{IsAsDescribed, IsDivided}
use Rattle.cm_desk.specs.Works.{IsConfigured}
use Rattle.cm_resources.proofs.ActiveLemmas.{IsSameOne}
use Rattle.ctl_trait.specs.declared.fault.CfgFault.{CfgFault}
use Rattle.ctl_trait.specs.declared.fault.CfgFault.TheVariants.{Refused, Memory}
use Rattle.cm_model.specs.declared.reply.Reply.TheVariants as reply
use Rattle.cm_resources.proofs.DescribedLemmas.{kept_there}

-- ---- Lists

-- what holds of all holds of all but one
pub All-remove : {X : Type 0} (P : X → Type 0) (xs : List X) (i : ℕ) → All P xs → All P (remove xs i)
All-remove P xs i all = All-append P (take i xs) (drop (suc i) xs) (All-take P i xs all) (All-drop P (suc i) xs all)

-- ---- Places

-- ---- Blanks

-- no blank of its kind is left for the controller that is described at a place, or some are
pub sold_out : (s : State) (place : ℕ) (c : CtlDesc) → slice_get s.description.controllers place ≡ Some c
    → is_sold_out_at s place ≡ (blanks_of s.blanks (kind_of c.params) == 0)
sold_out s place c e = rw e refl

-- ---- What stands somewhere

pub get_there : {X : Type 0} (xs : List X) (i : ℕ) → i < length xs → (x : X) × (slice_get xs i ≡ Some x)
get_there [] i within = absurd (omega (arith, within))
get_there (x ∷ xs) zero within = (x, refl)
get_there (x ∷ xs) (suc i) within = get_there xs i (omega (arith, within))

there_from : {X : Type 0} (P : X → Type 0) (xs : List X) (i : ℕ) (x : X) (o : Option X) → slice_get xs i ≡ o
    → IsSomeAnd o P → x ≡ get_or xs i x
    → (slice_get xs i ≡ Some x) × P x
there_from P xs i x None e holds same = absurd holds
there_from P xs i x (Some y) e holds same =
    let is : y ≡ x = sym (get_or_from_slice_get xs i y x e) ∙ sym same in
    (e ∙ ap Some is, subst P is holds)

-- what is read there is what stands there
pub there : {X : Type 0} (P : X → Type 0) (xs : List X) (i : ℕ) (x : X) → IsSomeAnd (slice_get xs i) P
    → x ≡ get_or xs i x → (slice_get xs i ≡ Some x) × P x
there P xs i x holds same = there_from P xs i x (slice_get xs i) refl holds same

-- and it is within
within_from : {X : Type 0} (P : X → Type 0) (xs : List X) (i : ℕ) (o : Option X) → slice_get xs i ≡ o → IsSomeAnd o P
    → i < length xs
within_from P xs i None e holds = absurd holds
within_from P xs i (Some x) e holds = slice_get_within xs i x e

pub within_there : {X : Type 0} (P : X → Type 0) (xs : List X) (i : ℕ) → IsSomeAnd (slice_get xs i) P → i < length xs
within_there P xs i holds = within_from P xs i (slice_get xs i) refl holds

-- what was configured, or was not, stays of its kind, under its serial and at its place, and is not active
pub still_as_described : (d : Description) (l after : Loaded) (p : Params) (n : ℕ) (result : Result (Unit {0}) CfgFault)
    → OnOk result (after ≡ record l { ctl = configured l.ctl p; divisor = Some n }) → OnErr result (after ≡ l)
    → IsAsDescribed d l → is_active l ≡ false → IsAsDescribed d after × IsSameOne l after
still_as_described d l after p n (Ok u) made kept same idle =
    (rw made same, rw made (record { serial = refl; place = refl; active = sym idle }))
still_as_described d l after p n (Err e) made kept same idle =
    (rw kept same, rw kept (record { serial = refl; place = refl; active = refl }))

changed_from : (s new : State) (o : Option ℕ) (i : ℕ) (l after : Loaded) (refusals : Loaded → List (Bool × Why))
    (change : Loaded → Loaded)
    → Some i ≡ o → slice_get s.loaded i ≡ Some l → unless_refused (refusals l) reply.Done ≡ reply.Done
    → after ≡ change l
    → new ≡ record s { loaded = set s.loaded i after }
    → (reply.Done ≡ reply_on refusals (controller_in s o)) × (new ≡ with_changed change s o)
changed_from s new o i l after refusals change found stands allowed made next =
    rw (← found)
    (rw stands (sym allowed), next ∙ ap (λ x. record s { loaded = set s.loaded i x }) made ∙ sym (rw stands refl))

-- the one of a name is changed, where nothing refuses it
pub changed_there : (s new : State) (name : List ℕ) (i : ℕ) (l after : Loaded) (refusals : Loaded → List (Bool × Why))
    (change : Loaded → Loaded)
    → Some i ≡ slot_of s name → slice_get s.loaded i ≡ Some l → unless_refused (refusals l) reply.Done ≡ reply.Done
    → after ≡ change l
    → new ≡ record s { loaded = set s.loaded i after }
    → (reply.Done ≡ reply_on refusals (controller_of s name)) × (new ≡ with_changed change s (slot_of s name))
changed_there s new name i l after refusals change found stands allowed made next =
    changed_from s new (slot_of s name) i l after refusals change found stands allowed made next

unloaded_from : (s new : State) (o : Option ℕ) (i : ℕ) (l : Loaded) → Some i ≡ o → slice_get s.loaded i ≡ Some l
    → is_active l ≡ false → new ≡ record s { loaded = remove s.loaded i }
    → (reply.Done ≡ reply_on unload_refusals (controller_in s o)) × (new ≡ without_slot s o)
unloaded_from s new o i l found stands idle next = rw (← found) (rw (stands, idle) refl, next)

-- the one of a name is unloaded, where it is not active,
pub unloaded_there : (s new : State) (name : List ℕ) (i : ℕ) (l : Loaded) → Some i ≡ slot_of s name
    → slice_get s.loaded i ≡ Some l → is_active l ≡ false
    → new ≡ record s { loaded = remove s.loaded i }
    → (reply.Done ≡ unload_reply s name) × (new ≡ without_slot s (slot_of s name))
unloaded_there s new name i l found stands idle next = unloaded_from s new (slot_of s name) i l found stands idle next

handed_from : (s : State) (o : Option ℕ) (i : ℕ) (l : Loaded) (ctl : CtlData) → Some i ≡ o
    → slice_get s.loaded i ≡ Some l → ctl ≡ l.ctl
    → Some ctl ≡ option_map (λ (m : Loaded). m.ctl) (controller_in s o)
handed_from s o i l ctl found stands same = rw (← found) (rw (stands, same) refl)

-- and its box is handed out
pub handed_there : (s : State) (name : List ℕ) (i : ℕ) (l : Loaded) (ctl : CtlData) → Some i ≡ slot_of s name
    → slice_get s.loaded i ≡ Some l → ctl ≡ l.ctl
    → Some ctl ≡ moves_out s name reply.Done
handed_there s name i l ctl found stands same = handed_from s (slot_of s name) i l ctl found stands same

-- ---- Configuring

-- a controller that is not active can be configured with ranged parameters of its kind
pub can_be_configured : (l : Loaded) (p : Params) → is_active l ≡ false → kind_of p ≡ l.ctl.kind → are_ranged p ≡ true
    → CanBeConfigured l.ctl p
can_be_configured l p idle kind ranged = record { idle = none_is l.ctl.run idle; own_kind = kind; ranged = ranged }

-- what stands in its place again leaves all as it was
pub put_back : {X : Type 0} (xs : List X) (i : ℕ) (x d : X) → x ≡ get_or xs i d → set xs i x ≡ xs
put_back xs i x d e = ap (set xs i) e ∙ set-get_or xs i d

never : (b : Bool) → (b ≡ true → ⊥) → b ≡ false
never true not_so = absurd (not_so refl)
never false not_so = refl

-- a configure of what stands somewhere, by what it made of it
pub configured_there : (old new : State) (i : ℕ) (l after : Loaded) (c : CtlDesc) (n : ℕ)
    (result : Result (Unit {0}) CfgFault)
    → slice_get old.loaded i ≡ Some l → is_active l ≡ false → slice_get old.description.controllers l.place ≡ Some c
    → n ≡ divisor old.description.update_rate l.rate → new ≡ record old { loaded = set old.loaded i after }
    → OnOk result (after ≡ record l { ctl = configured l.ctl c.params; divisor = Some n })
    → ((result ≡ Err Refused) ↔ (is_refused c.params ≡ true)) → OnErr result (after ≡ l)
    → IsConfigured old i new result
configured_there old new i l after c n (Ok u) there idle described rate next made refused kept =
    let allowed : is_refused c.params ≡ false = never (is_refused c.params) (λ e. let other = refused.1 e in cc) in (
      rw there (rw (idle, described, allowed) refl),
      next
          ∙ ap (λ x. record old { loaded = set old.loaded i x }) (made ∙ rate_in) ∙ sym (rw there (rw described refl)),
    )
  where
    rate_in : record l { ctl = configured l.ctl c.params; divisor = Some n }
        ≡ record l { ctl = configured l.ctl c.params; divisor = Some (divisor old.description.update_rate l.rate) }
    rate_in = ap (λ m. record l { ctl = configured l.ctl c.params; divisor = Some m }) rate
configured_there old new i l after c n (Err Refused) there idle described rate next made refused kept = (
  rw there (rw (idle, described, refused.0 refl) refl),
  next
      ∙ ap (λ x. record old { loaded = x })
      (put_back old.loaded i after l (kept ∙ sym (get_or_from_slice_get old.loaded i l l there))),
)
configured_there old new i l after c n (Err Memory) there idle described rate next made refused kept =
    next ∙ ap (λ x. record old { loaded = x })
    (put_back old.loaded i after l (kept ∙ sym (get_or_from_slice_get old.loaded i l l there)))

-- what is read there stands there, and is as described
pub stands_here : (d : Description) (ls : List Loaded) (i : ℕ) (l : Loaded) → All (IsAsDescribed d) ls → i < length ls
    → l ≡ get_or ls i l
    → (slice_get ls i ≡ Some l) × IsAsDescribed d l
stands_here d ls i l described within read =
    (slice_get_read ls (length ls) i l refl within read, subst (IsAsDescribed d) (sym read) (described i l within))

-- something stands there, as described,
pub stands_at : (d : Description) (ls : List Loaded) (i : ℕ) → All (IsAsDescribed d) ls → i < length ls
    → (l : Loaded) × ((slice_get ls i ≡ Some l) × IsAsDescribed d l)
stands_at d ls i described within =
    let found = get_there ls i within in
    (found.0, (found.1, kept_there d ls i found.0 described found.1))

-- with a divisor where it has parameters
pub divided_here : (ls : List Loaded) (i : ℕ) (l : Loaded) → All IsDivided ls → slice_get ls i ≡ Some l → IsDivided l
divided_here ls i l divided there =
    subst IsDivided (get_or_from_slice_get ls i l l there) (divided i l (slice_get_within ls i l there))

-- so has one that was configured, or was not
pub still_divided : (l after : Loaded) (p : Params) (n : ℕ) (result : Result (Unit {0}) CfgFault)
    → OnOk result (after ≡ record l { ctl = configured l.ctl p; divisor = Some n }) → OnErr result (after ≡ l)
    → IsDivided l → IsDivided after
still_divided l after p n (Ok u) made kept divided = rw made (λ some. refl)
still_divided l after p n (Err e) made kept divided = rw kept divided

-- what a configure made of the slots, by what it made of the one that stands there
pub configured_slots : (old new : Slotted) (i : ℕ) (l : Loaded) (p : Params) (n : ℕ)
    (result : Result (Unit {0}) CfgFault) → slice_get old.loaded i ≡ Some l
    → OnOk result
    (new ≡ record old { loaded = set old.loaded i (record l { ctl = configured l.ctl p; divisor = Some n }) })
    → OnErr result (new ≡ old)
    → (after : Loaded) × ((new ≡ record old { loaded = set old.loaded i after })
    × (OnOk result (after ≡ record l { ctl = configured l.ctl p; divisor = Some n }) × OnErr result (after ≡ l)))
configured_slots old new i l p n (Ok u) there made kept =
    (record l { ctl = configured l.ctl p; divisor = Some n }, (made, (refl, tt)))
configured_slots old new i l p n (Err e) there made kept = (
  l,
  (
    kept ∙ ap (λ x. record old { loaded = x })
        (sym (put_back old.loaded i l l (sym (get_or_from_slice_get old.loaded i l l there)))),
    (tt, refl),
  ),
)

-- what is read there twice is the same
pub same_read : {X : Type 0} (xs : List X) (i : ℕ) (first again : X) → i < length xs → first ≡ get_or xs i first
    → again ≡ get_or xs i again → first ≡ again
same_read xs i first again within read read_again =
    same_Some first again
    (sym (slice_get_read xs (length xs) i first refl within read)
    ∙ slice_get_read xs (length xs) i again refl within read_again)
