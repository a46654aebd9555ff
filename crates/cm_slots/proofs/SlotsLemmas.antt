-- That each box is in its slot, whatever becomes of one controller.
use Rattle.std.proofs.Common.{◌≡◌, ℕ, zero, suc, ◌<◌, Bool, true, false, List, [], ◌∷◌, length, map, slice_set, Option}
use Rattle.std.proofs.Common.{Some, None, option_map, is_some, refl, sym, subst, ap, ap₂, ◌∙◌, get_or, arith}
use Rattle.std.specs.Prelude.{slice_get, if◌then◌else◌, IsSomeAnd, OnOk, OnErr, Result, Ok, Err}
use Rattle.std.specs.List.{AllByRecursion, remove}
use Rattle.std.proofs.lemmas.List.{map-set, length-map, set-get_or}
use Rattle.std.proofs.lemmas.Option.{same_Some, slice_get-map, slice_get_read, slice_get_within, get_or_from_slice_get}
use Rattle.sequence.proofs.ListLemmas.{head_same, tail_same}
use Rattle.cm_document.specs.declared.description.Params.{Params}
use Rattle.cm_model.specs.Controllers.{configured}
use Rattle.cm_model.specs.State.{Loaded, is_active}
use Rattle.cm_model.specs.declared.data.CtlData.{CtlData}
use Rattle.ctl_trait.specs.declared.fault.CfgFault.{CfgFault}
use Rattle.cm_slots.specs.Mails.{goes_aloft, without_sent}
use Rattle.cm_slots.specs.Slots.{Slotted, box_of}

-- ---- One is changed

-- it is set, with its box
pub boxes_set : (aloft : Bool) (boxes : List (Option CtlData)) (ls : List Loaded) (i : ℕ) (l : Loaded)
    (box : Option CtlData) → boxes ≡ map (box_of aloft) ls → box ≡ box_of aloft l
    → slice_set boxes i box ≡ map (box_of aloft) (slice_set ls i l)
boxes_set aloft boxes ls i l box are is =
    ap (λ (bs : List (Option CtlData)). slice_set bs i box) are
    ∙ ap (slice_set (map (box_of aloft) ls) i) is
    ∙ sym (map-set (box_of aloft) ls i l)

-- it is set, and its box stays as it is
pub boxes_same : (aloft : Bool) (ls : List Loaded) (i : ℕ) (old new : Loaded) → slice_get ls i ≡ Some old
    → box_of aloft new ≡ box_of aloft old
    → map (box_of aloft) (slice_set ls i new) ≡ map (box_of aloft) ls
boxes_same aloft [] i old new at same = refl
boxes_same aloft (m ∷ ms) zero old new at same =
    ap (λ (box : Option CtlData). box ∷ map (box_of aloft) ms) (same ∙ ap (box_of aloft) (sym (same_Some m old at)))
boxes_same aloft (m ∷ ms) (suc i) old new at same =
    ap (λ (boxes : List (Option CtlData)). box_of aloft m ∷ boxes) (boxes_same aloft ms i old new at same)

-- it is taken out
pub map_remove : {A B : Type 0} (f : A → B) (xs : List A) (i : ℕ) → map f (remove xs i) ≡ remove (map f xs) i
map_remove f [] zero = refl
map_remove f [] (suc i) = refl
map_remove f (x ∷ xs) zero = refl
map_remove {B = B} f (x ∷ xs) (suc i) = ap (λ (ys : List B). f x ∷ ys) (map_remove f xs i)

-- ---- What stands there

-- the box of a slot
pub box_at : (aloft : Bool) (boxes : List (Option CtlData)) (ls : List Loaded) (i : ℕ) (l : Loaded)
    → boxes ≡ map (box_of aloft) ls → slice_get ls i ≡ Some l
    → slice_get boxes i ≡ Some (box_of aloft l)
box_at aloft boxes ls i l are at =
    ap (λ (bs : List (Option CtlData)). slice_get bs i) are ∙ slice_get-map (box_of aloft) ls i
    ∙ ap (option_map (box_of aloft)) at

-- that of one that does not run is there
pub idle_is_home : (aloft : Bool) (l : Loaded) → l.ctl.run ≡ None → box_of aloft l ≡ Some l.ctl
idle_is_home true l idle = rw idle refl
idle_is_home false l idle = refl

pub still_is_home : (aloft : Bool) (l : Loaded) → is_active l ≡ false → box_of aloft l ≡ Some l.ctl
still_is_home true l idle = rw idle refl
still_is_home false l idle = refl

-- what is read as a box has the data that stand there
pub read_box : {B : Type 0} (view : B → CtlData) (boxes : List (Option B)) (i : ℕ) (b : Option B) (box : Option CtlData)
    → slice_get (map (option_map view) boxes) i ≡ Some box
    → b ≡ get_or boxes i b → option_map view b ≡ box
read_box view boxes i b box at read =
    let count = length-map boxes (option_map view) in
    let below : i < length boxes = omega (arith, count, slice_get_within (map (option_map view) boxes) i box at) in
    same_Some (option_map view b) box
    (sym (slice_get-map (option_map view) boxes i
    ∙ ap (option_map (option_map view)) (slice_get_read boxes (length boxes) i b refl below read)) ∙ at)

-- and as that of a slot those of its controller
pub own_box : {B : Type 0} (view : B → CtlData) (aloft : Bool) (boxes : List (Option B)) (ls : List Loaded) (i : ℕ)
    (b : Option B) (l : Loaded)
    → map (option_map view) boxes ≡ map (box_of aloft) ls → slice_get ls i ≡ Some l → b ≡ get_or boxes i b
    → option_map view b ≡ box_of aloft l
own_box view aloft boxes ls i b l are at read =
    read_box view boxes i b (box_of aloft l) (box_at aloft (map (option_map view) boxes) ls i l are at) read

there_from : {X : Type 0} (P : X → Type 0) (xs : List X) (i : ℕ) (x : X) (o : Option X) → slice_get xs i ≡ o
    → IsSomeAnd o P → x ≡ get_or xs i x
    → (slice_get xs i ≡ Some x) × P x
there_from P xs i x None e holds same = absurd holds
there_from P xs i x (Some y) e holds same =
    let is : y ≡ x = sym (get_or_from_slice_get xs i y x e) ∙ sym same in
    (e ∙ ap Some is, subst P is holds)

-- what is read where something stands is what stands there,
pub there : {X : Type 0} (P : X → Type 0) (xs : List X) (i : ℕ) (x : X) → IsSomeAnd (slice_get xs i) P
    → x ≡ get_or xs i x → (slice_get xs i ≡ Some x) × P x
there P xs i x holds same = there_from P xs i x (slice_get xs i) refl holds same

-- and it stands among them
pub within_some : {X : Type 0} (P : X → Type 0) (xs : List X) (i : ℕ) → IsSomeAnd (slice_get xs i) P → i < length xs
within_some {X = X} P xs i holds = from (slice_get xs i) refl holds
  where
    from : (o : Option X) → slice_get xs i ≡ o → IsSomeAnd o P → i < length xs
    from None e holds = absurd holds
    from (Some x) e holds = slice_get_within xs i x e

-- there are as many boxes as slots
pub as_many : {A B D : Type 0} (f : A → D) (h : B → D) (xs : List A) (ys : List B) → map f xs ≡ map h ys
    → length xs ≡ length ys
as_many f h xs ys same = sym (length-map xs f) ∙ ap length same ∙ length-map ys h

-- what stands in its place again leaves all as it was
pub put_back : {X : Type 0} (xs : List X) (i : ℕ) (x d : X) → x ≡ get_or xs i d → slice_set xs i x ≡ xs
put_back xs i x d e = ap (slice_set xs i) e ∙ set-get_or xs i d

-- ---- A configure, and all at once

-- what holds of what was made holds where it follows
pub ok_then : {P Q : Type 0} (result : Result (Unit {0}) CfgFault) → (P → Q) → OnOk result P → OnOk result Q
ok_then (Ok u) so made = so made
ok_then (Err e) so made = tt

pub err_then : {P Q : Type 0} (result : Result (Unit {0}) CfgFault) → (P → Q) → OnErr result P → OnErr result Q
err_then (Ok u) so made = tt
err_then (Err e) so made = so made

-- it does not run, whether or not it was configured
pub still_after : (result : Result (Unit {0}) CfgFault) (l new : Loaded) (params : Params) (divisor : ℕ)
    → OnOk result (new ≡ record l { ctl = configured l.ctl params; divisor = Some divisor }) → OnErr result (new ≡ l)
    → l.ctl.run ≡ None → new.ctl.run ≡ None
still_after (Ok u) l new params divisor made kept idle = rw made refl
still_after (Err e) l new params divisor made kept idle = rw kept idle

-- mail that goes aloft leaves each box where it is
box_sent : (aloft : Bool) (cycle : ℕ) (l : Loaded) → box_of aloft (without_sent cycle l) ≡ box_of aloft l
box_sent aloft cycle l = either (goes_aloft cycle l)
  where
    either : (b : Bool) → box_of aloft (if b then record l { mail = None } else l) ≡ box_of aloft l
    either true = refl
    either false = refl

pub boxes_sent : (aloft : Bool) (cycle : ℕ) (ls : List Loaded)
    → map (box_of aloft) (map (without_sent cycle) ls) ≡ map (box_of aloft) ls
boxes_sent aloft cycle [] = refl
boxes_sent aloft cycle (l ∷ ls) =
    ap₂ (λ (box : Option CtlData) (boxes : List (Option CtlData)). box ∷ boxes) (box_sent aloft cycle l)
    (boxes_sent aloft cycle ls)

-- where none is away, all are there, and have the data of their controllers
pub all_there : (ls : List Loaded) → AllByRecursion (λ box. is_some box ≡ true) (map (box_of false) ls)
all_there [] = tt
all_there (l ∷ ls) = (refl, all_there ls)

pub ctls_of : (ctls : List CtlData) (ls : List Loaded) → map Some ctls ≡ map (box_of false) ls
    → ctls ≡ map (λ (l : Loaded). l.ctl) ls
ctls_of [] [] same = refl
ctls_of [] (l ∷ ls) same = cc
ctls_of (ctl ∷ ctls) [] same = cc
ctls_of (ctl ∷ ctls) (l ∷ ls) same =
    ap₂ (λ (c : CtlData) (cs : List CtlData). c ∷ cs)
    (same_Some ctl l.ctl (head_same None (Some ctl) (Some l.ctl) (map Some ctls) (map (box_of false) ls) same))
    (ctls_of ctls ls (tail_same (Some ctl) (Some l.ctl) (map Some ctls) (map (box_of false) ls) same))

-- ---- What is shown of them

abbrev pub showing : Bool → Bool → List Loaded → Slotted
showing aloft has_room loaded = record { loaded = loaded; aloft = aloft; has_room = has_room }

-- with this one there
abbrev pub shown : Bool → Bool → List Loaded → ℕ → Loaded → Slotted
shown aloft has_room loaded i l = showing aloft has_room (slice_set loaded i l)
