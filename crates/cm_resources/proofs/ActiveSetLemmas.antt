-- What is looked up of who is active.
use Rattle.std.proofs.Math.Path.{fun_ext}
use Rattle.std.proofs.Common.{◌≡◌, ℕ, zero, suc, ◌+◌, ◌<◌, Bool, true, false, cond, List, [], ◌∷◌, length}
use Rattle.std.proofs.Common.{length-set, replicate, Option, Some, None, inl, inr, refl, sym, ap, ◌∙◌, arith}
use Rattle.std.specs.Prelude.{◌==◌, ◌&&◌, ◌||◌, find, position, unwrap_or, option_map, is_none}
use Rattle.std.specs.Prelude.{is_some, slice_get, slice_index_or, slice_set, if◌then◌else◌, All}
use Rattle.std.specs.List.{AllByRecursion, list_any, position_or_len}
use Rattle.std.specs.Option.{option_or}
use Rattle.std.proofs.lemmas.Bool.{cases_eq, cases_lt, eqb-true, eq-eqb, ne_eqb, lt-ltb}
use Rattle.std.proofs.lemmas.List.{get_or-set_same, get_or-set_other, get_or_past}
use Rattle.std.proofs.lemmas.Option.{slice_get-map}
use Rattle.std.proofs.lemmas.List.Elements.{recursion_from_All, All-weaker}
use Rattle.std.proofs.lemmas.List.Folds.{list_any_none}
use Rattle.cm_document.specs.declared.description.CtlDesc.{CtlDesc}
use Rattle.cm_model.specs.Order.{Places}
use Rattle.cm_model.specs.Scene.{is_chained_in}
use Rattle.cm_model.specs.State.{Loaded, is_active}
use Rattle.cm_model.specs.Steady.{has_loaded}
use Rattle.cm_model.proofs.LoadedLemmas.{and_false}
use Rattle.chain_order.specs.Links.{linked, leaders_of}
use Rattle.cm_hardware.proofs.CommitOwnerLemmas.{found_any}
use Rattle.stop_plan.proofs.EndingLemmas.{chained_by}
use Rattle.cm_resources.specs.ActiveSet.{serial_in, serials_of, is_listed, noted, noted_all, TellsActive}

-- ---- Options

or_none : (o : Option ℕ) → option_or o None ≡ o
or_none None = refl
or_none (Some n) = refl

or_twice : (o p r : Option ℕ) → option_or (option_or o p) r ≡ option_or o (option_or p r)
or_twice None p r = refl
or_twice (Some n) p r = refl

-- ---- One more is noted

pub noted_length : (l : Loaded) (active : List (Option ℕ)) → length (noted l active) ≡ length active
noted_length l active = either (is_active l && is_none (slice_index_or active l.place None))
  where
    either : (b : Bool) → length (if b then slice_set active l.place (Some l.serial) else active) ≡ length active
    either true = length-set active l.place (Some l.serial)
    either false = refl

pub noted_at : (l : Loaded) (active : List (Option ℕ)) (p : ℕ) → l.place < length active
    → slice_index_or (noted l active) p None
    ≡ option_or (slice_index_or active p None) (if is_active l && l.place == p then Some l.serial else None)
noted_at l active p within = either (is_active l) (slice_index_or active l.place None) refl
  where
    was : Option ℕ
    was = slice_index_or active p None

    either : (a : Bool) (o : Option ℕ) → slice_index_or active l.place None ≡ o
        → slice_index_or (if a && is_none o then slice_set active l.place (Some l.serial) else active) p None
        ≡ option_or was (if a && l.place == p then Some l.serial else None)
    either false o e = sym (or_none was)
    either true None e =
        elim (cases_eq l.place p) [
          | inl same ↦
              let free : was ≡ None = ap (λ q. slice_index_or active q None) (sym same) ∙ e in
              ap (λ q. slice_index_or (slice_set active l.place (Some l.serial)) q None) (sym same)
              ∙ get_or-set_same active l.place (Some l.serial) None within
              ∙ sym (rw (free, eq-eqb l.place p same) refl)
          | inr other ↦
              get_or-set_other active l.place p (Some l.serial) None (λ same. other (sym same))
              ∙ sym (rw (ne_eqb l.place p other) (or_none was))
        ]
    either true (Some n) e =
        elim (cases_eq l.place p) [
          | inl same ↦
              let taken : was ≡ Some n = ap (λ q. slice_index_or active q None) (sym same) ∙ e in
              taken ∙ sym (rw (taken) refl)
          | inr other ↦ sym (rw (ne_eqb l.place p other) (or_none was))
        ]

-- ---- All

pub all_length : (ls : List Loaded) (active : List (Option ℕ)) → length (noted_all ls active) ≡ length active
all_length [] active = refl
all_length (l ∷ ls) active = all_length ls (noted l active) ∙ noted_length l active

found_first : (l : Loaded) (rest : Option Loaded) (b : Bool)
    → option_or (if b then Some l.serial else None) (option_map (λ (m : Loaded). m.serial) rest)
    ≡ option_map (λ (m : Loaded). m.serial) (cond b (Some l) rest)
found_first l rest true = refl
found_first l rest false = refl

all_noted : (ls : List Loaded) (count : ℕ) (active : List (Option ℕ)) → length active ≡ count
    → AllByRecursion (λ l. l.place < count) ls → (p : ℕ)
    → slice_index_or (noted_all ls active) p None ≡ option_or (slice_index_or active p None) (serial_in ls p)
all_noted [] count active counted within p = sym (or_none (slice_index_or active p None))
all_noted (l ∷ ls) count active counted within p =
    let was : Option ℕ = slice_index_or active p None in
    let here : Option ℕ = if is_active l && l.place == p then Some l.serial else None in
    all_noted ls count (noted l active) (noted_length l active ∙ counted) within.1 p
    ∙ ap (λ o. option_or o (serial_in ls p)) (noted_at l active p (omega (arith, counted, within.0)))
    ∙ or_twice was here (serial_in ls p)
    ∙ ap (option_or was)
    (found_first l (find (λ (m : Loaded). is_active m && m.place == p) ls) (is_active l && l.place == p))

abbrev nobody_there : Option ℕ
nobody_there = None

nobody : (n p : ℕ) → slice_index_or (replicate n nobody_there) p None ≡ None
nobody zero p = refl
nobody (suc n) zero = refl
nobody (suc n) (suc p) = nobody n p

counts : (n : ℕ) → length (replicate n nobody_there) ≡ n
counts zero = refl
counts (suc n) = ap suc (counts n)

-- So of a list in which nobody was noted.
pub told_of_all : (ls : List Loaded) (count : ℕ) → All (λ l. l.place < count) ls
    → TellsActive count ls (noted_all ls (replicate count None))
told_of_all ls count within = record {
  counted = all_length ls (replicate count None) ∙ counts count;
  told = λ p below.
      all_noted ls count (replicate count None) (counts count)
      (recursion_from_All (λ (l : Loaded). l.place < count) ls within) p
      ∙ ap (λ o. option_or o (serial_in ls p)) (nobody count p);
}

-- ---- Where a serial stands

record StandsAt (ls : List Loaded) (serial : ℕ) : Type 0 where
  within : position_or_len (λ l. l.serial == serial) ls < length ls
  there : slice_get (serials_of ls) (position_or_len (λ l. l.serial == serial) ls) ≡ Some serial

-- what stands somewhere stands one place later behind one more
one_later : (l : Loaded) (ls : List Loaded) (n m serial : ℕ) → m ≡ suc n → slice_get (serials_of ls) n ≡ Some serial
    → slice_get (serials_of (l ∷ ls)) m ≡ Some serial
one_later l ls n m serial is there = rw is there

stands_first : (l : Loaded) (ls : List Loaded) (serial : ℕ)
    → (is_listed (serials_of ls) serial ≡ true → StandsAt ls serial) → (b : Bool) → (l.serial == serial) ≡ b
    → (b || is_listed (serials_of ls) serial) ≡ true → StandsAt (l ∷ ls) serial
stands_first l ls serial later true here has =
    record { within = rw here (omega arith); there = rw here (ap Some (eqb-true l.serial serial here)) }
stands_first l ls serial later false here has =
    let at = later has in
    let k = position_or_len (λ (m : Loaded). m.serial == serial) ls in
    record {
      within = rw here (omega (arith, at.within));
      there =
          rw here (one_later l ls k (1 + k) serial (omega arith) at.there);
    }

stands : (ls : List Loaded) (serial : ℕ) → is_listed (serials_of ls) serial ≡ true → StandsAt ls serial
stands [] serial has = cc
stands (l ∷ ls) serial has = stands_first l ls serial (stands ls serial) (l.serial == serial) refl has

pub stands_at : (ls : List Loaded) (serial : ℕ) → is_listed (serials_of ls) serial ≡ true
    → slice_get (serials_of ls) (unwrap_or (position (λ l. l.serial == serial) ls) 0) ≡ Some serial
stands_at ls serial has =
    let at = stands ls serial has in
    rw (lt-ltb (position_or_len (λ (l : Loaded). l.serial == serial) ls) (length ls) at.within) at.there

-- at a place stands who is found there
pub stands_there : (ls : List Loaded) (i serial : ℕ) (l : Loaded) → slice_get ls i ≡ Some l → l.serial ≡ serial
    → slice_get (serials_of ls) i ≡ Some serial
stands_there ls i serial l at same =
    slice_get-map (λ (x : Loaded). x.serial) ls i ∙ ap (option_map (λ (x : Loaded). x.serial)) at ∙ ap Some same

-- ---- Who is active

-- who is noted at a place is active there
pub told_active : (count : ℕ) (ls : List Loaded) (active : List (Option ℕ)) → All (λ l. l.place < count) ls
    → TellsActive count ls active → (p : ℕ)
    → is_some (slice_index_or active p None) ≡ has_loaded is_active ls p
told_active count ls active within tells p =
    elim (cases_lt p count) [
      | inl below ↦ ap is_some (tells.told p below) ∙ found_any (λ l. is_active l && l.place == p) ls
      | inr past ↦
          ap is_some (get_or_past active p None (omega (arith, past, tells.counted)))
          ∙ sym (list_any_none (λ l. is_active l && l.place == p) ls
          (All-weaker (λ l. l.place < count) (λ l. (is_active l && l.place == p) ≡ false)
          (λ l below. ap (λ b. is_active l && b) (ne_eqb l.place p (λ e. omega (arith, e, below, past)))
          ∙ and_false (is_active l)) ls within))
    ]

-- So a controller is chained where one that precedes it is noted.
pub led_by : (cs : List CtlDesc) (ls : List Loaded) (active : List (Option ℕ)) → All (λ l. l.place < length cs) ls
    → TellsActive (length cs) ls active → (p : ℕ)
    → list_any (λ q. is_some (slice_index_or active q None)) (linked (leaders_of cs) p)
    ≡ is_chained_in cs (has_loaded is_active ls) p
led_by cs ls active within tells p =
    ap (λ (set : Places). list_any set (linked (leaders_of cs) p))
    (fun_ext (told_active (length cs) ls active within tells))
    ∙ chained_by cs (has_loaded is_active ls) p
