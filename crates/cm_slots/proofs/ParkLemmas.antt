-- That boxes which come back by place make the loaded controllers those after the cycle.
use lib.Dec.{eqb-zero-suc, eqb-suc-zero, eqb-suc-suc}
use Rattle.std.proofs.Common.{◌≡◌, ℕ, zero, suc, ◌<◌, ℤ, Bool, true, false, List, [], ◌∷◌, ◌++◌, length, map}
use Rattle.std.proofs.Common.{slice_set, Option, Some, None, option_map, is_some, refl, sym, ap, subst, ◌∙◌, arith}
use Rattle.std.specs.Prelude.{◌==◌, ◌||◌, if◌then◌else◌, slice_get}
use Rattle.std.specs.List.{AllByRecursion, IsDistinct}
use Rattle.std.proofs.lemmas.Bool.{eqb-true}
use Rattle.std.proofs.lemmas.Option.{none-some, same_Some, slice_get-map, slice_get_within}
use Rattle.fixed_num.specs.declared.value.Value.{Value}
use Rattle.cm_document.specs.declared.call.Mail.{Mail}
use Rattle.cm_document.specs.declared.description.CtlKind.{CtlKind}
use Rattle.cm_document.specs.declared.description.CtlKind.TheVariants.{Mock}
use Rattle.cm_document.specs.declared.description.Params.{Params}
use Rattle.cm_model.proofs.ControllerLemmas.{ctl_step_keeps_chained}
use Rattle.cm_model.proofs.UpdateLemmas.{updates_keep, some_as_mapped}
use Rattle.cm_model.specs.Claims.{states_for, refs_for}
use Rattle.cm_model.specs.Commit.{described_of}
use Rattle.cm_model.specs.Components.{read_succeeds}
use Rattle.cm_model.specs.Controllers.{ctl_step, runs_chained}
use Rattle.cm_model.specs.Cycle.{component_is, active_order, cycle, step_of, stepped_at, tick_of, mail_for, updated_in}
use Rattle.cm_model.specs.State.{State, Loaded, is_active, fresh}
use Rattle.cm_model.specs.Values.{InterfaceValue, after_reads}
use Rattle.cm_model.specs.declared.data.CtlData.{CtlData}
use Rattle.cm_model.specs.declared.data.RunData.{RunData}
use Rattle.cm_model.specs.declared.tick.Tick.{Tick}
use Rattle.sound_laws.proofs.SerialLemmas.{step_keeps_serial}
use Rattle.cm_slots.specs.Lent.{with_ctl, with_ctls, with_boxes}
use Rattle.cm_slots.specs.Slots.{box_of, IsRunOf, data_under, AreDataIn}
use Rattle.cm_slots.proofs.LentLemmas.{same_lists, same_either, get_set, is_in, AreAt}
use Rattle.cm_slots.proofs.LentLemmas.{find_there, order_stands, in_run, of_state}

-- ---- By place

abbrev put : CtlData → Loaded → Loaded
put ctl l = record l { ctl = ctl }

-- what stands somewhere once a controller has other data
get_with_ctl : (k : ℕ) (ctl : CtlData) (ls : List Loaded) (j : ℕ)
    → slice_get (with_ctl k ctl ls) j
    ≡ (if k == j then option_map (λ (l : Loaded). record l { ctl = ctl }) (slice_get ls j) else slice_get ls j)
get_with_ctl k ctl [] j = same_either {A = Option Loaded} (k == j) None
get_with_ctl zero ctl (l ∷ ls) zero = refl
get_with_ctl zero ctl (l ∷ ls) (suc j) = let apart : (zero == suc j) ≡ false = eqb-zero-suc j in rw apart refl
get_with_ctl (suc k) ctl (l ∷ ls) zero = let apart : (suc k == zero) ≡ false = eqb-suc-zero k in rw apart refl
get_with_ctl (suc k) ctl (l ∷ ls) (suc j) =
    let same : (suc k == suc j) ≡ (k == j) = eqb-suc-suc k j in rw same (get_with_ctl k ctl ls j)

-- to set it is to set the controller with them
pub set_ctl : (ls : List Loaded) (k : ℕ) (l : Loaded) (ctl : CtlData) → slice_get ls k ≡ Some l
    → slice_set ls k (record l { ctl = ctl }) ≡ with_ctl k ctl ls
set_ctl [] k l ctl at = refl
set_ctl (m ∷ ms) zero l ctl at = ap (λ (x : Loaded). record x { ctl = ctl } ∷ ms) (sym (same_Some m l at))
set_ctl (m ∷ ms) (suc k) l ctl at = ap (λ (xs : List Loaded). m ∷ xs) (set_ctl ms k l ctl at)

-- the last comes back first
pub with_last : (ks : List ℕ) (ctls : List CtlData) (k : ℕ) (ctl : CtlData) (ls : List Loaded) → length ctls ≡ length ks
    → with_ctls (ks ++ k ∷ []) (ctls ++ ctl ∷ []) ls ≡ with_ctls ks ctls (with_ctl k ctl ls)
with_last [] [] k ctl ls same = refl
with_last [] (c ∷ cs) k ctl ls same = cc
with_last (i ∷ is) [] k ctl ls same = cc
with_last (i ∷ is) (c ∷ cs) k ctl ls same = ap (with_ctl i c) (with_last is cs k ctl ls (omega (arith, same)))

pub with_last_box : (ks : List ℕ) (ctls : List CtlData) (k : ℕ) (ctl : CtlData) (boxes : List (Option CtlData))
    → length ctls ≡ length ks
    → with_boxes (ks ++ k ∷ []) (ctls ++ ctl ∷ []) boxes ≡ with_boxes ks ctls (slice_set boxes k (Some ctl))
with_last_box [] [] k ctl boxes same = refl
with_last_box [] (c ∷ cs) k ctl boxes same = cc
with_last_box (i ∷ is) [] k ctl boxes same = cc
with_last_box (i ∷ is) (c ∷ cs) k ctl boxes same =
    ap (λ (xs : List (Option CtlData)). slice_set xs i (Some c)) (with_last_box is cs k ctl boxes (omega (arith, same)))

-- ---- Every box is home then

as_many_ctls : (ks : List ℕ) (ctls : List CtlData) (ls : List Loaded) (j : ℕ)
    → is_some (slice_get (with_ctls ks ctls ls) j) ≡ is_some (slice_get ls j)
as_many_ctls [] ctls ls j = refl
as_many_ctls (k ∷ ks) [] ls j = refl
as_many_ctls (k ∷ ks) (ctl ∷ ctls) ls j =
    ap is_some (get_with_ctl k ctl (with_ctls ks ctls ls) j) ∙ either (k == j) (slice_get (with_ctls ks ctls ls) j)
    ∙ as_many_ctls ks ctls ls j
  where
    either : (b : Bool) (o : Option Loaded)
        → is_some (if b then option_map (λ (l : Loaded). record l { ctl = ctl }) o else o) ≡ is_some o
    either true None = refl
    either true (Some l) = refl
    either false o = refl

as_many_boxes : (ks : List ℕ) (ctls : List CtlData) (boxes : List (Option CtlData)) (j : ℕ)
    → is_some (slice_get (with_boxes ks ctls boxes) j) ≡ is_some (slice_get boxes j)
as_many_boxes [] ctls boxes j = refl
as_many_boxes (k ∷ ks) [] boxes j = refl
as_many_boxes (k ∷ ks) (ctl ∷ ctls) boxes j =
    ap is_some (get_set (with_boxes ks ctls boxes) k j (Some ctl))
    ∙ either (k == j) (slice_get (with_boxes ks ctls boxes) j) ∙ as_many_boxes ks ctls boxes j
  where
    either : (b : Bool) (o : Option (Option CtlData))
        → is_some (if b then option_map (λ (_ : Option CtlData). Some ctl) o else o) ≡ is_some o
    either true None = refl
    either true (Some box) = refl
    either false o = refl

set_alike : (ctl : CtlData) (a : Option (Option CtlData)) (b : Option Loaded) → is_some a ≡ is_some b
    → option_map (λ (_ : Option CtlData). Some ctl) a
    ≡ option_map (box_of false) (option_map (λ (l : Loaded). record l { ctl = ctl }) b)
set_alike ctl None None same = refl
set_alike ctl None (Some l) same = cc
set_alike ctl (Some box) None same = cc
set_alike ctl (Some box) (Some l) same = refl

-- where the boxes of all others are home
home_at : (ks : List ℕ) (ctls : List CtlData) (boxes : List (Option CtlData)) (ls : List Loaded) (j : ℕ)
    → length ctls ≡ length ks
    → (is_in ks j ≡ false → slice_get boxes j ≡ option_map (box_of false) (slice_get ls j))
    → is_some (slice_get boxes j) ≡ is_some (slice_get ls j)
    → slice_get (with_boxes ks ctls boxes) j ≡ option_map (box_of false) (slice_get (with_ctls ks ctls ls) j)
home_at [] ctls boxes ls j same others there = others refl
home_at (k ∷ ks) [] boxes ls j same others there = cc
home_at (k ∷ ks) (ctl ∷ ctls) boxes ls j same others there =
    get_set (with_boxes ks ctls boxes) k j (Some ctl)
    ∙ rw (get_with_ctl k ctl (with_ctls ks ctls ls) j)
    (either (k == j) (λ e. home_at ks ctls boxes ls j (omega (arith, same)) (λ out. others (rw e out)) there) (λ e. e))
  where
    either : (b : Bool)
        → ((k == j) ≡ false
        → slice_get (with_boxes ks ctls boxes) j ≡ option_map (box_of false) (slice_get (with_ctls ks ctls ls) j))
        → (b ≡ false → (k == j) ≡ false)
        → (if b then option_map (λ (_ : Option CtlData). Some ctl) (slice_get (with_boxes ks ctls boxes) j)
        else slice_get (with_boxes ks ctls boxes) j)
        ≡ option_map (box_of false)
        (if b then option_map (λ (l : Loaded). record l { ctl = ctl }) (slice_get (with_ctls ks ctls ls) j)
        else slice_get (with_ctls ks ctls ls) j)
    either true further same_test =
        set_alike ctl (slice_get (with_boxes ks ctls boxes) j) (slice_get (with_ctls ks ctls ls) j)
        (as_many_boxes ks ctls boxes j ∙ there ∙ sym (as_many_ctls ks ctls ls j))
    either false further same_test = further (same_test refl)

module _ (s : State) (run : List ℕ) (runs : IsRunOf s s.loaded run) (ctls : List CtlData)
    (as_many : length ctls ≡ length run) where
  -- So none is away.
  pub all_home : with_boxes run ctls (map (box_of true) s.loaded) ≡ map (box_of false) (with_ctls run ctls s.loaded)
  all_home = same_lists (with_boxes run ctls (map (box_of true) s.loaded))
      (map (box_of false) (with_ctls run ctls s.loaded)) (λ j.
      home_at run ctls (map (box_of true) s.loaded) s.loaded j as_many
      (λ out. slice_get-map (box_of true) s.loaded j ∙ idle j (slice_get s.loaded j) refl out)
      (ap is_some (slice_get-map (box_of true) s.loaded j) ∙ some_as_mapped (box_of true) (slice_get s.loaded j))
      ∙ sym (slice_get-map (box_of false) (with_ctls run ctls s.loaded) j))
    where
      idle : (j : ℕ) (o : Option Loaded) → slice_get s.loaded j ≡ o → is_in run j ≡ false
          → option_map (box_of true) o ≡ option_map (box_of false) o
      idle j None there out = refl
      idle j (Some l) there out =
          let still : is_active l ≡ false = sym (in_run s run runs j l there) ∙ out in rw still refl

-- ---- They are those after the cycle

-- what a step leaves of a controller: all but the data of one that runs
abbrev left_alone : Loaded → Loaded × Option CtlData
left_alone l = (record l { ctl = fresh Mock }, box_of true l)

idle_of : (kind : CtlKind) (p : Option Params) (tick : Tick) (states : List ℤ) (refs : List Value) (mail : Option Mail)
    → (ctl_step (record { kind = kind; params = p; run = None }) tick states refs mail).after
    ≡ record { kind = kind; params = p; run = None }
idle_of kind None tick states refs None = refl
idle_of kind (Some p) tick states refs None = refl
idle_of kind None tick states refs (Some mail) = refl
idle_of kind (Some p) tick states refs (Some mail) = refl

not_stepped_at_all : (ctl : CtlData) (tick : Tick) (states : List ℤ) (refs : List Value) (mail : Option Mail)
    → ctl.run ≡ None → (ctl_step ctl tick states refs mail).after ≡ ctl
not_stepped_at_all ctl tick states refs mail idle =
    subst (λ (c : CtlData). (ctl_step c tick states refs mail).after ≡ c)
    (ap (λ (r : Option RunData). record ctl { run = r }) (sym idle)) (idle_of ctl.kind ctl.params tick states refs mail)

away_alike : (old new : CtlData) (r : Option RunData) → old.run ≡ r → (r ≡ None → new ≡ old)
    → is_some new.run ≡ is_some r
    → (if is_some new.run then None else Some new) ≡ (if is_some r then None else Some old)
away_alike old new None run still same = rw same (ap Some (still refl))
away_alike old new (Some part) run still same = rw same refl

step_leaves : (s : State) (values : List InterfaceValue) (serial : ℕ) (l : Loaded)
    → left_alone (stepped_at s values serial l) ≡ left_alone l
step_leaves s values serial l = either (l.serial == serial)
  where
    after : CtlData
    after = (step_of s values l).after

    box : box_of true (record l { ctl = after }) ≡ box_of true l
    box = away_alike l.ctl after l.ctl.run refl
        (not_stepped_at_all l.ctl (tick_of s l) (states_for values (described_of s l))
        (refs_for values (described_of s l)) (mail_for s l.serial))
        (sym (some_as_mapped runs_chained after.run)
        ∙ ap is_some
        (ctl_step_keeps_chained l.ctl (tick_of s l) (states_for values (described_of s l))
        (refs_for values (described_of s l)) (mail_for s l.serial))
        ∙ some_as_mapped runs_chained l.ctl.run)

    either : (b : Bool) → left_alone (if b then record l { ctl = after } else l) ≡ left_alone l
    either true = ap (λ (o : Option CtlData). (record l { ctl = fresh Mock }, o)) box
    either false = refl

cycle_leaves : (s : State) → map left_alone (cycle s).loaded ≡ map left_alone s.loaded
unfolding cycle
cycle_leaves s =
    updates_keep s left_alone (step_leaves s)
    (record { loaded = s.loaded; values = after_reads (component_is read_succeeds s) s.bodies s.values; ran = [] })
    (updated_in s)

cycle_serials : (s : State) → map (λ (l : Loaded). l.serial) (cycle s).loaded ≡ map (λ (l : Loaded). l.serial) s.loaded
unfolding cycle
cycle_serials s =
    updates_keep s (λ (l : Loaded). l.serial) (step_keeps_serial s)
    (record { loaded = s.loaded; values = after_reads (component_is read_succeeds s) s.bodies s.values; ran = [] })
    (updated_in s)

-- after the cycle one stands there that is left as this
record IsAfterAt (s : State) (j : ℕ) (l : Loaded) : Type 0 where
  after : Loaded
  there : slice_get (cycle s).loaded j ≡ Some after
  same : left_alone after ≡ left_alone l

after_from : (f : Loaded → Loaded × Option CtlData) (o : Option Loaded) (l : Loaded) → option_map f o ≡ Some (f l)
    → (u : Loaded) × (o ≡ Some u) × (f u ≡ f l)
after_from f None l e = absurd (none-some (f l) e)
after_from f (Some u) l e = (u, refl, same_Some (f u) (f l) e)

module _ (s : State) where
  alike_at : (j : ℕ)
      → option_map left_alone (slice_get (cycle s).loaded j) ≡ option_map left_alone (slice_get s.loaded j)
  alike_at j =
      sym (slice_get-map left_alone (cycle s).loaded j)
      ∙ ap (λ (xs : List (Loaded × Option CtlData)). slice_get xs j) (cycle_leaves s)
      ∙ slice_get-map left_alone s.loaded j

  after_at : (j : ℕ) (l : Loaded) → slice_get s.loaded j ≡ Some l → IsAfterAt s j l
  after_at j l there =
      let found = after_from left_alone (slice_get (cycle s).loaded j) l
      (alike_at j ∙ ap (option_map left_alone) there) in
      record { after = found.0; there = found.1; same = found.2 }

  none_at : (j : ℕ) → slice_get s.loaded j ≡ None → slice_get (cycle s).loaded j ≡ None
  none_at j none = from (slice_get (cycle s).loaded j) (alike_at j ∙ ap (option_map left_alone) none)
    where
      from : (o : Option Loaded) → option_map left_alone o ≡ None → o ≡ None
      from None e = refl
      from (Some u) e = absurd (none-some (left_alone u) (sym e))

  -- one that does not run is as it was
  idle_at : (j : ℕ) (l : Loaded) → slice_get s.loaded j ≡ Some l → is_active l ≡ false
      → slice_get (cycle s).loaded j ≡ Some l
  idle_at j l there idle =
      let now = after_at j l there in
      let shell : record now.after { ctl = fresh Mock } ≡ record l { ctl = fresh Mock } =
      ap (λ (p : Loaded × Option CtlData). p.0) now.same in
      let box : box_of true now.after ≡ Some l.ctl =
      ap (λ (p : Loaded × Option CtlData). p.1) now.same ∙ rw idle refl in
      now.there ∙ ap Some (whole now.after (is_active now.after) shell box)
    where
      whole : (u : Loaded) (b : Bool) → record u { ctl = fresh Mock } ≡ record l { ctl = fresh Mock }
          → (if b then None else Some u.ctl) ≡ Some l.ctl → u ≡ l
      whole u true shell box = absurd (none-some l.ctl box)
      whole u false shell box =
          ap (put u.ctl) shell ∙ ap (λ (ctl : CtlData). record l { ctl = ctl }) (same_Some u.ctl l.ctl box)

  -- one with its data after the cycle is the one after the cycle
  data_at : IsDistinct (λ m n. m == n) (map (λ (l : Loaded). l.serial) s.loaded) → (k : ℕ) (l : Loaded) (ctl : CtlData)
      → slice_get s.loaded k ≡ Some l
      → Some ctl ≡ data_under l.serial (cycle s).loaded → slice_get (cycle s).loaded k ≡ Some (record l { ctl = ctl })
  data_at once k l ctl there is =
      let now = after_at k l there in
      let shell : record now.after { ctl = fresh Mock } ≡ record l { ctl = fresh Mock } =
      ap (λ (p : Loaded × Option CtlData). p.0) now.same in
      let serial : now.after.serial ≡ l.serial = ap (λ (m : Loaded). m.serial) shell in
      let found = find_there (cycle s).loaded k now.after
      (subst (IsDistinct (λ m n. m == n)) (sym (cycle_serials s)) once) now.there in
      let mine : Some ctl ≡ Some now.after.ctl =
      is ∙ ap (λ (n : ℕ). data_under n (cycle s).loaded) (sym serial) ∙ ap (option_map (λ (m : Loaded). m.ctl)) found in
      now.there ∙ ap Some
      (ap (put now.after.ctl) shell
      ∙ ap (λ (c : CtlData). record l { ctl = c }) (sym (same_Some ctl now.after.ctl mine)))

-- these data at these indices make controllers those
abbrev ArePut : List Loaded → List ℕ → List Loaded → List CtlData → Type 0
ArePut after [] [] [] = Unit {0}
ArePut after (k ∷ ks) (l ∷ ls) (ctl ∷ ctls) =
    (slice_get after k ≡ Some (record l { ctl = ctl })) × ArePut after ks ls ctls
ArePut after _ _ _ = ⊥

put_from : (s : State) → IsDistinct (λ m n. m == n) (map (λ (l : Loaded). l.serial) s.loaded)
    → (ks : List ℕ) (ls : List Loaded) (ctls : List CtlData)
    → AreAt s.loaded ks ls → AreDataIn (cycle s).loaded ls ctls → ArePut (cycle s).loaded ks ls ctls
put_from s once [] [] [] at known = tt
put_from s once [] [] (c ∷ cs) at known = absurd known
put_from s once [] (l ∷ ls) ctls at known = absurd at
put_from s once (k ∷ ks) [] ctls at known = absurd at
put_from s once (k ∷ ks) (l ∷ ls) [] at known = absurd known
put_from s once (k ∷ ks) (l ∷ ls) (c ∷ cs) at known =
    (data_at s once k l c at.0 known.0, put_from s once ks ls cs at.1 known.1)

get_with_ctls : (loaded after : List Loaded) (ks : List ℕ) (ls : List Loaded) (ctls : List CtlData) (j : ℕ)
    → AreAt loaded ks ls → ArePut after ks ls ctls
    → slice_get (with_ctls ks ctls loaded) j ≡ (if is_in ks j then slice_get after j else slice_get loaded j)
get_with_ctls loaded after [] [] [] j at are = refl
get_with_ctls loaded after [] [] (c ∷ cs) j at are = absurd are
get_with_ctls loaded after [] (l ∷ ls) ctls j at are = absurd at
get_with_ctls loaded after (k ∷ ks) [] ctls j at are = absurd at
get_with_ctls loaded after (k ∷ ks) (l ∷ ls) [] j at are = absurd are
get_with_ctls loaded after (k ∷ ks) (l ∷ ls) (c ∷ cs) j at are =
    get_with_ctl k c (with_ctls ks cs loaded) j
    ∙ rw (get_with_ctls loaded after ks ls cs j at.1 are.1) (either (k == j) refl)
  where
    put_on : (b : Bool) → option_map (put c) (if b then slice_get after k else slice_get loaded k) ≡ slice_get after k
    put_on true = rw are.0 refl
    put_on false = rw (at.0, are.0) refl

    either : (b : Bool) → (k == j) ≡ b
        → (if b then option_map (λ (m : Loaded). record m { ctl = c })
        (if is_in ks j then slice_get after j else slice_get loaded j)
        else (if is_in ks j then slice_get after j else slice_get loaded j))
        ≡ (if b || is_in ks j then slice_get after j else slice_get loaded j)
    either true e =
        subst (λ (i : ℕ). option_map (λ (m : Loaded). record m { ctl = c })
        (if is_in ks j then slice_get after i else slice_get loaded i) ≡ slice_get after i) (eqb-true k j e)
        (put_on (is_in ks j))
    either false e = refl

module _ (s : State) (run : List ℕ) (runs : IsRunOf s s.loaded run) (ctls : List CtlData)
    (are : AreDataIn (cycle s).loaded (active_order s) ctls) where
  -- So they are the loaded controllers after the cycle.
  pub after_cycle_by_place : with_ctls run ctls s.loaded ≡ (cycle s).loaded
  after_cycle_by_place = same_lists (with_ctls run ctls s.loaded) (cycle s).loaded (λ j.
      get_with_ctls s.loaded (cycle s).loaded run (active_order s) ctls j (order_stands s run runs)
      (put_from s runs.once run (active_order s) ctls (order_stands s run runs) are)
      ∙ at_index j (slice_get s.loaded j) refl)
    where
      either : (j : ℕ) (l : Loaded) (b : Bool) → is_active l ≡ b → slice_get s.loaded j ≡ Some l
          → (if b then slice_get (cycle s).loaded j else Some l) ≡ slice_get (cycle s).loaded j
      either j l true active there = refl
      either j l false idle there = sym (idle_at s j l there idle)

      at_index : (j : ℕ) (o : Option Loaded) → slice_get s.loaded j ≡ o
          → (if is_in run j then slice_get (cycle s).loaded j else o) ≡ slice_get (cycle s).loaded j
      at_index j None there = rw (none_at s j there) (sym (same_either {A = Option Loaded} (is_in run j) None))
      at_index j (Some l) there = rw (in_run s run runs j l there) (either j l (is_active l) refl there)

-- each index stands below
within_from : (loaded : List Loaded) (ks : List ℕ) (ls : List Loaded) → AreAt loaded ks ls
    → AllByRecursion (λ k. k < length loaded) ks
within_from loaded [] [] stands = tt
within_from loaded [] (l ∷ ls) stands = absurd stands
within_from loaded (k ∷ ks) [] stands = absurd stands
within_from loaded (k ∷ ks) (l ∷ ls) stands = (slice_get_within loaded k l stands.0, within_from loaded ks ls stands.1)

-- ---- For controllers that are those of the state

module _ (s : State) (loaded : List Loaded) (run : List ℕ) (runs : IsRunOf s loaded run) where
  pub run_within : AllByRecursion (λ k. k < length loaded) run
  run_within = subst (λ (ls : List Loaded). AllByRecursion (λ k. k < length ls) run) (sym runs.loaded)
      (within_from s.loaded run (active_order s) (order_stands s run (of_state s loaded run runs)))

  pub are_home : (ctls : List CtlData) → length ctls ≡ length run
      → with_boxes run ctls (map (box_of true) loaded) ≡ map (box_of false) (with_ctls run ctls loaded)
  are_home ctls as_many =
      subst (λ (ls : List Loaded). with_boxes run ctls (map (box_of true) ls)
      ≡ map (box_of false) (with_ctls run ctls ls)) (sym runs.loaded)
      (all_home s run (of_state s loaded run runs) ctls as_many)

  pub are_after_cycle : (ctls : List CtlData) → AreDataIn (cycle s).loaded (active_order s) ctls
      → with_ctls run ctls loaded ≡ (cycle s).loaded
  are_after_cycle ctls are = subst (λ (ls : List Loaded). with_ctls run ctls ls ≡ (cycle s).loaded) (sym runs.loaded)
      (after_cycle_by_place s run (of_state s loaded run runs) ctls are)
