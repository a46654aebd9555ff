-- What the desk keeps of its state, when a call changes no active controller.
use Rattle.std.proofs.Common.{◌≡◌, ℕ, zero, suc, ◌+◌, ◌<◌, ◌≤◌, ◌^◌, true, false, List, [], ◌∷◌}
use Rattle.std.proofs.Common.{◌++◌, length, length-set, length-append, length-take, length-drop}
use Rattle.std.proofs.Common.{take, drop, Option, Some, None, refl, sym, ap, ap₂, subst, ◌∙◌, arith}
use Rattle.std.specs.Prelude.{slice_get, slice_index_or, slice_set}
use Rattle.std.specs.List.{All, remove}
use Rattle.std.proofs.lemmas.List.{length-map, map-append, length_push}
use Rattle.std.proofs.lemmas.List.Elements.{All-push, All-set}
use Rattle.sequence.proofs.ListLemmas.{head_same, tail_same}
use Rattle.cm_model.specs.State.{State, Loaded, is_active}
use Rattle.cm_model.specs.declared.blanks.Blanks.{Blanks}
use Rattle.cm_model.specs.declared.member.Member.{Member}
use Rattle.cm_model.specs.Blanks.{total}
use Rattle.sound_laws.proofs.SerialLemmas.{serials_set}
use Rattle.cm_slots.specs.Fit.{AreFit}
use Rattle.stop_plan.specs.Ending.{members_in_order}
use Rattle.cm_resources.specs.CycleResources.{Base}
use Rattle.cm_resources.specs.ActiveSet.{Listed, AreAt, IsListedOf, actives, serials_of, is_listed}
use Rattle.cm_resources.specs.Described.{IsAsDescribed, IsDivided}
use Rattle.cm_desk.specs.Works.{IsKept}
use Rattle.cm_resources.proofs.ActiveLemmas.{IsSameOne, actives_set, actives_push, actives_remove}
use Rattle.cm_resources.proofs.ActiveLemmas.{same_serial, same_order, hardware_stays}
use Rattle.cm_slots.proofs.FitLemmas.{fit_pushed, fit_removed}
use Rattle.cm_resources.proofs.OrderLemmas.{order_loaded}
use Rattle.cm_desk.proofs.WorksLemmas.{All-remove}

-- the same controllers are active, and all that a cycle goes by is the same
pub record IsSameFor (s t : State) : Type 0 where
  pub description : t.description ≡ s.description
  pub actives : actives t.loaded ≡ actives s.loaded
  pub lives : t.lives ≡ s.lives
  pub bodies : t.bodies ≡ s.bodies
  pub values : t.values ≡ s.values
  pub ended : t.ended ≡ s.ended
  pub aloft : t.aloft ≡ s.aloft
  pub mails : t.mails ≡ s.mails

-- what is looked up stays, where it is looked up anew at which indices the controllers stand
pub listed_stays : (s t : State) (before after : Listed) → IsSameFor s t → IsListedOf s before
    → after.active ≡ before.active → after.order ≡ before.order → after.current ≡ before.current
    → (before.current ≡ true → AreAt (serials_of t.loaded) after.order after.run) → IsListedOf t after
listed_stays s t before after same listed active order current run = record {
  active = record {
    counted = rw (active, same.description) listed.active.counted;
    told = λ p below.
        ap (λ (found : List (Option ℕ)). slice_index_or found p None) active
        ∙ listed.active.told p (rw same.description at below)
        ∙ sym (same_serial s t same.actives same.description p);
  };
  order = λ now. order ∙ listed.order (sym current ∙ now) ∙ sym (same_order s t same.actives same.description);
  run = λ now. run (sym current ∙ now);
}

pub kept_from : (s t : State) (names : List (List ℕ)) (base : Base) (before after : Listed)
    → IsKept s names base before → IsSameFor s t
    → All (IsAsDescribed t.description) t.loaded → All IsDivided t.loaded → (t.aloft ≡ true → t.closed ≡ false)
    → t.loads + total t.blanks < 2 ^ 32 → length t.loaded ≤ t.loads → AreFit t → IsListedOf t after
    → after.order ≡ before.order → after.current ≡ before.current
    → IsKept t names base after
kept_from s t names base before after kept same described divided unclosed counted few fit listed order current =
    record {
      worked_out = rw same.description kept.worked_out;
      described = described;
      divided = divided;
      counted = counted;
      few = few;
      hardware = hardware_stays s t same.actives same.description base.robot.hardware same.lives same.bodies same.values
          kept.hardware;
      within = λ aloft. rw (same.ended, same.description) (kept.within (sym same.aloft ∙ aloft));
      ordered = λ aloft. current ∙ kept.ordered (sym same.aloft ∙ aloft);
      unclosed = unclosed;
      no_mail = λ down. same.mails ∙ kept.no_mail (sym same.aloft ∙ down);
      listed = listed;
      fit = fit;
      based = rw (same.description, same.aloft, order) kept.based;
    }

-- ---- Where controllers stand

get_before : (ns more : List ℕ) (i n : ℕ) → slice_get ns i ≡ Some n → slice_get (ns ++ more) i ≡ Some n
get_before [] more i n there = cc
get_before (m ∷ ms) more zero n there = there
get_before (m ∷ ms) more (suc i) n there = get_before ms more i n there

-- those that stand at indices stand there when more come behind
found_before : (ns more : List ℕ) (order : List Member) (run : List ℕ) → AreAt ns order run
    → AreAt (ns ++ more) order run
found_before ns more [] [] at = refl
found_before ns more [] (i ∷ is) at = cc
found_before ns more (m ∷ ms) [] at = cc
found_before ns more (m ∷ ms) (i ∷ is) at =
    ap₂ (λ x xs. x ∷ xs) (get_before ns more i m.serial (head_same None _ _ _ _ at))
    (found_before ns more ms is (tail_same _ _ _ _ at))

pub length_remove : (ls : List Loaded) (i : ℕ) → length (remove ls i) ≤ length ls
length_remove ls i =
    omega (arith, length-append (take i ls) (drop (suc i) ls), length-take i ls, length-drop (suc i) ls)

-- each in the order of updates is still loaded where one is gone that was not active,
pub order_still_loaded : (s : State) (i : ℕ) (l : Loaded) (order : List Member) → slice_get s.loaded i ≡ Some l
    → is_active l ≡ false → order ≡ members_in_order s
    → All (λ m. is_listed (serials_of (remove s.loaded i)) m.serial ≡ true) order
order_still_loaded s i l order there idle is =
    let t : State = record s { loaded = remove s.loaded i } in
    subst (All (λ (m : Member). is_listed (serials_of t.loaded) m.serial ≡ true))
    (same_order s t (actives_remove s.loaded i l there idle) refl ∙ sym is) (order_loaded t)

-- and as many are indexed as are in the order
pub as_many_at : (serials : List ℕ) (order : List Member) (run : List ℕ) → AreAt serials order run
    → length order ≤ length run
as_many_at serials order run at =
    let same : length run ≡ length order =
    sym (length-map run (slice_get serials)) ∙ ap length at ∙ length-map order (λ (m : Member). Some m.serial) in
    omega (arith, same)

-- ---- One controller

same_parts : (s : State) (loaded' : List Loaded) → actives loaded' ≡ actives s.loaded
    → IsSameFor s (record s { loaded = loaded' })
same_parts s loaded' same =
    record {
      description = refl;
      actives = same;
      lives = refl;
      bodies = refl;
      values = refl;
      ended = refl;
      aloft =
          refl;
      mails = refl;
    }

-- One was changed, which stays of its kind, under its serial and at its place, and active or not.
pub kept_after_change : (s : State) (names : List (List ℕ)) (base : Base) (listed : Listed) (i : ℕ) (l after : Loaded)
    → IsKept s names base listed → slice_get s.loaded i ≡ Some l → IsAsDescribed s.description after → IsDivided after
    → IsSameOne l after
    → AreFit (record s { loaded = slice_set s.loaded i after })
    → IsKept (record s { loaded = slice_set s.loaded i after }) names base listed
kept_after_change s names base listed i l after kept there kind divided one fit =
    let t : State = record s { loaded = slice_set s.loaded i after } in
    let same = same_parts s t.loaded (actives_set s.loaded i l after there one) in
    kept_from s t names base listed listed kept same
    (All-set (IsAsDescribed s.description) s.loaded i after kind kept.described)
    (All-set IsDivided s.loaded i after divided kept.divided) kept.unclosed kept.counted
    (omega (arith, kept.few, length-set s.loaded i after)) fit
    (listed_stays s t listed listed same kept.listed refl refl refl
    (λ now. rw (serials_set s.loaded i l after there one.serial) (kept.listed.run now))) refl refl

-- One was loaded, which is not active.
pub kept_after_load : (s : State) (names : List (List ℕ)) (base : Base) (listed : Listed) (blanks : Blanks) (l : Loaded)
    → IsKept s names base listed → IsAsDescribed s.description l → IsDivided l → is_active l ≡ false
    → l.serial ≡ s.loads → l.divisor ≡ None → l.mail ≡ None → total blanks + 1 ≡ total s.blanks
    → IsKept (record s { blanks = blanks; loads = s.loads + 1; loaded = s.loaded ++ l ∷ [] }) names base listed
kept_after_load s names base listed blanks l kept kind divided idle serial divisor mail less =
    let t : State = record s { blanks = blanks; loads = s.loads + 1; loaded = s.loaded ++ l ∷ [] } in
    let same : IsSameFor s t =
    record {
      description = refl;
      actives = actives_push s.loaded l idle;
      lives = refl;
      bodies = refl;
      values =
          refl;
      ended = refl;
      aloft = refl;
      mails = refl;
    } in
    kept_from s t names base listed listed kept same
    (All-push (IsAsDescribed s.description) s.loaded l kept.described kind)
    (All-push IsDivided s.loaded l kept.divided divided) kept.unclosed (omega (arith, kept.counted, less))
    (omega (arith, kept.few, length_push s.loaded l))
    (fit_pushed s blanks l serial divisor mail kept.fit)
    (listed_stays s t listed listed same kept.listed refl refl refl
    (λ now. rw (map-append (λ (k : Loaded). k.serial) s.loaded (l ∷ []))
    (found_before (serials_of s.loaded) (l.serial ∷ []) listed.order listed.run (kept.listed.run now)))) refl refl

-- One was unloaded, which was not active, and it was looked up anew where the others stand.
pub kept_after_unload : (s : State) (names : List (List ℕ)) (base : Base) (before after : Listed) (i : ℕ) (l : Loaded)
    → IsKept s names base before → slice_get s.loaded i ≡ Some l → is_active l ≡ false
    → after.active ≡ before.active → after.order ≡ before.order → after.current ≡ before.current
    → (before.current ≡ true → AreAt (serials_of (remove s.loaded i)) before.order after.run)
    → IsKept (record s { loaded = remove s.loaded i }) names base after
kept_after_unload s names base before after i l kept there idle active order current run =
    let t : State = record s { loaded = remove s.loaded i } in
    let same = same_parts s t.loaded (actives_remove s.loaded i l there idle) in
    kept_from s t names base before after kept same
    (All-remove (IsAsDescribed s.description) s.loaded i kept.described) (All-remove IsDivided s.loaded i kept.divided)
    kept.unclosed kept.counted (omega (arith, kept.few, length_remove s.loaded i)) (fit_removed s i kept.fit)
    (listed_stays s t before after same kept.listed active order current (λ now. rw order (run now))) order current

-- ---- The loop

-- A request was asked or decided, those that are to stand in were asked for, or the loop closed.
pub kept_after_ask : (s t : State) (names : List (List ℕ)) (base : Base) (listed : Listed)
    → IsKept s names base listed
    → t ≡ record s { requests = t.requests; outcomes = t.outcomes; fallbacks = t.fallbacks; closed = t.closed }
    → (s.aloft ≡ true → t.closed ≡ false) → IsKept t names base listed
kept_after_ask s t names base listed kept is unclosed =
    subst (λ (u : State). IsKept u names base listed) (sym is) with_these
  where
    u : State
    u = record s { requests = t.requests; outcomes = t.outcomes; fallbacks = t.fallbacks; closed = t.closed }

    same : IsSameFor s u
    same = record {
      description = refl;
      actives = refl;
      lives = refl;
      bodies = refl;
      values = refl;
      ended = refl;
      aloft =
          refl;
      mails = refl;
    }

    with_these : IsKept u names base listed
    with_these =
        kept_from s u names base listed listed kept same kept.described kept.divided unclosed kept.counted kept.few
        (record { timed = kept.fit.timed; waiting = kept.fit.waiting; aloft = kept.fit.aloft })
        (listed_stays s u listed listed same kept.listed refl refl refl kept.listed.run) refl refl
