-- The greatest subset of those that are asked to leave.
use Rattle.std.proofs.Common.{◌≡◌, ◌⊎◌, ℕ, zero, suc, ◌<◌, Bool, true, false, List, [], ◌∷◌, ◌++◌, length}
use Rattle.std.proofs.Common.{get_or, Option, Some, None, inl, inr, refl, sym, ◌∙◌, ap, ap₂, subst, arith}
use Rattle.std.specs.Prelude.{◌↔◌, ◌&&◌, not, ◌==◌, if◌then◌else◌}
use Rattle.std.specs.List.{Contains, list_any}
use Rattle.std.specs.Option.{option_map_or}
use Rattle.std.proofs.lemmas.Bool.{not-true, cases_Bool, eq-eqb, and_parts, and_from, and_right}
use Rattle.std.proofs.lemmas.Bool.{or_cases, or_from, or_left, or_right, true≢false}
use Rattle.iface_names.specs.Names.{same_name}
use Rattle.cm_document.specs.declared.call.Pick.{Pick}
use Rattle.cm_document.specs.declared.call.Pick.TheVariants.{One, Group}
use Rattle.cm_model.specs.Order.{Places, places_of, some_below, precedes_at}
use Rattle.cm_model.specs.Scene.{Scene, is_running, controllers_in, active, loaded_of, loaded_all, is_chained_in}
use Rattle.cm_model.specs.Switches.{off_cause, off_fault}
use Rattle.cm_model.specs.BestEffort.{faultless, stays_within, stays, reduced}
use Rattle.cm_model.specs.declared.cause.Cause.{Cause}
use Rattle.cm_model.specs.declared.cause.Cause.TheVariants as cause
use Rattle.cm_model.specs.declared.seen.Seen.{Seen}
use Rattle.chain_order.specs.Links.{each_below}
use Rattle.chain_order.proofs.CountLemmas.{as_number, count_below, count_below-most}
use Rattle.chain_order.proofs.DepthLemmas.{precedes_at-first, precedes_at-second}
use Rattle.chain_order.proofs.LinkLemmas.{get_or-each_below}
use Rattle.switch_plan.specs.Laws.{CanLeave, asked_off}
use Rattle.switch_plan.proofs.CauseLemmas.{loaded_called, named_one}
use Rattle.switch_plan.proofs.ElementLemmas.{any_from}
use Rattle.switch_plan.proofs.TestLemmas.{some_below-from}
use Rattle.switch_plan.proofs.StayLemmas.{staying_flags, settled_one}

-- ---- Counting

-- where more pass, what each below is given is the same, or more pass below
more_pass : (f g : ℕ → Bool) (n : ℕ) → ((i : ℕ) → f i ≡ true → g i ≡ true)
    → ((each_below g n ≡ each_below f n) × (count_below f n ≡ count_below g n)) ⊎ (count_below f n < count_below g n)
more_pass f g zero more = inl (refl, refl)
more_pass f g (suc n) more =
    elim (cases_Bool (f n)) [
      | inl passes ↦
          let there : g n ≡ true = more n passes in
          let both : as_number (f n) ≡ as_number (g n) = ap as_number (passes ∙ sym there) in
          elim (more_pass f g n more) [
            | inl same ↦ inl (ap₂ (λ xs x. xs ++ x ∷ []) same.0 (there ∙ sym passes), omega (arith, same.1, both))
            | inr fewer ↦ inr (omega (arith, fewer, both))
          ]
      | inr fails ↦
          let no : as_number (f n) ≡ 0 = ap as_number fails in
          elim (cases_Bool (g n)) [
            | inl there ↦
                let one : as_number (g n) ≡ 1 = ap as_number there in
                elim (more_pass f g n more) [
                  | inl same ↦ inr (omega (arith, same.1, no, one))
                  | inr fewer ↦ inr (omega (arith, fewer, no, one))
                ]
            | inr neither ↦
                let nor : as_number (g n) ≡ 0 = ap as_number neither in
                elim (more_pass f g n more) [
                  | inl same ↦ inl
                      (ap₂ (λ xs x. xs ++ x ∷ []) same.0 (neither ∙ sym fails), omega (arith, same.1, no, nor))
                  | inr fewer ↦ inr (omega (arith, fewer, no, nor))
                ]
          ]
    ]

-- where no number below passes, none does
none_below : (test : ℕ → Bool) (n : ℕ) → ((i : ℕ) → i < n → test i ≡ false) → some_below test n ≡ false
none_below test zero none = refl
none_below test (suc n) none =
    or_from (some_below test n) (test n) (none_below test n (λ i below. none i (omega (arith, below))))
    (none n (omega arith))

module _ (scene : Scene) (asked : Places) where
  -- ---- Rounds

  -- who stays as far as some links lead stays as far as one more
  stays_on : (k p : ℕ) → stays_within scene asked k p ≡ true → stays_within scene asked (suc k) p ≡ true
  unfolding stays_within
  stays_on k p before =
      or_left (stays_within scene asked k p)
      (active scene p && is_chained_in (controllers_in scene) (stays_within scene asked k) p) before

  -- and as far as any number
  stays_first : (k p : ℕ) → stays_within scene asked 0 p ≡ true → stays_within scene asked k p ≡ true
  stays_first zero p here = here
  stays_first (suc k) p here = stays_on k p (stays_first k p here)

  -- a round changes nothing, or more stay than rounds were made
  grows : (k : ℕ)
      → (staying_flags scene asked (suc k) ≡ staying_flags scene asked k)
      ⊎ (k < count_below (stays_within scene asked (suc k)) (length (controllers_in scene)))
  grows zero =
      elim (more_pass (stays_within scene asked 0) (stays_within scene asked 1) (length (controllers_in scene))
      (stays_on 0)) [
        | inl same ↦ inl same.0
        | inr fewer ↦ inr (omega (arith, fewer))
      ]
  grows (suc k) =
      elim (grows k) [
        | inl same ↦ inl (settled_one scene asked (suc k) k same)
        | inr many ↦
            elim (more_pass (stays_within scene asked (suc k)) (stays_within scene asked (suc (suc k)))
            (length (controllers_in scene)) (stays_on (suc k))) [
              | inl same ↦ inl same.0
              | inr fewer ↦ inr (omega (arith, fewer, many))
            ]
      ]

  -- so the rounds of all controllers leave nothing to come
  all_stay : staying_flags scene asked (suc (length (controllers_in scene)))
      ≡ staying_flags scene asked (length (controllers_in scene))
  all_stay =
      elim (grows (length (controllers_in scene))) [
        | inl same ↦ same
        | inr many ↦ absurd
            (omega (
              arith,
              many,
              count_below-most (stays_within scene asked (suc (length (controllers_in scene))))
                  (length (controllers_in scene)),
            ))
      ]

  stays_settled : (p : ℕ) → p < length (controllers_in scene)
      → stays_within scene asked (suc (length (controllers_in scene))) p ≡ stays scene asked p
  stays_settled p below =
      let n = length (controllers_in scene) in
      sym (get_or-each_below (stays_within scene asked (suc n)) n p false below)
      ∙ ap (λ (flags : List Bool). get_or flags p false) all_stay
      ∙ get_or-each_below (stays_within scene asked n) n p false below

  -- ---- What one that stays precedes stays

  stays_below : (p q : ℕ) → p < length (controllers_in scene) → q < length (controllers_in scene)
      → active scene p ≡ true
      → precedes_at (controllers_in scene) q p ≡ true → stays scene asked q ≡ true → stays scene asked p ≡ true
  unfolding stays_within
  stays_below p q here there runs leads above =
      let n = length (controllers_in scene) in
      let chained : is_chained_in (controllers_in scene) (stays scene asked) p ≡ true =
      some_below-from (λ r. stays scene asked r && precedes_at (controllers_in scene) r p) n q there
      (and_from (stays scene asked q) (precedes_at (controllers_in scene) q p) above leads) in
      sym (stays_settled p here)
      ∙ or_right (stays scene asked p) (active scene p && is_chained_in (controllers_in scene) (stays scene asked) p)
      (and_from (active scene p) (is_chained_in (controllers_in scene) (stays scene asked) p) runs chained)

  -- an active controller that was not asked to leave stays
  stays_zero : (p : ℕ) → active scene p ≡ true → asked p ≡ false → stays_within scene asked 0 p ≡ true
  unfolding stays_within
  stays_zero p runs free = and_from (active scene p) (not (asked p)) runs (ap not free)

  stays_unasked : (p : ℕ) → active scene p ≡ true → asked p ≡ false → stays scene asked p ≡ true
  stays_unasked p runs free = stays_first (length (controllers_in scene)) p (stays_zero p runs free)

  -- what stays is active
  stays_active : (k p : ℕ) → stays_within scene asked k p ≡ true → active scene p ≡ true
  unfolding stays_within
  stays_active zero p here = (and_parts (active scene p) (not (asked p)) here).0
  stays_active (suc k) p here =
      elim (or_cases (stays_within scene asked k p)
      (active scene p && is_chained_in (controllers_in scene) (stays_within scene asked k) p) here) [
        | inl before ↦ stays_active k p before
        | inr now ↦ (and_parts (active scene p) (is_chained_in (controllers_in scene) (stays_within scene asked k) p)
            now).0
      ]

  -- ---- The reduced ones

  pub reduced_CanLeave : ((p : ℕ) → asked p ≡ true → active scene p ≡ true) → CanLeave scene asked (reduced scene asked)
  reduced_CanLeave run = record {
    within = λ p here. (and_parts (asked p) (not (stays scene asked p)) here).0;
    whole = λ p q here runs leads.
        let above : q < length (controllers_in scene) = precedes_at-first (controllers_in scene) q p leads in
        let below : p < length (controllers_in scene) = precedes_at-second (controllers_in scene) q p leads in
        let parts = and_parts (asked p) (not (stays scene asked p)) here in
        let gone : stays scene asked p ≡ false = not-true (stays scene asked p) parts.1 in
        let away : stays scene asked q ≡ false = elim (cases_Bool (stays scene asked q)) [
          | inl remains ↦ absurd (true≢false (sym (stays_below p q below above (run p parts.0) leads remains) ∙ gone))
          | inr leaves ↦ leaves
        ] in
        let named : asked q ≡ true = elim (cases_Bool (asked q)) [
          | inl is ↦ is
          | inr free ↦ absurd (true≢false (sym (stays_unasked q runs free) ∙ away))
        ] in
        and_from (asked q) (not (stays scene asked q)) named (ap not away);
  }

  module _ (set : Places) (can : CanLeave scene asked set) where
    -- none of a subset that may leave stays
    none_stays : (k p : ℕ) → set p ≡ true → stays_within scene asked k p ≡ false
    unfolding stays_within
    none_stays zero p here = and_right (active scene p) (not (asked p)) (ap not (can.within p here))
    none_stays (suc k) p here =
        let n = length (controllers_in scene) in
        or_from (stays_within scene asked k p)
        (active scene p && is_chained_in (controllers_in scene) (stays_within scene asked k) p) (none_stays k p here)
        (and_right (active scene p) (is_chained_in (controllers_in scene) (stays_within scene asked k) p)
        (none_below (λ q. stays_within scene asked k q && precedes_at (controllers_in scene) q p) n (λ q above.
        elim (cases_Bool (stays_within scene asked k q && precedes_at (controllers_in scene) q p)) [
          | inl both ↦
              let parts = and_parts (stays_within scene asked k q) (precedes_at (controllers_in scene) q p) both in
              let inside : set q ≡ true = can.whole p q here (stays_active k q parts.0) parts.1 in
              absurd (true≢false (sym parts.0 ∙ none_stays k q inside))
          | inr none ↦ none
        ])))

    -- so they are among the reduced ones
    pub reduced_greatest : (p : ℕ) → set p ≡ true → reduced scene asked p ≡ true
    reduced_greatest p here =
        and_from (asked p) (not (stays scene asked p)) (can.within p here)
        (ap not (none_stays (length (controllers_in scene)) p here))

-- it is one of those that may leave exactly where some such subset has it
pub reduced_is_union : (scene : Scene) (asked : Places) → ((p : ℕ) → asked p ≡ true → active scene p ≡ true)
    → (p : ℕ) → (reduced scene asked p ≡ true) ↔ ((set : Places) × CanLeave scene asked set × (set p ≡ true))
reduced_is_union scene asked run p = (
  λ (here : reduced scene asked p ≡ true). (reduced scene asked, reduced_CanLeave scene asked run, here),
  λ (some : (set : Places) × CanLeave scene asked set × (set p ≡ true)). reduced_greatest scene asked some.0 some.1 p
      some.2,
)

-- ---- Of a request

idle_stays : (b : Bool) → ◌≡◌ {A = Option Cause} (if b then None else Some cause.NotActive) None → b ≡ true
idle_stays true e = refl
idle_stays false e = cc

off_none : (twice : Bool) (l : Seen) → off_cause twice l ≡ None → is_running l.life ≡ true
off_none true l e = cc
off_none false l e = idle_stays (is_running l.life) e

module _ (scene : Scene) where
  active_from : (l : Seen) → Contains scene.loaded l → is_running l.life ≡ true → active scene l.place ≡ true
  active_from l inside runs =
      any_from (λ (s : Seen). s.place == l.place && is_running s.life) scene.loaded l inside
      (and_from (l.place == l.place) (is_running l.life) (eq-eqb l.place l.place refl) runs)

  -- of a name and others without a fault, one at a place has no fault or is of the others
  kept_or_later : (o : Option Cause) (name : List ℕ) (rest : List (List ℕ)) (p : ℕ)
      → places_of (loaded_all scene (elim o [ Some c ↦ rest | None ↦ name ∷ rest ])) p ≡ true
      → ((o ≡ None) × ((l : Seen) × (loaded_of scene name ≡ Some l) × (l.place ≡ p)))
      ⊎ (places_of (loaded_all scene rest) p ≡ true)
  kept_or_later (Some c) name rest p any = inr any
  kept_or_later None name rest p any =
      elim (named_one scene (loaded_of scene name) (loaded_all scene rest) p any) [
        | inl this ↦ inl (refl, this)
        | inr more ↦ inr more
      ]

  faultless_active : (before : List (List ℕ)) (picks : List Pick) (p : ℕ)
      → places_of (loaded_all scene (faultless (off_fault scene) before picks)) p ≡ true → active scene p ≡ true
  faultless_active before [] p any = absurd (true≢false (sym any))
  faultless_active before (Group name ∷ picks) p any = faultless_active before picks p any
  faultless_active before (One name ∷ picks) p any =
      elim (kept_or_later (off_fault scene before name) name (faultless (off_fault scene) (before ++ name ∷ []) picks) p
      any) [
        | inl (none, (l, is, same)) ↦
            let runs : is_running l.life ≡ true =
            off_none (list_any (same_name name) before) l
            (ap (λ o. option_map_or (off_cause (list_any (same_name name) before)) o (Some cause.Unknown)) (sym is)
            ∙ none) in
            subst (λ q. active scene q ≡ true) same (active_from l (loaded_called scene name l is).loaded runs)
        | inr more ↦ faultless_active (before ++ name ∷ []) picks p more
      ]

  pub asked_active : (off : List Pick) (p : ℕ) → asked_off scene off p ≡ true → active scene p ≡ true
  asked_active off p any = faultless_active [] off p any
