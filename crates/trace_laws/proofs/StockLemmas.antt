-- States that differ in their blanks alone, of which each has enough for what is to come, make the same steps.
use Rattle.std.proofs.Common.{◌≡◌, ℕ, suc, ◌≤◌, Bool, true, false, List, ◌∷◌, Option, Some}
use Rattle.std.proofs.Common.{None, refl, sym, ap, subst, ◌∙◌, inl, inr, ◌⊎◌, arith}
use Rattle.std.specs.Prelude.{◌==◌, ◌-◌, ◌||◌, map, min, option_map, slice_get, if◌then◌else◌}
use Rattle.std.specs.List.{list_any}
use Rattle.std.specs.Option.{option_map_or}
use Rattle.std.proofs.lemmas.Bool.Decides.{nat_tests}
use Rattle.cm_document.specs.Params.{kind_of, same_controller_kind}
use Rattle.cm_document.specs.declared.call.Call.{Call}
use Rattle.cm_document.specs.declared.description.CtlDesc.{CtlDesc}
use Rattle.cm_document.specs.declared.description.CtlKind.{CtlKind}
use Rattle.cm_document.specs.declared.description.CtlKind.TheVariants as kind
use Rattle.cm_document.specs.declared.description.TheConstants.{CONTROLLER_KINDS}
use Rattle.cm_document.proofs.VocabularyLemmas.{same_kind_is}
use Rattle.cm_storage.specs.Kept.{load_name}
use Rattle.cm_model.specs.Blanks.{blanks_of, counted_by, no_blanks, with_count, with_one_less}
use Rattle.cm_model.specs.Console.{unless_refused, place_of}
use Rattle.cm_model.specs.Machine.{is_enabled, load_refusals, reply_of, with_controller}
use Rattle.cm_model.specs.Machine.{with_loaded, load_effect, effect, answered, step}
use Rattle.cm_model.specs.State.{State}
use Rattle.cm_model.specs.declared.blanks.Blanks.{Blanks}
use Rattle.cm_model.proofs.BlankLemmas.{count_is, same_counts}
use Rattle.trace_laws.specs.Stocks.{at_most, at_most_of}
use Rattle.cm_model.specs.declared.reply.Reply.{Reply}
use Rattle.cm_model.specs.declared.reply.Reply.TheVariants as reply
use Rattle.version_laws.proofs.AlikeLemmas as laws
use Rattle.version_laws.proofs.AlikeLemmas.{altered, load_or_none, leaves}

-- the state that is the same but for its blanks
abbrev pub stocked : Blanks → State → State
stocked b s = record s { blanks = b }

-- ---- Blanks that are enough

-- Of each kind there are as many in both, or enough in both for so many loads.
abbrev pub AreEnough : ℕ → Blanks → Blanks → Type 0
AreEnough loads all some =
    (k : CtlKind) → (blanks_of some k ≡ blanks_of all k) ⊎ ((loads ≤ blanks_of some k) × (loads ≤ blanks_of all k))

-- so a stock of both is sold out in both or in none
none_left : (loads m n : ℕ) → ((m ≡ n) ⊎ ((suc loads ≤ m) × (suc loads ≤ n))) → (m == 0) ≡ (n == 0)
none_left loads m n (inl same) = ap (λ k. k == 0) same
none_left loads m n (inr (some, all)) =
    let first : (m == 0) ≡ false = grind (arith, nat_tests, some) in
    let second : (n == 0) ≡ false = grind (arith, nat_tests, all) in first ∙ sym second

sold_out-same : (loads : ℕ) (b : Blanks) (s : State) (o : Option CtlDesc) → AreEnough (suc loads) s.blanks b
    → option_map_or (λ c. blanks_of b (kind_of c.params) == 0) o false
    ≡ option_map_or (λ c. blanks_of s.blanks (kind_of c.params) == 0) o false
sold_out-same loads b s None enough = refl
sold_out-same loads b s (Some c) enough =
    none_left loads (blanks_of b (kind_of c.params)) (blanks_of s.blanks (kind_of c.params)) (enough (kind_of c.params))

refusals-same : (loads : ℕ) (b : Blanks) (s : State) (place : Option ℕ) → AreEnough (suc loads) s.blanks b
    → unless_refused (load_refusals (stocked b s) place) (reply.Serial s.loads)
    ≡ unless_refused (load_refusals s place) (reply.Serial s.loads)
refusals-same loads b s None enough = refl
refusals-same loads b s (Some place) enough =
    rw (sold_out-same loads b s (slice_get s.description.controllers place) enough) refl

-- fewer loads want no more
enough_fewer : (loads : ℕ) (all some : Blanks) → AreEnough (suc loads) all some → AreEnough loads all some
enough_fewer loads all some enough = λ k. fewer (enough k)
  where
    fewer : {m n : ℕ} → ((m ≡ n) ⊎ ((suc loads ≤ m) × (suc loads ≤ n))) → (m ≡ n) ⊎ ((loads ≤ m) × (loads ≤ n))
    fewer (inl same) = inl same
    fewer (inr (some, all)) = inr (omega (arith, some), omega (arith, all))

-- these blanks, but of each kind that is listed as many as are counted of it, at most so many
abbrev pub lessened : ℕ → Blanks → Blanks → List CtlKind → Blanks
lessened most counts b kinds =
    counted_by (λ kind. if list_any (same_controller_kind kind) kinds then min most (blanks_of counts kind)
    else blanks_of b kind)

lessened_or : (is listed : Bool) (less was one : ℕ) → (is ≡ true → one ≡ less)
    → (if listed then less else (if is then one else was)) ≡ (if is || listed then less else was)
lessened_or true true less was one same = refl
lessened_or true false less was one same = same refl
lessened_or false true less was one same = refl
lessened_or false false less was one same = refl

-- first this kind is lessened, and then those behind it
pub one_lessened : (most : ℕ) (counts b : Blanks) (kind : CtlKind) (kinds : List CtlKind)
    → lessened most counts (with_count b kind (min most (blanks_of counts kind))) kinds
    ≡ lessened most counts b (kind ∷ kinds)
one_lessened most counts b kind kinds =
    let less : CtlKind → ℕ = λ k. min most (blanks_of counts k) in
    let now : CtlKind → ℕ = λ k. if same_controller_kind k kind then less kind else blanks_of b k in
    same_counts (λ k. if list_any (same_controller_kind k) kinds then less k else blanks_of (counted_by now) k)
    (λ k. if same_controller_kind k kind || list_any (same_controller_kind k) kinds then less k else blanks_of b k)
    (λ k. ap (λ n. if list_any (same_controller_kind k) kinds then less k else n) (count_is now k)
    ∙ lessened_or (same_controller_kind k kind) (list_any (same_controller_kind k) kinds) (less k) (blanks_of b k)
    (less kind) (λ yes. ap less (sym (same_kind_is k kind yes))))

-- if there was none before, there is none of the kinds that are not listed
pub none_lessened : (most : ℕ) (counts : Blanks) (kinds : List CtlKind)
    → lessened most counts no_blanks kinds ≡ at_most_of most counts kinds
none_lessened most counts kinds =
    same_counts (λ k. if list_any (same_controller_kind k) kinds then min most (blanks_of counts k)
    else blanks_of no_blanks k)
    (λ k. if list_any (same_controller_kind k) kinds then min most (blanks_of counts k) else 0)
    (λ k. ap (λ n. if list_any (same_controller_kind k) kinds then min most (blanks_of counts k) else n)
    (count_is (λ kind. 0) k))

-- every kind is listed
each_listed : (k : CtlKind) → list_any (same_controller_kind k) (map (λ row. row.1) CONTROLLER_KINDS) ≡ true
each_listed kind.Forward = refl
each_listed _ = refl

pub all_listed : (most : ℕ) (counts : Blanks)
    → at_most_of most counts (map (λ row. row.1) CONTROLLER_KINDS) ≡ at_most most counts
all_listed most counts =
    same_counts (λ k. if list_any (same_controller_kind k) (map (λ row. row.1) CONTROLLER_KINDS)
    then min most (blanks_of counts k) else 0)
    (λ k. min most (blanks_of counts k)) (λ k. rw (each_listed k) refl)

-- one blank of a kind is taken of both
enough_taken : (loads : ℕ) (all some : Blanks) (taken : CtlKind) → AreEnough (suc loads) all some
    → AreEnough loads (with_one_less all taken) (with_one_less some taken)
enough_taken loads all some taken enough = λ k.
    rw (
      count_is (λ other. if same_controller_kind other taken then blanks_of some taken - 1 else blanks_of some other)
          k,
      count_is (λ other. if same_controller_kind other taken then blanks_of all taken - 1 else blanks_of all other) k,
    )
    (either k (same_controller_kind k taken))
  where
    less : {m n : ℕ} → ((m ≡ n) ⊎ ((suc loads ≤ m) × (suc loads ≤ n)))
        → (m - 1 ≡ n - 1) ⊎ ((loads ≤ m - 1) × (loads ≤ n - 1))
    less (inl same) = inl (ap (λ k. k - 1) same)
    less (inr (first, second)) = inr (omega (arith, first), omega (arith, second))

    either : (k : CtlKind) (b : Bool)
        → ((if b then blanks_of some taken - 1 else blanks_of some k)
        ≡ (if b then blanks_of all taken - 1 else blanks_of all k))
        ⊎ ((loads ≤ (if b then blanks_of some taken - 1 else blanks_of some k))
        × (loads ≤ (if b then blanks_of all taken - 1 else blanks_of all k)))
    either k true = less (enough taken)
    either k false = enough_fewer loads all some enough k

-- ---- Calls

reply_of-same : (loads : ℕ) (b : Blanks) (s : State) (call : Call) → AreEnough (suc loads) s.blanks b
    → reply_of (stocked b s) call ≡ reply_of s call
reply_of-same loads b s call enough = elim (load_or_none call) [
  | inl other ↦ laws.reply_of-same s.description.version b s call other
  | inr (name, is) ↦ subst (λ (asked : Call). reply_of (stocked b s) asked ≡ reply_of s asked) (sym is)
      (ap (λ r. Some r) (refusals-same loads b s (place_of s name) enough))
]

-- a call but a load leaves the blanks
effect-same : (b : Blanks) (s : State) (call : Call) (r : Reply) → load_name call ≡ None
    → effect (stocked b s) call r ≡ stocked b (effect s call r)
effect-same b s call r other =
    laws.effect-same s.description.version b s call r other
    ∙ ap (λ (v : ℕ). altered v b (effect s call r)) (sym (leaves s call r other).0)

-- Two states are alike for so many loads: they differ in their blanks alone, of which both have enough.
pub record AreAlike (loads : ℕ) (s t : State) : Type 0 where
  pub blanks : Blanks
  pub same : t ≡ stocked blanks s
  pub enough : AreEnough loads s.blanks blanks

others_alike : (loads : ℕ) (b : Blanks) (s : State) (call : Call) (r : Reply) → load_name call ≡ None
    → AreEnough (suc loads) s.blanks b → AreAlike loads (effect s call r) (effect (stocked b s) call r)
others_alike loads b s call r other enough =
    record {
      blanks = b;
      same = effect-same b s call r other;
      enough =
          subst (λ all. AreEnough loads all b) (sym (leaves s call r other).1) (enough_fewer loads s.blanks b enough);
    }

loaded_alike : (loads : ℕ) (b : Blanks) (s : State) (place : ℕ) (o : Option CtlDesc) → AreEnough (suc loads) s.blanks b
    → AreAlike loads (with_controller s place o) (with_controller (stocked b s) place o)
loaded_alike loads b s place None enough =
    record { blanks = b; same = refl; enough = enough_fewer loads s.blanks b enough }
loaded_alike loads b s place (Some c) enough =
    record {
      blanks = with_one_less b (kind_of c.params);
      same = refl;
      enough =
          enough_taken loads s.blanks b (kind_of c.params) enough;
    }

load_alike : (loads : ℕ) (b : Blanks) (s : State) (name : List ℕ) (r : Reply) → AreEnough (suc loads) s.blanks b
    → AreAlike loads (load_effect s name r) (load_effect (stocked b s) name r)
load_alike loads b s name (reply.Serial _) enough = placed (place_of s name)
  where
    placed : (o : Option ℕ) → AreAlike loads (with_loaded s o) (with_loaded (stocked b s) o)
    placed None = record { blanks = b; same = refl; enough = enough_fewer loads s.blanks b enough }
    placed (Some place) = loaded_alike loads b s place (slice_get s.description.controllers place) enough
load_alike loads b s name _ enough = record { blanks = b; same = refl; enough = enough_fewer loads s.blanks b enough }

effect_alike : (loads : ℕ) (b : Blanks) (s : State) (call : Call) (r : Reply) → AreEnough (suc loads) s.blanks b
    → AreAlike loads (effect s call r) (effect (stocked b s) call r)
effect_alike loads b s call r enough = elim (load_or_none call) [
  | inl other ↦ others_alike loads b s call r other enough
  | inr (name, is) ↦ subst (λ (asked : Call). AreAlike loads (effect s asked r) (effect (stocked b s) asked r)) (sym is)
      (load_alike loads b s name r enough)
]

-- ---- Steps

-- Two steps are alike: neither is one, or both have the same reply and lead to states that are alike.
pub data StepAlike (loads : ℕ) (o p : Option (State × Reply)) : Type 0 where
  neither : o ≡ None → p ≡ None → StepAlike loads o p
  both : (s t : State) (r : Reply) → o ≡ Some (s, r) → p ≡ Some (t, r) → AreAlike loads s t → StepAlike loads o p

answered_alike : (loads : ℕ) (b : Blanks) (s : State) (call : Call) (o : Option Reply)
    → AreEnough (suc loads) s.blanks b
    → StepAlike loads (option_map (answered s call) o) (option_map (answered (stocked b s) call) o)
answered_alike loads b s call None enough = neither refl refl
answered_alike loads b s call (Some r) enough =
    both (effect s call r) (effect (stocked b s) call r) r refl refl (effect_alike loads b s call r enough)

where_enabled : (loads : ℕ) (b : Blanks) (s : State) (call : Call) (enabled : Bool) → AreEnough (suc loads) s.blanks b
    → StepAlike loads (if enabled then option_map (answered s call) (reply_of s call) else None)
    (if enabled then option_map (answered (stocked b s) call) (reply_of (stocked b s) call) else None)
where_enabled loads b s call true enough =
    rw (reply_of-same loads b s call enough) (answered_alike loads b s call (reply_of s call) enough)
where_enabled loads b s call false enough = neither refl refl

-- from alike states each call makes alike steps
pub step_alike : (loads : ℕ) (s t : State) (who : ℕ) (call : Call) → AreAlike (suc loads) s t
    → StepAlike loads (step s who call) (step t who call)
unfolding step
step_alike loads s t who call alike =
    subst (λ (t : State). StepAlike loads (step s who call) (step t who call)) (sym alike.same)
    (where_enabled loads alike.blanks s call (is_enabled s who call) alike.enough)
