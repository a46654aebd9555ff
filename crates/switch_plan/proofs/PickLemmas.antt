-- A flat list is gone through from its start: what is known once one more of it was looked at.
use Rattle.std.proofs.Common.{◌≡◌, ℕ, ◌+◌, ◌<◌, List, [], ◌∷◌, ◌++◌, length, get_or, take, drop}
use Rattle.std.proofs.Common.{append-nil, append_assoc, Option, Some, None, refl, sym, ◌∙◌, ap}
use Rattle.std.specs.Prelude.{◌≢◌, option_map}
use Rattle.std.specs.Option.{option_or}
use Rattle.std.proofs.lemmas.List.{take_more, drop_more}
use Rattle.std.proofs.lemmas.List.Elements.{filter_map-append}
use Rattle.cm_document.specs.Picks.{controller_in, picked_names}
use Rattle.cm_document.specs.declared.call.Pick.{Pick}
use Rattle.cm_document.specs.declared.call.Pick.TheVariants.{One, Group}
use Rattle.cm_model.specs.Scene.{Scene, loaded_of, loaded_all, member}
use Rattle.cm_model.specs.Switches.{with_name, first_fault}
use Rattle.cm_model.specs.BestEffort.{faulty, faultless}
use Rattle.cm_model.specs.declared.cause.Cause.{Cause}
use Rattle.cm_model.specs.declared.cause.Cause.TheVariants as cause
use Rattle.cm_model.specs.declared.cause.Dropped.{Dropped}
use Rattle.cm_model.specs.declared.member.Member.{Member}
use Rattle.switch_plan.specs.Lists.{first_dropped}

-- the loaded controllers of one name more
loaded_more : (scene : Scene) (name : List ℕ) (names : List (List ℕ))
    → loaded_all scene (name ∷ []) ++ loaded_all scene names ≡ loaded_all scene (name ∷ names)
loaded_more scene name names = sym (filter_map-append (λ n. option_map member (loaded_of scene n)) (name ∷ []) names)

-- Where a controller is the next of the list.
module _ (picks : List Pick) (i : ℕ) (pick : Pick) (name : List ℕ) (within : i < length picks)
    (is : get_or picks i pick ≡ One name) where
  abbrev before : List (List ℕ)
  before = picked_names (take i picks)

  abbrev rest : List Pick
  rest = drop (i + 1) picks

  -- its name is the next of the names,
  pub names_more : picked_names (take (i + 1) picks) ≡ before ++ name ∷ []
  names_more =
      ap picked_names (take_more picks i pick within ∙ ap (λ p. take i picks ++ p ∷ []) is)
      ∙ filter_map-append controller_in (take i picks) (One name ∷ [])

  -- and it is the first of what is left
  pub rest_more : drop i picks ≡ One name ∷ rest
  rest_more = drop_more picks i pick within ∙ ap (λ p. p ∷ rest) is

  module _ (fault : List (List ℕ) → List ℕ → Option Cause) where
    -- what is kept of the list, by what speaks against it
    abbrev kept : Option Cause → List (List ℕ)
    kept o = elim o [
      | Some reason ↦ faultless fault (before ++ name ∷ []) rest
      | None ↦ name ∷ faultless fault (before ++ name ∷ []) rest
    ]

    -- and what is dropped
    abbrev gone : Option Cause → List Dropped
    gone o = elim o [
      | Some reason ↦ with_name name reason ∷ faulty fault (before ++ name ∷ []) rest
      | None ↦ faulty fault (before ++ name ∷ []) rest
    ]

    pub faultless_dropped : (reason : Cause) → fault before name ≡ Some reason
        → faultless fault (picked_names (take (i + 1) picks)) rest ≡ faultless fault before (drop i picks)
    faultless_dropped reason some =
        ap (λ names. faultless fault names rest) names_more ∙ sym (ap kept some)
        ∙ ap (faultless fault before) (sym rest_more)

    pub faultless_kept : fault before name ≡ None
        → name ∷ faultless fault (picked_names (take (i + 1) picks)) rest ≡ faultless fault before (drop i picks)
    faultless_kept none =
        ap (λ names. name ∷ faultless fault names rest) names_more ∙ sym (ap kept none)
        ∙ ap (faultless fault before) (sym rest_more)

    pub faulty_dropped : (reason : Cause) → fault before name ≡ Some reason
        → with_name name reason ∷ faulty fault (picked_names (take (i + 1) picks)) rest
        ≡ faulty fault before (drop i picks)
    faulty_dropped reason some =
        ap (λ names. with_name name reason ∷ faulty fault names rest) names_more ∙ sym (ap gone some)
        ∙ ap (faulty fault before) (sym rest_more)

    pub faulty_kept : fault before name ≡ None
        → faulty fault (picked_names (take (i + 1) picks)) rest ≡ faulty fault before (drop i picks)
    faulty_kept none =
        ap (λ names. faulty fault names rest) names_more ∙ sym (ap gone none) ∙ ap (faulty fault before) (sym rest_more)

-- Where a group is the next of the list.
module _ (picks : List Pick) (i : ℕ) (pick : Pick) (name : List ℕ) (within : i < length picks)
    (is : get_or picks i pick ≡ Group name) where
  abbrev so_far : List (List ℕ)
  so_far = picked_names (take i picks)

  abbrev later : List Pick
  later = drop (i + 1) picks

  -- the names are those before it,
  pub names_same : picked_names (take (i + 1) picks) ≡ so_far
  names_same =
      ap picked_names (take_more picks i pick within ∙ ap (λ p. take i picks ++ p ∷ []) is)
      ∙ filter_map-append controller_in (take i picks) (Group name ∷ [])
      ∙ append-nil so_far

  -- and it is the first of what is left
  left_group : drop i picks ≡ Group name ∷ later
  left_group = drop_more picks i pick within ∙ ap (λ p. p ∷ later) is

  module _ (fault : List (List ℕ) → List ℕ → Option Cause) where
    -- it is dropped
    pub faultless_group : faultless fault (picked_names (take (i + 1) picks)) later
        ≡ faultless fault so_far (drop i picks)
    faultless_group =
        ap (λ names. faultless fault names later) names_same ∙ ap (faultless fault so_far) (sym left_group)

    pub faulty_group : with_name name cause.NoGroup ∷ faulty fault (picked_names (take (i + 1) picks)) later
        ≡ faulty fault so_far (drop i picks)
    faulty_group =
        ap (λ names. with_name name cause.NoGroup ∷ faulty fault names later) names_same
        ∙ ap (faulty fault so_far) (sym left_group)

-- one more was dropped, and so it goes on
pub dropped_more : (old new later : List Dropped) (d : Dropped) → new ≡ old ++ d ∷ []
    → new ++ later ≡ old ++ d ∷ later
dropped_more old new later d pushed = ap (λ l. l ++ later) pushed ∙ append_assoc old (d ∷ []) later

-- and one more was found
pub found_more : (scene : Scene) (old new : List Member) (name : List ℕ) (names : List (List ℕ))
    → new ≡ old ++ loaded_all scene (name ∷ [])
    → new ++ loaded_all scene names ≡ old ++ loaded_all scene (name ∷ names)
found_more scene old new name names pushed =
    ap (λ l. l ++ loaded_all scene names) pushed
    ∙ append_assoc old (loaded_all scene (name ∷ [])) (loaded_all scene names)
    ∙ ap (λ l. old ++ l) (loaded_more scene name names)

-- ---- The first that was dropped

-- it is the first fault of the list,
pub first_of_faulty : (fault : List (List ℕ) → List ℕ → Option Cause) (before : List (List ℕ)) (picks : List Pick)
    → first_fault fault before picks ≡ first_dropped (faulty fault before picks)
first_of_faulty fault before [] = refl
first_of_faulty fault before (Group name ∷ picks) = refl
first_of_faulty fault before (One name ∷ picks) =
    one (fault before name) (first_of_faulty fault (before ++ name ∷ []) picks)
  where
    one : (o : Option Cause)
        → first_fault fault (before ++ name ∷ []) picks ≡ first_dropped (faulty fault (before ++ name ∷ []) picks)
        → option_or (option_map (with_name name) o) (first_fault fault (before ++ name ∷ []) picks)
        ≡ first_dropped (elim o [
          | Some reason ↦ with_name name reason ∷ faulty fault (before ++ name ∷ []) picks
          | None ↦ faulty fault (before ++ name ∷ []) picks
        ])
    one None rest = rest
    one (Some reason) rest = refl

-- and where none was dropped no name is left out
pub none_left_out : (fault : List (List ℕ) → List ℕ → Option Cause) (before : List (List ℕ)) (picks : List Pick)
    → first_dropped (faulty fault before picks) ≡ None → faultless fault before picks ≡ picked_names picks
none_left_out fault before [] none = refl
none_left_out fault before (Group name ∷ picks) none = cc
none_left_out fault before (One name ∷ picks) none =
    one (fault before name) (none_left_out fault (before ++ name ∷ []) picks) none
  where
    one : (o : Option Cause)
        → (first_dropped (faulty fault (before ++ name ∷ []) picks) ≡ None
        → faultless fault (before ++ name ∷ []) picks ≡ picked_names picks)
        → first_dropped (elim o [
          | Some reason ↦ with_name name reason ∷ faulty fault (before ++ name ∷ []) picks
          | None ↦ faulty fault (before ++ name ∷ []) picks
        ]) ≡ None
        → (elim o [
          | Some reason ↦ faultless fault (before ++ name ∷ []) picks
          | None ↦ name ∷ faultless fault (before ++ name ∷ []) picks
        ]) ≡ name ∷ picked_names picks
    one None rest none = ap (λ names. name ∷ names) (rest none)
    one (Some reason) rest none = cc

-- a list without elements has no first one, and another has
pub no_first : (ds : List Dropped) → length ds ≡ 0 → None ≡ first_dropped ds
no_first [] e = refl
no_first (d ∷ ds) e = cc

pub is_first : (ds : List Dropped) (d : Dropped) → length ds ≢ 0 → d ≡ get_or ds 0 d → Some d ≡ first_dropped ds
is_first [] d some is = absurd (some refl)
is_first (x ∷ ds) d some is = ap Some is
