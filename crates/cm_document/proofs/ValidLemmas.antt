-- What a description is that was read and checked.
use Rattle.std.proofs.Common.{◌≡◌, map, Option, Some, None, Result, Ok, Err, ◌∙◌, ap, sym, subst}
use Rattle.toml.specs.Data.{Members}
use Rattle.cm_document.specs.Reading.{◌>>=◌}
use Rattle.cm_document.specs.Described.{states_of, description_in}
use Rattle.cm_document.specs.Valid.{valid, few_enough, named_apart, in_range, links_exist, claimable}
use Rattle.cm_document.specs.Valid.{fallbacks_exist, members_exist, loop_free, IsDescribed, IsValid}
use Rattle.cm_document.specs.declared.description.CtlDesc.{CtlDesc}
use Rattle.cm_document.specs.declared.description.Description.{Description}
use Rattle.cm_document.specs.declared.faults.CheckFault.{CheckFault}

-- a description that was read is one that a tree stands for
pub read_IsDescribed : (tree : Option Members) (d : Description) → description_in tree ≡ Ok d → IsDescribed d
read_IsDescribed None d e = cc
read_IsDescribed (Some ms) d e = (ms, e)

-- steps that end with the description keep it
step_keeps : {A : Type 0} (r : Result A CheckFault) (f : A → Result Description CheckFault) (d e : Description)
    → ((a : A) (e : Description) → f a ≡ Ok e → e ≡ d) → (r >>= f) ≡ Ok e → e ≡ d
step_keeps (Ok a) f d e keeps h = keeps a e h
step_keeps (Err x) f d e keeps h = cc

-- a valid description is given back as it is
pub valid_same : (d e : Description) → valid d ≡ Ok e → e ≡ d
unfolding valid
valid_same d e h =
    step_keeps (few_enough d) _ d e (λ _ e h.
    step_keeps (named_apart d) _ d e (λ _ e h.
    step_keeps (in_range d) _ d e (λ _ e h.
    step_keeps (links_exist (claimable d) (states_of d.components) d.controllers) _ d e (λ _ e h.
    step_keeps (fallbacks_exist (map (λ (c : CtlDesc). c.name) d.controllers) d.controllers) _ d e (λ _ e h.
    step_keeps (members_exist (map (λ (c : CtlDesc). c.name) d.controllers) d.groups) _ d e (λ _ e h.
    step_keeps (loop_free d.controllers) _ d e (λ _ e h. cc) h) h) h) h) h) h) h

-- a description that was read and in which no check found a fault is valid
pub checked_IsValid : (d e : Description) → IsDescribed d → valid d ≡ Ok e → IsValid e
checked_IsValid d e read h =
    let same = valid_same d e h in
    subst IsValid (sym same) (record { described = read; no_fault = h ∙ ap (λ x. Ok x) same })
