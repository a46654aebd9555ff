-- Elements of lists: what is found of them, and what is kept.
use Rattle.std.proofs.Common.{◌≡◌, ◌⊎◌, Bool, true, false, List, [], ◌∷◌, ◌++◌, map, cond}
use Rattle.std.proofs.Common.{Option, Some, None, inl, inr, refl, sym, ◌∙◌, ap, arith}
use Rattle.std.specs.Prelude.{option_map}
use Rattle.std.specs.List.{Contains, list_any, find, filter}
use Rattle.std.specs.Option.{option_or}
use Rattle.std.proofs.lemmas.Bool.{false_from_ne_true, true≢false}
use Rattle.std.proofs.lemmas.List.Elements.{Contains-push, Contains-push_cases, Contains-append_left}
use Rattle.std.proofs.lemmas.List.Elements.{Contains-append_right, Contains-append_cases}
use Rattle.std.proofs.lemmas.List.Folds.{list_any_at, Any-from_list_any}
use Rattle.std.proofs.lemmas.Option.{same_Some}
use Rattle.cm_model.specs.Faults.{first_of}

-- ---- Options

-- what an option holds, or else another
abbrev pub held : {A : Type 0} → Option A → A → A
held None other = other
held (Some x) other = x

pub or_none : {A : Type 0} (a b : Option A) → option_or a b ≡ None → (a ≡ None) × (b ≡ None)
or_none None b e = (refl, e)
or_none (Some x) b e = cc

pub or_some : {A : Type 0} (a b : Option A) (x : A) → option_or a b ≡ Some x → (a ≡ Some x) ⊎ (b ≡ Some x)
or_some None b x e = inr e
or_some (Some y) b x e = inl e

pub map_none : {A B : Type 0} (f : A → B) (o : Option A) → option_map f o ≡ None → o ≡ None
map_none f None e = refl
map_none f (Some x) e = cc

pub map_some : {A B : Type 0} (f : A → B) (o : Option A) (y : B) → option_map f o ≡ Some y
    → (x : A) × (o ≡ Some x) × (f x ≡ y)
map_some f None y e = cc
map_some f (Some x) y e = (x, refl, same_Some (f x) y e)

-- ---- Elements

pub here : {A : Type 0} (x : A) (xs : List A) → Contains (x ∷ xs) x
here x xs = Contains-append_left (x ∷ []) xs x (Contains-push [] x)

pub later : {A : Type 0} (x : A) (xs : List A) (y : A) → Contains xs y → Contains (x ∷ xs) y
later x xs y inside = Contains-append_right (x ∷ []) xs y inside

pub none_inside : {A : Type 0} (y : A) → Contains [] y → ⊥
none_inside y (k, below, is) = omega (arith, below)

pub first_or_later : {A : Type 0} (x : A) (xs : List A) (y : A) → Contains (x ∷ xs) y → (x ≡ y) ⊎ Contains xs y
first_or_later x xs y inside =
    elim (Contains-append_cases (x ∷ []) xs y inside) [
      | inl first ↦
          elim (Contains-push_cases [] x y first) [
            | inl nowhere ↦ absurd (none_inside y nowhere)
            | inr same ↦ inl same
          ]
      | inr after ↦ inr after
    ]

-- the list before an element, and behind it
pub split_at : {A : Type 0} (xs : List A) (y : A) → Contains xs y
    → (before : List A) × (after : List A) × (xs ≡ before ++ y ∷ after)
split_at [] y inside = absurd (none_inside y inside)
split_at (x ∷ xs) y inside =
    elim (first_or_later x xs y inside) [
      | inl same ↦ ([], xs, ap (λ z. z ∷ xs) same)
      | inr after ↦ let r = split_at xs y after in (x ∷ r.0, r.1, ap (λ zs. x ∷ zs) r.2)
    ]

pub Contains-map : {A B : Type 0} (f : A → B) (xs : List A) (y : A) → Contains xs y → Contains (map f xs) (f y)
Contains-map f [] y inside = absurd (none_inside y inside)
Contains-map f (x ∷ xs) y inside =
    elim (first_or_later x xs y inside) [
      | inl same ↦ rw (← same) (here (f x) (map f xs))
      | inr after ↦ later (f x) (map f xs) (f y) (Contains-map f xs y after)
    ]

pub Contains-map_back : {A B : Type 0} (f : A → B) (xs : List A) (y : B) → Contains (map f xs) y
    → (x : A) × Contains xs x × (f x ≡ y)
Contains-map_back f [] y inside = absurd (none_inside y inside)
Contains-map_back f (x ∷ xs) y inside =
    elim (first_or_later (f x) (map f xs) y inside) [
      | inl same ↦ (x, here x xs, same)
      | inr after ↦ let r = Contains-map_back f xs y after in (r.0, later x xs r.0 r.1, r.2)
    ]

-- ---- Tests

module _ {A : Type 0} (test : A → Bool) where
  pub any_from : (xs : List A) (x : A) → Contains xs x → test x ≡ true → list_any test xs ≡ true
  any_from xs x inside passes = list_any_at test xs inside.0 x inside.1 (ap test inside.2 ∙ passes)

  pub some_of : (xs : List A) → list_any test xs ≡ true → (x : A) × Contains xs x × (test x ≡ true)
  some_of xs any = let r = Any-from_list_any test xs any in (r.1, (r.0, r.2, r.3), r.4)

  pub each_fails : (xs : List A) → list_any test xs ≡ false → (x : A) → Contains xs x → test x ≡ false
  each_fails xs none x inside =
      false_from_ne_true (test x) (λ passes. true≢false (sym (any_from xs x inside passes) ∙ none))

  pub none_passes : (xs : List A) → ((x : A) → Contains xs x → test x ≡ false) → list_any test xs ≡ false
  none_passes xs fails =
      false_from_ne_true (list_any test xs) (λ any. let r = some_of xs any in true≢false (sym r.2 ∙ fails r.0 r.1))

  -- what is found
  found_one : (b : Bool) (x y : A) (rest : Option A) → cond b (Some x) rest ≡ Some y
      → ((b ≡ true) × (x ≡ y)) ⊎ (rest ≡ Some y)
  found_one true x y rest e = inl (refl, same_Some x y e)
  found_one false x y rest e = inr e

  pub found : (xs : List A) (y : A) → find test xs ≡ Some y → Contains xs y × (test y ≡ true)
  found [] y e = cc
  found (x ∷ xs) y e =
      elim (found_one (test x) x y (find test xs) e) [
        | inl this ↦ rw (← this.1) (here x xs, this.0)
        | inr rest ↦ let r = found xs y rest in (later x xs y r.0, r.1)
      ]

  found_none : (b : Bool) (x : A) (rest : Option A) → cond b (Some x) rest ≡ None → (b ≡ false) × (rest ≡ None)
  found_none true x rest e = cc
  found_none false x rest e = (refl, e)

  pub not_found : (xs : List A) → find test xs ≡ None → (y : A) → Contains xs y → test y ≡ false
  not_found [] e y inside = absurd (none_inside y inside)
  not_found (x ∷ xs) e y inside =
      let parts = found_none (test x) x (find test xs) e in
      elim (first_or_later x xs y inside) [
        | inl same ↦ ap test (sym same) ∙ parts.0
        | inr after ↦ not_found xs parts.1 y after
      ]

  none_found_one : (b : Bool) (x : A) (rest : Option A) → b ≡ false → rest ≡ None → cond b (Some x) rest ≡ None
  none_found_one true x rest fails none = cc
  none_found_one false x rest fails none = none

  pub none_found : (xs : List A) → ((y : A) → Contains xs y → test y ≡ false) → find test xs ≡ None
  none_found [] fails = refl
  none_found (x ∷ xs) fails =
      none_found_one (test x) x (find test xs) (fails x (here x xs))
      (none_found xs (λ y inside. fails y (later x xs y inside)))

  -- what is kept
  kept_one : (b : Bool) (x y : A) (rest : List A) → Contains (cond b (x ∷ rest) rest) y
      → ((b ≡ true) × (x ≡ y)) ⊎ Contains rest y
  kept_one true x y rest inside =
      elim (first_or_later x rest y inside) [ inl same ↦ inl (refl, same) | inr after ↦ inr after ]
  kept_one false x y rest inside = inr inside

  pub filter_back : (xs : List A) (y : A) → Contains (filter test xs) y → Contains xs y × (test y ≡ true)
  filter_back [] y inside = absurd (none_inside y inside)
  filter_back (x ∷ xs) y inside =
      elim (kept_one (test x) x y (filter test xs) inside) [
        | inl this ↦ rw (← this.1) (here x xs, this.0)
        | inr rest ↦ let r = filter_back xs y rest in (later x xs y r.0, r.1)
      ]

  keep_first : (b : Bool) (x : A) (rest : List A) → b ≡ true → Contains (cond b (x ∷ rest) rest) x
  keep_first true x rest passes = here x rest
  keep_first false x rest passes = cc

  keep_later : (b : Bool) (x y : A) (rest : List A) → Contains rest y → Contains (cond b (x ∷ rest) rest) y
  keep_later true x y rest inside = later x rest y inside
  keep_later false x y rest inside = inside

  pub filter_from : (xs : List A) (y : A) → Contains xs y → test y ≡ true → Contains (filter test xs) y
  filter_from [] y inside passes = absurd (none_inside y inside)
  filter_from (x ∷ xs) y inside passes =
      elim (first_or_later x xs y inside) [
        | inl same ↦ rw (← same) (keep_first (test x) x (filter test xs) (ap test same ∙ passes))
        | inr after ↦ keep_later (test x) x y (filter test xs) (filter_from xs y after passes)
      ]

-- ---- First of a list

module _ {A B : Type 0} (f : A → Option B) where
  pub first_of-none : (xs : List A) → first_of f xs ≡ None → (x : A) → Contains xs x → f x ≡ None
  first_of-none [] e x inside = absurd (none_inside x inside)
  first_of-none (y ∷ ys) e x inside =
      let parts = or_none (f y) (first_of f ys) e in
      elim (first_or_later y ys x inside) [
        | inl same ↦ ap f (sym same) ∙ parts.0
        | inr after ↦ first_of-none ys parts.1 x after
      ]

  pub first_of-all : (xs : List A) → ((x : A) → Contains xs x → f x ≡ None) → first_of f xs ≡ None
  first_of-all [] none = refl
  first_of-all (y ∷ ys) none =
      ap (λ o. option_or o (first_of f ys)) (none y (here y ys))
      ∙ first_of-all ys (λ x inside. none x (later y ys x inside))

  pub first_of-some : (xs : List A) (b : B) → first_of f xs ≡ Some b → (x : A) × Contains xs x × (f x ≡ Some b)
  first_of-some [] b e = cc
  first_of-some (y ∷ ys) b e =
      elim (or_some (f y) (first_of f ys) b e) [
        | inl this ↦ (y, here y ys, this)
        | inr rest ↦ let r = first_of-some ys b rest in (r.0, later y ys r.0 r.1, r.2)
      ]
