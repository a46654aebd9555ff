-- Loaded controllers are gone through, and those that pass a test are kept.
use Rattle.std.proofs.Common.{◌≡◌, ℕ, ◌+◌, ◌<◌, ◌≤◌, Bool, true, false, List, [], ◌∷◌, ◌++◌}
use Rattle.std.proofs.Common.{length, map, take, get_or, cond, append-nil, sym, ◌∙◌, ap, subst}
use Rattle.std.specs.Prelude.{if◌then◌else◌}
use Rattle.std.specs.List.{All, filter}
use Rattle.std.proofs.lemmas.List.{take_all, map-append}
use Rattle.std.proofs.lemmas.List.Elements.{All-filter, All-map, filter_more}
use Rattle.cm_model.specs.Scene.{member}
use Rattle.cm_model.specs.declared.member.Member.{Member}
use Rattle.cm_model.specs.declared.seen.Seen.{Seen}

-- the members of those that pass
abbrev pub kept : (Seen → Bool) → List Seen → List Member
kept f xs = map member (filter f xs)

module _ (f : Seen → Bool) (xs : List Seen) (i : ℕ) where
  -- one more is kept if it passes
  more : (d : Seen) (passes : Bool) → i < length xs → passes ≡ f (get_or xs i d)
      → kept f (take (i + 1) xs) ≡ map member (filter f (take i xs) ++ cond passes (get_or xs i d ∷ []) [])
  more d passes within is =
      ap (map member) (filter_more f xs i d within)
      ∙ ap (λ b. map member (filter f (take i xs) ++ cond b (get_or xs i d ∷ []) [])) (sym is)

  pub kept_more : (d : Seen) (passes : Bool) (ys zs : List Member) → i < length xs → passes ≡ f (get_or xs i d)
      → zs ≡ ys ++ (if passes then member (get_or xs i d) ∷ [] else []) → ys ≡ kept f (take i xs)
      → zs ≡ kept f (take (i + 1) xs)
  kept_more d true ys zs within is pushed so =
      pushed ∙ ap (λ l. l ++ member (get_or xs i d) ∷ []) so
      ∙ sym (more d true within is ∙ map-append member (filter f (take i xs)) (get_or xs i d ∷ []))
  kept_more d false ys zs within is pushed so =
      pushed ∙ append-nil ys ∙ so ∙ sym (more d false within is ∙ ap (map member) (append-nil (filter f (take i xs))))

  -- behind the last one all are kept that pass
  pub kept_all : (ys : List Member) → length xs ≤ i → ys ≡ kept f (take i xs) → ys ≡ kept f xs
  kept_all ys past so = so ∙ ap (kept f) (take_all i xs past)

-- and they have their places as all have
pub kept_within : (f : Seen → Bool) (xs : List Seen) (ys : List Member) (n : ℕ) → All (λ (l : Seen). l.place < n) xs
    → ys ≡ kept f xs → All (λ (m : Member). m.place < n) ys
kept_within f xs ys n each is =
    subst (All (λ (m : Member). m.place < n)) (sym is)
    (All-map (λ (m : Member). m.place < n) member (filter f xs) (All-filter f (λ (l : Seen). l.place < n) xs each))
