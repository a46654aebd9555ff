-- Items that are added part by part are all items, joined.
use Rattle.std.proofs.Common.{◌≡◌, ℕ, Bool, true, false, List, [], ◌∷◌, ◌++◌}
use Rattle.std.proofs.Common.{refl, sym, ap, ◌∙◌, append_assoc, append-nil}
use Rattle.std.specs.Prelude.{flat_map, codes}
use Rattle.cm_model.specs.Trace.{joined}
use Rattle.trace_text.specs.Joined.{before_item, joined_on, has_started, Adds}

-- after an item the others are items after others
started_stays : (xs : List (List ℕ)) → has_started true xs ≡ true
started_stays [] = refl
started_stays (x ∷ xs) = refl

joined_on-append : (b : Bool) (xs ys : List (List ℕ))
    → joined_on b (xs ++ ys) ≡ joined_on b xs ++ joined_on (has_started b xs) ys
joined_on-append b [] ys = refl
joined_on-append b (x ∷ xs) ys =
    ap (λ l. before_item b ++ x ++ l) (joined_on-append true xs ys)
    ∙ rw (started_stays xs) (sym (append_assoc (before_item b ++ x) (joined_on true xs) (joined_on true ys)))

has_started-append : (b : Bool) (xs ys : List (List ℕ)) → has_started b (xs ++ ys) ≡ has_started (has_started b xs) ys
has_started-append b [] ys = refl
has_started-append b (x ∷ xs) ys = sym (started_stays ys)

-- one part after another
pub Adds-then : (t u v : List ℕ) (b s r : Bool) (xs ys : List (List ℕ)) → Adds t u b xs s → Adds u v s ys r
    → Adds t v b (xs ++ ys) r
Adds-then t u v b s r xs ys p q = record {
  text = q.text
      ∙ rw (p.text, p.started, joined_on-append b xs ys)
      (append_assoc t (joined_on b xs) (joined_on (has_started b xs) ys));
  started = q.started ∙ rw (p.started) (sym (has_started-append b xs ys));
}

-- items after others are each behind a separator
joined_after : (xs : List (List ℕ)) → joined_on true xs ≡ flat_map (λ y. codes "; " ++ y) xs
joined_after [] = refl
joined_after (x ∷ xs) = ap (λ l. codes "; " ++ x ++ l) (joined_after xs)

-- all items, where there is one
pub Adds-some : (t u : List ℕ) (xs : List (List ℕ)) → Adds t u false xs true → u ≡ t ++ joined xs
Adds-some t u [] p = let no = p.started in cc
Adds-some t u (x ∷ xs) p = p.text ∙ ap (λ l. t ++ (x ++ l)) (joined_after xs)

-- where there is none
pub Adds-none : (t u : List ℕ) (xs : List (List ℕ)) → Adds t u false xs false → u ++ codes "none" ≡ t ++ joined xs
Adds-none t u [] p = ap (λ l. l ++ codes "none") (p.text ∙ append-nil t)
Adds-none t u (x ∷ xs) p = let no = p.started in cc
