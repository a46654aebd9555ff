-- Which controllers stay, found round by round.
use Rattle.std.proofs.Common.{◌≡◌, ℕ, zero, suc, ◌+◌, ◌-◌, ◌<◌, ◌≤◌, Bool, false}
use Rattle.std.proofs.Common.{List, length, refl, sym, ◌∙◌, ap, ap₂, arith}
use Rattle.std.specs.Prelude.{◌&&◌, ◌||◌, not}
use Rattle.std.proofs.lemmas.Bool.{and_left, or_from}
use Rattle.std.proofs.lemmas.List.{ext_get_or}
use Rattle.cm_model.specs.Order.{Places, set_of, some_below, precedes_at}
use Rattle.cm_model.specs.Scene.{Scene, controllers_in, active}
use Rattle.cm_model.specs.BestEffort.{stays_more, stays_within, stays}
use Rattle.chain_order.specs.Links.{each_below}
use Rattle.chain_order.proofs.LinkLemmas.{length-each_below, get_or-each_below, each_below-same}
use Rattle.chain_order.proofs.PlaceLemmas.{set_of-each_below}

-- tests that agree below
some_below-same : (f g : ℕ → Bool) (n : ℕ) → ((i : ℕ) → i < n → f i ≡ g i) → some_below f n ≡ some_below g n
some_below-same f g zero same = refl
some_below-same f g (suc n) same =
    ap₂ (λ a b. a || b) (some_below-same f g n (λ i below. same i (omega (arith, below)))) (same n (omega arith))

-- flags are what is read off them
pub flags-each_below : (flags : List Bool) (n : ℕ) → length flags ≡ n → flags ≡ each_below (set_of flags) n
flags-each_below flags n long =
    ext_get_or false flags (each_below (set_of flags) n) (long ∙ sym (length-each_below (set_of flags) n))
    (λ i below. sym (get_or-each_below (set_of flags) n i false (omega (arith, below, long))))

module _ (scene : Scene) (leaving : Places) where
  -- the flags of those that stay as far as so many links lead
  abbrev pub staying_flags : ℕ → List Bool
  staying_flags k = each_below (stays_within scene leaving k) (length (controllers_in scene))

  -- sets that agree on the described controllers
  more-same : (f g : Places) → ((q : ℕ) → q < length (controllers_in scene) → f q ≡ g q) → (p : ℕ)
      → p < length (controllers_in scene) → stays_more scene f p ≡ stays_more scene g p
  more-same f g same p below =
      ap₂ (λ a b. a || (active scene p && b)) (same p below)
      (some_below-same _ _ (length (controllers_in scene))
      (λ q inside. ap (λ a. a && precedes_at (controllers_in scene) q p) (same q inside)))

  -- one round more
  pub one_round : (k : ℕ)
      → each_below (stays_more scene (set_of (staying_flags k))) (length (controllers_in scene)) ≡ staying_flags (suc k)
  unfolding stays_within
  one_round k =
      each_below-same (stays_more scene (set_of (staying_flags k))) (stays_more scene (stays_within scene leaving k))
      (length (controllers_in scene))
      (more-same (set_of (staying_flags k)) (stays_within scene leaving k)
      (λ q below. get_or-each_below (stays_within scene leaving k) (length (controllers_in scene)) q false below))

  -- flags that a round leaves as they are stay so
  pub settled_one : (j k : ℕ) → staying_flags j ≡ staying_flags k → staying_flags (suc j) ≡ staying_flags (suc k)
  settled_one j k same =
      sym (one_round j)
      ∙ ap (λ flags. each_below (stays_more scene (set_of flags)) (length (controllers_in scene))) same ∙ one_round k

  settled_more : (k m : ℕ) → staying_flags (suc k) ≡ staying_flags k → staying_flags (k + m) ≡ staying_flags k
  settled_more k zero same = ap staying_flags (omega arith)
  settled_more k (suc m) same =
      let e : k + suc m ≡ suc (k + m) = omega arith in
      ap staying_flags e ∙ settled_one (k + m) k (settled_more k m same) ∙ same

  -- so they are those of all links
  pub settled : (k : ℕ) → k ≤ length (controllers_in scene) → staying_flags (suc k) ≡ staying_flags k
      → staying_flags k ≡ staying_flags (length (controllers_in scene))
  settled k most same =
      let e : length (controllers_in scene) ≡ k + (length (controllers_in scene) - k) = omega (arith, most) in
      sym (ap staying_flags e ∙ settled_more k (length (controllers_in scene) - k) same)

  -- none stays that is not active
  stays_within-past : (p : ℕ) → active scene p ≡ false → (k : ℕ) → stays_within scene leaving k p ≡ false
  unfolding stays_within
  stays_within-past p idle zero = and_left (active scene p) (not (leaving p)) idle
  stays_within-past p idle (suc k) =
      or_from (stays_within scene leaving k p) _ (stays_within-past p idle k) (and_left (active scene p) _ idle)

  -- the flags are the set
  pub staying_set : ((p : ℕ) → length (controllers_in scene) ≤ p → active scene p ≡ false)
      → set_of (staying_flags (length (controllers_in scene))) ≡ stays scene leaving
  staying_set past =
      set_of-each_below (stays scene leaving) (length (controllers_in scene))
      (λ p above. stays_within-past p (past p above) (length (controllers_in scene)))
