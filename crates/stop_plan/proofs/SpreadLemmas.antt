-- One pass against the order of updates finds all that precede a struck controller, at whatever distance.
use Rattle.std.proofs.Common.{◌≡◌, ◌⊎◌, ℕ, ◌<◌, Bool, true, false, List, [], ◌∷◌, length, None}
use Rattle.std.proofs.Common.{inl, inr, refl, sym, ◌∙◌, subst, ap, ap₂, true≢false, arith}
use Rattle.std.specs.Prelude.{◌==◌, ◌&&◌, ◌||◌, if◌then◌else◌, AllPairs}
use Rattle.std.specs.List.{All, list_any}
use Rattle.std.proofs.lemmas.Bool.{and_parts, eqb-true, false_from_ne_true}
use Rattle.std.proofs.lemmas.List.Elements.{All-head, All-tail}
use Rattle.cm_document.specs.Links.{first_in_loop}
use Rattle.cm_document.specs.declared.description.CtlDesc.{CtlDesc}
use Rattle.cm_model.specs.Cycle.{reaches}
use Rattle.cm_model.specs.Order.{Places, with_one, precedes_at, places_of, some_below, height}
use Rattle.cm_model.specs.declared.member.Member.{Member}
use Rattle.chain_order.specs.Links.{links_of, linked}
use Rattle.chain_order.proofs.DepthLemmas.{height-most, height-rises}
use Rattle.chain_order.proofs.LinkLemmas.{linked-rows_of}
use Rattle.chain_order.proofs.OrderLemmas.{pairs-head, pairs-tail}
use Rattle.chain_order.proofs.PlaceLemmas.{any-places_below}
use Rattle.sound_laws.proofs.StopLemmas.{reaches_hit, settled, same_below}
use Rattle.stop_plan.specs.Spread.{spread_to, spread}

-- ---- Tests

-- one controller more: it is a member where it was struck or follows to one, which is what it comes to
one_more : (follows here hit before comes : Bool) → (here ≡ true → comes ≡ (hit || follows))
    → (if follows then (here || (hit || (before && comes))) else (hit || (before && comes)))
    ≡ (hit || ((here || before) && comes))
one_more true true true before comes is = refl
one_more true true false before comes is = sym (is refl)
one_more false true true before comes is = refl
one_more false true false true comes is = refl
one_more false true false false comes is = sym (is refl)
one_more true false hit before comes is = refl
one_more false false hit before comes is = refl

chosen : (b : Bool) (f g : Places) (p : ℕ) → (if b then f else g) p ≡ (if b then f p else g p)
chosen true f g p = refl
chosen false f g p = refl

-- what is found of one that is linked: it is a member exactly where it is active and comes to a struck one
found : (leads active hit inside comes : Bool) → (hit ≡ true → active ≡ true) → (hit ≡ true → comes ≡ true)
    → (inside ≡ true → active ≡ true)
    → (leads ≡ true → active ≡ true → inside ≡ true)
    → ((hit || (inside && comes)) && leads) ≡ ((active && leads) && comes)
found true true true inside comes runs reached member later = sym (reached refl)
found true true false inside comes runs reached member later =
    ap (λ b. (b && comes) && true) (later refl refl) ∙ both comes
  where
    both : (b : Bool) → (b && true) ≡ b
    both true = refl
    both false = refl
found true false true inside comes runs reached member later = absurd (true≢false (sym (runs refl)))
found true false false true comes runs reached member later = absurd (true≢false (sym (member refl)))
found true false false false comes runs reached member later = refl
found false true hit inside comes runs reached member later = neither (hit || (inside && comes))
  where
    neither : (b : Bool) → (b && false) ≡ false
    neither true = refl
    neither false = refl
found false false hit inside comes runs reached member later = and_none (hit || (inside && comes))
  where
    and_none : (b : Bool) → (b && false) ≡ false
    and_none true = refl
    and_none false = refl

-- ---- Over the order of updates

module _ (cs : List CtlDesc) (free : first_in_loop cs ≡ None) (active hit : Places)
    (struck_runs : (p : ℕ) → hit p ≡ true → active p ≡ true) where
  abbrev count : ℕ
  count = length cs

  abbrev linked_to : ℕ → ℕ → Bool
  linked_to p q = active q && precedes_at cs p q

  -- a place comes to a struck one
  abbrev comes : Places
  comes = reaches linked_to hit count count

  abbrev rows : ℕ → List ℕ
  rows = linked (links_of cs)

  abbrev Apart : Member → Member → Type 0
  Apart a b = precedes_at cs b.place a.place ≡ false

  falls : (p q : ℕ) → linked_to p q ≡ true → height cs q < height cs p
  falls p q leads = height-rises cs free q p (and_parts (active q) (precedes_at cs p q) leads).1

  -- what comes to a struck one is struck, or is linked to one that does
  comes_by : (p : ℕ) → comes p ≡ (hit p || some_below (λ q. linked_to p q && comes q) count)
  unfolding reaches
  comes_by p = sym (settled linked_to hit count (height cs) falls count p (height-most cs p))

  no_loop : (p : ℕ) → precedes_at cs p p ≡ false
  no_loop p = false_from_ne_true (precedes_at cs p p)
      (λ leads. let rises = height-rises cs free p p leads in omega (arith, rises))

  -- each active controller that one of these precedes stands behind it
  abbrev LeadOn : List Member → Type 0
  LeadOn [] = Unit {0}
  LeadOn (m ∷ ms) = ((q : ℕ) → active q ≡ true → precedes_at cs m.place q ≡ true → places_of ms q ≡ true) × LeadOn ms

  -- it stands among these, or none of them precedes it
  abbrev Known : List Member → ℕ → Type 0
  Known ms q = (places_of ms q ≡ true) ⊎ All (λ m. precedes_at cs m.place q ≡ false) ms

  first_or_later : (here others : Bool) → (here || others) ≡ true → (here ≡ true) ⊎ (others ≡ true)
  first_or_later true others is = inl refl
  first_or_later false others is = inr is

  known_later : (m : Member) (ms : List Member) (q : ℕ) → AllPairs Apart (m ∷ ms) → Known (m ∷ ms) q → Known ms q
  known_later m ms q apart (inl inside) =
      elim (first_or_later (m.place == q) (places_of ms q) inside) [
        | inl this ↦ inr
            (subst (λ p. All (λ n. precedes_at cs n.place p ≡ false) ms) (eqb-true m.place q this)
            (pairs-head Apart m ms apart))
        | inr after ↦ inl after
      ]
  known_later m ms q apart (inr none) = inr (All-tail (λ n. precedes_at cs n.place q ≡ false) m ms none)

  behind : (m : Member) (ms : List Member) (q : ℕ) → Known (m ∷ ms) q → precedes_at cs m.place q ≡ true
      → places_of ms q ≡ true
  behind m ms q (inl inside) leads =
      elim (first_or_later (m.place == q) (places_of ms q) inside) [
        | inl this ↦ absurd
            (true≢false (sym leads ∙ ap (λ p. precedes_at cs p q) (eqb-true m.place q this) ∙ no_loop q))
        | inr after ↦ after
      ]
  behind m ms q (inr none) leads =
      absurd (true≢false (sym leads ∙ All-head (λ n. precedes_at cs n.place q ≡ false) m ms none))

  lead_on : (ms : List Member) → AllPairs Apart ms → ((q : ℕ) → active q ≡ true → Known ms q) → LeadOn ms
  lead_on [] apart known = tt
  lead_on (m ∷ ms) apart known = (
    λ q runs leads. behind m ms q (known q runs) leads,
    lead_on ms (pairs-tail Apart m ms apart) (λ q runs. known_later m ms q apart (known q runs)),
  )

  -- ---- Against the order

  row : (p : ℕ) (set : Places) → p < count → list_any set (rows p) ≡ some_below (λ q. set q && precedes_at cs p q) count
  row p set below =
      ap (list_any set) (linked-rows_of (λ q r. precedes_at cs r q) count p below)
      ∙ any-places_below set (precedes_at cs p) count

  members_run : (m : Member) (ms : List Member) → ((q : ℕ) → places_of (m ∷ ms) q ≡ true → active q ≡ true) → (q : ℕ)
      → places_of ms q ≡ true → active q ≡ true
  members_run m ms run q inside = run q (or_second (m.place == q) (places_of ms q) inside)
    where
      or_second : (a b : Bool) → b ≡ true → (a || b) ≡ true
      or_second true b is = refl
      or_second false b is = is

  -- one more, where it is so of those behind it
  one_so : (m : Member) (ms : List Member) (rest : Places)
      → ((q : ℕ) → active q ≡ true → precedes_at cs m.place q ≡ true → places_of ms q ≡ true) → m.place < count
      → ((q : ℕ) → places_of ms q ≡ true → active q ≡ true)
      → ((q : ℕ) → rest q ≡ (hit q || (places_of ms q && comes q)))
      → (p : ℕ) → spread_to rows m rest p ≡ (hit p || ((m.place == p || places_of ms p) && comes p))
  one_so m ms rest leads below run so_far p =
      chosen (list_any rest (rows m.place)) (with_one m.place rest) rest p
      ∙ ap₂ (λ (comes_now b : Bool). if comes_now then (m.place == p || b) else b) follows_so (so_far p)
      ∙ one_more follows (m.place == p) (hit p) (places_of ms p) (comes p)
      (λ here. ap comes (sym (eqb-true m.place p here)) ∙ comes_by m.place
      ∙ ap (λ q. hit q || follows) (eqb-true m.place p here))
    where
      follows : Bool
      follows = some_below (λ q. linked_to m.place q && comes q) count

      each : (q : ℕ) → (rest q && precedes_at cs m.place q) ≡ (linked_to m.place q && comes q)
      each q =
          ap (λ b. b && precedes_at cs m.place q) (so_far q)
          ∙ found (precedes_at cs m.place q) (active q) (hit q) (places_of ms q) (comes q) (struck_runs q)
          (reaches_hit linked_to hit count count q)
          (run q) (λ ahead runs. leads q runs ahead)

      follows_so : list_any rest (rows m.place) ≡ follows
      follows_so =
          row m.place rest below
          ∙ same_below (λ q. rest q && precedes_at cs m.place q) (λ q. linked_to m.place q && comes q) count each

  spread_so : (ms : List Member) → LeadOn ms → All (λ m. m.place < count) ms
      → ((q : ℕ) → places_of ms q ≡ true → active q ≡ true)
      → (p : ℕ) → spread rows ms hit p ≡ (hit p || (places_of ms p && comes p))
  spread_so [] leads within run p = plain (hit p)
    where
      plain : (b : Bool) → b ≡ (b || false)
      plain true = refl
      plain false = refl
  spread_so (m ∷ ms) leads within run p =
      one_so m ms (spread rows ms hit) leads.0 (All-head (λ n. n.place < count) m ms within) (members_run m ms run)
      (spread_so ms leads.1 (All-tail (λ n. n.place < count) m ms within) (members_run m ms run)) p

  -- Where these are the active controllers, and none is preceded by a later one, the pass finds those that come to a
  -- struck one.
  pub spread_reaches : (ms : List Member) → AllPairs Apart ms → All (λ m. m.place < count) ms
      → ((q : ℕ) → places_of ms q ≡ active q)
      → (p : ℕ) → spread rows ms hit p ≡ (active p && comes p)
  spread_reaches ms apart within all p =
      spread_so ms (lead_on ms apart (λ q runs. inl (all q ∙ runs))) within (λ q inside. sym (all q) ∙ inside) p
      ∙ ap (λ b. hit p || (b && comes p)) (all p)
      ∙ either (hit p) (active p) (comes p) (struck_runs p) (reaches_hit linked_to hit count count p)
    where
      either : (a b c : Bool) → (a ≡ true → b ≡ true) → (a ≡ true → c ≡ true) → (a || (b && c)) ≡ (b && c)
      either true b c first second = sym (ap₂ (λ x y. x && y) (first refl) (second refl))
      either false b c first second = refl
