-- Points whose times have come.
use Rattle.std.proofs.Common.{◌≡◌, ℕ, zero, suc, ◌+◌, ◌-◌, ◌<◌, ◌≤◌, ℤ, true, List, [], ◌∷◌}
use Rattle.std.proofs.Common.{length, get_or, take, drop, refl, ap, ◌∙◌, arith, add-one}
use Rattle.std.specs.Prelude.{◌==◌}
use Rattle.std.specs.List.{AllByRecursion}
use Rattle.std.proofs.lemmas.Bool.{le-ltb, and_parts, eqb-true}
use Rattle.cm_document.specs.declared.call.Point2.{Point2}
use Rattle.cm_model.specs.Ways.{on_way}
use Rattle.ctl_traj.specs.Led.{HaveCome, since_after, begin_after, all_have}

-- what has come by a time has come by a later one
all_later : (s t : ℕ) (points : List Point2) → s ≤ t → AllByRecursion (λ p. p.at_us ≤ s) points
    → AllByRecursion (λ p. p.at_us ≤ t) points
all_later s t [] later come = tt
all_later s t (p ∷ points) later come = (omega (arith, later, come.0), all_later s t points later come.1)

pub still_come : (s t : ℕ) (points : List Point2) (count : ℕ) → s ≤ t → HaveCome s points count
    → HaveCome t points count
still_come s t points count later come =
    record { within = come.within; each = all_later s t (take count points) later come.each }

-- the way behind points whose times have come is all of it
pub way_behind : (t start : ℕ) (from : List ℤ) (points : List Point2) (k : ℕ) → k ≤ length points
    → AllByRecursion (λ p. p.at_us ≤ t) (take k points)
    → on_way t (since_after start k points) (begin_after from k points) (drop k points) ≡ on_way t start from points
way_behind t start from points zero within come = refl
way_behind t start from [] (suc k) within come = absurd (omega (arith, within))
way_behind t start from (p ∷ points) (suc k) within come =
    way_behind t p.at_us p.values points k (omega (arith, within)) come.1 ∙ rw (le-ltb t p.at_us come.0) refl

-- behind a point the way begins there
since_point : (start : ℕ) (points : List Point2) (k : ℕ) (d : Point2) → k < length points
    → since_after start (suc k) points ≡ (get_or points k d).at_us
since_point start [] k d below = absurd (omega (arith, below))
since_point start (p ∷ points) zero d below = refl
since_point start (p ∷ points) (suc k) d below = since_point p.at_us points k d (omega (arith, below))

begin_point : (from : List ℤ) (points : List Point2) (k : ℕ) (d : Point2) → k < length points
    → begin_after from (suc k) points ≡ (get_or points k d).values
begin_point from [] k d below = absurd (omega (arith, below))
begin_point from (p ∷ points) zero d below = refl
begin_point from (p ∷ points) (suc k) d below = begin_point p.values points k d (omega (arith, below))

-- so it begins at the last of those that have come, where there are some
pub since_last : (start come : ℕ) (points : List Point2) (d : Point2) → 0 < come → come ≤ length points
    → since_after start come points ≡ (get_or points (come - 1) d).at_us
since_last start zero points d some within = absurd (omega (arith, some))
since_last start (suc k) points d some within =
    let same : k ≡ suc k - 1 = omega arith in
    since_point start points k d (omega (arith, within)) ∙ ap (λ i. (get_or points i d).at_us) same

pub begin_last : (from : List ℤ) (come : ℕ) (points : List Point2) (d : Point2) → 0 < come → come ≤ length points
    → begin_after from come points ≡ (get_or points (come - 1) d).values
begin_last from zero points d some within = absurd (omega (arith, some))
begin_last from (suc k) points d some within =
    let same : k ≡ suc k - 1 = omega arith in
    begin_point from points k d (omega (arith, within)) ∙ ap (λ i. (get_or points i d).values) same

-- the way has begun by the time
pub since_come : (t start : ℕ) (points : List Point2) (k : ℕ) → start ≤ t
    → AllByRecursion (λ p. p.at_us ≤ t) (take k points) → since_after start k points ≤ t
since_come t start points zero begun come = begun
since_come t start [] (suc k) begun come = begun
since_come t start (p ∷ points) (suc k) begun come = since_come t p.at_us points k come.0 come.1

-- and it begins with a value for each claim
pub begin_long : (claims : ℕ) (from : List ℤ) (points : List Point2) (k : ℕ) → length from ≡ claims
    → all_have claims points ≡ true → length (begin_after from k points) ≡ claims
begin_long claims from points zero whole fit = whole
begin_long claims from [] (suc k) whole fit = whole
begin_long claims from (p ∷ points) (suc k) whole fit =
    let parts = and_parts (length p.values == claims) (all_have claims points) fit in
    begin_long claims p.values points k (eqb-true (length p.values) claims parts.0) parts.1

-- the points behind have a value for each claim
pub rest_fit : (claims : ℕ) (points : List Point2) (k : ℕ) → all_have claims points ≡ true
    → all_have claims (drop k points) ≡ true
rest_fit claims points zero fit = fit
rest_fit claims [] (suc k) fit = fit
rest_fit claims (p ∷ points) (suc k) fit =
    rest_fit claims points k (and_parts (length p.values == claims) (all_have claims points) fit).1

-- one point more has come
more_come : (t : ℕ) (points : List Point2) (i : ℕ) (d : Point2) → i < length points
    → AllByRecursion (λ p. p.at_us ≤ t) (take i points) → (get_or points i d).at_us ≤ t
    → AllByRecursion (λ p. p.at_us ≤ t) (take (suc i) points)
more_come t [] i d below come now = absurd (omega (arith, below))
more_come t (p ∷ points) zero d below come now = (now, tt)
more_come t (p ∷ points) (suc i) d below come now = (come.0, more_come t points i d (omega (arith, below)) come.1 now)

pub one_more_come : (t : ℕ) (points : List Point2) (i : ℕ) (d : Point2) → i < length points → HaveCome t points i
    → (get_or points i d).at_us ≤ t → HaveCome t points (i + 1)
one_more_come t points i d below come now =
    record { within = omega (arith, below); each = rw add-one (more_come t points i d below come.each now) }
