-- The way that is needed to stop, and the longest step after which it has room.
use Rattle.std.proofs.Common.{◌≡◌, ℕ, zero, suc, ◌+◌, ◌-◌, ◌*◌, ◌<◌, ◌≤◌, ap, sym, refl, arith}
use Rattle.cm_model.specs.Limiters.{slowing, way_after}

-- ---- The way to stop

-- after a step of no more than a change there is no way
pub slow_none : (a t n : ℕ) → t ≤ a → slowing a t n ≡ 0
slow_none a t zero short = refl
slow_none a t (suc n) short =
    let z : t - a ≡ 0 = omega (arith, short) in
    rw z (omega (arith, slow_none a 0 n (omega arith)))

-- it does not matter how many steps are added up if there are enough
enough : (a t n m : ℕ) → 0 < a → t ≤ n → t ≤ m → slowing a t n ≡ slowing a t m
enough a t zero zero some le le' = refl
enough a t zero (suc m) some le le' = sym (slow_none a t (suc m) (omega (arith, le)))
enough a t (suc n) zero some le le' = slow_none a t (suc n) (omega (arith, le'))
enough a t (suc n) (suc m) some le le' =
    ap (λ k. (t - a) + k) (enough a (t - a) n m some (omega (arith, le, some)) (omega (arith, le', some)))

-- slowing down once is one step less
pub once : (a s : ℕ) → 0 < a → way_after a s ≡ (s - a) + way_after a (s - a)
once a zero some =
    let z : 0 - a ≡ 0 = omega arith in
    rw z refl
once a (suc s) some =
    ap (λ k. (suc s - a) + k) (enough a (suc s - a) s (suc s - a) some (omega (arith, some)) (omega arith))

slowing_more : (a s t n : ℕ) → s ≤ t → slowing a s n ≤ slowing a t n
slowing_more a s t zero le = omega arith
slowing_more a s t (suc n) le =
    let rest = slowing_more a (s - a) (t - a) n (omega (arith, le)) in
    omega (arith, rest, le)

-- a longer step has no shorter way
pub way_more : (a s t : ℕ) → 0 < a → s ≤ t → way_after a s ≤ way_after a t
way_more a s t some le = rw (enough a s s t some (omega arith) le) (slowing_more a s t t le)

-- ---- Its formula, between two multiples of the change

pub way_is : (a q s : ℕ) → 0 < a → q * a ≤ s → s ≤ suc q * a
    → 2 * (s + way_after a s) + a * (q * (q + 1)) ≡ 2 * ((q + 1) * s)
way_is a zero s some least most =
    let short : s ≤ a = omega (arith, most) in
    rw (slow_none a s s short) (omega arith)
way_is a (suc p) s some least most =
    let t = s - a in
    let s_is : s ≡ t + a = omega (arith, least) in
    let rest = way_is a p t some (omega (arith, least, s_is)) (omega (arith, most, s_is)) in
    rw (once a s some) (omega (arith, rest, s_is, ap (λ k. p * k) s_is))
