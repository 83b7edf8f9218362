-- "cut towards zero": lib.Ieee's cast to 64 bits is `cut_of` of the value, and it follows the order of floats.
use mathlib.Core.Path.{◌≡◌, ap}
use mathlib.Core.Bool.{Bool, true, false, true≢false, ◌&&◌, ◌||◌}
use mathlib.Core.Logic.{◌⊎◌, inl, inr}
use Prim.Native.Nat.{ℕ, ◌-◌, ◌*◌, ◌/◌, ◌^◌, ◌≤◌, ◌<◌, min, zero-le}
use native.Mathlib.Nat.{le_of_eq, le_of_lt, le_refl, mul-le-mul_left, zero-lt-suc}
use native.Mathlib.Omega.{arith}
use lib.Dec.{T, ltb, eqb, ltb→lt, eqb→eq}
use lib.Ieee.{Float, nan, inf, fin, up, down, le, lt, eq, to_unsigned}
use lib.Ieee.Exact.{HasValue}
use lib.Ieee.Fits.{and_l, and_r, down_pos}
use lib.Ieee.Nearest.{div_mono, div_same}
use Rattle.rules.specs.Limit.{cut_of}

-- the law of cutting out: a float that is worth a / c is cut to `cut_of a c`
pub cut-value : (x : Float) (a c : ℕ) → 0 < c → HasValue x false a c → to_unsigned 64 x ≡ cut_of a c
unfolding to_unsigned cut_of
cut-value nan a c C h = absurd h
cut-value (inf s) a c C h = absurd h
cut-value (fin true m e) a c C h = absurd (true≢false h.0)
cut-value (fin false m e) a c C h = ap (λ (q : ℕ). min q (2 ^ 64 - 1)) (div_same (m * up e) (down e) a c (down_pos e) C h.1)

-- ---- the order
-- `le`, of two finite values that are not negative
pub lt-or-eq : (a b : ℕ) → T (ltb a b || (eqb a b && true)) → a ≤ b
lt-or-eq a b t = elim (split (ltb a b) (eqb a b && true) t) [ inl u ↦ le_of_lt (ltb→lt a b u) | inr u ↦ le_of_eq (eqb→eq a b (and_l (eqb a b) true u)) ]
  where
    split : (p q : Bool) → T (p || q) → T p ⊎ T q
    split true q t = inl tt
    split false q t = inr t

-- where a product is 0 and one factor is not, the other is
pub no-factor : (a d : ℕ) → 0 < d → a * d ≤ 0 → a ≡ 0
no-factor a d D h = omega (arith, mul-le-mul_left a D)

-- the larger float is cut to no smaller number
pub cut-mono : (x y : Float) → T (le x y) → to_unsigned 64 x ≤ to_unsigned 64 y
unfolding le lt eq to_unsigned
cut-mono nan y h = absurd h
cut-mono (inf true) y h = zero-le
cut-mono (inf false) nan h = absurd h
cut-mono (inf false) (inf true) h = absurd h
cut-mono (inf false) (inf false) h = le_refl (2 ^ 64 - 1)
cut-mono (inf false) (fin t n d) h = absurd h
cut-mono (fin true m e) y h = zero-le
cut-mono (fin false m e) nan h = absurd h
cut-mono (fin false m e) (inf true) h = absurd h
cut-mono (fin false m e) (inf false) h = capped (m * up e / down e)
  where
    capped : (q : ℕ) → min q (2 ^ 64 - 1) ≤ 2 ^ 64 - 1
    capped q = omega arith
cut-mono (fin false m e) (fin true n d) h =
    let z : m * up e * down d ≡ 0 = eqb→eq (m * up e * down d) 0 (and_r (eqb (m * up e * down d) (n * up d * down e)) (eqb (m * up e * down d) 0) h) in
    none (m * up e) (down e) (down_pos e) (no-factor (m * up e) (down d) (down_pos d) (le_of_eq z))
  where
    none : (a c : ℕ) → 0 < c → a ≡ 0 → min (a / c) (2 ^ 64 - 1) ≤ 0
    none a c C z = nil (a / c) (div_mono a c 0 1 C (zero-lt-suc 0) (omega arith))
      where
        nil : (q : ℕ) → q ≤ 0 / 1 → min q (2 ^ 64 - 1) ≤ 0
        nil q g = omega arith
cut-mono (fin false m e) (fin false n d) h =
    capped (m * up e / down e) (n * up d / down d) (div_mono (m * up e) (down e) (n * up d) (down d) (down_pos e) (down_pos d) (lt-or-eq (m * up e * down d) (n * up d * down e) h))
  where
    capped : (p q : ℕ) → p ≤ q → min p (2 ^ 64 - 1) ≤ min q (2 ^ 64 - 1)
    capped p q g = omega arith
