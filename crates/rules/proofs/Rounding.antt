-- "round s to the nearest single-precision number, ties to even": IEEE 754's single nearest to s is worth `single_of s`.
use mathlib.Core.Path.{◌≡◌, refl, sym, ap, ◌∙◌, subst}
use mathlib.Core.Bool.{Bool, false}
use Prim.Native.Nat.compare
use Prim.Native.Nat.{Ordering}
use Prim.Native.Nat.{ℕ, zero, suc, ◌+◌, ◌-◌, ◌*◌, ◌/◌, ◌%◌, ◌^◌, ◌≤◌, ◌<◌, compare}
use native.Mathlib.Nat.{le_trans, le_of_eq, le_of_lt, lt_of_lt_of_le, lt_of_le_of_lt, lt_irrefl, lt_of_not-le, zero-lt-suc, mul-one, one-mul, mul_comm, mul_assoc, mul_left_comm, mul_right_comm, mul-pos, mul-le-mul_right, mul-div_cancel, mul-mod_left, eq_of_mul-eq-mul_right, div-one}
use native.Mathlib.Decide.{dec_le}
use native.Mathlib.Omega.{arith}
use lib.IntN.{pos}
use lib.Pow.{pow-add, pow_pos, pow_mono, pow-lt}
use lib.Ieee.{Float, nan, inf, fin, binary32, up, down, size, nearest, units, round, of_int}
use lib.Ieee.Digits.{size-lt, size-le}
use lib.Ieee.Fits.{round_is, nearest-le, kept-lt}
use lib.Ieee.Exact.{HasValue, units_val}
use lib.Ieee.Nearest.{closest, closest_same, nearest-ge}
use lib.Ieee.Back.{round_whole}
use Rattle.rules.specs.Limit.{dropped, kept, single_of}
use Rattle.rules.proofs.Digits.{leads-24, size-shift}
use Rattle.rules.proofs.Nearest.{Rounds, closest-rounds}

-- ---- the digits
-- of a u64 at most 40 digits are dropped
pub dropped-le : (s : ℕ) → s < 2 ^ 64 → dropped s ≤ 40
unfolding dropped
dropped-le s h = omega (arith, size-le s 64 h)

-- what is kept has 24 digits, or is 2 ^ 24
pub kept-le : (s : ℕ) → kept s ≤ 2 ^ 24
unfolding kept dropped
kept-le s = le_trans (nearest-le (s / 2 ^ (size s - 24)) (compare (s % 2 ^ (size s - 24) * 2) (2 ^ (size s - 24)))) (kept-lt 24 s)

-- the leading one is kept
pub kept-ge : (s : ℕ) → 24 ≤ size s → 2 ^ 23 ≤ kept s
unfolding kept dropped
kept-ge s h = le_trans (leads-24 s h) (nearest-ge (s / 2 ^ (size s - 24)) (compare (s % 2 ^ (size s - 24) * 2) (2 ^ (size s - 24))))

-- it is s in units of 2 ^ dropped s, to the nearest, a tie to the even one
pub kept-rounds : (s : ℕ) → Rounds s (2 ^ dropped s) (kept s)
unfolding kept
kept-rounds s = closest-rounds s (2 ^ dropped s) (pow_pos (dropped s))

-- ---- the value
-- a size is rounded as the fraction n / 1
pub of_int_is : (n : ℕ) → of_int binary32 (pos n) ≡ round binary32 false n 1
unfolding of_int
of_int_is n = refl

-- from one fraction to an equal one
rescale : (x : Float) (s : Bool) (w l a c : ℕ) → 0 < l → a * l ≡ w * c → HasValue x s w l → HasValue x s a c
rescale nan s w l a c p h v = v
rescale (inf t) s w l a c p h v = v
rescale (fin t m e) s w l a c p h v = (
  v.0,
  eq_of_mul-eq-mul_right l p (m * up e * c) (a * down e)
      (mul_right_comm (m * up e) c l ∙ ap (λ (x : ℕ). x * c) v.1 ∙ mul_right_comm w (down e) c ∙ ap (λ (x : ℕ). x * down e) (sym h) ∙ mul_right_comm a l (down e)),
)

-- from 24 digits on: lib.Ieee rounds s * 2 ^ 149 in units of 2 ^ (dropped s + 149), which is the same fraction
long-value : (s : ℕ) → s < 2 ^ 64 → 24 ≤ size s → HasValue (round binary32 false s 1) false (single_of s) 1
unfolding single_of kept dropped
long-value s h l =
    let e = size s - 24 in
    let n = s * 2 ^ 149 in
    let q = closest s (2 ^ e) in
    let k : size (n / 1) - 24 ≡ e + 149 = drops (size (n / 1)) (size s) l (ap size (div-one n) ∙ size-shift s 149 (longer (size s) l)) in
    let is : round binary32 false s 1 ≡ units binary32 false q (e + 149) =
    round_is binary32 false s 1
    ∙ ap (λ (x : ℕ). units binary32 false (closest n (1 * 2 ^ x)) x) k
    ∙ ap (λ (x : ℕ). units binary32 false x (e + 149))
    (closest_same n (1 * 2 ^ (e + 149)) s (2 ^ e) (mul-pos (zero-lt-suc 0) (pow_pos (e + 149))) (pow_pos e) (simp (mul_assoc, mul_comm, mul_left_comm, pow-add, one-mul))) in
    let small : q * 2 ^ (e + 149) < 2 ^ (149 + 128) =
    lt_of_le_of_lt (mul-le-mul_right (2 ^ (e + 149)) (kept-le s))
    (lt_of_le_of_lt (le_of_eq (sym (pow-add 2 24 (e + 149)))) (pow-lt (room (size s) e (size-le s 64 h) refl))) in
    rescale (round binary32 false s 1) false (q * 2 ^ (e + 149)) (2 ^ 149) (q * 2 ^ e) 1 (pow_pos 149)
    (mul_assoc q (2 ^ e) (2 ^ 149) ∙ ap (λ (x : ℕ). q * x) (sym (pow-add 2 e 149)) ∙ sym (mul-one (q * 2 ^ (e + 149))))
    (subst (λ (x : Float). HasValue x false (q * 2 ^ (e + 149)) (2 ^ 149)) (sym is) (units_val binary32 false q (e + 149) small))
  where
    drops : (x z : ℕ) → 24 ≤ z → x ≡ z + 149 → x - 24 ≡ z - 24 + 149
    drops x z h e = omega arith

    longer : (z : ℕ) → 24 ≤ z → 0 < z
    longer z h = omega arith

    room : (z e : ℕ) → z ≤ 64 → e ≡ z - 24 → 24 + (e + 149) < 277
    room z e h p = omega arith

-- a multiple of u is its own nearest
closest-exact : (q u : ℕ) → 0 < u → closest (q * u) u ≡ q
closest-exact q u h =
    ap (λ (x : ℕ). nearest x (compare (q * u % u * 2) u)) (mul-div_cancel q h)
    ∙ ap (λ (x : ℕ). nearest q (compare (x * 2) u)) (mul-mod_left q u)
    ∙ ap (nearest q) (above_zero u h)
  where
    above_zero : (u : ℕ) → 0 < u → compare 0 u ≡ Ordering.lt
    above_zero zero h = absurd (lt_irrefl 0 h)
    above_zero (suc u) h = compare.zero-suc u

-- below 24 digits nothing is dropped
short-is : (s : ℕ) → size s < 24 → single_of s ≡ s
unfolding single_of kept dropped
short-is s h =
    ap (λ (e : ℕ). closest s (2 ^ e) * 2 ^ e) (none (size s) h)
    ∙ mul-one (closest s 1)
    ∙ ap (λ (x : ℕ). closest x 1) (sym (mul-one s))
    ∙ closest-exact s 1 (zero-lt-suc 0)
  where
    none : (z : ℕ) → z < 24 → z - 24 ≡ 0
    none z h = omega arith

-- the law of rounding in: the single nearest to s is worth `single_of s`
pub single-value : (s : ℕ) → s < 2 ^ 64 → HasValue (of_int binary32 (pos s)) false (single_of s) 1
single-value s h = subst (λ (x : Float). HasValue x false (single_of s) 1) (sym (of_int_is s)) (go (dec_le 24 (size s)))
  where
    go : Dec (24 ≤ size s) → HasValue (round binary32 false s 1) false (single_of s) 1
    go (yes l) = long-value s h l
    go (no n) =
        let l : size s < 24 = lt_of_not-le n in
        subst (λ (x : ℕ). HasValue (round binary32 false s 1) false x 1) (sym (short-is s l))
        (round_whole binary32 false s (le_of_lt (lt_of_lt_of_le (size-lt s) (pow_mono (le_of_lt l)))))
