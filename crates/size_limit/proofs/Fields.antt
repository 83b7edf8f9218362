-- The fields of a single from 1 up to 2 ^ 64, and its whole part by them.
use Rattle.std.proofs.Common.{◌≡◌, ℕ, zero, suc, ◌+◌, ◌-◌, ◌*◌, ◌/◌, ◌%◌, ◌^◌, ◌<◌, ◌≤◌, min, Bool, true, false, not, ◌&&◌, ◌||◌, T, eqb, ltb, leb, ℤ, pos, negsuc, sym, ap, ◌∙◌, subst, le_trans, le_of_eq, lt_of_lt_of_le, lt_of_le_of_lt, mul-le-mul_right, mod-lt, mul_assoc, mul_comm, div-lt_iff_lt-mul, mul-lt-mul_of_pos_right, mul-pos, le-div_iff_mul-le, mul-one, div-le_self, mul_right_comm, div-one, mul_left_comm, arith, ltb→lt, pow_pos, pow-add, shl_lt, shl_exact, shr-shr}
use native.Mathlib.Nat.{div-div-eq-div-mul}
use lib.Bits.{bit_and, bit_or, and_mask, or_shifted_r}
use lib.Pow.{shl-shr}
use lib.Ieee.{Float, nan, inf, fin, binary32, up, down, size, fits, is_nan, to_bits, le, lt, eq, to_unsigned}
use lib.Ieee.Digits.{back, size-le}
use lib.Ieee.Fits.{and_l, and_r, kept-lt}
use lib.Ieee.Nearest.{div_same}
use lib.Ieee.Positive.{num, den, positive, den_pos, between, le→cross, own_value}
use Rattle.rules.specs.Limit.{cut_of}
use Rattle.rules.proofs.Cutting.{cut-value}
use Rattle.rules.proofs.Digits.{leads-24, size-gt}
use Rattle.size_limit.proofs.Pattern.{in_units, no_nan, pattern-of}
use Rattle.size_limit.proofs.Tests.{one, top}

lt→le : (x y : Float) → T (lt x y) → T (le x y)
unfolding le
lt→le x y h = or_l (lt x y) (eq x y) h
  where
    or_l : (a b : Bool) → T a → T (a || b)
    or_l true b t = tt
    or_l false b t = absurd t

-- below 2 ^ 64, as a fraction
num-lt : (x : Float) → T (positive x) → T (lt x top) → num x < 2 ^ 64 * den x
unfolding lt
num-lt nan p h = absurd p
num-lt (inf s) p h = absurd p
num-lt (fin true m e) p h = absurd p
num-lt (fin false m e) p h = subst (λ (k : ℕ). k < 2 ^ 64 * down e) (mul-one (m * up e)) (ltb→lt (m * up e * 1) (1 * 2 ^ 64 * down e) h)

-- below 2 ^ 64 nothing is capped
whole_part : (x : Float) → T (positive x) → num x < 2 ^ 64 * den x → to_unsigned 64 x ≡ num x / den x
unfolding cut_of
whole_part x p h = cut-value x (num x) (den x) (den_pos x) (own_value x p) ∙ uncapped (num x / den x) (2 ^ 64) ((div-lt_iff_lt-mul (den_pos x)).1 h)
  where
    uncapped : (a c : ℕ) → a < c → min a (c - 1) ≡ a
    uncapped a c h = omega arith

-- the whole part of the value in units of 2 ^ -149
units-down : (x : Float) → in_units x / 2 ^ 149 ≡ num x / den x
units-down x =
    div-div-eq-div-mul (num x * 2 ^ 149) (den x) (2 ^ 149)
    ∙ div_same (num x * 2 ^ 149) (den x * 2 ^ 149) (num x) (den x) (mul-pos (den_pos x) (pow_pos 149)) (den_pos x) (simp (mul_assoc, mul_comm, mul_left_comm))

-- a single has 24 digits
digits-few : (m : ℕ) (e : ℤ) → T (fits binary32 (fin false (suc m) e)) → suc m < 2 ^ 24
unfolding fits
digits-few m e f =
    let A = eqb (suc m % 2) 1 in
    let B = ltb (suc m) (2 ^ 24) in
    let C = leb (down e) (2 ^ 149) in
    let D = ltb (suc m * up e) (2 ^ 128 * down e) in
    ltb→lt (suc m) (2 ^ 24) (and_r A B (and_l (A && B) C (and_l (A && B && C) D f)))

-- where its pattern drops 150 digits or more, they are zeros
exact : (x : Float) → T (positive x) → T (fits binary32 x) → 150 ≤ size (in_units x) - 24 → in_units x / 2 ^ (size (in_units x) - 24) * 2 ^ (size (in_units x) - 24) ≡ in_units x
exact nan p f h = absurd p
exact (inf s) p f h = absurd p
exact (fin true m e) p f h = absurd p
exact (fin false zero e) p f h = absurd p
exact (fin false (suc m) (pos a)) p f h =
    let n = suc m * 2 ^ a * 2 ^ 149 / 1 in
    let k = size n - 24 in
    let is : n ≡ suc m * 2 ^ (a + 149) = div-one (suc m * 2 ^ a * 2 ^ 149) ∙ mul_assoc (suc m) (2 ^ a) (2 ^ 149) ∙ ap (λ (z : ℕ). suc m * z) (sym (pow-add 2 a 149)) in
    let k-le : k ≤ a + 149 = fewer (size n) (a + 149) (size-le n (24 + (a + 149)) (subst (λ (z : ℕ). z < 2 ^ (24 + (a + 149))) (sym is) (shl_lt 24 (a + 149) (digits-few m (pos a) f)))) in
    let cut : n ≡ suc m * 2 ^ (a + 149 - k) * 2 ^ k = is ∙ ap (λ (z : ℕ). suc m * 2 ^ z) (sym (back (a + 149) k k-le)) ∙ ap (λ (z : ℕ). suc m * z) (pow-add 2 (a + 149 - k) k) ∙ sym (mul_assoc (suc m) (2 ^ (a + 149 - k)) (2 ^ k)) in
    ap (λ (z : ℕ). z / 2 ^ k * 2 ^ k) cut ∙ ap (λ (z : ℕ). z * 2 ^ k) (shl-shr (suc m * 2 ^ (a + 149 - k)) k) ∙ sym cut
  where
    fewer : (z l : ℕ) → z ≤ 24 + l → z - 24 ≤ l
    fewer z l h = omega arith
exact (fin false (suc m) (negsuc a)) p f h =
    let n = suc m * 1 * 2 ^ 149 / 2 ^ suc a in
    absurd (too_many (size n) (size-le n (24 + 149)
    (lt_of_le_of_lt (div-le_self (suc m * 1 * 2 ^ 149) (2 ^ suc a)) (subst (λ (z : ℕ). z * 2 ^ 149 < 2 ^ (24 + 149)) (sym (mul-one (suc m))) (shl_lt 24 149 (digits-few m (negsuc a) f))))) h)
  where
    too_many : (z : ℕ) → z ≤ 24 + 149 → 150 ≤ z - 24 → ⊥
    too_many z a b = omega arith

-- ---- what the proof of `whole_part` cites
module _ (x : Float) (F : T (fits binary32 x)) (lo : T (le one x)) (hi : T (lt x top)) where
  -- it is above zero and finite
  P : T (positive x)
  P = between one x top tt tt lo (lt→le x top hi)

  pub is_no_nan : T (not (is_nan x))
  is_no_nan = no_nan x P

  -- the pattern, the value in units, how many digits of it are dropped, and those that are kept
  abbrev b : ℕ
  b = to_bits binary32 x

  abbrev n : ℕ
  n = in_units x

  abbrev k : ℕ
  k = size n - 24

  abbrev q : ℕ
  q = n / 2 ^ k

  -- the value is of 150 to 213 digits in units
  n-ge : 2 ^ 149 ≤ n
  n-ge = (le-div_iff_mul-le (den_pos x)).1 (le_trans (le_of_eq (mul_comm (2 ^ 149) (den x))) (mul-le-mul_right (2 ^ 149) (tidy (den x) (num x) (le→cross one x tt P lo))))
    where
      tidy : (d n : ℕ) → 1 * d ≤ n * 1 → d ≤ n
      tidy d n h = omega arith

  n-lt : n < 2 ^ (64 + 149)
  n-lt = (div-lt_iff_lt-mul (den_pos x)).1 (lt_of_lt_of_le (mul-lt-mul_of_pos_right (num-lt x P hi) (pow_pos 149)) (le_of_eq (mul_right_comm (2 ^ 64) (den x) (2 ^ 149))))

  k-in : (126 ≤ k) × (k ≤ 189)
  k-in = go (size n) (size-gt n 149 n-ge) (size-le n 213 n-lt)
    where
      go : (z : ℕ) → 149 < z → z ≤ 213 → (126 ≤ z - 24) × (z - 24 ≤ 189)
      go z g h = omega arith

  -- 24 of them are kept
  q-lt : q < 2 ^ 24
  q-lt = kept-lt 24 n

  q-ge : 2 ^ 23 ≤ q
  q-ge = leads-24 n (go (size n) (size-gt n 149 n-ge))
    where
      go : (z : ℕ) → 149 < z → 24 ≤ z
      go z h = omega arith

  -- the pattern is the field k, and the digits, whose leading one counts it up by one
  b-is : b ≡ k * 2 ^ 23 + q
  b-is = pattern-of x P

  field : b / 2 ^ 23 ≡ k + 1
  field = go b k q b-is q-ge q-lt
    where
      go : (b k q : ℕ) → b ≡ k * 2 ^ 23 + q → 2 ^ 23 ≤ q → q < 2 ^ 24 → b / 2 ^ 23 ≡ k + 1
      go b k q e l h = omega arith

  -- the exponent's field
  pub exponent : (127 ≤ b / 2 ^ 23) × (b / 2 ^ 23 ≤ 190)
  exponent = omega (arith, field, k-in)

  digits_are : bit_or (bit_and b (2 ^ 23 - 1)) (2 ^ 23) ≡ q
  digits_are = ap (λ (y : ℕ). bit_or y (2 ^ 23)) (and_mask b 23) ∙ or_shifted_r 1 23 (b % 2 ^ 23) (mod-lt b (pow_pos 23)) ∙ go b k q b-is q-ge q-lt
    where
      go : (b k q : ℕ) → b ≡ k * 2 ^ 23 + q → 2 ^ 23 ≤ q → q < 2 ^ 24 → 2 ^ 23 + b % 2 ^ 23 ≡ q
      go b k q e l h = omega arith

  -- the other field, with the leading one that a pattern leaves out
  pub digits : bit_or (bit_and b (2 ^ 23 - 1)) (2 ^ 23) < 2 ^ 24
  digits = subst (λ (y : ℕ). y < 2 ^ 24) (sym digits_are) q-lt

  is : n / 2 ^ 149 ≡ to_unsigned 64 x
  is = units-down x ∙ sym (whole_part x P (num-lt x P hi))

  -- the digits that lie below 1 are cut off
  pub cut_down : b / 2 ^ 23 ≤ 150 → bit_or (bit_and b (2 ^ 23 - 1)) (2 ^ 23) / 2 ^ (150 - b / 2 ^ 23) ≡ to_unsigned 64 x
  cut_down h =
      ap (λ (y : ℕ). y / 2 ^ (150 - b / 2 ^ 23)) digits_are
      ∙ shr-shr n k (150 - b / 2 ^ 23)
      ∙ ap (λ (y : ℕ). n / 2 ^ y) (go (b / 2 ^ 23) k field h)
      ∙ is
    where
      go : (e k : ℕ) → e ≡ k + 1 → e ≤ 150 → k + (150 - e) ≡ 149
      go e k p h = omega arith

  -- or zeros are put after them
  pub cut_up : 150 < b / 2 ^ 23 → bit_or (bit_and b (2 ^ 23 - 1)) (2 ^ 23) * 2 ^ (b / 2 ^ 23 - 150) % 2 ^ 64 ≡ to_unsigned 64 x
  cut_up h =
      let j = b / 2 ^ 23 - 150 in
      ap (λ (y : ℕ). y * 2 ^ j % 2 ^ 64) digits_are
      ∙ shl_exact 24 j 64 q-lt (omega (arith, exponent))
      ∙ sym (shl-shr (q * 2 ^ j) 149)
      ∙ ap (λ (y : ℕ). y / 2 ^ 149) (mul_assoc q (2 ^ j) (2 ^ 149) ∙ ap (λ (y : ℕ). q * y) (sym (pow-add 2 j 149)) ∙ ap (λ (y : ℕ). q * 2 ^ y) (go (b / 2 ^ 23) k field h) ∙ exact x P F (many (b / 2 ^ 23) k field h))
      ∙ is
    where
      many : (e k : ℕ) → e ≡ k + 1 → 150 < e → 150 ≤ k
      many e k p h = omega arith

      go : (e k : ℕ) → e ≡ k + 1 → 150 < e → e - 150 + 149 ≡ k
      go e k p h = omega arith
