-- Bit patterns of singles: of a number above zero, and of the single nearest to a size of 24 digits or more, where the
-- exponent's field and the kept digits are added.
use Rattle.std.proofs.Common.{◌≡◌, ℕ, ◌+◌, ◌-◌, ◌*◌, ◌/◌, ◌%◌, ◌^◌, ◌<◌, ◌≤◌, Bool, true, false, not, T, ◌⊎◌, pos, sym, ap, ◌∙◌, subst, inl, inr, lt_of_lt_of_le, zero-lt-suc, mul_assoc, eq-or-lt_of_le, mul-pos, zero-add, mul-one, mul_right_comm, mul-div_cancel, arith, lit<, lit≤, pow_pos, pow-add}
use lib.Pow.{shl-shr}
use lib.Ieee.{Float, nan, inf, fin, binary32, size, of_int, to_bits, of_bits, is_nan, nan_bits}
use lib.Ieee.Fits.{of_int-fits}
use lib.Ieee.Exact.{HasValue}
use lib.Ieee.Positive.{num, den, positive, den_pos, positive_of_value, value→cross}
use lib.Ieee.Bits.{of_bits-to_bits, nan_bits_is}
use Rattle.rules.specs.Limit.{dropped, kept, single_of}
use Rattle.rules.proofs.Digits.{carry-24, size_exact, size-shift}
use Rattle.rules.proofs.Rounding.{dropped-le, kept-ge, kept-le, single-value}

-- ---- of any number above zero
-- the number in units of 2 ^ -149
abbrev pub in_units : Float → ℕ
in_units x = num x * 2 ^ 149 / den x

-- n units as a pattern: how many digits are dropped, and those that are kept
abbrev pub laid : ℕ → ℕ
laid n = (size n - 24) * 2 ^ 23 + n / 2 ^ (size n - 24)

-- how to_bits lays them
pub pattern-of : (x : Float) → T (positive x) → to_bits binary32 x ≡ laid (in_units x)
unfolding to_bits
pattern-of nan p = absurd p
pattern-of (inf s) p = absurd p
pattern-of (fin true m e) p = absurd p
pattern-of (fin false m e) p =
    let n = in_units (fin false m e) in
    ap (λ (y : ℕ). y + n / 2 ^ (size n - 24)) (zero-add ((size n - 24) * 2 ^ 23))

-- a number is no NaN
pub no_nan : (x : Float) → T (positive x) → T (not (is_nan x))
unfolding is_nan
no_nan nan p = absurd p
no_nan (inf s) p = tt
no_nan (fin s m e) p = tt

-- ---- of q * 2 ^ e, where q has 24 digits
-- 24 of its digits are kept, and e + 149 dropped
summed : (q e : ℕ) → 2 ^ 23 ≤ q → q < 2 ^ 24 → laid (q * 2 ^ e * 2 ^ 149) ≡ (e + 149) * 2 ^ 23 + q
summed q e lo hi =
    ap laid (mul_assoc q (2 ^ e) (2 ^ 149) ∙ ap (λ (x : ℕ). q * x) (sym (pow-add 2 e 149)))
    ∙ ap (λ (k : ℕ). k * 2 ^ 23 + q * 2 ^ (e + 149) / 2 ^ k) (drop24 (size (q * 2 ^ (e + 149))) (size-shift q (e + 149) (subst (λ (x : ℕ). 0 < x) (sym long) (zero-lt-suc 23)) ∙ ap (λ (x : ℕ). x + (e + 149)) long))
    ∙ ap (λ (x : ℕ). (e + 149) * 2 ^ 23 + x) (shl-shr q (e + 149))
  where
    long : size q ≡ 24
    long = size_exact q 23 lo hi

    drop24 : (z : ℕ) → z ≡ 24 + (e + 149) → z - 24 ≡ e + 149
    drop24 z h = omega arith

-- the same sum where the rounding carried, and q is 2 ^ 24
summed-or-carried : (q e : ℕ) → 2 ^ 23 ≤ q → q ≤ 2 ^ 24 → laid (q * 2 ^ e * 2 ^ 149) ≡ (e + 149) * 2 ^ 23 + q
summed-or-carried q e lo hi = go (eq-or-lt_of_le hi)
  where
    same : q ≡ 2 ^ 24 → (e + 1 + 149) * 2 ^ 23 + 2 ^ 23 ≡ (e + 149) * 2 ^ 23 + q
    same p = omega arith

    go : (q ≡ 2 ^ 24) ⊎ (q < 2 ^ 24) → laid (q * 2 ^ e * 2 ^ 149) ≡ (e + 149) * 2 ^ 23 + q
    go (inl p) = ap (λ (n : ℕ). laid (n * 2 ^ 149)) (carry-24 q e p) ∙ summed (2 ^ 23) (e + 1) (lit≤ tt) (lit< tt) ∙ same p
    go (inr l) = summed q e lo l

-- ---- of the single nearest to s
-- a whole number in units
units_of : (x : Float) (a : ℕ) → HasValue x false a 1 → in_units x ≡ a * 2 ^ 149
units_of x a v =
    ap (λ (y : ℕ). y * 2 ^ 149 / den x) (sym (mul-one (num x)) ∙ value→cross x a 1 v)
    ∙ ap (λ (y : ℕ). y / den x) (mul_right_comm a (den x) (2 ^ 149))
    ∙ mul-div_cancel (a * 2 ^ 149) (den_pos x)

-- the value, by its digits
value : (s : ℕ) → s < 2 ^ 64 → HasValue (of_int binary32 (pos s)) false (kept s * 2 ^ dropped s) 1
unfolding single_of
value s h = single-value s h

module _ (s e q : ℕ) (h : s < 2 ^ 64) (l : 24 ≤ size s) (d : e ≡ dropped s) (k : q ≡ kept s) where
  abbrev x : Float
  x = of_int binary32 (pos s)

  -- the nearest single is above zero
  above : T (positive x)
  above = positive_of_value x (kept s * 2 ^ dropped s) 1 (value s h) (mul-pos (lt_of_lt_of_le (pow_pos 23) (kept-ge s l)) (pow_pos (dropped s)))

  -- the number that the machine puts together: no bit of it is lost
  abbrev bits : ℕ
  bits = (e + 149) * 2 ^ 23 % 2 ^ 32 + q

  bits_are : to_bits binary32 x ≡ bits
  bits_are =
      pattern-of x above
      ∙ ap laid (units_of x (kept s * 2 ^ dropped s) (value s h))
      ∙ summed-or-carried (kept s) (dropped s) (kept-ge s l) (kept-le s)
      ∙ omega (arith, dropped-le s h, d, k)

  -- it is the pattern of the nearest single
  pub pattern : of_bits binary32 bits ≡ x
  pattern = ap (of_bits binary32) (sym bits_are) ∙ of_bits-to_bits binary32 x (of_int-fits binary32 (pos s))

  -- and of no NaN
  pub pattern-no-nan : T (not (nan_bits binary32 bits))
  pattern-no-nan = subst (λ (b : Bool). T (not b)) (sym (nan_bits_is binary32 bits ∙ ap is_nan pattern)) (no_nan x above)
