-- The sign of a rounded number, and the products that are cut to 0: with a NaN, with a negative number, with a zero.
use Rattle.std.proofs.Common.{◌≡◌, ℕ, zero, suc, ◌+◌, ◌*◌, ◌^◌, ◌<◌, Bool, true, false, cond, eqb, ltb, ℤ, pos, sym, refl, ap, ◌∙◌, subst, zero-lt-suc, mul-pos, mul-zero, zero-mul, mul-one}
use lib.Ieee.{Float, nan, inf, fin, binary32, up, down, unlike, odd, units, round, of_int, mul, to_unsigned}
use lib.Ieee.Fits.{down_pos, round_is}
use lib.Ieee.Scale.{round_same}
use Rattle.rules.proofs.Rounding.{of_int_is}

-- a number, finite or not, with the sign s
pub data Signed : Bool → Float → Type 0 where
  infinite : {s : Bool} → Signed s (inf s)
  finite : {s : Bool} {m : ℕ} {e : ℤ} → Signed s (fin s m e)

-- ---- rounding keeps the sign that it is given
odd-signed : (s : Bool) (q k : ℕ) → Signed s (odd 25 s q k 149)
unfolding odd
odd-signed s zero k = finite
odd-signed s (suc q) k = finite

units-signed : (s : Bool) (q k : ℕ) → Signed s (units binary32 s q k)
unfolding units
units-signed s q k = go (ltb (q * 2 ^ k) (2 ^ (149 + 128)))
  where
    go : (b : Bool) → Signed s (cond b (odd 25 s q k 149) (inf s))
    go true = odd-signed s q k
    go false = infinite

-- whatever the fraction
pub round-signed : (s : Bool) (a c : ℕ) → Signed s (round binary32 s a c)
round-signed s a c = subst (λ (x : Float). Signed s x) (sym (round_is binary32 s a c)) (units-signed s _ _)

-- a size has no minus sign
pub size-signed : (n : ℕ) → Signed false (of_int binary32 (pos n))
size-signed n = subst (λ (x : Float). Signed false x) (sym (of_int_is n)) (round-signed false n 1)

-- ---- products that are cut to 0
-- either of the two that an infinite factor gives
nan-or-negative : (b : Bool) → to_unsigned 64 (cond b nan (inf true)) ≡ 0
unfolding to_unsigned
nan-or-negative true = refl
nan-or-negative false = refl

-- a negative number
negative_cut : {x : Float} → Signed true x → to_unsigned 64 x ≡ 0
unfolding to_unsigned
negative_cut infinite = refl
negative_cut finite = refl

-- a NaN as a factor
pub times-nan : {x : Float} → Signed false x → to_unsigned 64 (mul binary32 x nan) ≡ 0
unfolding mul to_unsigned
times-nan infinite = refl
times-nan finite = refl

-- a negative factor
pub times-negative : {x t : Float} → Signed false x → Signed true t → to_unsigned 64 (mul binary32 x t) ≡ 0
unfolding mul to_unsigned
times-negative infinite infinite = refl
times-negative infinite (finite {m = n}) = nan-or-negative (eqb n 0)
times-negative (finite {m = m}) infinite = nan-or-negative (eqb m 0)
times-negative (finite {m = m} {e = e}) (finite {m = n} {e = d}) = negative_cut (round-signed true (m * up e * (n * up d)) (down e * down d))

-- zero, rounded
nothing : (s : Bool) → to_unsigned 64 (round binary32 s 0 1) ≡ 0
unfolding round to_unsigned
nothing true = refl
nothing false = refl

-- a fraction that is 0
pub round-zero : (s : Bool) (a c : ℕ) → 0 < c → a ≡ 0 → to_unsigned 64 (round binary32 s a c) ≡ 0
round-zero s a c C z = ap (to_unsigned 64) (round_same binary32 s a c 0 1 C (zero-lt-suc 0) (mul-one a ∙ z ∙ sym (zero-mul c))) ∙ nothing s

-- a product in which a factor is 0
pub product-zero : (a k u : ℕ) → k ≡ 0 → a * (k * u) ≡ 0
product-zero a k u z = ap (λ (y : ℕ). a * (y * u)) z ∙ ap (λ (y : ℕ). a * y) (zero-mul u) ∙ mul-zero a

-- a zero as a factor
pub times_zero : {x : Float} (s : Bool) (e : ℤ) → Signed false x → to_unsigned 64 (mul binary32 x (fin s 0 e)) ≡ 0
unfolding mul to_unsigned
times_zero s e infinite = refl
times_zero s e (finite {m = m} {e = d}) =
    round-zero (unlike false s) (m * up d * (0 * up e)) (down d * down e) (mul-pos (down_pos d) (down_pos e)) (product-zero (m * up d) 0 (up e) refl)
