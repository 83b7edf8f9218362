-- The limit at the thresholds that are no ordinary ratio, and at size 0.
use Rattle.std.proofs.Common.{◌≡◌, ℕ, ◌-◌, ◌*◌, ◌^◌, ◌<◌, ◌≤◌, Bool, true, false, ℤ, pos, refl, subst, le_antisymm, mul-pos, zero-mul}
use lib.Pow.{le_ones}
use lib.Ieee.{Float, nan, inf, fin, binary32, up, down, unlike, of_int, mul, to_unsigned}
use lib.Ieee.Casts.{to_unsigned-lt}
use lib.Ieee.Fits.{down_pos}
use Rattle.rules.specs.Limit.{limit_of}
use Rattle.size_limit.proofs.Grows.{limit-grows}
use Rattle.size_limit.proofs.Signs.{infinite, finite, size-signed, times-nan, times-negative, times_zero, round-zero}

-- a NaN gives 0
pub limit-nan : (s : ℕ) → limit_of nan s ≡ 0
unfolding limit_of
limit-nan s = times-nan (size-signed s)

-- a negative number gives 0
pub limit-negative : (m : ℕ) (e : ℤ) (s : ℕ) → limit_of (fin true m e) s ≡ 0
unfolding limit_of
limit-negative m e s = times-negative (size-signed s) finite

-- minus infinity gives 0
pub limit-minus-infinity : (s : ℕ) → limit_of (inf true) s ≡ 0
unfolding limit_of
limit-minus-infinity s = times-negative (size-signed s) infinite

-- zero, of either sign, gives 0
pub limit-by-zero : (b : Bool) (e : ℤ) (s : ℕ) → limit_of (fin b 0 e) s ≡ 0
unfolding limit_of
limit-by-zero b e s = times_zero b e (size-signed s)

-- size 0 gives 0 at every threshold, infinity included
pub limit-zero : (threshold : Float) → limit_of threshold 0 ≡ 0
unfolding limit_of of_int mul to_unsigned
limit-zero nan = refl
limit-zero (inf true) = refl
limit-zero (inf false) = refl
limit-zero (fin b m e) = round-zero (unlike false b) (0 * 1 * (m * up e)) (1 * down e) (mul-pos (down_pos (pos 0)) (down_pos e)) (zero-mul (m * up e))

-- infinity gives the largest number at every other size
pub limit-infinity : (s : ℕ) → 0 < s → limit_of (inf false) s ≡ 2 ^ 64 - 1
unfolding limit_of of_int mul to_unsigned
limit-infinity s h = le_antisymm (capped s) (subst (λ (k : ℕ). k ≤ limit_of (inf false) s) at_one (limit-grows (inf false) 1 s h))
  where
    capped : (s : ℕ) → limit_of (inf false) s ≤ 2 ^ 64 - 1
    capped s = le_ones 64 (to_unsigned-lt 64 (mul binary32 (of_int binary32 (pos s)) (inf false)))

    at_one : limit_of (inf false) 1 ≡ 2 ^ 64 - 1
    at_one = refl
