-- The two ends of the limit: what IEEE 754 says of them, and what that is over whole numbers.
use Rattle.std.specs.Prelude.{◌≡◌, ℕ, ◌<◌, false, pos, Float}
use Rattle.std.specs.Float.{binary32}
use Rattle.std.specs.Float.Ieee.{of_int, to_unsigned}
use Rattle.std.specs.Float.Ieee.Exact.{HasValue}
use Rattle.rules.specs.Limit.{single_of, cut_of}

-- x is the single nearest to s, and is worth `single_of s`
pub record RoundedIn (s : ℕ) (x : Float) : Type 0 where
  pub is : x ≡ of_int binary32 (pos s)
  pub worth : HasValue x false (single_of s) 1

-- n is x cut towards zero: of an x that is worth a / c it is `cut_of a c`
pub record CutOut (x : Float) (n : ℕ) : Type 0 where
  pub is : n ≡ to_unsigned 64 x
  pub whole : (a c : ℕ) → 0 < c → HasValue x false a c → n ≡ cut_of a c
