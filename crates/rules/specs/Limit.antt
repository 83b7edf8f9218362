-- "The size limit" of document 01: in lib.Ieee's account of IEEE 754, and its two ends over whole numbers.
use Rattle.std.specs.Prelude.{ℕ, ◌-◌, ◌*◌, ◌/◌, ◌^◌, min, pos, Float}
use Rattle.std.specs.Float.{binary32}
use Rattle.std.specs.Float.Ieee.{size, of_int, mul, to_unsigned}
use Rattle.std.specs.Float.Ieee.Nearest.{closest}

-- "limit(s): round s to the nearest single-precision number, ties to even; multiply by the threshold, rounded once; cut
-- towards zero. Not-a-number and anything below 1 give 0; 2^64 and above give 2^64 - 1."
unfoldable pub limit_of : Float → ℕ → ℕ
limit_of threshold s = to_unsigned 64 (mul binary32 (of_int binary32 (pos s)) threshold)

-- ---- "Rounding in and cutting out are proved over whole numbers; the product is the language's own."

-- a single keeps 24 binary digits: how many low digits of s it drops
unfoldable pub dropped : ℕ → ℕ
dropped s = size s - 24

-- the digits that it keeps: s in units of 2 ^ dropped s, to the nearest whole number, ties to even
unfoldable pub kept : ℕ → ℕ
kept s = closest s (2 ^ dropped s)

-- "round s to the nearest single-precision number, ties to even"
unfoldable pub single_of : ℕ → ℕ
single_of s = kept s * 2 ^ dropped s

-- "cut towards zero. .. 2^64 and above give 2^64 - 1": of the fraction a / c
unfoldable pub cut_of : ℕ → ℕ → ℕ
cut_of a c = min (a / c) (2 ^ 64 - 1)
