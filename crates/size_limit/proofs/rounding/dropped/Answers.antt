-- `dropped` holds since the digits of s are those below the zeros that a number of 64 digits leads with.
use Rattle.std.proofs.Common.{◌≡◌, ℕ, ◌+◌, ◌<◌, ◌^◌, arith, inl, inr}
use native.Mathlib.Nat.{eq-zero-or-pos}
use lib.Count.{count_leading_zeros, leading_top, leading_of_zero}
use lib.Ieee.{size}
use lib.Ieee.Digits.{size-le}
use Rattle.rules.specs.Limit.{dropped}
use Rattle.rules.proofs.Digits.{size_exact}
use Rattle.size_limit.proofs.rounding.dropped.Goals as goal

digits : (s : ℕ) → s < 2 ^ 64 → count_leading_zeros 64 s + size s ≡ 64
digits s fits = elim (eq-zero-or-pos s) [
  | inl none ↦ rw none (omega (arith, leading_of_zero 64, size-le 0 0 (omega arith)))
  | inr some ↦ let t = leading_top 64 s some fits in omega (arith, t.1, size_exact s t.0 t.2 t.3)
]

pub returns : goal.returns
unfolding dropped
returns c = omega (arith, digits c.args.s c.ranges.s.fits)
