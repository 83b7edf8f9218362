-- `nearest_single` holds since a size below 2 ^ 24 is a single as it stands, and since of any other the sum of field and
-- kept digits is the pattern of the nearest single.
use Rattle.std.proofs.Common.{◌≡◌, ℕ, ◌+◌, ◌*◌, ◌%◌, ◌^◌, ◌<◌, ◌≤◌, false, pos, sym, refl, subst, le_of_lt, arith}
use lib.Ieee.{Float, binary32, size, of_bits, of_int}
use lib.Ieee.Exact.{HasValue}
use Rattle.rules.specs.Limit.{dropped, kept, single_of}
use Rattle.rules.proofs.Digits.{size-gt}
use Rattle.rules.proofs.Rounding.{dropped-le, kept-le, single-value}
use Rattle.size_limit.specs.Ends.{RoundedIn}
use Rattle.size_limit.proofs.Pattern.{pattern, pattern-no-nan}
use Rattle.size_limit.proofs.rounding.nearest_single.Goals as goal

-- what is the nearest single is worth what it has to be
rounded-in : (s : ℕ) (x : Float) → s < 2 ^ 64 → x ≡ of_int binary32 (pos s) → RoundedIn s x
rounded-in s x h e = record { is = e; worth = subst (λ (y : Float). HasValue y false (single_of s) 1) (sym e) (single-value s h) }

-- once both calls have returned: s is not below 2 ^ 24, it drops e digits and keeps q
module _ (s e q : ℕ) (high : 2 ^ 24 ≤ s) (fits : s < 2 ^ 64) (drops : e ≡ dropped s) (keeps : q ≡ kept s) where
  long : 24 ≤ size s
  long = le_of_lt (size-gt s 24 high)

  few : e ≤ 40
  few = omega (arith, drops, dropped-le s fits)

  short : q ≤ 2 ^ 24
  short = omega (arith, keeps, kept-le s)

pub returns-then-s-lt-TWO_TO_24 : goal.returns-then-s-lt-TWO_TO_24
returns-then-s-lt-TWO_TO_24 c = rounded-in c.args.s (of_int binary32 (pos c.args.s)) c.ranges.s.fits refl

pub overflow_add-result : goal.overflow_add-result
overflow_add-result c = omega (arith, few c.args.s c.dropped-e.result c.kept-q.result c.if-s-lt-TWO_TO_24.false c.ranges.s.fits c.dropped-e.ensures c.kept-q.ensures)

pub overflow_cast-result : goal.overflow_cast-result
overflow_cast-result c = omega (arith, short c.args.s c.dropped-e.result c.kept-q.result c.if-s-lt-TWO_TO_24.false c.ranges.s.fits c.dropped-e.ensures c.kept-q.ensures)

pub overflow_add-result-2 : goal.overflow_add-result-2
overflow_add-result-2 c = omega (arith, few c.args.s c.dropped-e.result c.kept-q.result c.if-s-lt-TWO_TO_24.false c.ranges.s.fits c.dropped-e.ensures c.kept-q.ensures, short c.args.s c.dropped-e.result c.kept-q.result c.if-s-lt-TWO_TO_24.false c.ranges.s.fits c.dropped-e.ensures c.kept-q.ensures)

pub float_from_bits-result : goal.float_from_bits-result
float_from_bits-result c = pattern-no-nan c.args.s c.dropped-e.result c.kept-q.result c.ranges.s.fits (long c.args.s c.dropped-e.result c.kept-q.result c.if-s-lt-TWO_TO_24.false c.ranges.s.fits c.dropped-e.ensures c.kept-q.ensures) c.dropped-e.ensures c.kept-q.ensures

pub returns : goal.returns
returns c =
    rounded-in c.args.s (of_bits binary32 ((c.dropped-e.result + 149) * 2 ^ 23 % 2 ^ 32 + c.kept-q.result)) c.ranges.s.fits
    (pattern c.args.s c.dropped-e.result c.kept-q.result c.ranges.s.fits (long c.args.s c.dropped-e.result c.kept-q.result c.if-s-lt-TWO_TO_24.false c.ranges.s.fits c.dropped-e.ensures c.kept-q.ensures) c.dropped-e.ensures c.kept-q.ensures)
