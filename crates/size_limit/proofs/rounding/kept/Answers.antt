-- `kept` holds since its three ways out are those of `closest`: twice the remainder is under, over or at the unit.
use Rattle.std.proofs.Common.{◌≡◌, ℕ, ◌-◌, ◌*◌, ◌%◌, ◌^◌, ◌≤◌, ap, ◌∙◌, Fits, w64, arith, pow_pos}
use lib.Bits.{bit_and}
use lib.Ieee.Nearest.{closest}
use Rattle.rules.specs.Limit.{dropped, kept}
use Rattle.rules.proofs.Nearest.{under, over, tie as even}
use Rattle.rules.proofs.Rounding.{dropped-le}
use Rattle.size_limit.proofs.Shifts.{unit, masked, small}
use Rattle.size_limit.proofs.rounding.kept.Goals as goal

-- s, and how many digits it drops
module _ (s e : ℕ) (drops : e ≡ dropped s) (fits : Fits w64 s) where
  few : e ≤ 40
  few = omega (arith, drops, dropped-le s fits.fits)

  -- the machine's numbers are the law's
  unit-is : 1 * 2 ^ e % 2 ^ 64 ≡ 2 ^ e
  unit-is = unit s e few

  rest-is : bit_and s (1 * 2 ^ e % 2 ^ 64 - 1) ≡ s % 2 ^ e
  rest-is = masked s e few

  is : closest s (2 ^ e) ≡ kept s
  unfolding kept
  is = ap (λ (x : ℕ). closest s (2 ^ x)) drops

pub overflow_shl-unit : goal.overflow_shl-unit
overflow_shl-unit c = omega (arith, few c.args.s c.args.e c.requires c.ranges.s)

pub overflow_shr-q : goal.overflow_shr-q
overflow_shr-q c = omega (arith, few c.args.s c.args.e c.requires c.ranges.s)

pub overflow_sub-twice : goal.overflow_sub-twice
overflow_sub-twice c = rw (unit-is c.args.s c.args.e c.requires c.ranges.s) (pow_pos c.args.e)

pub overflow_mul-twice : goal.overflow_mul-twice
overflow_mul-twice c = omega (arith, rest-is c.args.s c.args.e c.requires c.ranges.s, small c.args.s c.args.e (few c.args.s c.args.e c.requires c.ranges.s))

pub returns-then-twice-unit : goal.returns-then-twice-unit
returns-then-twice-unit c = under c.args.s (2 ^ c.args.e) (omega (arith, c.if-twice-unit.true, rest-is c.args.s c.args.e c.requires c.ranges.s, unit-is c.args.s c.args.e c.requires c.ranges.s)) ∙ is c.args.s c.args.e c.requires c.ranges.s

pub returns-then-twice-unit-2 : goal.returns-then-twice-unit-2
returns-then-twice-unit-2 c = over c.args.s (2 ^ c.args.e) (omega (arith, c.if-twice-unit-2.true, rest-is c.args.s c.args.e c.requires c.ranges.s, unit-is c.args.s c.args.e c.requires c.ranges.s)) ∙ is c.args.s c.args.e c.requires c.ranges.s

pub returns : goal.returns
returns c = even c.args.s (2 ^ c.args.e) (omega (arith, c.if-twice-unit.false, c.if-twice-unit-2.false, rest-is c.args.s c.args.e c.requires c.ranges.s, unit-is c.args.s c.args.e c.requires c.ranges.s)) ∙ is c.args.s c.args.e c.requires c.ranges.s
