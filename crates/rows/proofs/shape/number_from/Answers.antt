-- `number_from` meets its contract: the invariant is that the test of the rows left is the test of all (`Left`).
use borrow.Author.Tests.{eq-eqb, ne_eqb}
use native.Mathlib.Omega.{arith}
use Rattle.rules.specs.Lists.{any}
use Rattle.rows.proofs.Scans.{scan-starts-at, scan-next, scan-stops, scan-ends}
use Rattle.rows.proofs.Width.{row_within}
use Rattle.rows.proofs.shape.number_from.Goals as goal

pub loop-i-init : goal.loop-i-init
loop-i-init c = scan-starts-at

pub overflow_mul-w : goal.overflow_mul-w
overflow_mul-w c = omega (arith, row_within c.args.w c.loop-i.i c.args.n c.requires.0 c.loop-i-test.true)

pub offset_bounds-s-w : goal.offset_bounds-s-w
offset_bounds-s-w c = omega (arith, row_within c.args.w c.loop-i.i c.args.n c.requires.0 c.loop-i-test.true)

pub bounds-s-w : goal.bounds-s-w
bounds-s-w c = omega (arith, row_within c.args.w c.loop-i.i c.args.n c.requires.0 c.loop-i-test.true)

pub returns-then-x-s : goal.returns-then-x-s
unfolding any
returns-then-x-s c = scan-stops c.loop-i.invariant c.loop-i-test.true (rw (eq-eqb _ _ c.if-x-s.true))

pub loop-i-preserved : goal.loop-i-preserved
unfolding any
loop-i-preserved c = scan-next c.loop-i.invariant c.loop-i-test.true (rw (ne_eqb _ _ c.if-x-s.false))

pub returns : goal.returns
unfolding any
returns c = scan-ends c.loop-i.invariant c.loop-i-test.false
