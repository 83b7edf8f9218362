-- `numbers_distinct` meets its contract: the invariant is that the rows left are distinct exactly if all are (`Left`).
use mathlib.Core.Path.{sym, ◌∙◌}
use native.Mathlib.Omega.{arith}
use Rattle.rules.specs.Lists.{distinct}
use Rattle.rows.proofs.Scans.{scan-starts, scan-next, scan-stops, scan-ends}
use Rattle.rows.proofs.Width.{row_within}
use Rattle.rows.proofs.shape.numbers_distinct.Goals as goal

pub loop-i-init : goal.loop-i-init
loop-i-init c = scan-starts

pub overflow_mul-w : goal.overflow_mul-w
overflow_mul-w c = omega (arith, row_within c.args.w c.loop-i.i c.args.n c.requires.0 c.loop-i-test.true)

pub offset_bounds-s-w : goal.offset_bounds-s-w
offset_bounds-s-w c = omega (arith, row_within c.args.w c.loop-i.i c.args.n c.requires.0 c.loop-i-test.true)

pub bounds-s-w : goal.bounds-s-w
bounds-s-w c = omega (arith, row_within c.args.w c.loop-i.i c.args.n c.requires.0 c.loop-i-test.true)

pub returns-then-number_from : goal.returns-then-number_from
unfolding distinct
returns-then-number_from c = scan-stops c.loop-i.invariant c.loop-i-test.true (rw (sym c.number_from.ensures ∙ c.if-number_from.true))

pub loop-i-preserved : goal.loop-i-preserved
unfolding distinct
loop-i-preserved c = scan-next c.loop-i.invariant c.loop-i-test.true (rw (sym c.number_from.ensures ∙ c.if-number_from.false))

pub returns : goal.returns
unfolding distinct
returns c = scan-ends c.loop-i.invariant c.loop-i-test.false
