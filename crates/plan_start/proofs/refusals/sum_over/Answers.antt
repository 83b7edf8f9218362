-- `sum_over` meets its contract: the invariant is that the sum so far, which fits, and the sum of the sizes left are the sum of all (`Summed`).
use borrow.Author.Rules.{rules}
use mathlib.Core.Path.{refl}
use native.Mathlib.Omega.{arith}
use Rattle.rows.proofs.Sums.{sum-starts, sum-next}
use Rattle.plan_start.proofs.SizeSums.{sum-is-over, sum-is-not}
use Rattle.plan_start.proofs.refusals.sum_over.Goals as goal

pub loop-size-init : goal.loop-size-init
loop-size-init c = (search rules, sum-starts _ _)

pub returns-in-None : goal.returns-in-None
returns-in-None c = sum-is-over _ _ _ c.loop-size-test.true c.loop-size.invariant.1 (omega (arith, c.in-None.ensures))

pub loop-size-preserved : goal.loop-size-preserved
loop-size-preserved c = (search rules, rw c.in-Some.ensures.1 (sum-next _ _ _ _ _ c.loop-size-test.true refl c.loop-size.invariant.1))

pub returns : goal.returns
returns c = sum-is-not _ _ _ c.loop-size-test.false c.loop-size.invariant.0 c.loop-size.invariant.1
