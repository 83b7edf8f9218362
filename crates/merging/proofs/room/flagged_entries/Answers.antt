-- `flagged_entries` meets its contract: the invariant is that the sum so far and the sum of the jobs left are the sum of all (`Summed`); a job adds
-- less than 2^32.
use borrow.Author.Rules.{rules}
use native.Mathlib.Omega.{arith}
use Rattle.rows.proofs.Sums.{sum-next, sum-ends}
use Rattle.merging.proofs.room.flagged_entries.Goals as goal

pub loop-i-preserved : goal.loop-i-preserved
loop-i-preserved c = (search rules, omega (arith, c.type_inv.jobs), sum-next _ _ _ _ _ c.loop-i-test.true c.counted-sum.ensures.0 c.loop-i.invariant.2)

pub returns : goal.returns
returns c = (sum-ends _ _ _ _ c.loop-i-test.false c.loop-i.invariant.2, search rules)
