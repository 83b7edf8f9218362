-- `flagged_jobs` meets its contract: the invariant is that the sum so far and the sum of the jobs left are the sum of all (`Summed`).
use borrow.Author.Rules.{rules}
use Rattle.rows.proofs.Sums.{sum-next, sum-ends}
use Rattle.merging.proofs.room.flagged_jobs.Goals as goal

pub loop-i-preserved : goal.loop-i-preserved
loop-i-preserved c = (search rules, search rules, sum-next _ _ _ _ _ c.loop-i-test.true c.counted-sum.ensures.0 c.loop-i.invariant.2)

pub returns : goal.returns
returns c = (sum-ends _ _ _ _ c.loop-i-test.false c.loop-i.invariant.2, search rules)
