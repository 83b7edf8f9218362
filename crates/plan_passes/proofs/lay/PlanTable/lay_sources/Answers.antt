-- `lay_sources` meets its contract: the loop's invariant, `LayingPicks`, is that the sources of the picks so far stand at the
-- front, and `at` is the place behind them.
use borrow.Author.Rules.{rules}
use Rattle.plan_passes.proofs.LaidPicks.{picks-starts, picks-room, picks-next, picks-ends}
use Rattle.plan_passes.proofs.lay.PlanTable.lay_sources.Goals as goal

pub loop-k-init : goal.loop-k-init
loop-k-init c = (search rules, search rules, picks-starts c.requires.2)

pub lay_pick-at-requires : goal.lay_pick-at-requires
lay_pick-at-requires c = (c.requires.0.at _ _ c.loop-k-test.true, c.requires.1, picks-room c.loop-k.invariant.2 _ c.loop-k-test.true c.requires.2)

pub loop-k-preserved : goal.loop-k-preserved
loop-k-preserved c = (search rules, search rules, picks-next c.loop-k.invariant.2 _ c.loop-k-test.true c.lay_pick-at.ensures.laid.0 c.lay_pick-at.ensures.laid.1)

pub returns : goal.returns
returns c = record { same = c.loop-k.invariant.0; lengths = c.loop-k.invariant.1; laid = picks-ends c.loop-k.invariant.2 c.loop-k-test.false }
