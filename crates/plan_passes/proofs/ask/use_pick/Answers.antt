-- `use_pick` meets its contract: the loop's invariant, `Adding`, is that the sources so far are used.
use Rattle.plan_passes.proofs.Adding.{adding-starts, adding-next, adding-ends}
use Rattle.plan_passes.proofs.ask.use_pick.Goals as goal

pub loop-k-init : goal.loop-k-init
loop-k-init c = adding-starts

pub loop-k-preserved : goal.loop-k-preserved
loop-k-preserved c = adding-next c.loop-k.invariant c.loop-k-test.true (rw c.source.ensures at c.add.ensures)

pub returns : goal.returns
returns c = adding-ends c.loop-k.invariant c.loop-k-test.false _ c.add-2.ensures
