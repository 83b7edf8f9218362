-- `lay_pick` meets its contract: the loop's invariant, `LayingRows`, is that the sources so far stand from place `at` on.
use borrow.Author.Rules.{rules}
use mathlib.Core.Path.{refl}
use Rattle.plan_passes.proofs.LaidPicks.{laying-starts, laying-room, laying-next, laying-ends}
use Rattle.plan_passes.proofs.lay.PlanTable.lay_pick.Goals as goal

pub loop-k-init : goal.loop-k-init
loop-k-init c = (search rules, search rules, laying-starts c.requires.2)

pub put-requires : goal.put-requires
put-requires c = laying-room c.loop-k.invariant.2 c.requires.2 c.loop-k-test.true

pub loop-k-preserved : goal.loop-k-preserved
loop-k-preserved c = (search rules, search rules, laying-next c.loop-k.invariant.2 c.loop-k-test.true (rw c.source.ensures at c.put.ensures.put))

pub returns : goal.returns
returns c = record { same = c.loop-k.invariant.0; lengths = c.loop-k.invariant.1; laid = (refl, laying-ends c.loop-k.invariant.2 c.loop-k-test.false) }
