-- `lay_specs` meets its contract: the loop's invariant, `LayingSpecs`, is that the specs so far stand at the front.
use borrow.Author.Rules.{rules}
use Rattle.plan_passes.proofs.LaidPicks.{specs-starts, specs-next, specs-ends}
use Rattle.plan_passes.proofs.lay.PlanTable.lay_specs.Goals as goal

pub loop-k-init : goal.loop-k-init
loop-k-init c = (search rules, search rules, specs-starts)

pub loop-k-preserved : goal.loop-k-preserved
loop-k-preserved c = (search rules, search rules, specs-next c.loop-k.invariant.2 _ c.loop-k-test.true c.requires)

pub returns : goal.returns
returns c = record { same = c.loop-k.invariant.0; lengths = c.loop-k.invariant.1; laid = specs-ends c.loop-k.invariant.2 c.loop-k-test.false }
