-- `take_adopted` meets its contract: the invariant is that the jobs that are there and those left to take make the same jobs as at the start
-- (`TakingFrom`), in the same slices.
use borrow.Author.Rules.{rules}
use mathlib.Core.Path.{refl}
use native.Mathlib.Omega.{arith}
use Rattle.compactor_state.proofs.Taking.{taking-starts, can-take, taking-next, taking-ends}
use Rattle.compactor_state.proofs.merge.take_adopted.Goals as goal

pub loop-i-init : goal.loop-i-init
loop-i-init c = (taking-starts c.requires, search rules)

pub take_at-requires : goal.take_at-requires
take_at-requires c = can-take c.requires c.loop-i.invariant.0 c.loop-i-test.true

pub overflow_add-at-in-loop-i : goal.overflow_add-at-in-loop-i
overflow_add-at-in-loop-i c = omega (arith, (can-take c.requires c.loop-i.invariant.0 c.loop-i-test.true).entries)

pub loop-i-preserved : goal.loop-i-preserved
loop-i-preserved c = (taking-next c.requires c.loop-i.invariant.0 c.loop-i-test.true c.take_at.ensures.took refl, search rules)

pub returns-clause-took : goal.returns-clause-took
returns-clause-took c = taking-ends c.requires c.loop-i.invariant.0 c.loop-i-test.false
