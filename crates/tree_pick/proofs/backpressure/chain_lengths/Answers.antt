-- `tree_pick::backpressure::chain_lengths` meets its contract.
-- The loop's invariant, `Filled`: the chains from the runs before run i stand in the table, and after
-- them what stood there. Assumes nothing.
use native.Mathlib.Omega.{arith}
use Rattle.tree_pick.specs.Backpressure.{chains_of}
use Rattle.tree_pick.proofs.Filling.{fill-starts, fill-next, fill-ends, fill-keeps}
use Rattle.tree_pick.proofs.backpressure.chain_lengths.Goals as goal

pub loop-i-init : goal.loop-i-init
loop-i-init c = fill-starts

pub bounds-chains-i : goal.bounds-chains-i
bounds-chains-i c = omega (arith, fill-keeps c.loop-i.invariant c.requires)

pub loop-i-preserved : goal.loop-i-preserved
loop-i-preserved c = fill-next c.loop-i.invariant c.loop-i-test.true c.requires c.build_compactable_run.ensures

pub returns : goal.returns
unfolding chains_of
returns c = fill-ends c.loop-i.invariant c.loop-i-test.false
