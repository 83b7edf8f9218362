-- `plan_start::chains::fill_chains` meets its contract.
-- The loop's invariant, `ChainsSoFar`: the parts of the trees before tree i are filled, and its runs begin behind theirs. Assumes nothing.
use mathlib.Core.Path.{refl}
use native.Mathlib.Omega.{arith}
use Rattle.plan_start.proofs.ChainParts.{chains-start, chains-next, chains-end, run-within}
use Rattle.plan_start.proofs.chains.fill_chains.Goals as goal

pub loop-i-init : goal.loop-i-init
loop-i-init c = chains-start

pub overflow_add-end-in-loop-i : goal.overflow_add-end-in-loop-i
overflow_add-end-in-loop-i c = omega (arith, c.requires, run-within c.loop-i.invariant c.loop-i-test.true)

pub offset_bounds-trees-run : goal.offset_bounds-trees-run
offset_bounds-trees-run c = omega (arith, c.requires, run-within c.loop-i.invariant c.loop-i-test.true)

pub slice_bounds-chain_lengths-end : goal.slice_bounds-chain_lengths-end
slice_bounds-chain_lengths-end c = omega (arith, c.requires, run-within c.loop-i.invariant c.loop-i-test.true)

pub offset_bounds-chains-run : goal.offset_bounds-chains-run
offset_bounds-chains-run c = omega (arith, c.requires, run-within c.loop-i.invariant c.loop-i-test.true)

pub slice_bounds-chain_lengths-end-in-loop-i : goal.slice_bounds-chain_lengths-end-in-loop-i
slice_bounds-chain_lengths-end-in-loop-i c = omega (arith, c.requires, c.loop-i.invariant.kept, run-within c.loop-i.invariant c.loop-i-test.true)

pub loop-i-preserved : goal.loop-i-preserved
loop-i-preserved c = chains-next c.loop-i.invariant c.loop-i-test.true refl (omega (arith, c.requires, run-within c.loop-i.invariant c.loop-i-test.true)) c.requires.2 c.chain_lengths.ensures

pub returns : goal.returns
returns c = chains-end c.loop-i.invariant c.loop-i-test.false
