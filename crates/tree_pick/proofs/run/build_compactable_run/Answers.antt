-- `tree_pick::run::build_compactable_run` meets its contract.
-- The loop's invariant, `Taken`: the chain has taken the runs up to run i, and goes on from
-- there with the smallest of their sizes. Assumes nothing.
use mathlib.Core.Path.{sym}
use native.Mathlib.Omega.{arith}
use Rattle.tree_pick.proofs.Chains.{no-chain, chain-starts, chain_next, chain-stops, chain-ends}
use Rattle.tree_pick.proofs.run.build_compactable_run.Goals as goal

pub returns-then-from-sizes : goal.returns-then-from-sizes
returns-then-from-sizes c = no-chain _ c.args.sizes.now c.args.from (omega arith)

pub loop-i-init : goal.loop-i-init
loop-i-init c = chain-starts (omega arith)

pub returns-then-sizes-i : goal.returns-then-sizes-i
returns-then-sizes-i c = chain-stops c.loop-i.invariant (omega arith) (omega (arith, c.limit.ensures))

pub loop-i-preserved : goal.loop-i-preserved
loop-i-preserved c = chain_next c.loop-i.invariant (omega arith) (omega (arith, c.limit.ensures)) (sym c.min-least.ensures)

pub returns : goal.returns
returns c = omega (arith, chain-ends c.loop-i.invariant (omega arith), c.loop-i.invariant.within)
