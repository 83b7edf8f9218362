-- `tree_pick::tree::TreePart::held_back` meets its contract.
-- Each way out is a law of holding back, and the chain of the next run stands in the table. Assumes nothing.
use native.Mathlib.Omega.{arith}
use Rattle.tree_pick.proofs.ChainTable.{chains-fit, chain-at}
use Rattle.tree_pick.proofs.HoldingBack.{none-next, next-large, next-chain}
use Rattle.tree_pick.proofs.tree.TreePart.held_back.Goals as goal

pub returns-then-next-self : goal.returns-then-next-self
returns-then-next-self c = none-next _ _ _ c.args.self.now.run_sizes.now c.args.next (omega arith)

pub returns-then-self-next : goal.returns-then-self-next
returns-then-self-next c = next-large _ _ _ c.args.self.now.run_sizes.now c.args.next (omega arith) (omega (arith, c.limit.ensures))

pub bounds-self-next-2 : goal.bounds-self-next-2
bounds-self-next-2 c = omega (arith, chains-fit c.requires.1)

pub returns : goal.returns
returns c =
    let a = c.args in
    rw (chain-at c.requires.1 a.next (omega arith))
    (next-chain _ _ _ a.self.now.run_sizes.now a.next (omega arith) (omega (arith, c.limit.ensures)))
