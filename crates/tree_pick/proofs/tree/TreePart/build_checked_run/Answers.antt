-- `tree_pick::tree::TreePart::build_checked_run` meets its contract.
-- The loop's invariant, `Begun`: the beginnings of length 1 to k passed. The first that fails, or the end of the chain,
-- makes k the greatest. Assumes nothing.
use mathlib.Core.Path.{refl, sym, ◌∙◌}
use native.Mathlib.Omega.{arith}
use Rattle.tree_pick.proofs.ChainTable.{chains-fit, chain-at}
use Rattle.tree_pick.proofs.Beginnings.{nothing-begun, size_fits, begun-next, begun-blocked, begun-ends}
use Rattle.tree_pick.proofs.tree.TreePart.build_checked_run.Goals as goal

pub bounds-self-from : goal.bounds-self-from
bounds-self-from c = omega (arith, chains-fit c.requires.1.chained)

pub loop-k-init : goal.loop-k-init
loop-k-init c = (chain-at c.requires.1.chained _ (omega arith), nothing-begun (omega arith))

pub overflow_add-size : goal.overflow_add-size
overflow_add-size c = record { fits = omega (arith, size_fits c.loop-k.invariant.1 c.requires.1.sized (omega arith)) }

pub returns-then-not-check_beginning : goal.returns-then-not-check_beginning
returns-then-not-check_beginning c = begun-blocked c.loop-k.invariant.1 c.requires.1.sized (omega arith) refl (sym c.check_beginning.ensures ∙ c.if-not-check_beginning.true)

pub loop-k-preserved : goal.loop-k-preserved
loop-k-preserved c =
    let b = c.loop-k.invariant in
    (b.0, begun-next b.1 c.requires.1.sized (omega arith) refl (sym c.check_beginning.ensures ∙ c.if-not-check_beginning.false))

pub returns : goal.returns
returns c =
    omega (arith, begun-ends c.loop-k.invariant.1 c.requires.1.sized (omega (arith, c.loop-k.invariant.0)), c.loop-k.invariant.1.within, c.loop-k.invariant.0)
