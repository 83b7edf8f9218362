-- `tree_pick::tree::TreePart::first_window` meets its contract.
-- The loop's invariant, `NoneYet`: no run before run i has a window. Assumes nothing.
use native.Mathlib.Omega.{arith}
use Rattle.tree_pick.proofs.LeastRun.{search-starts, search-next, search-finds, search-ends}
use Rattle.tree_pick.proofs.tree.TreePart.first_window.Goals as goal

pub loop-i-init : goal.loop-i-init
loop-i-init c = search-starts

pub returns-then-k-o : goal.returns-then-k-o
returns-then-k-o c = search-finds c.loop-i.invariant c.loop-i-test.true c.build_checked_run-k.ensures c.requires.0 (omega arith)

pub loop-i-preserved : goal.loop-i-preserved
loop-i-preserved c = search-next c.loop-i.invariant c.loop-i-test.true c.build_checked_run-k.ensures (omega arith)

pub returns : goal.returns
returns c = search-ends c.loop-i.invariant c.loop-i-test.false
