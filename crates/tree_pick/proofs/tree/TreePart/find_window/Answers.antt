-- `tree_pick::tree::TreePart::find_window` meets its contract.
-- The window lies where `first_window` found it, its last max runs at its end. Assumes nothing.
use Rattle.tree_pick.proofs.Clamped.{clamped}
use Rattle.tree_pick.proofs.tree.TreePart.find_window.Goals as goal

pub returns-in_err-w : goal.returns-in_err-w
returns-in_err-w c = rw c.from_residual.ensures c.in_err-w.ensures

pub returns : goal.returns
returns c =
    let w = c.in_ok-w.ensures in
    (w.0, clamped w.1 _ c.min-count.ensures)
